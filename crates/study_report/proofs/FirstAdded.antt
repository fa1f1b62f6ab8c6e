-- A report over the first lines of a script.
use Rattle.std.proofs.Common.{◌≡◌, ◌⊎◌, ℕ, zero, suc, ◌+◌, ◌-◌, ◌<◌, ◌≤◌}
use Rattle.std.proofs.Common.{List, [], ◌∷◌, ◌++◌, length, take, drop, Option, Some, None, Ok}
use Rattle.std.proofs.Common.{Bool, true, false, inl, inr, Err, refl, sym, ap, subst, ◌∙◌, arith, append_assoc}
use Rattle.std.specs.Prelude.{slice_get, IfSome}
use Rattle.std.proofs.lemmas.List.{append-nil, length-drop}
use Rattle.std.proofs.lemmas.List.Sums.{sum_by_push}
use Rattle.std.proofs.KnownBytes.{Appends-nil, Appends-trans}
use Rattle.std.specs.Io.KnownBytes.{Appends}
use Rattle.study_marks.specs.Edits.{PlainStudy}
use Rattle.study_script.specs.declared.running.RunFault.{RunFault}
use Rattle.study_script.specs.declared.running.RunFault.TheVariants.{ReadDevice, WriteDevice, LineTooLong, TooManyLines, OutOfMemory}
use Rattle.study_command.specs.Lines.{script_lines, TakesLine, BeginsLong, GaveFeeds}
use Rattle.study_command.proofs.LineTaken.{HasMore}
use Rattle.study_command.specs.Documents.{Document}
use Rattle.study_script.specs.State.{State}
use Rattle.study_script.specs.Outcome.{AreShort}
use Rattle.study_script.proofs.FirstLines.{Gone, gone_write}
use Rattle.study_text.specs.Taken.{TakesPrefix}
use Rattle.study_report.specs.declared.line_outcome.LineOutcome.{LineOutcome}
use Rattle.study_report.specs.declared.line_outcome.LineOutcome.TheVariants.{Nothing, Study as AStudy, LeftOut, NotRead, Try, Refusal as ARefusal}
use Rattle.study_reply.specs.declared.refusal.Refusal.TheVariants.{NotAClass}
use Rattle.study_script.specs.Replies.{Reply, refused_reply}
use Rattle.study_report.specs.declared.line_kind.LineKind.{LineKind}
use Rattle.study_report.specs.declared.line_kind.LineKind.TheVariants.{Remark, PassedOver, NoClass, Study, Checked}
use Rattle.study_report.specs.Reported.{Point, Added, IsAdded, IsAddedAs, IsPgnAfter, IsCheckedAfter, line_kind, refusal_count, entry_count}
use Rattle.study_entry.specs.declared.entry.EntryInfo.{EntryInfo}
use Rattle.study_entry.specs.declared.entry.Origin.{Origin}
use Rattle.study_report.specs.declared.unread_line.Unread.{Unread}
use Rattle.study_report.specs.Unread.{unread_after}
use Rattle.study_report.proofs.LineAdds.{entry}
use Rattle.study_report.specs.Reported.{nothing_added, refusal_added, Entry, last_entry, studies_on, listed_in, entries_in}
use Rattle.study_report.specs.Outcome.{start_point, AreAdded, report_text, refusals, point_after, IsFollowed, AreListed, StoppedAfter, AreListedBefore, Outcome}
use Rattle.study_report.specs.Outcome.{Shape}
use Rattle.study_report.specs.Written.{Adds, Stops}

-- ---- the first line that is left

first_left : (all left : List (List ℕ)) (n : ℕ) (x : List ℕ) → drop n all ≡ x ∷ left → (n < length all)
    × (take (suc n) all ≡ take n all ++ x ∷ []) × (drop (suc n) all ≡ left) × (slice_get all n ≡ Some x)
first_left [] left zero x e = absurd cc
first_left [] left (suc n) x e = absurd cc
first_left (a ∷ all) left zero x e = let h : a ≡ x = cc in
    let t : all ≡ left = cc in (omega arith, ap (λ (y : List ℕ). y ∷ []) h, t, ap (λ (y : List ℕ). Some y) h)
first_left (a ∷ all) left (suc n) x e =
    let r = first_left all left n x e in
    let lt = r.0 in
    (omega arith, ap (λ (xs : List (List ℕ)). a ∷ xs) r.1, r.2, r.3)

none_left : (all : List (List ℕ)) (n : ℕ) → n ≤ length all → drop n all ≡ [] → (take n all ≡ all) × (n ≡ length all)
none_left [] zero le e = (refl, refl)
none_left [] (suc n) le e = absurd (omega arith)
none_left (a ∷ all) zero le e = absurd cc
none_left (a ∷ all) (suc n) le e = let r = none_left all n (omega arith) e in let k = r.1 in (ap (λ (xs : List (List ℕ)). a ∷ xs) r.0, omega arith)

more_left : (all left : List (List ℕ)) (n : ℕ) → drop n all ≡ left → 0 < length left → n < length all
more_left all left n e some = omega (arith, length-drop n all, ap length e)

short-more : (lines : List (List ℕ)) (line : List ℕ) → AreShort lines → length line ≤ 1024 → AreShort (lines ++ line ∷ [])
short-more [] line h k = (k, tt)
short-more (l ∷ lines) line h k = (h.0, short-more lines line h.1 k)

-- ---- one line more

point_after-more : (p : Point) (added : List Added) (a : Added) → point_after p (added ++ a ∷ []) ≡ a.after
point_after-more p [] a = refl
point_after-more p (x ∷ added) a = point_after-more x.after added a

text-more : (added : List Added) (a : Added) → report_text (added ++ a ∷ []) ≡ report_text added ++ a.text
text-more [] a = append-nil a.text
text-more (x ∷ added) a = ap (λ (t : List ℕ). x.text ++ t) (text-more added a) ∙ sym (append_assoc x.text (report_text added) a.text)

-- the study that a line reported is the one in the document, and an entry has the number after the others
listed-same : (line : List ℕ) (t u : LineOutcome) (b c : Document) (i j : EntryInfo) → t ≡ u → b ≡ c → (entry_count u ≡ 1 → i ≡ j)
    → listed_in line t b i ≡ listed_in line u c j
listed-same line t Nothing b c i j e f n = ap (λ (x : LineOutcome). listed_in line x b i) e
listed-same line t NotRead b c i j e f n = ap (λ (x : LineOutcome). listed_in line x b i) e
listed-same line t Try b c i j e f n = ap (λ (x : LineOutcome). listed_in line x b i) e
listed-same line t ARefusal b c i j e f n = ap (λ (x : LineOutcome). listed_in line x b i) e
listed-same line t LeftOut b c i j e f n =
    ap (λ (x : LineOutcome). listed_in line x b i) e ∙ ap (λ (x : EntryInfo). listed_in line LeftOut c x) (n refl)
listed-same line t AStudy b c i j e f n =
    ap (λ (x : LineOutcome). listed_in line x b i) e ∙ ap (λ (x : Document). studies_on x i) f ∙ ap (studies_on c) (n refl)

module _ (tells : PlainStudy → EntryInfo → List ℕ → Type 0) (refusal : ℕ → List ℕ → List ℕ → List ℕ) (remark : ℕ → List ℕ → List ℕ) where
  are-more : (p : Point) (lines : List (List ℕ)) (added : List Added) (line : List ℕ) (a : Added)
      → AreAdded tells refusal remark p lines added → IsAdded tells refusal remark (point_after p added) line a
      → AreAdded tells refusal remark p (lines ++ line ∷ []) (added ++ a ∷ [])
  are-more p [] [] line a h r = (r, tt)
  are-more p [] (x ∷ added) line a h r = absurd h
  are-more p (l ∷ lines) [] line a h r = absurd h
  are-more p (l ∷ lines) (x ∷ added) line a h r = (h.0, are-more x.after lines added line a h.1 r)

  entries-more : (p : Point) (lines : List (List ℕ)) (added : List Added) (line : List ℕ) (a : Added) → AreAdded tells refusal remark p lines added
      → entries_in (lines ++ line ∷ []) (added ++ a ∷ [])
      ≡ entries_in lines added ++ listed_in line a.reported a.after.state.document (last_entry a.after)
  entries-more p [] [] line a h = append-nil (listed_in line a.reported a.after.state.document (last_entry a.after))
  entries-more p [] (x ∷ added) line a h = absurd h
  entries-more p (l ∷ lines) [] line a h = absurd h
  entries-more p (l ∷ lines) (x ∷ added) line a h =
      let mine = listed_in l x.reported x.after.state.document (last_entry x.after) in
      ap (λ (t : List Entry). mine ++ t) (entries-more x.after lines added line a h.1)
      ∙ sym (append_assoc mine (entries_in lines added) (listed_in line a.reported a.after.state.document (last_entry a.after)))

  -- ---- the parts of the first n lines are written

  pub record ReportedOver (Lists : List Entry → Type 0) (all left : List (List ℕ)) (old new : Option (List ℕ)) (first : State) (p : Point)
      (n refused : ℕ) : Type 0 where
    pub left_is : drop n all ≡ left
    pub within : n ≤ length all
    pub short : AreShort (take n all)
    pub added : List Added
    pub are : AreAdded tells refusal remark (start_point first) (take n all) added
    pub written : Appends old new (report_text added)
    pub point_is : p ≡ point_after (start_point first) added
    pub refused_is : refused ≡ refusals added
    pub listed : Lists (entries_in (take n all) added)

  abbrev pub ReportedKnown : (List Entry → Type 0) → Option (List ℕ) → Option (List ℕ) → Option (List ℕ) → Option (List ℕ) → State → Point
      → ℕ → ℕ → Type 0
  ReportedKnown Lists None now old new first p n refused = Unit {0}
  ReportedKnown Lists (Some bs) None old new first p n refused = ⊥
  ReportedKnown Lists (Some bs) (Some rest) old new first p n refused = ReportedOver Lists (script_lines bs) (script_lines rest) old new first p n refused

  pub record HasReported (Lists : List Entry → Type 0) (script now old new : Option (List ℕ)) (first : State) (p : Point)
      (n refused : ℕ) : Type 0 where
    pub known : ReportedKnown Lists script now old new first p n refused

  pub none_reported : (Lists : List Entry → Type 0) → Lists [] → (script out : Option (List ℕ)) (first : State)
      → HasReported Lists script script out out first (start_point first) 0 0
  none_reported Lists h None out first = record { known = tt }
  none_reported Lists h (Some bs) out first =
      record {
        known = record {
          left_is = refl;
          within = omega arith;
          short = tt;
          added = [];
          are = tt;
          written = Appends-nil out;
          point_is = refl;
          refused_is = refl;
          listed = h;
        };
      }

  pub reported_more : (Lists Lists' : List Entry → Type 0) (script now next old mid new : Option (List ℕ)) (first : State)
      (p : Point) (line : List ℕ) (a : Added) (n refused refused' : ℕ) → HasReported Lists script now old mid first p n refused
      → TakesLine now next true line → length line ≤ 1024
      → IsAdded tells refusal remark p line a → Appends mid new a.text → refused' ≡ refused + refusal_count a.reported
      → ((more : List Entry) → Lists more → Lists' (more ++ listed_in line a.reported a.after.state.document (last_entry a.after)))
      → HasReported Lists' script next old new first a.after (n + 1) refused'
  reported_more Lists Lists' None now next old mid new first p line a n refused refused' r t short is wrote k l = record { known = tt }
  reported_more Lists Lists' (Some bs) None next old mid new first p line a n refused refused' r t short is wrote k l = absurd r.known
  reported_more Lists Lists' (Some bs) (Some rest) None old mid new first p line a n refused refused' r t short is wrote k l = absurd t
  reported_more Lists Lists' (Some bs) (Some rest) (Some rest') old mid new first p line a n refused refused' r t short is wrote k l =
      let v = r.known in
      let all = script_lines bs in
      let f = first_left all (script_lines rest') n line (v.left_is ∙ t) in
      let e : n + 1 ≡ suc n = omega arith in
      let grown : take (n + 1) all ≡ take n all ++ line ∷ [] = ap (λ i. take i all) e ∙ f.1 in
      let lt = f.0 in
      record {
        known = record {
          left_is = ap (λ i. drop i all) e ∙ f.2;
          within = omega arith;
          short = rw grown (short-more (take n all) line v.short short);
          added = v.added ++ a ∷ [];
          are = rw grown (are-more (start_point first) (take n all) v.added line a v.are
              (subst (λ (h : Point). IsAdded tells refusal remark h line a) v.point_is is));
          written = rw (text-more v.added a) (Appends-trans old mid new (report_text v.added) a.text v.written wrote);
          point_is = sym (point_after-more (start_point first) v.added a);
          refused_is = k ∙ ap (λ i. i + refusal_count a.reported) v.refused_is ∙ sym (sum_by_push (λ (x : Added). refusal_count x.reported) v.added a);
          listed = subst Lists'
              (sym (ap (λ (ls : List (List ℕ)). entries_in ls (v.added ++ a ∷ [])) grown ∙ entries-more (start_point first) (take n all) v.added line a v.are))
              (l (entries_in (take n all) v.added) v.listed);
        };
      }

  -- ---- the ends of a report

  pub reported_ends : {Lists : List Entry → Type 0} (left script now next old new : Option (List ℕ)) (first : State) (p : Point) (line : List ℕ)
      (n refused : ℕ) → HasReported Lists script now old new first p n refused → TakesLine now next false line → n ≤ 100000
      → IfSome script (λ bytes. Outcome tells refusal remark first bytes left old new (Ok (record { lines = n; refused = refused })))
  reported_ends left None now next old new first p line n refused r t le = tt
  reported_ends left (Some bs) None next old new first p line n refused r t le = absurd r.known
  reported_ends left (Some bs) (Some rest) None old new first p line n refused r t le = absurd t
  reported_ends left (Some bs) (Some rest) (Some rest') old new first p line n refused r t le =
      let v = r.known in
      let d = none_left (script_lines bs) n v.within (v.left_is ∙ t) in
      let e = d.1 in (
        omega arith,
        subst AreShort d.0 v.short,
        v.added,
        subst (λ (ls : List (List ℕ)). AreAdded tells refusal remark (start_point first) ls v.added) d.0 v.are,
        v.written,
        e,
        v.refused_is,
      )

  -- the state at the end of the script is the one that it leaves
  pub reported_after : {Lists : List Entry → Type 0} (holds : State → Type 0) (script now next old new : Option (List ℕ)) (first : State)
      (p : Point) (line : List ℕ) (n refused : ℕ) → HasReported Lists script now old new first p n refused → TakesLine now next false line → holds p.state
      → IfSome script (λ bytes. IsFollowed tells refusal remark first bytes old new holds)
  reported_after holds None now next old new first p line n refused r t held = tt
  reported_after holds (Some bs) None next old new first p line n refused r t held = absurd r.known
  reported_after holds (Some bs) (Some rest) None old new first p line n refused r t held = absurd t
  reported_after holds (Some bs) (Some rest) (Some rest') old new first p line n refused r t held =
      let v = r.known in
      let d = none_left (script_lines bs) n v.within (v.left_is ∙ t) in (
        v.added,
        subst (λ (ls : List (List ℕ)). AreAdded tells refusal remark (start_point first) ls v.added) d.0 v.are,
        v.written,
        subst (λ (q : Point). holds q.state) v.point_is held,
      )

  -- what is true of the entries
  pub reported_listed : (Lists : List Entry → Type 0) (script now next old new : Option (List ℕ)) (first : State) (p : Point) (line : List ℕ)
      (n refused : ℕ) → HasReported Lists script now old new first p n refused → TakesLine now next false line
      → IfSome script (λ bytes. AreListed tells refusal remark first bytes old new Lists)
  reported_listed Lists None now next old new first p line n refused r t = tt
  reported_listed Lists (Some bs) None next old new first p line n refused r t = absurd r.known
  reported_listed Lists (Some bs) (Some rest) None old new first p line n refused r t = absurd t
  reported_listed Lists (Some bs) (Some rest) (Some rest') old new first p line n refused r t =
      let v = r.known in
      let d = none_left (script_lines bs) n v.within (v.left_is ∙ t) in (
        v.added,
        subst (λ (ls : List (List ℕ)). AreAdded tells refusal remark (start_point first) ls v.added) d.0 v.are,
        v.written,
        subst (λ (ls : List (List ℕ)). Lists (entries_in ls v.added)) d.0 v.listed,
      )

  pub listed-before : (Had Has : List Entry → Type 0) (before : List Entry) → Had before
      → (script : Option (List ℕ)) (first : State) (old new : Option (List ℕ))
      → IfSome script (λ bytes. AreListed tells refusal remark first bytes old new
      (λ more. (reported : List Entry) → Had reported → Has (reported ++ more)))
      → IfSome script (λ bytes. AreListed tells refusal remark first bytes old new (λ more. Has (before ++ more)))
  listed-before Had Has before had None first old new h = tt
  listed-before Had Has before had (Some bs) first old new (added, are, wrote, l) = (added, are, wrote, l before had)

  pub reported_long : {Lists : List Entry → Type 0} (left script now old new : Option (List ℕ)) (first : State) (p : Point) (n refused : ℕ)
      → HasReported Lists script now old new first p n refused → BeginsLong now → n < 100000
      → IfSome script (λ bytes. Outcome tells refusal remark first bytes left old new (Err (LineTooLong (n + 1))))
  reported_long left None now old new first p n refused r t lt = tt
  reported_long left (Some bs) None old new first p n refused r t lt = absurd r.known
  reported_long left (Some bs) (Some rest) old new first p n refused r (line, more, is, long) lt =
      let v = r.known in
      let f = first_left (script_lines bs) more n line (v.left_is ∙ is) in
      let e : n + 1 - 1 ≡ n = omega arith in
      (omega arith, omega arith, rw (e, f.3) long, (rw e v.short, v.added, rw e v.are, v.written))

  pub reported_read : {Lists : List Entry → Type 0} (left script now old new : Option (List ℕ)) (first : State) (p : Point) (n refused : ℕ)
      → HasReported Lists script now old new first p n refused → n ≤ 100000 → GaveFeeds script left n → GaveFeeds now left 0
      → IfSome script (λ bytes. Outcome tells refusal remark first bytes left old new (Err ReadDevice))
  reported_read left None now old new first p n refused r le g h = tt
  reported_read left (Some bs) None old new first p n refused r le g h = absurd r.known
  reported_read left (Some bs) (Some rest) old new first p n refused r le g h =
      let v = r.known in (n, le, v.within, g, rest, v.left_is, h, (v.short, v.added, v.are, v.written))

  pub reported_many : {Lists : List Entry → Type 0} (left script now old new : Option (List ℕ)) (first : State) (p : Point) (refused : ℕ)
      → HasReported Lists script now old new first p 100000 refused → HasMore now
      → IfSome script (λ bytes. Outcome tells refusal remark first bytes left old new (Err TooManyLines))
  reported_many left None now old new first p refused r t = tt
  reported_many left (Some bs) None old new first p refused r t = absurd r.known
  reported_many left (Some bs) (Some rest) old new first p refused r t =
      let v = r.known in
      (more_left (script_lines bs) (script_lines rest) 100000 v.left_is t, (v.short, v.added, v.are, v.written))

  pub reported_write : {Lists : List Entry → Type 0} (script now next old mid new : Option (List ℕ)) (first : State) (p : Point) (line : List ℕ)
      (n refused : ℕ) → HasReported Lists script now old mid first p n refused → TakesLine now next true line → length line ≤ 1024
      → n < 100000 → GaveFeeds script next (n + 1)
      → (a : Added) × IsAdded tells refusal remark p line a × TakesPrefix mid new a.text
      → IfSome script (λ bytes. Outcome tells refusal remark first bytes next old new (Err WriteDevice))
  reported_write None now next old mid new first p line n refused r t short lt g q = tt
  reported_write (Some bs) None next old mid new first p line n refused r t short lt g q = absurd r.known
  reported_write (Some bs) (Some rest) None old mid new first p line n refused r t short lt g q = absurd t
  reported_write (Some bs) (Some rest) (Some rest') old mid new first p line n refused r t short lt g (a, is, part) =
      let v = r.known in
      let all = script_lines bs in
      let f = first_left all (script_lines rest') n line (v.left_is ∙ t) in
      let e : n + 1 ≡ suc n = omega arith in (
        n,
        lt,
        g,
        sym (ap (λ i. drop i all) e ∙ f.2),
        rw f.3 (
          v.short,
          short,
          v.added,
          v.are,
          mid,
          v.written,
          a,
          subst (λ (h : Point). IsAdded tells refusal remark h line a) v.point_is is,
          part,
        ),
      )

  pub reported_memory : {Lists : List Entry → Type 0} (left script now old mid new : Option (List ℕ)) (first : State) (p : Point) (n refused : ℕ)
      → HasReported Lists script now old mid first p n refused → n ≤ 100000 → new ≡ mid
      → IfSome script (λ bytes. Outcome tells refusal remark first bytes left old new (Err OutOfMemory))
  reported_memory left None now old mid new first p n refused r le same = tt
  reported_memory left (Some bs) None old mid new first p n refused r le same = absurd r.known
  reported_memory left (Some bs) (Some rest) old mid new first p n refused r le same =
      let v = r.known in
      (n, le, v.within, (v.short, v.added, v.are, subst (λ (x : Option (List ℕ)). Appends old x (report_text v.added)) (sym same) v.written))

  -- the run stops within a line
  pub reported_stops : {Lists : List Entry → Type 0} (script now next old mid new : Option (List ℕ)) (first : State) (p : Point) (line : List ℕ)
      (n refused : ℕ) (fault : RunFault) → HasReported Lists script now old mid first p n refused → TakesLine now next true line → length line ≤ 1024
      → n < 100000 → GaveFeeds script next (n + 1) → Stops (IsAdded tells refusal remark p line) mid new fault
      → IfSome script (λ bytes. Outcome tells refusal remark first bytes next old new (Err fault))
  reported_stops script now next old mid new first p line n refused WriteDevice r t short lt g h =
      reported_write script now next old mid new first p line n refused r t short lt g h
  reported_stops script now next old mid new first p line n refused OutOfMemory r t short lt g h =
      reported_memory next script now old mid new first p n refused r (omega arith) h
  reported_stops script now next old mid new first p line n refused ReadDevice r t short lt g h = absurd h
  reported_stops script now next old mid new first p line n refused (LineTooLong k) r t short lt g h = absurd h
  reported_stops script now next old mid new first p line n refused TooManyLines r t short lt g h = absurd h

  -- ---- the list of a run that stopped

  -- the lines before the stop are those that were reported
  pub reported_before : {Lists : List Entry → Type 0} (Has : List Entry → Type 0) (script now old new : Option (List ℕ)) (first : State)
      (p : Point) (n refused : ℕ) (fault : RunFault) → HasReported Lists script now old new first p n refused
      → ((more : List Entry) → Lists more → Has more)
      → ((q : Point) (all : List (List ℕ)) (added : List Added) → Appends old new (report_text added)
      → StoppedAfter tells refusal remark q all n added old new fault)
      → IfSome script (λ bytes. AreListedBefore tells refusal remark first bytes old new Has fault)
  reported_before Has None now old new first p n refused fault r l stopped = tt
  reported_before Has (Some bs) None old new first p n refused fault r l stopped = absurd r.known
  reported_before Has (Some bs) (Some rest) old new first p n refused fault r l stopped =
      let v = r.known in
      (n, v.within, v.added, v.are, stopped (start_point first) (script_lines bs) v.added v.written, l (entries_in (take n (script_lines bs)) v.added) v.listed)

  reported_before_write : {Lists : List Entry → Type 0} (Has : List Entry → Type 0) (script now next old mid new : Option (List ℕ))
      (first : State) (p : Point) (line : List ℕ) (n refused : ℕ) → HasReported Lists script now old mid first p n refused → TakesLine now next true line
      → ((more : List Entry) → Lists more → Has more) → (a : Added) × IsAdded tells refusal remark p line a × TakesPrefix mid new a.text
      → IfSome script (λ bytes. AreListedBefore tells refusal remark first bytes old new Has WriteDevice)
  reported_before_write Has None now next old mid new first p line n refused r t l q = tt
  reported_before_write Has (Some bs) None next old mid new first p line n refused r t l q = absurd r.known
  reported_before_write Has (Some bs) (Some rest) None old mid new first p line n refused r t l q = absurd t
  reported_before_write Has (Some bs) (Some rest) (Some rest') old mid new first p line n refused r t l (a, is, part) =
      let v = r.known in
      let f = first_left (script_lines bs) (script_lines rest') n line (v.left_is ∙ t) in (
        n,
        v.within,
        v.added,
        v.are,
        (mid, v.written, rw f.3 (a, subst (λ (h : Point). IsAdded tells refusal remark h line a) v.point_is is, part)),
        l (entries_in (take n (script_lines bs)) v.added) v.listed,
      )

  reported_before_memory : {Lists : List Entry → Type 0} (Has : List Entry → Type 0) (script now old mid new : Option (List ℕ))
      (first : State) (p : Point) (n refused : ℕ) → HasReported Lists script now old mid first p n refused
      → ((more : List Entry) → Lists more → Has more) → new ≡ mid
      → IfSome script (λ bytes. AreListedBefore tells refusal remark first bytes old new Has OutOfMemory)
  reported_before_memory Has None now old mid new first p n refused r l same = tt
  reported_before_memory Has (Some bs) None old mid new first p n refused r l same = absurd r.known
  reported_before_memory Has (Some bs) (Some rest) old mid new first p n refused r l same =
      let v = r.known in (
        n,
        v.within,
        v.added,
        v.are,
        subst (λ (x : Option (List ℕ)). Appends old x (report_text v.added)) (sym same) v.written,
        l (entries_in (take n (script_lines bs)) v.added) v.listed,
      )

  -- the run stopped within a line
  pub reported_before_stop : {Lists : List Entry → Type 0} (Has : List Entry → Type 0) (script now next old mid new : Option (List ℕ))
      (first : State) (p : Point) (line : List ℕ) (n refused : ℕ) (fault : RunFault) → HasReported Lists script now old mid first p n refused
      → TakesLine now next true line → ((more : List Entry) → Lists more → Has more) → Stops (IsAdded tells refusal remark p line) mid new fault
      → IfSome script (λ bytes. AreListedBefore tells refusal remark first bytes old new Has fault)
  reported_before_stop Has script now next old mid new first p line n refused WriteDevice r t l h =
      reported_before_write Has script now next old mid new first p line n refused r t l h
  reported_before_stop Has script now next old mid new first p line n refused OutOfMemory r t l h =
      reported_before_memory Has script now old mid new first p n refused r l h
  reported_before_stop Has script now next old mid new first p line n refused ReadDevice r t l h = absurd h
  reported_before_stop Has script now next old mid new first p line n refused (LineTooLong k) r t l h = absurd h
  reported_before_stop Has script now next old mid new first p line n refused TooManyLines r t l h = absurd h

  -- ---- the invariant of the loop

  -- the lines so far are reported, the session has their state, and the counts are theirs
  pub record ReportedOn (holds : State → Type 0) (Lists : List Entry → Type 0) (script now old new : Option (List ℕ)) (first : State)
      (n refused entries : ℕ) (unread : Unread) : Type 0 where
    pub point : Point
    pub reported : HasReported Lists script now old new first point n refused
    pub held : holds point.state
    pub lines_are : n ≡ point.lines
    pub entries_are : entries ≡ point.entries
    pub unread_is : unread ≡ point.unread

  -- a line counts as one more, its entry as one more, and what was not read is what it leaves
  abbrev Counts : Point → List ℕ → Added → Type 0
  Counts p line a = (a.after.lines ≡ suc p.lines) × (a.after.entries ≡ p.entries + entry_count a.reported)
      × (a.after.unread ≡ unread_after p.unread (suc p.lines) line a.reported)

  counts-nothing : (p : Point) (line : List ℕ) (s : State) (a : Added) → a ≡ nothing_added p line s → Counts p line a
  counts-nothing p line s a e = subst (Counts p line) (sym e) (refl, refl, refl)

  counts-refusal : (p : Point) (line : List ℕ) (reply : Reply) (a : Added) → a ≡ refusal_added tells refusal remark p line reply → Counts p line a
  counts-refusal p line reply a e = subst (Counts p line) (sym e) (refl, refl, refl)

  counts-pgn : (p : Point) (line : List ℕ) (reply : Reply) (a : Added) (b : Bool) → IsPgnAfter tells refusal remark p line reply b a → Counts p line a
  counts-pgn p line reply a true e = counts-refusal p line reply a e
  counts-pgn p line reply a false (inl (plain, text, b, t, e)) = subst (Counts p line) (sym e) (refl, refl, refl)
  counts-pgn p line reply a false (inr (plain, why, d, l, e)) = counts-refusal p line (refused_reply reply.state why) a e

  counts-checked : (p : Point) (line : List ℕ) (reply : Reply) (a : Added) (b : Bool) → IsCheckedAfter tells refusal remark p line reply b a → Counts p line a
  counts-checked p line reply a true e = counts-refusal p line reply a e
  counts-checked p line reply a false e = counts-nothing p line reply.state a e

  counts-more : (p : Point) (line : List ℕ) (a : Added) (k : LineKind) → IsAddedAs tells refusal remark k p line a → Counts p line a
  counts-more p line a Remark e = subst (Counts p line) (sym e) (refl, refl, refl)
  counts-more p line a PassedOver e = counts-nothing p line p.state a e
  counts-more p line a NoClass e = counts-refusal p line (refused_reply p.state NotAClass) a e
  counts-more p line a Study (o, reply, is, after) = counts-pgn p line reply a reply.refused after
  counts-more p line a Checked (o, reply, is, after) = counts-checked p line reply a reply.refused after

  -- an entry leaves what was not read of the study in the document
  entry-unread : (old : Unread) (number : ℕ) (line : List ℕ) (reported : LineOutcome) → entry_count reported ≡ 1
      → (unread_after old number line reported).own ≡ old.own
  entry-unread old number line Nothing e = absurd cc
  entry-unread old number line AStudy e = refl
  entry-unread old number line LeftOut e = refl
  entry-unread old number line NotRead e = absurd cc
  entry-unread old number line Try e = absurd cc
  entry-unread old number line ARefusal e = absurd cc

  same-entry : (i j : ℕ) (u v : Origin) → i ≡ j → u ≡ v → entry i u ≡ entry j v
  same-entry i j u v e f = ap (λ (x : ℕ). entry x u) e ∙ ap (λ (x : Origin). entry j x) f

  pub ReportedOn-more : (holds holds' : State → Type 0) (Lists Lists' : List Entry → Type 0) (document : Document)
      (script now next old mid new : Option (List ℕ)) (first : State)
      (line : List ℕ) (n refused refused' entries entries' : ℕ) (unread unread' : Unread) (reported : LineOutcome)
      (r : ReportedOn holds Lists script now old mid first n refused entries unread)
      → TakesLine now next true line → length line ≤ 1024
      → Adds (IsAdded tells refusal remark r.point line) holds' mid new reported
      → refused' ≡ refused + refusal_count reported → entries' ≡ entries + entry_count reported
      → unread' ≡ unread_after unread (n + 1) line reported
      → ((s : State) → holds' s → document ≡ s.document)
      → ((more : List Entry) → Lists more → Lists' (more ++ listed_in line reported document (record { number = entries + 1; origin = unread.own })))
      → ReportedOn holds' Lists' script next old new first (n + 1) refused' entries' unread'
  ReportedOn-more holds holds' Lists Lists' document script now next old mid new first line n refused refused' entries entries' unread unread' reported r t
      short
      (a, is, wrote, held, same) k j u seen l =
      let counts = counts-more r.point line a (line_kind line) is in
      record {
        point = a.after;
        reported = reported_more Lists Lists' script now next old mid new first r.point line a n refused refused' r.reported t short is wrote
            (k ∙ ap (λ (x : LineOutcome). refused + refusal_count x) same)
            (λ more h. subst (λ (x : List Entry). Lists' (more ++ x))
            (listed-same line reported a.reported document a.after.state.document (record { number = entries + 1; origin = unread.own }) (last_entry a.after)
            same (seen a.after.state held)
            (λ one. same-entry (entries + 1) a.after.entries unread.own a.after.unread.own
            (ap (λ i. i + 1) r.entries_are ∙ ap (λ i. r.point.entries + i) (sym one) ∙ sym counts.1)
            (ap (λ (u : Unread). u.own) r.unread_is ∙ sym (entry-unread r.point.unread (suc r.point.lines) line a.reported one)
            ∙ sym (ap (λ (u : Unread). u.own) counts.2)))) (l more h));
        held = held;
        lines_are = ap (λ i. i + 1) r.lines_are ∙ omega arith ∙ sym counts.0;
        unread_is = u ∙ ap (λ (x : LineOutcome). unread_after unread (n + 1) line x) same
            ∙ ap (λ (x : Unread). unread_after x (n + 1) line a.reported) r.unread_is
            ∙ ap (λ i. unread_after r.point.unread i line a.reported) (ap (λ i. i + 1) r.lines_are ∙ omega arith) ∙ sym counts.2;
        entries_are = j ∙ ap (λ (x : LineOutcome). entries + entry_count x) same ∙ ap (λ i. i + entry_count a.reported) r.entries_are ∙ sym counts.1;
      }

-- ---- whatever is reported

pub gone_memory : (left script now : Option (List ℕ)) (n : ℕ) → Gone script now n → n ≤ 100000
    → IfSome script (λ bytes. Shape bytes left (Err OutOfMemory))
gone_memory left None now n r le = tt
gone_memory left (Some bs) None n r le = absurd r.known
gone_memory left (Some bs) (Some rest) n r le = let v = r.known in (n, le, v.within, v.short)

pub gone_stops : (script now next : Option (List ℕ)) (line : List ℕ) (n : ℕ) (fault : RunFault) → (fault ≡ WriteDevice) ⊎ (fault ≡ OutOfMemory)
    → Gone script now n → TakesLine now next true line → length line ≤ 1024 → n < 100000
    → IfSome script (λ bytes. Shape bytes next (Err fault))
gone_stops script now next line n fault (inl e) r t short lt =
    subst (λ (f : RunFault). IfSome script (λ bytes. Shape bytes next (Err f))) (sym e) (gone_write script now next line n r t short lt)
gone_stops script now next line n fault (inr e) r t short lt =
    subst (λ (f : RunFault). IfSome script (λ bytes. Shape bytes next (Err f))) (sym e) (gone_memory next script now n r (omega arith))

-- a line counts as at most one refusal or entry
pub few-reported : (reported : LineOutcome) → (refusal_count reported ≤ 1) × (entry_count reported ≤ 1)
few-reported Nothing = (omega arith, omega arith)
few-reported AStudy = (omega arith, omega arith)
few-reported LeftOut = (omega arith, omega arith)
few-reported NotRead = (omega arith, omega arith)
few-reported Try = (omega arith, omega arith)
few-reported ARefusal = (omega arith, omega arith)

-- there is no memory for the first line
pub none_before : (tells : PlainStudy → EntryInfo → List ℕ → Type 0) (refusal : ℕ → List ℕ → List ℕ → List ℕ)
    (remark : ℕ → List ℕ → List ℕ) (Has : List Entry → Type 0)
    (reported : List Entry) (script out : Option (List ℕ)) (first : State) → Has reported
    → IfSome script (λ bytes. AreListedBefore tells refusal remark first bytes out out (λ more. Has (reported ++ more)) OutOfMemory)
none_before tells refusal remark Has reported None out first h = tt
none_before tells refusal remark Has reported (Some bytes) out first h =
    (0, omega arith, [], tt, Appends-nil out, subst Has (sym (append-nil reported)) h)
