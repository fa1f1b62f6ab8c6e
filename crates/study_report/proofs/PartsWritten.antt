-- What is written for lines, whatever the tables say.
use Rattle.std.proofs.Common.{◌≡◌, ◌⊎◌, ℕ, suc, ◌+◌, ◌-◌, ◌≤◌, Bool, true, false}
use Rattle.std.proofs.Common.{List, [], ◌∷◌, ◌++◌, length, take, drop, Option, Some, None, Result, Ok}
use Rattle.std.proofs.Common.{Err, inl, inr, refl, sym, ap, subst, ◌∙◌, arith, append_assoc}
use Rattle.std.specs.Prelude.{IfSome, IfOk, IfErr, codes, if◌then◌else◌}
use Rattle.std.specs.Io.KnownBytes.{Appends}
use Rattle.std.proofs.KnownBytes.{Appends-nil, Appends-trans}
use Rattle.std.proofs.lemmas.List.{append-nil, length-take-le}
use Rattle.std.proofs.lemmas.List.Sums.{sum_by_push, sum_by-cons}
use Rattle.std.proofs.lemmas.Result.{IfOk-weaker}
use Rattle.study_marks.specs.Edits.{PlainStudy}
use Rattle.study_command.specs.Lines.{script_lines, TakesLine, GaveFeeds}
use Rattle.study_command.specs.Parser.{Asks, command_of}
use Rattle.study_reply.specs.declared.refusal.Refusal.{Refusal}
use Rattle.study_reply.specs.declared.refusal.Refusal.TheVariants.{Form, NotAClass}
use Rattle.study_reply.specs.Names.{words_of}
use Rattle.study_reply.specs.Words.{reply_line}
use Rattle.study_script.specs.declared.running.RunFault.{RunFault}
use Rattle.study_script.specs.declared.running.RunFault.TheVariants.{ReadDevice, WriteDevice, LineTooLong, TooManyLines, OutOfMemory}
use Rattle.study_command.specs.Documents.{Document, study}
use Rattle.study_reply.specs.declared.reply.Reply.{Reply as Done}
use Rattle.study_reply.specs.declared.reply.LineRefusal.{LineRefusal}
use Rattle.study_reply.specs.Replied.{error_text, line_text}
use Rattle.study_script.specs.Executed.{line_piece, LeavesApart}
use Rattle.study_script.specs.Written.{Piece, IsPiece, IsPieceWhere}
use Rattle.study_script.proofs.FirstLines.{first_left, none_left}
use Rattle.study_report.specs.declared.line_kind.LineKind.{LineKind}
use Rattle.study_report.specs.declared.line_kind.LineKind.TheVariants.{Remark, PassedOver, NoClass, Study, Checked}
use Rattle.study_report.specs.declared.line_outcome.LineOutcome.{LineOutcome}
use Rattle.study_report.specs.declared.line_outcome.LineOutcome.TheVariants.{Nothing, Study as AStudy, Refusal as ARefusal}
use Rattle.study_report.specs.Reported.{line_kind, lacks_study, entry_count, refusal_count}
use Rattle.study_report.specs.Parts.{Part, nothing_part, study_part, parts_text, part_entries, part_refusals, WritesPart, IsReplyPiece, refused_part}
use Rattle.study_report.specs.Parts.{remark_part, checked_part, IsPartAs, IsPart, IsNextAs, IsNext, AreParts, Fits}
use Rattle.study_entry.specs.declared.entry.EntryInfo.{EntryInfo}
use Rattle.study_report.specs.declared.unread_line.Unread.{Unread}
use Rattle.study_report.specs.Unread.{none_unread, unread_after}
use Rattle.study_report.proofs.LineAdds.{entry, RefusalWritten, RemarkWritten}

-- ---- a line

-- the reply that a session wrote into memory
module _ {A : Type 0} (line : List ℕ) where
  pub refused-piece : (answer : Result (Option (Done A)) (LineRefusal A)) (why : LineRefusal A) → answer ≡ Err why → IsPiece line (line_piece answer)
      → IsReplyPiece line (error_text why) true
  refused-piece answer why e is =
      let piece = line_piece {A = A} (Err why) in
      (piece, subst (λ (a : Result (Option (Done A)) (LineRefusal A)). IsPiece line (line_piece a)) e is, refl, refl)

  pub done-piece : (answer : Result (Option (Done A)) (LineRefusal A)) (x : Option (Done A)) → answer ≡ Ok x → IsPiece line (line_piece answer)
      → IsReplyPiece line (line_text answer) false
  done-piece (Ok y) x e is = (line_piece {A = A} (Ok y), is, refl, refl)
  done-piece (Err w) x e is = absurd cc

refused-words : (asks : Asks) (piece : Piece) → IsPieceWhere asks piece → piece.refused ≡ true
    → (words : List ℕ) × (piece.text ≡ reply_line (codes "error ") words)
refused-words (Ok None) piece e so =
    let not-so : piece.refused ≡ false = ap (λ (p : Piece). p.refused) e in
    let bad : true ≡ false = sym so ∙ not-so in absurd cc
refused-words (Ok (Some asked)) piece (inl (words, e)) so = (words, ap (λ (p : Piece). p.text) e)
refused-words (Ok (Some asked)) piece (inr (done, not-so)) so = let bad : true ≡ false = sym so ∙ not-so in absurd cc
refused-words (Err fault) piece e so = (words_of (Form fault), ap (λ (p : Piece). p.text) e)

-- what holds in each case holds if a call fails
pub on-err : {A E : Type 0} (r : Result A E) (P : Type 0) → P → IfErr r (λ e. P)
on-err (Ok x) P h = tt
on-err (Err e) P h = h

module _ (form : PlainStudy → EntryInfo → List ℕ → Type 0) (refusal : ℕ → List ℕ → List ℕ → List ℕ) (remark : ℕ → List ℕ → List ℕ) (here : Document) where
  pub passed-part : (k : LineKind) (line : List ℕ) (number : ℕ) (next : EntryInfo) (out : Option (List ℕ)) → PassedOver ≡ k
      → WritesPart (IsPartAs form refusal remark k number next here line) out out Nothing
  passed-part k line number next out e =
      (nothing_part, subst (λ (x : LineKind). IsPartAs form refusal remark x number next here line nothing_part) e refl, Appends-nil out, refl)

  pub remark-part : {E : Type 0} (k : LineKind) (line : List ℕ) (number : ℕ) (next : EntryInfo) (r : Result LineOutcome E) (old new : Option (List ℕ))
      → Remark ≡ k
      → IfOk r (RemarkWritten line (remark next.number line) old new) → IfOk r (WritesPart (IsPartAs form refusal remark k number next here line) old new)
  remark-part k line number next r old new e h =
      let part = remark_part form refusal remark next.number line in
      IfOk-weaker r (RemarkWritten line (remark next.number line) old new) (WritesPart (IsPartAs form refusal remark k number next here line) old new)
      (λ reported (t, wrote). (part, subst (λ (x : LineKind). IsPartAs form refusal remark x number next here line part) e refl, wrote, t)) h

  pub no-class-part : {E : Type 0} (k : LineKind) (line : List ℕ) (number : ℕ) (next : EntryInfo) (r : Result LineOutcome E) (old new : Option (List ℕ))
      → NoClass ≡ k
      → IfOk r (RefusalWritten (refusal number line (reply_line (codes "error ") (words_of NotAClass))) old new)
      → IfOk r (WritesPart (IsPartAs form refusal remark k number next here line) old new)
  no-class-part k line number next r old new e h =
      let part = refused_part form refusal remark number line (reply_line (codes "error ") (words_of NotAClass)) in
      IfOk-weaker r (RefusalWritten (refusal number line (reply_line (codes "error ") (words_of NotAClass))) old new)
      (WritesPart (IsPartAs form refusal remark k number next here line) old new)
      (λ reported (t, wrote). (part, subst (λ (x : LineKind). IsPartAs form refusal remark x number next here line part) e refl, wrote, t)) h

  pub part-of-kind : {E : Type 0} (j k : LineKind) (line : List ℕ) (number : ℕ) (next : EntryInfo) (r : Result LineOutcome E) (old new : Option (List ℕ))
      → j ≡ k
      → IfOk r (WritesPart (IsPartAs form refusal remark j number next here line) old new)
      → IfOk r (WritesPart (IsPartAs form refusal remark k number next here line) old new)
  part-of-kind j k line number next r old new e h =
      subst (λ (x : LineKind). IfOk r (WritesPart (IsPartAs form refusal remark x number next here line) old new)) e h

  -- a line is refused by these words
  pub refusal-part : {E : Type 0} (line : List ℕ) (number : ℕ) (next : EntryInfo) (words : List ℕ) (r : Result LineOutcome E) (old new : Option (List ℕ))
      → IfOk r (RefusalWritten (refusal number line (reply_line (codes "error ") words)) old new)
      → IfOk r (WritesPart (IsPartAs form refusal remark Study number next here line) old new)
  refusal-part line number next words r old new h =
      IfOk-weaker r (RefusalWritten (refusal number line (reply_line (codes "error ") words)) old new)
      (WritesPart (IsPartAs form refusal remark Study number next here line) old new)
      (λ reported (e, wrote). (refused_part form refusal remark number line (reply_line (codes "error ") words), inl (words, refl), wrote, e)) h

  pub refusal-of-reply : {E : Type 0} (line : List ℕ) (number : ℕ) (next : EntryInfo) (bytes : List ℕ) (was : Bool) (r : Result LineOutcome E)
      (old new : Option (List ℕ))
      → IsReplyPiece line bytes was → was ≡ true → IfOk r (RefusalWritten (refusal number line bytes) old new)
      → IfOk r (WritesPart (IsPartAs form refusal remark Study number next here line) old new)
  refusal-of-reply line number next bytes was r old new (piece, is, b, same) so h =
      let w = refused-words (command_of line) piece is (sym same ∙ so) in
      refusal-part line number next w.0 r old new
      (subst (λ (t : List ℕ). IfOk r (RefusalWritten (refusal number line t) old new)) (b ∙ w.1) h)

  checked-if : (number : ℕ) (line : List ℕ) (piece : Piece) → piece.refused ≡ true
      → refused_part form refusal remark number line piece.text ≡ checked_part form refusal remark number line piece
  checked-if number line piece e = go piece.refused e
    where
      go : (b : Bool) → b ≡ true → refused_part form refusal remark number line piece.text
          ≡ (if b then refused_part form refusal remark number line piece.text else nothing_part)
      go true e = refl
      go false e = absurd cc

  checked-not : (number : ℕ) (line : List ℕ) (piece : Piece) → piece.refused ≡ false → nothing_part ≡ checked_part form refusal remark number line piece
  checked-not number line piece e = go piece.refused e
    where
      go : (b : Bool) → b ≡ false → nothing_part ≡ (if b then refused_part form refusal remark number line piece.text else nothing_part)
      go true e = absurd cc
      go false e = refl

  pub checked-refusal : {E : Type 0} (line : List ℕ) (number : ℕ) (next : EntryInfo) (bytes : List ℕ) (was : Bool) (r : Result LineOutcome E)
      (old new : Option (List ℕ))
      → IsReplyPiece line bytes was → was ≡ true → IfOk r (RefusalWritten (refusal number line bytes) old new)
      → IfOk r (WritesPart (IsPartAs form refusal remark Checked number next here line) old new)
  checked-refusal line number next bytes was r old new (piece, is, b, same) so h =
      IfOk-weaker r (RefusalWritten (refusal number line bytes) old new) (WritesPart (IsPartAs form refusal remark Checked number next here line) old new)
      (λ reported (e, wrote). (
        refused_part form refusal remark number line piece.text,
        (piece, is, checked-if number line piece (sym same ∙ so)),
        subst (λ (t : List ℕ). Appends old new (refusal number line t)) b wrote,
        e,
      )) h

  pub checked-silent : (line : List ℕ) (number : ℕ) (next : EntryInfo) (bytes : List ℕ) (was : Bool) (out : Option (List ℕ))
      → IsReplyPiece line bytes was → was ≡ false → WritesPart (IsPartAs form refusal remark Checked number next here line) out out Nothing
  checked-silent line number next bytes was out (piece, is, b, same) so =
      (nothing_part, (piece, is, checked-not number line piece (sym same ∙ so)), Appends-nil out, refl)

  -- the study in the document is written
  pub study-in : (line : List ℕ) (number : ℕ) (next : EntryInfo) (old new : Option (List ℕ))
      → (plain : PlainStudy) × (text : List ℕ) × (here ≡ study plain) × form plain next text × Appends old new text
      → WritesPart (IsPartAs form refusal remark Study number next here line) old new AStudy
  study-in line number next old new (plain, text, at, is, wrote) = (study_part text, inr (plain, text, at, is, refl), wrote, refl)

  -- the study is refused
  pub left-out-part : {E : Type 0} (line : List ℕ) (number : ℕ) (next : EntryInfo) (why : Refusal) (r : Result LineOutcome E)
      (old mid new : Option (List ℕ)) → mid ≡ old
      → IfOk r (RefusalWritten (refusal number line (reply_line (codes "error ") (words_of why))) mid new)
      → IfOk r (WritesPart (IsPartAs form refusal remark Study number next here line) old new)
  left-out-part line number next why r old mid new same h =
      subst (λ (x : Option (List ℕ)). IfOk r (WritesPart (IsPartAs form refusal remark Study number next here line) x new)) same
      (refusal-part line number next (words_of why) r mid new h)

module _ (form : PlainStudy → EntryInfo → List ℕ → Type 0) (refusal : ℕ → List ℕ → List ℕ → List ℕ) (remark : ℕ → List ℕ → List ℕ) where
  -- ---- lines

  -- how studies stand behind lines
  abbrev unread_behind : Unread → ℕ → List (List ℕ) → List Part → Unread
  unread_behind u n [] parts = u
  unread_behind u n (line ∷ lines) [] = u
  unread_behind u n (line ∷ lines) (part ∷ parts) = unread_behind (unread_after u (suc n) line part.reported) (suc n) lines parts

  behind-more : (n k : ℕ) (u : Unread) (here there : Document) (lines : List (List ℕ)) (parts : List Part) (line : List ℕ) (part : Part)
      → AreParts form refusal remark n k u here lines parts there
      → unread_behind u n (lines ++ line ∷ []) (parts ++ part ∷ []) ≡ unread_after (unread_behind u n lines parts) (suc (n + length lines)) line part.reported
  behind-more n k u here there [] [] line part h =
      let e : suc n ≡ suc (n + 0) = omega arith in ap (λ (i : ℕ). unread_after u i line part.reported) e
  behind-more n k u here there [] (x ∷ parts) line part h = absurd h
  behind-more n k u here there (l ∷ lines) [] line part h = absurd h
  behind-more n k u here there (l ∷ lines) (x ∷ parts) line part (is, (mid, goes, are)) =
      let v = unread_after u (suc n) l x.reported in
      let e : suc (suc n + length lines) ≡ suc (n + length (l ∷ lines)) = omega arith in
      behind-more (suc n) (k + entry_count x.reported) v mid there lines parts line part are
      ∙ ap (λ (i : ℕ). unread_after (unread_behind v (suc n) lines parts) i line part.reported) e

  parts-more : (n k : ℕ) (u : Unread) (here there next : Document) (lines : List (List ℕ)) (parts : List Part) (line : List ℕ) (part : Part)
      → AreParts form refusal remark n k u here lines parts there
      → IsPart form refusal remark (suc (n + length lines)) (entry (suc (k + part_entries parts)) (unread_behind u n lines parts).own) there line part
      → IsNext there line part.reported next
      → AreParts form refusal remark n k u here (lines ++ line ∷ []) (parts ++ part ∷ []) next
  parts-more n k u here there next [] [] line part h r d =
      let e : suc (n + 0) ≡ suc n = omega arith in
      let f : suc (k + 0) ≡ suc k = omega arith in
      let is = subst (λ i. IsPart form refusal remark (suc n) (entry i u.own) there line part) f
      (subst (λ i. IsPart form refusal remark i (entry (suc (k + 0)) u.own) there line part) e r) in
      (subst (λ x. IsPart form refusal remark (suc n) (entry (suc k) u.own) x line part) h is, (next, subst (λ x. IsNext x line part.reported next) h d, refl))
  parts-more n k u here there next [] (x ∷ parts) line part h r d = absurd h
  parts-more n k u here there next (l ∷ lines) [] line part h r d = absurd h
  parts-more n k u here there next (l ∷ lines) (x ∷ parts) line part (is, (mid, goes, are)) r d =
      let v = unread_after u (suc n) l x.reported in
      let own = (unread_behind v (suc n) lines parts).own in
      let e : suc (n + length (l ∷ lines)) ≡ suc (suc n + length lines) = omega arith in
      let split : part_entries (x ∷ parts) ≡ entry_count x.reported + part_entries parts =
      sum_by-cons (λ (p : Part). entry_count p.reported) x parts in
      let f : suc (k + part_entries (x ∷ parts)) ≡ suc ((k + entry_count x.reported) + part_entries parts) = omega (arith, split) in (
        is,
        (
          mid,
          goes,
          parts-more (suc n) (k + entry_count x.reported) v mid there next lines parts line part are
              (subst (λ i. IsPart form refusal remark (suc (suc n + length lines)) (entry i own) there line part) f
              (subst (λ i. IsPart form refusal remark i (entry (suc (k + part_entries (x ∷ parts))) own) there line part) e r)) d,
        ),
      )

  text-more : (parts : List Part) (part : Part) → parts_text (parts ++ part ∷ []) ≡ parts_text parts ++ part.text
  text-more [] part = append-nil part.text
  text-more (x ∷ parts) part = ap (λ (t : List ℕ). x.text ++ t) (text-more parts part) ∙ sym (append_assoc x.text (parts_text parts) part.text)

  -- n lines were read, their parts are written, there are so many entries and refused lines, and studies stand so
  pub record PartsOver (first last : Document) (all left : List (List ℕ)) (old new : Option (List ℕ)) (n refused entries : ℕ) (unread : Unread) : Type 0 where
    pub left_is : drop n all ≡ left
    pub within : n ≤ length all
    pub parts : List Part
    pub are : AreParts form refusal remark 0 0 none_unread first (take n all) parts last
    pub written : Appends old new (parts_text parts)
    pub refused_is : refused ≡ part_refusals parts
    pub entries_are : entries ≡ part_entries parts
    pub unread_is : unread ≡ unread_behind none_unread 0 (take n all) parts

  abbrev pub PartsKnown : Document → Document → Option (List ℕ) → Option (List ℕ) → Option (List ℕ) → Option (List ℕ) → ℕ → ℕ → ℕ → Unread → Type 0
  PartsKnown first last None now old new n refused entries unread = Unit {0}
  PartsKnown first last (Some bs) None old new n refused entries unread = ⊥
  PartsKnown first last (Some bs) (Some rest) old new n refused entries unread =
      PartsOver first last (script_lines bs) (script_lines rest) old new n refused entries unread

  pub record HasParts (first last : Document) (script now old new : Option (List ℕ)) (n refused entries : ℕ) (unread : Unread) : Type 0 where
    pub known : PartsKnown first last script now old new n refused entries unread

  pub parts_none : (first : Document) (script out : Option (List ℕ)) → HasParts first first script script out out 0 0 0 none_unread
  parts_none first None out = record { known = tt }
  parts_none first (Some bs) out = record {
    known = record {
      left_is = refl;
      within = omega arith;
      parts = [];
      are = refl;
      written = Appends-nil out;
      refused_is = refl;
      entries_are = refl;
      unread_is = refl;
    };
  }

  pub parts_more : (first here there : Document) (script now next old mid new : Option (List ℕ)) (line : List ℕ)
      (n number refused refused' entries entries' : ℕ) (unread unread' : Unread) (reported : LineOutcome)
      → HasParts first here script now old mid n refused entries unread → TakesLine now next true line → number ≡ n + 1
      → WritesPart (IsPart form refusal remark number (entry (entries + 1) unread.own) here line) mid new reported → IsNext here line reported there
      → refused' ≡ refused + refusal_count reported → entries' ≡ entries + entry_count reported
      → unread' ≡ unread_after unread (n + 1) line reported
      → HasParts first there script next old new (n + 1) refused' entries' unread'
  parts_more first here there None now next old mid new line n number refused refused' entries entries' unread unread' reported r t at w d k j q =
      record { known = tt }
  parts_more first here there (Some bs) None next old mid new line n number refused refused' entries entries' unread unread' reported r t at w d k j q =
      absurd r.known
  parts_more first here there (Some bs) (Some rest) None old mid new line n number refused refused' entries entries' unread unread' reported r t at w d k j q =
      absurd t
  parts_more first here there (Some bs) (Some rest) (Some rest') old mid new line n number refused refused' entries entries' unread unread' reported r t at
      (part, is, wrote, same) d k j q =
      let v = r.known in
      let all = script_lines bs in
      let f = first_left all (script_lines rest') n line (v.left_is ∙ t) in
      let e : n + 1 ≡ suc n = omega arith in
      let grown : take (n + 1) all ≡ take n all ++ line ∷ [] = ap (λ i. take i all) e ∙ f.1 in
      let lt = f.0 in
      let le = v.within in
      let len : length (take n all) ≡ n = length-take-le n all le in
      let at-line : number ≡ suc (0 + length (take n all)) = omega (arith, at, len) in
      let at-entry : entries + 1 ≡ suc (0 + part_entries v.parts) = omega (arith, v.entries_are) in
      let at-place = subst
      (λ (u : Unread). IsPart form refusal remark (suc (0 + length (take n all))) (entry (suc (0 + part_entries v.parts)) u.own) here line part)
      v.unread_is
      (subst (λ i. IsPart form refusal remark (suc (0 + length (take n all))) (entry i unread.own) here line part) at-entry
      (subst (λ i. IsPart form refusal remark i (entry (entries + 1) unread.own) here line part) at-line is)) in
      let behind = unread_behind none_unread 0 (take n all) v.parts in
      let next-line : n + 1 ≡ suc (0 + length (take n all)) = omega (arith, len) in
      record {
        known = record {
          left_is = ap (λ i. drop i all) e ∙ f.2;
          within = omega arith;
          parts = v.parts ++ part ∷ [];
          are = rw grown (parts-more 0 0 none_unread first here there (take n all) v.parts line part v.are at-place
              (subst (λ x. IsNext here line x there) same d));
          written = rw (text-more v.parts part) (Appends-trans old mid new (parts_text v.parts) part.text v.written wrote);
          refused_is = k ∙ ap (λ (x : LineOutcome). refused + refusal_count x) same ∙ ap (λ i. i + refusal_count part.reported) v.refused_is
              ∙ sym (sum_by_push (λ (p : Part). refusal_count p.reported) v.parts part);
          entries_are = j ∙ ap (λ (x : LineOutcome). entries + entry_count x) same ∙ ap (λ i. i + entry_count part.reported) v.entries_are
              ∙ sym (sum_by_push (λ (p : Part). entry_count p.reported) v.parts part);
          unread_is = rw grown (q ∙ ap (λ (u : Unread). unread_after u (n + 1) line reported) v.unread_is
              ∙ ap (λ (x : LineOutcome). unread_after behind (n + 1) line x) same ∙ ap (λ (i : ℕ). unread_after behind i line part.reported) next-line
              ∙ sym (behind-more 0 0 none_unread first here (take n all) v.parts line part v.are));
        };
      }

  -- ---- the ends of a report

  pub parts_end : (first last : Document) (left script now next old new : Option (List ℕ)) (line : List ℕ) (n refused entries : ℕ) (unread : Unread)
      → HasParts first last script now old new n refused entries unread → TakesLine now next false line
      → IfSome script (λ bytes. Fits form refusal remark first bytes left old new (Ok (record { lines = n; refused = refused })))
  parts_end first last left None now next old new line n refused entries unread r t = tt
  parts_end first last left (Some bs) None next old new line n refused entries unread r t = absurd r.known
  parts_end first last left (Some bs) (Some rest) None old new line n refused entries unread r t = absurd t
  parts_end first last left (Some bs) (Some rest) (Some rest') old new line n refused entries unread r t =
      let v = r.known in
      let d = none_left (script_lines bs) n v.within (v.left_is ∙ t) in
      (v.parts, last, subst (λ (ls : List (List ℕ)). AreParts form refusal remark 0 0 none_unread first ls v.parts last) d.0 v.are, v.written, v.refused_is)

  pub parts_long : (first last : Document) (left script now old new : Option (List ℕ)) (n refused entries : ℕ) (unread : Unread)
      → HasParts first last script now old new n refused entries unread
      → IfSome script (λ bytes. Fits form refusal remark first bytes left old new (Err (LineTooLong (n + 1))))
  parts_long first last left None now old new n refused entries unread r = tt
  parts_long first last left (Some bs) None old new n refused entries unread r = absurd r.known
  parts_long first last left (Some bs) (Some rest) old new n refused entries unread r =
      let v = r.known in
      let e : n + 1 - 1 ≡ n = omega arith in
      (refused, (v.parts, last, rw e v.are, v.written, v.refused_is))

  pub parts_read : (first last : Document) (left script now old new : Option (List ℕ)) (n refused entries : ℕ) (unread : Unread)
      → HasParts first last script now old new n refused entries unread
      → GaveFeeds script left n → IfSome script (λ bytes. Fits form refusal remark first bytes left old new (Err ReadDevice))
  parts_read first last left None now old new n refused entries unread r g = tt
  parts_read first last left (Some bs) None old new n refused entries unread r g = absurd r.known
  parts_read first last left (Some bs) (Some rest) old new n refused entries unread r g =
      let v = r.known in (n, v.within, g, refused, (v.parts, last, v.are, v.written, v.refused_is))

  pub parts_many : (first last : Document) (left script now old new : Option (List ℕ)) (refused entries : ℕ) (unread : Unread)
      → HasParts first last script now old new 100000 refused entries unread
      → IfSome script (λ bytes. Fits form refusal remark first bytes left old new (Err TooManyLines))
  parts_many first last left None now old new refused entries unread r = tt
  parts_many first last left (Some bs) None old new refused entries unread r = absurd r.known
  parts_many first last left (Some bs) (Some rest) old new refused entries unread r =
      let v = r.known in (refused, (v.parts, last, v.are, v.written, v.refused_is))

  -- if the writer failed, or there was no memory, nothing is claimed
  pub parts_stop : (first : Document) (left old new script : Option (List ℕ)) (fault : RunFault) → (fault ≡ WriteDevice) ⊎ (fault ≡ OutOfMemory)
      → IfSome script (λ bytes. Fits form refusal remark first bytes left old new (Err fault))
  parts_stop first left old new script fault (inl e) =
      subst (λ (f : RunFault). IfSome script (λ bytes. Fits form refusal remark first bytes left old new (Err f))) (sym e) (of_writer script)
    where
      of_writer : (s : Option (List ℕ)) → IfSome s (λ bytes. Fits form refusal remark first bytes left old new (Err WriteDevice))
      of_writer None = tt
      of_writer (Some bytes) = tt
  parts_stop first left old new script fault (inr e) =
      subst (λ (f : RunFault). IfSome script (λ bytes. Fits form refusal remark first bytes left old new (Err f))) (sym e) (of_memory script)
    where
      of_memory : (s : Option (List ℕ)) → IfSome s (λ bytes. Fits form refusal remark first bytes left old new (Err OutOfMemory))
      of_memory None = tt
      of_memory (Some bytes) = tt

-- ---- documents

pub no-study : (b : Document) (plain : PlainStudy) → b ≡ study plain → lacks_study b ≡ true → ⊥
no-study b plain e lacks = let has : lacks_study b ≡ false = ap lacks_study e in
    let bad : true ≡ false = sym lacks ∙ has in absurd cc

-- ---- the document after a line

module _ {E : Type 0} (here : Document) (line : List ℕ) where
  -- a line that is not answered leaves the document
  pub next-same : (k : LineKind) (r : Result LineOutcome E) → ((t : LineOutcome) → IsNextAs k here line t here) → k ≡ line_kind line
      → IfOk r (λ t. IsNext here line t here)
  next-same k (Ok t) f e = subst (λ (x : LineKind). IsNextAs x here line t here) e (f t)
  next-same k (Err fault) f e = tt

  pub next-of-kind : (k : LineKind) (r : Result LineOutcome E) (there : Document) → k ≡ line_kind line → IfOk r (λ t. IsNextAs k here line t there)
      → IfOk r (λ t. IsNext here line t there)
  next-of-kind k r there e h = subst (λ (x : LineKind). IfOk r (λ t. IsNextAs x here line t there)) e h

module _ {T E : Type 0} (here : Document) (line : List ℕ) where
  pub next-done : (answer : Result T E) (x : T) (there : Document) → answer ≡ Ok x → LeavesApart answer line here there
      → IsNextAs Checked here line Nothing there
  next-done (Ok y) x there e h = h
  next-done (Err w) x there e h = absurd cc

  pub next-refused : {F : Type 0} (answer : Result T E) (why : E) (there : Document) (r : Result LineOutcome F) (P : Type 0) → answer ≡ Err why
      → LeavesApart answer line here there → IfOk r (λ t. (t ≡ ARefusal) × P) → IfOk r (λ t. IsNextAs Checked here line t there)
  next-refused (Ok y) why there r P e h w = absurd cc
  next-refused (Err x) why there (Ok t) P e h w = subst (λ (u : LineOutcome). IsNextAs Checked here line u there) (sym w.0) h
  next-refused (Err x) why there (Err f) P e h w = tt
