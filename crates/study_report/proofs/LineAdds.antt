-- The contribution of a line, from what was written for it.
use Rattle.std.proofs.Common.{◌≡◌, ℕ, ◌+◌, suc, Bool, true, false, List, [], ◌∷◌, ◌++◌, Option, Some, None, Result, Ok, Err, refl, sym, ap, subst, ◌∙◌}
use Rattle.std.proofs.Common.{inl, inr, arith}
use Rattle.std.specs.Prelude.{IfOk, IfErr, if◌then◌else◌}
use Rattle.std.specs.Io.KnownBytes.{Appends}
use Rattle.std.proofs.KnownBytes.{Appends-nil}
use Rattle.std.proofs.lemmas.List.{append-nil}
use Rattle.std.proofs.lemmas.Result.{IfOk-weaker, IfErr-weaker}
use Rattle.study_marks.specs.Edits.{PlainStudy}
use Rattle.study_reply.specs.declared.refusal.Refusal.{Refusal}
use Rattle.study_reply.specs.declared.reply.Reply.{Reply as Done}
use Rattle.study_reply.specs.declared.reply.LineRefusal.{LineRefusal}
use Rattle.study_reply.specs.Replied.{error_text, line_text}
use Rattle.study_script.specs.Executed.{line_reply, ExecutedLine}
use Rattle.study_script.specs.declared.running.RunFault.{RunFault}
use Rattle.study_script.specs.declared.running.RunFault.TheVariants.{ReadDevice, WriteDevice, LineTooLong, TooManyLines, OutOfMemory}
use Rattle.study_command.specs.Documents.{Document, study}
use Rattle.study_script.specs.State.{State, Environment}
use Rattle.study_script.specs.Replies.{Reply, refused_reply, IsReplyIn}
use Rattle.study_script.specs.SessionHolds.{Answered}
use Rattle.study_report.specs.declared.line_kind.LineKind.TheVariants.{Study, Checked}
use Rattle.study_report.specs.declared.line_outcome.LineOutcome.{LineOutcome}
use Rattle.study_report.specs.declared.line_outcome.LineOutcome.TheVariants.{Nothing, Study as AStudy, LeftOut, NotRead, Try, Refusal as ARefusal}
use Rattle.study_entry.specs.declared.entry.EntryInfo.{EntryInfo}
use Rattle.study_report.specs.declared.unread_line.Unread.{Unread}
use Rattle.study_report.specs.declared.line_outcome.ReportPosition.{ReportPosition}
use Rattle.study_remark.specs.Remarks.{Told, left_out, not_read, stipulated, doubted, not_taken_over, behind_result, original_of, latin_1, letters, tail, total}
use Rattle.study_remark.specs.Reading.{remark_in}
use Rattle.study_entry.specs.declared.entry.Origin.{Origin}
use Rattle.study_report.specs.Remarks.{says_left_out, outcome_told, is_try, with_try, remark_outcome}
use Rattle.study_report.specs.Reported.{entry_count, Entry, game_entry, entry_at, next_entry, IsAt, games_in, listed_in}
use Rattle.study_report.specs.Reported.{Point, Added, IsLeftOut, IsStudyReported, IsAddedAs, IsPgnAfter, IsCheckedAfter}
use Rattle.study_report.specs.Reported.{nothing_added, study_added, refusal_added, remark_added}
use Rattle.study_report.specs.Written.{Adds, Stops, StopsIn, IsSection, IsSectionPart, IsReplied}

abbrev pub entry : ℕ → Origin → EntryInfo
entry number origin = record { number = number; origin = origin }

-- the next study is the entry of the next line
pub at-next : (p : Point) (at : ReportPosition) → IsAt p at → entry_at at ≡ next_entry p
at-next p at (lines, entries, unread) =
    let n : at.entries + 1 ≡ suc p.entries = omega (arith, entries) in
    ap (λ (i : ℕ). entry i at.unread.own) n ∙ ap (λ (u : Unread). entry (suc p.entries) u.own) unread

-- what holds of every text written for a refusal
abbrev pub RefusalWritten : List ℕ → Option (List ℕ) → Option (List ℕ) → LineOutcome → Type 0
RefusalWritten text old new reported = (reported ≡ ARefusal) × Appends old new text

-- a refusal is no entry
pub refusal-none : (r : Result LineOutcome RunFault) (text : List ℕ) (old new : Option (List ℕ)) → IfOk r (RefusalWritten text old new)
    → IfOk r (λ t. entry_count t ≡ 0)
refusal-none r text old new h =
    IfOk-weaker r (RefusalWritten text old new) (λ t. entry_count t ≡ 0) (λ t (e, wrote). ap entry_count e) h

-- what holds of every text written for a remark
abbrev pub RemarkWritten : List ℕ → List ℕ → Option (List ℕ) → Option (List ℕ) → LineOutcome → Type 0
RemarkWritten line text old new reported = (reported ≡ remark_outcome line) × Appends old new text

none-in : (line : List ℕ) (t : LineOutcome) (document : Document) (info : EntryInfo) → entry_count t ≡ 0 → listed_in line t document info ≡ []
none-in line Nothing document info e = refl
none-in line AStudy document info e = absurd cc
none-in line LeftOut document info e = absurd cc
none-in line NotRead document info e = refl
none-in line Try document info e = refl
none-in line ARefusal document info e = refl

-- a remark is an entry if it is of a game that was left out
game-in : (told : Option Told) (line : List ℕ) (document : Document) (info : EntryInfo)
    → (if says_left_out told then game_entry line info.number ∷ [] else []) ≡ listed_in line (outcome_told told) document info
game-in None line document info = refl
game-in (Some (left_out game why)) line document info = refl
game-in (Some (not_read game why)) line document info = refl
game-in (Some (stipulated game by)) line document info = refl
game-in (Some (doubted why)) line document info = refl
game-in (Some (not_taken_over counts)) line document info = refl
game-in (Some (behind_result at column)) line document info = refl
game-in (Some (original_of name text)) line document info = refl
game-in (Some (latin_1 name)) line document info = refl
game-in (Some (letters language)) line document info = refl
game-in (Some (tail moves)) line document info = refl
game-in (Some (total games studies)) line document info = refl

-- so with tries, which are no entries
try-in : (t : LineOutcome) (is : Bool) (line : List ℕ) (document : Document) (info : EntryInfo)
    → listed_in line t document info ≡ listed_in line (with_try t is) document info
try-in Nothing true line document info = refl
try-in Nothing false line document info = refl
try-in AStudy is line document info = refl
try-in LeftOut is line document info = refl
try-in NotRead is line document info = refl
try-in Try is line document info = refl
try-in ARefusal is line document info = refl

pub nothing-listed : (Lists : List Entry → Type 0) (reported : List Entry) → Lists reported → Lists (reported ++ [])
nothing-listed Lists reported kept = subst Lists (sym (append-nil reported)) kept

-- without an entry the list is unchanged
pub none-listed : (Lists : List Entry → Type 0) (r : Result LineOutcome RunFault) (reported : List Entry) (line : List ℕ) (document : Document)
    (info : EntryInfo)
    → IfOk r (λ t. entry_count t ≡ 0) → Lists reported → IfOk r (λ t. Lists (reported ++ listed_in line t document info))
none-listed Lists r reported line document info h kept =
    IfOk-weaker r (λ t. entry_count t ≡ 0) (λ t. Lists (reported ++ listed_in line t document info))
    (λ t e. subst (λ (x : List Entry). Lists (reported ++ x)) (sym (none-in line t document info e)) (nothing-listed Lists reported kept)) h

-- a refusal leaves it unchanged
pub refusal-listed : (Lists : List Entry → Type 0) (r : Result LineOutcome RunFault) (reported : List Entry) (line : List ℕ) (document : Document)
    (info : EntryInfo)
    (text : List ℕ) (old new : Option (List ℕ)) → IfOk r (RefusalWritten text old new) → Lists reported
    → IfOk r (λ t. Lists (reported ++ listed_in line t document info))
refusal-listed Lists r reported line document info text old new h kept =
    IfOk-weaker r (RefusalWritten text old new) (λ t. Lists (reported ++ listed_in line t document info))
    (λ t (e, wrote). subst (λ (x : LineOutcome). Lists (reported ++ listed_in line x document info)) (sym e) (nothing-listed Lists reported kept)) h

-- a remark adds the game that was left out
pub remark-listed : (Lists : List Entry → Type 0) (r : Result LineOutcome RunFault) (reported : List Entry) (line : List ℕ) (document : Document)
    (info : EntryInfo)
    (text : List ℕ) (old new : Option (List ℕ)) → IfOk r (RemarkWritten line text old new) → IfOk r (λ t. Lists (reported ++ games_in info.number line))
    → IfOk r (λ t. Lists (reported ++ listed_in line t document info))
remark-listed Lists (Ok t) reported line document info text old new (e, wrote) kept =
    subst (λ (x : LineOutcome). Lists (reported ++ listed_in line x document info)) (sym e)
    (subst (λ (x : List Entry). Lists (reported ++ x)) (game-in (remark_in line) line document info
    ∙ try-in (outcome_told (remark_in line)) (is_try line) line document info) kept)
remark-listed Lists (Err fault) reported line document info text old new h kept = tt

pub adds-weaker : (I J : Added → Type 0) (H K : State → Type 0) (r : Result LineOutcome RunFault) (old new : Option (List ℕ)) → ((a : Added) → I a → J a)
    → ((s : State) → H s → K s) → IfOk r (Adds I H old new) → IfOk r (Adds J K old new)
adds-weaker I J H K r old new f g h =
    IfOk-weaker r (Adds I H old new) (Adds J K old new) (λ reported (a, is, wrote, held, same). (a, f a is, wrote, g a.after.state held, same)) h

stops-same : (I J : Added → Type 0) (old new : Option (List ℕ)) (fault : RunFault) → ((a : Added) → I a → J a) → Stops I old new fault
    → Stops J old new fault
stops-same I J old new WriteDevice f (a, is, part) = (a, f a is, part)
stops-same I J old new OutOfMemory f h = h
stops-same I J old new ReadDevice f h = absurd h
stops-same I J old new (LineTooLong n) f h = absurd h
stops-same I J old new TooManyLines f h = absurd h

pub stops-weaker : (I J : Added → Type 0) (r : Result LineOutcome RunFault) (old new : Option (List ℕ)) → ((a : Added) → I a → J a)
    → IfErr r (Stops I old new) → IfErr r (Stops J old new)
stops-weaker I J r old new f h = IfErr-weaker r (Stops I old new) (Stops J old new) (λ fault. stops-same I J old new fault f) h

stops-in : (I : Added → Type 0) (a : Added) (old new : Option (List ℕ)) (fault : RunFault) → I a → StopsIn a.text old new fault
    → Stops I old new fault
stops-in I a old new WriteDevice is part = (a, is, part)
stops-in I a old new OutOfMemory is h = h
stops-in I a old new ReadDevice is h = absurd h
stops-in I a old new (LineTooLong n) is h = absurd h
stops-in I a old new TooManyLines is h = absurd h

module _ (tells : PlainStudy → EntryInfo → List ℕ → Type 0) (refusal : ℕ → List ℕ → List ℕ → List ℕ) (remark : ℕ → List ℕ → List ℕ) where
  -- a refusal is written, from the number of the line and the bytes of its reply
  pub refusal-adds : (I : Added → Type 0) (H : State → Type 0) (p : Point) (line : List ℕ) (reply : Reply) (number : ℕ) (bytes : List ℕ)
      (r : Result LineOutcome RunFault) (old new : Option (List ℕ)) → number ≡ suc p.lines → bytes ≡ reply.text
      → I (refusal_added tells refusal remark p line reply) → H reply.state → IfOk r (RefusalWritten (refusal number line bytes) old new)
      → IfOk r (Adds I H old new)
  refusal-adds I H p line reply number bytes r old new n b is held h =
      let same : refusal number line bytes ≡ refusal (suc p.lines) line reply.text =
      ap (λ i. refusal i line bytes) n ∙ ap (refusal (suc p.lines) line) b in
      IfOk-weaker r (RefusalWritten (refusal number line bytes) old new) (Adds I H old new)
      (λ reported (t, wrote). (refusal_added tells refusal remark p line reply, is, subst (Appends old new) same wrote, held, t)) h

  pub refusal-stops : (I : Added → Type 0) (p : Point) (line : List ℕ) (reply : Reply) (number : ℕ) (bytes : List ℕ)
      (r : Result LineOutcome RunFault) (old new : Option (List ℕ)) → number ≡ suc p.lines → bytes ≡ reply.text
      → I (refusal_added tells refusal remark p line reply) → IfErr r (StopsIn (refusal number line bytes) old new)
      → IfErr r (Stops I old new)
  refusal-stops I p line reply number bytes r old new n b is h =
      let same : refusal number line bytes ≡ refusal (suc p.lines) line reply.text =
      ap (λ i. refusal i line bytes) n ∙ ap (refusal (suc p.lines) line) b in
      IfErr-weaker r (StopsIn (refusal number line bytes) old new) (Stops I old new)
      (λ fault k. stops-in I (refusal_added tells refusal remark p line reply) old new fault is
      (subst (λ (t : List ℕ). StopsIn t old new fault) same k)) h

  -- a remark is written, with the number of the next entry
  pub remark-adds : (I : Added → Type 0) (H : State → Type 0) (p : Point) (line : List ℕ) (entries : ℕ) (r : Result LineOutcome RunFault)
      (old new : Option (List ℕ)) → entries ≡ p.entries → I (remark_added tells refusal remark p line) → H p.state
      → IfOk r (RemarkWritten line (remark (entries + 1) line) old new) → IfOk r (Adds I H old new)
  remark-adds I H p line entries r old new n is held h =
      let next : entries + 1 ≡ suc p.entries = omega (arith, n) in
      IfOk-weaker r (RemarkWritten line (remark (entries + 1) line) old new) (Adds I H old new)
      (λ reported (t, wrote). (remark_added tells refusal remark p line, is, subst (λ (i : ℕ). Appends old new (remark i line)) next wrote, held, t)) h

  pub remark-stops : (I : Added → Type 0) (p : Point) (line : List ℕ) (entries : ℕ) (r : Result LineOutcome RunFault) (old new : Option (List ℕ))
      → entries ≡ p.entries → I (remark_added tells refusal remark p line) → IfErr r (StopsIn (remark (entries + 1) line) old new) → IfErr r (Stops I old new)
  remark-stops I p line entries r old new n is h =
      let next : entries + 1 ≡ suc p.entries = omega (arith, n) in
      IfErr-weaker r (StopsIn (remark (entries + 1) line) old new) (Stops I old new)
      (λ fault k. stops-in I (remark_added tells refusal remark p line) old new fault is (subst (λ (i : ℕ). StopsIn (remark i line) old new fault) next k)) h

  -- the study in the document is written
  pub section-adds : (H : State → Type 0) (p : Point) (s : State) (line : List ℕ) (info : EntryInfo) (plain : PlainStudy) (old new : Option (List ℕ))
      → s.document ≡ study plain → info ≡ next_entry p → H s → IsSection tells s.document info old new
      → Adds (IsStudyReported tells refusal remark p s line) H old new AStudy
  section-adds H p s line info plain old new b k held sec =
      let there = subst (λ (x : Document). IsSection tells x info old new) b sec in
      (study_added p line s there.0, inl (plain, there.0, b, subst (λ i. tells plain i there.0) k there.1, refl), there.2, held, refl)

  pub section-stops : (p : Point) (s : State) (line : List ℕ) (info : EntryInfo) (plain : PlainStudy) (old new : Option (List ℕ))
      → s.document ≡ study plain → info ≡ next_entry p → IsSectionPart tells s.document info old new
      → Stops (IsStudyReported tells refusal remark p s line) old new WriteDevice
  section-stops p s line info plain old new b k sec =
      let there = subst (λ (x : Document). IsSectionPart tells x info old new) b sec in
      (study_added p line s there.0, inl (plain, there.0, b, subst (λ i. tells plain i there.0) k there.1, refl), there.2)

  -- a study that is refused
  pub left-out : (p : Point) (s : State) (line : List ℕ) (plain : PlainStudy) (why : Refusal) → s.document ≡ study plain → IsLeftOut s plain why
      → IsStudyReported tells refusal remark p s line (refusal_added tells refusal remark p line (refused_reply s why))
  left-out p s line plain why b h = inr (plain, why, b, h, refl)

  -- ---- after the script's reply

  pub checked-refused : (p : Point) (line : List ℕ) (o : Environment) (reply : Reply) → IsReplyIn true p.state line o reply → reply.refused ≡ true
      → IsAddedAs tells refusal remark Checked p line (refusal_added tells refusal remark p line reply)
  checked-refused p line o reply is e = let a = refusal_added tells refusal remark p line reply in
      (o, reply, is, subst (λ b. IsCheckedAfter tells refusal remark p line reply b a) (sym e) refl)

  pub pgn-refused : (p : Point) (line : List ℕ) (o : Environment) (reply : Reply) → IsReplyIn true p.state line o reply → reply.refused ≡ true
      → IsAddedAs tells refusal remark Study p line (refusal_added tells refusal remark p line reply)
  pgn-refused p line o reply is e = let a = refusal_added tells refusal remark p line reply in
      (o, reply, is, subst (λ b. IsPgnAfter tells refusal remark p line reply b a) (sym e) refl)

  pub pgn-reported : (p : Point) (line : List ℕ) (o : Environment) (reply : Reply) (a : Added) → IsReplyIn true p.state line o reply → reply.refused ≡ false
      → IsStudyReported tells refusal remark p reply.state line a → IsAddedAs tells refusal remark Study p line a
  pgn-reported p line o reply a is e h = (o, reply, is, subst (λ b. IsPgnAfter tells refusal remark p line reply b a) (sym e) h)

  pub replied-adds : (I : Added → Type 0) (H : State → Type 0) (p : Point) (line : List ℕ) (number : ℕ) (bytes : List ℕ) (was : Bool)
      (r : Result LineOutcome RunFault) (old new : Option (List ℕ))
      → ((o : Environment) (reply : Reply) → IsReplyIn true p.state line o reply → reply.refused ≡ true → I (refusal_added tells refusal remark p line reply))
      → number ≡ suc p.lines → was ≡ true → IsReplied p.state line H bytes was
      → IfOk r (RefusalWritten (refusal number line bytes) old new) → IfOk r (Adds I H old new)
  replied-adds I H p line number bytes was r old new so n was-true (o, reply, is, b, held, same) h =
      refusal-adds I H p line reply number bytes r old new n b (so o reply is (sym same ∙ was-true)) held h

  pub replied-stops : (I : Added → Type 0) (H : State → Type 0) (p : Point) (line : List ℕ) (number : ℕ) (bytes : List ℕ) (was : Bool)
      (r : Result LineOutcome RunFault) (old new : Option (List ℕ))
      → ((o : Environment) (reply : Reply) → IsReplyIn true p.state line o reply → reply.refused ≡ true → I (refusal_added tells refusal remark p line reply))
      → number ≡ suc p.lines → was ≡ true → IsReplied p.state line H bytes was
      → IfErr r (StopsIn (refusal number line bytes) old new) → IfErr r (Stops I old new)
  replied-stops I H p line number bytes was r old new so n was-true (o, reply, is, b, held, same) h =
      refusal-stops I p line reply number bytes r old new n b (so o reply is (sym same ∙ was-true)) h

  pub checked-nothing : (H : State → Type 0) (p : Point) (line : List ℕ) (bytes : List ℕ) (was : Bool) (out : Option (List ℕ))
      → was ≡ false → IsReplied p.state line H bytes was → Adds (IsAddedAs tells refusal remark Checked p line) H out out Nothing
  checked-nothing H p line bytes was out was-false (o, reply, is, b, held, same) =
      let a = nothing_added p line reply.state in
      (a, (o, reply, is, subst (λ x. IsCheckedAfter tells refusal remark p line reply x a) (sym (sym same ∙ was-false)) refl), Appends-nil out, held, refl)

-- the reply that a session wrote into memory
pub replied : (H : State → Type 0) (s : State) (line old taken : List ℕ) (was : Bool) → old ≡ []
    → Answered (IsReplyIn true s line) H (Some old) (Some taken) was → IsReplied s line H taken was
replied H s line old taken was none (o, reply, is, wrote, held, same) =
    (o, reply, is, wrote ∙ ap (λ (t : List ℕ). t ++ reply.text) none, held, same)

-- ---- what was executed

module _ {A : Type 0} (s : State) (line : List ℕ) (H : State → Type 0) where
  -- the reply to a line that was refused, or was not
  pub executed-refused : (answer : Result (Option (Done A)) (LineRefusal A)) (why : LineRefusal A) → answer ≡ Err why
      → ExecutedLine (IsReplyIn true s line) H answer
      → IsReplied s line H (error_text why) true
  executed-refused (Err w) why e (o, t, is, held) =
      let same : w ≡ why = cc in
      subst (λ (x : LineRefusal A). IsReplied s line H (error_text x) true) same (o, line_reply t (Err w), is, refl, held, refl)
  executed-refused (Ok x) why e d = absurd cc

  pub executed-done : (answer : Result (Option (Done A)) (LineRefusal A)) (x : Option (Done A)) → answer ≡ Ok x → ExecutedLine (IsReplyIn true s line) H answer
      → IsReplied s line H (line_text answer) false
  executed-done (Ok y) x e (o, t, is, held) = (o, line_reply t (Ok y), is, refl, held, refl)
  executed-done (Err w) x e d = absurd cc
