-- A list of edits: the probes, results and labels of each accepted one, and the end of the list.
use Rattle.std.specs.Prelude.{◌≡◌, ℕ, ◌+◌, ◌⊎◌, Bool, true, List, [], ◌∷◌, length, take, zero, suc, MatchOption}
use Rattle.std.specs.Prelude.{Option, None, Result, Ok, Err, IfErr, OnOk, OnErr, if◌then◌else◌}
use Rattle.study_board.specs.Position.{Position}
use Rattle.study_moves.specs.Rules.{after}
use Rattle.study_material.specs.declared.class.Class.{Class}
use Rattle.study_text.specs.Counts.{next_count}
use Rattle.study_tree.specs.Tree.{Plain, size_of, with_child, without, moved_up}
use Rattle.study_marks.specs.declared.node_label.Evaluation.{Evaluation}
use Rattle.study_marks.specs.declared.refusal.Refusal.{Refusal}
use Rattle.study_marks.specs.declared.refusal.Refusal.TheVariants.{OutOfMemory}
use Rattle.study_marks.specs.declared.edit.Edit.{Edit}
use Rattle.study_marks.specs.declared.edit.Edit.TheVariants as edits
use Rattle.study_marks.specs.declared.edit.Stopped.{Stopped}
use Rattle.study_marks.specs.Study.{plain_study, position_at}
use Rattle.study_marks.specs.Queries.{asked_at, positions_asked, AllHeld, IsOutside, HasAsked, HasStopped}
use Rattle.study_marks.specs.Queries.{is_of_tables, is_of_device, counted_up_by, failures_after}
use Rattle.study_marks.specs.Edits.{PlainStudy, with_start, edited, edit_refusal, insert_refusal, delete_refusal, promote_refusal, shift_refusal, tag_refusal}
use Rattle.study_marks.specs.BenchState.{BenchState, marked_study, IsKeptRight, evaluation_tree}
use Rattle.study_marks.specs.Answers.{TellsFirstFault}
use Rattle.study_values.specs.Values.{ValueSource}
use Rattle.study_values.specs.declared.fault.SourceFault.{SourceFault}

module _ {A : Type 0} where
  -- the positions whose values an edit of this study probes
  abbrev pub questions_of : PlainStudy → Edit A → List Position
  questions_of s (edits.Position start) = asked_at start.position
  questions_of s (edits.Shift start) = positions_asked (with_start s start)
  questions_of s (edits.Stipulate stipulation) = []
  questions_of s (edits.Insert steps m) = asked_at (after (position_at s steps) m)
  questions_of s (edits.Delete steps) = []
  questions_of s (edits.Promote steps) = []
  questions_of s (edits.Tag name text) = []

  -- a shift is refused for a broken move, or if there is no memory for that move's path
  abbrev pub IsShiftRefusal : (Class → Bool) → List Position → Option (Refusal A) → Refusal A → Type 0
  IsShiftRefusal held asked reason r = MatchOption reason (IsOutside held asked r) (λ fault. (r ≡ fault) ⊎ (r ≡ OutOfMemory))

  -- the edit of this study may be refused with r; a new position needs no memory
  abbrev pub IsRefusalOf : (Class → Bool) → PlainStudy → Edit A → Refusal A → Type 0
  IsRefusalOf held s (edits.Position start) r = IsOutside held (asked_at start.position) r × (is_of_tables r ≡ true)
  IsRefusalOf held s (edits.Shift start) r = IsShiftRefusal held (positions_asked (with_start s start)) (shift_refusal s start) r
  IsRefusalOf held s (edits.Stipulate stipulation) r = ⊥
  IsRefusalOf held s (edits.Insert steps m) r =
      MatchOption (insert_refusal s steps m) (IsOutside held (asked_at (after (position_at s steps) m)) r) (λ fault. r ≡ fault)
  IsRefusalOf held s (edits.Delete steps) r = MatchOption (delete_refusal s steps) ⊥ (λ fault. r ≡ fault)
  IsRefusalOf held s (edits.Promote steps) r = MatchOption (promote_refusal s steps) ⊥ (λ fault. r ≡ fault)
  IsRefusalOf held s (edits.Tag name text) r = MatchOption (tag_refusal text.bytes) ⊥ (λ fault. r ≡ fault)

  -- the edit of this study has no reason to be refused, and a table of each position that it probes is loaded
  pub record IsAccepted (held : Class → Bool) (s : PlainStudy) (e : Edit A) : Type 0 where
    pub allowed : edit_refusal s e ≡ None
    pub found : AllHeld held (questions_of s e)

  abbrev pub AreAccepted : (Class → Bool) → PlainStudy → List (Edit A) → Type 0
  AreAccepted held s [] = Unit {0}
  AreAccepted held s (e ∷ es) = IsAccepted held s e × AreAccepted held (edited s e) es

  -- the count of labels after an edit of this study: a new position resets it
  abbrev pub labels_after : PlainStudy → Edit A → ℕ → ℕ
  labels_after s (edits.Position start) n = 1
  labels_after s (edits.Shift start) n = counted_up_by (size_of s.tree) n
  labels_after s (edits.Stipulate stipulation) n = counted_up_by (size_of s.tree) n
  labels_after s (edits.Insert steps m) n = counted_up_by (length steps + 2) n
  labels_after s (edits.Delete steps) n = counted_up_by (length steps) n
  labels_after s (edits.Promote steps) n = counted_up_by (length steps) n
  labels_after s (edits.Tag name text) n = n

  abbrev pub labels_by : PlainStudy → List (Edit A) → ℕ → ℕ
  labels_by s [] n = n
  labels_by s (e ∷ es) n = labels_by (edited s e) es (labels_after s e n)

  -- The evaluations of the nodes after an edit, right or not: nodes that stay keep their evaluation. A new position and a shift evaluate all nodes
  -- anew, and an insertion evaluates its node.
  abbrev pub IsKeptAfter : Plain Evaluation → Edit A → Plain Evaluation → Type 0
  IsKeptAfter old (edits.Position start) new = Unit {0}
  IsKeptAfter old (edits.Shift start) new = Unit {0}
  IsKeptAfter old (edits.Stipulate stipulation) new = new ≡ old
  IsKeptAfter old (edits.Insert steps m) new = (evaluated : Evaluation) × (new ≡ with_child old steps m evaluated)
  IsKeptAfter old (edits.Delete steps) new = new ≡ without old steps
  IsKeptAfter old (edits.Promote steps) new = new ≡ moved_up old steps
  IsKeptAfter old (edits.Tag name text) new = new ≡ old

  abbrev pub AreKeptAfter : Plain Evaluation → List (Edit A) → Plain Evaluation → Type 0
  AreKeptAfter old [] new = new ≡ old
  AreKeptAfter old (e ∷ es) new = (mid : Plain Evaluation) × IsKeptAfter old e mid × AreKeptAfter mid es new

  -- after n of the edits, the next is refused with r
  abbrev pub IsStopped : (Class → Bool) → PlainStudy → List (Edit A) → ℕ → Refusal A → Type 0
  IsStopped held s [] n r = ⊥
  IsStopped held s (e ∷ es) zero r = IsRefusalOf held s e r
  IsStopped held s (e ∷ es) (suc n) r = IsStopped held (edited s e) es n r

  -- the number of probes: all of each accepted edit, and those of the refused edit up to one that could not be read
  abbrev pub asked_after_edits : PlainStudy → List (Edit A) → ℕ → ℕ
  asked_after_edits s [] n = n
  asked_after_edits s (e ∷ es) n = asked_after_edits (edited s e) es (counted_up_by (length (questions_of s e)) n)

  abbrev pub HasAskedUpTo : PlainStudy → List (Edit A) → ℕ → Refusal A → ℕ → ℕ → Type 0
  HasAskedUpTo s [] n r old new = ⊥
  HasAskedUpTo s (e ∷ es) zero r old new = HasStopped (is_of_tables r) (length (questions_of s e)) old new
  HasAskedUpTo s (e ∷ es) (suc n) r old new = HasAskedUpTo (edited s e) es n r (counted_up_by (length (questions_of s e)) old) new

  abbrev pub HasAskedBy : PlainStudy → List (Edit A) → Result (Unit {0}) (Stopped A) → ℕ → ℕ → Type 0
  HasAskedBy s es (Ok x) old new = new ≡ asked_after_edits s es old
  HasAskedBy s es (Err stop) old new = HasAskedUpTo s es stop.done stop.refusal old new

  -- the count of failures rises exactly if the refusal is a device's
  abbrev pub failures_stopped : Result (Unit {0}) (Stopped A) → ℕ → ℕ
  failures_stopped (Ok x) old = old
  failures_stopped (Err s) old = if is_of_device s.refusal then next_count old else old

  -- after n of the edits, the next is refused with the fault of the first value that could not be read, of the values in their state then
  abbrev pub StopsAtFault : {V : Type 0} → ValueSource V → V → PlainStudy → List (Edit A)
      → ℕ → V → Refusal A → Type 0
  StopsAtFault source mid s [] n new r = ⊥
  StopsAtFault source mid s (e ∷ es) zero new r = TellsFirstFault source mid (questions_of s e) new r
  StopsAtFault source mid s (e ∷ es) (suc n) new r = StopsAtFault source mid (edited s e) es n new r

  -- the values of the accepted edits were probed, then those of the refused one, up to the first that could not be read
  pub record TellsStop {V : Type 0} (source : ValueSource V) (old new : V) (s : PlainStudy)
      (es : List (Edit A)) (stop : Stopped A) : Type 0 where
    pub mid : V
    pub asked : source.asked_of mid ≡ asked_after_edits s (take stop.done es) (source.asked_of old)
    pub fails_as_before : (c : Class) (f : SourceFault) → source.may_fail mid c f → source.may_fail old c f
    pub first : StopsAtFault source mid s es stop.done new stop.refusal

  -- Not part of any public contract: the effect of one edit of a bench, with the values before and after.
  pub record IsApplied {V : Type 0} (source : ValueSource V) (values values_now : V) (old new : BenchState) (e : Edit A)
      (r : Result (Unit {0}) (Refusal A)) : Type 0 where
    pub refusal : IfErr r (IsRefusalOf (source.held values) (plain_study (marked_study old)) e)
    pub accepted : OnOk r (IsAccepted (source.held values) (plain_study (marked_study old)) e)
    pub edit : OnOk r (plain_study (marked_study new) ≡ edited (plain_study (marked_study old)) e)
    pub right : source.is_honest values → IsKeptRight old → OnOk r (IsKeptRight new)
    pub kept : OnOk r (IsKeptAfter (evaluation_tree old.study.tree) e (evaluation_tree new.study.tree))
    pub labels : OnOk r (new.relabelled ≡ labels_after (plain_study (marked_study old)) e old.relabelled)
    pub counts : HasAsked (length (questions_of (plain_study (marked_study old)) e)) r (source.asked_of values) (source.asked_of values_now)
    pub failures : source.failed_of values_now ≡ failures_after r (source.failed_of values)
    pub stays : source.is_honest values → source.is_honest values_now
    pub tables : (c : Class) → source.held values_now c ≡ source.held values c
    pub same : OnErr r (new ≡ old)
