-- A list of edits, one after the other.
use Rattle.std.proofs.Common.{◌≡◌, ℕ, ◌+◌, ◌<◌, ◌⊎◌, List, [], ◌∷◌, ◌++◌, length, take, get_or, Bool}
use Rattle.std.proofs.Common.{Option, Some, None, zero, suc, refl, sym, ap, ◌∙◌, subst, arith}
use Rattle.std.specs.Prelude.{MatchOption, Ok, Err}
use Rattle.study_board.specs.Position.{Position}
use Rattle.study_material.specs.declared.class.Class.{Class}
use Rattle.study_moves.specs.Rules.{after}
use Rattle.study_marks.specs.declared.refusal.Refusal.{Refusal}
use Rattle.study_marks.specs.declared.refusal.Refusal.TheVariants.{NoSuchNode, RootNotAllowed, AlreadyFirst, IllegalMove}
use Rattle.study_marks.specs.declared.refusal.Refusal.TheVariants.{AlreadyThere, TooDeep, TreeFull, ShiftBroken, TagText}
use Rattle.study_marks.specs.declared.refusal.Refusal.TheVariants.{OutOfMemory, NoTable, TableRead}
use Rattle.study_marks.specs.declared.edit.Edit.{Edit}
use Rattle.study_marks.specs.declared.edit.Edit.TheVariants as edits
use Rattle.study_marks.specs.Study.{plain_study, position_at}
use Rattle.study_marks.specs.Queries.{asked_at, positions_asked, IsOutside, HasStopped, is_of_tables, counted_up_by}
use Rattle.study_marks.specs.Edits.{PlainStudy, with_start, edited, edited_by, insert_refusal, shift_refusal}
use Rattle.study_values.specs.Values.{ValueSource}
use Rattle.study_marks.specs.Answers.{TellsFirstFault}
use Rattle.study_marks.specs.EditLists.{StopsAtFault}
use Rattle.study_tree.specs.Tree.{Plain}
use Rattle.study_marks.specs.declared.node_label.Evaluation.{Evaluation}
use Rattle.study_marks.specs.BenchState.{BenchState, marked_study, evaluation_tree, IsKeptRight}
use Rattle.study_marks.specs.EditLists.{questions_of, IsKeptAfter, AreKeptAfter, IsRefusalOf, IsAccepted, AreAccepted, labels_after, labels_by}
use Rattle.study_marks.specs.EditLists.{IsStopped, asked_after_edits, HasAskedUpTo, IsApplied}
use Rattle.study_marks.proofs.ValuesAsked.{missing-same, unread-same}
use Rattle.study_marks.proofs.PositionsListed.{AreTablesHeld-same, take-one}

-- tables that are loaded in one state are loaded in another
outside-same : {A : Type 0} (held now : Class → Bool) (ps : List Position) (r : Refusal A)
    → ((c : Class) → now c ≡ held c) → IsOutside now ps r → IsOutside held ps r
outside-same held now ps OutOfMemory same h = h
outside-same held now ps (NoTable c) same h = missing-same held now ps c same h
outside-same held now ps (TableRead f) same h = unread-same held now ps f same h
outside-same held now ps NoSuchNode same h = h
outside-same held now ps RootNotAllowed same h = h
outside-same held now ps AlreadyFirst same h = h
outside-same held now ps IllegalMove same h = h
outside-same held now ps (AlreadyThere k) same h = h
outside-same held now ps TooDeep same h = h
outside-same held now ps TreeFull same h = h
outside-same held now ps (ShiftBroken steps) same h = h
outside-same held now ps TagText same h = h

match-same : {A : Type 0} (held now : Class → Bool) (ps : List Position) (r : Refusal A) (o : Option (Refusal A))
    (Q : Refusal A → Type 0) → ((c : Class) → now c ≡ held c) → MatchOption o (IsOutside now ps r) Q
    → MatchOption o (IsOutside held ps r) Q
match-same held now ps r None Q same h = outside-same held now ps r same h
match-same held now ps r (Some x) Q same h = h

refusal-same : {A : Type 0} (held now : Class → Bool) (s : PlainStudy) (e : Edit A) (r : Refusal A)
    → ((c : Class) → now c ≡ held c) → IsRefusalOf now s e r → IsRefusalOf held s e r
refusal-same held now s (edits.Position start) r same h = (outside-same held now (asked_at start.position) r same h.0, h.1)
refusal-same held now s (edits.Shift start) r same h =
    match-same held now (positions_asked (with_start s start)) r (shift_refusal s start) (λ fault. (r ≡ fault)
    ⊎ (r ≡ OutOfMemory)) same h
refusal-same held now s (edits.Stipulate stipulation) r same h = h
refusal-same held now s (edits.Insert steps m) r same h =
    match-same held now (asked_at (after (position_at s steps) m)) r (insert_refusal s steps m) (λ fault. r ≡ fault)
    same h
refusal-same held now s (edits.Delete steps) r same h = h
refusal-same held now s (edits.Promote steps) r same h = h
refusal-same held now s (edits.Tag name text) r same h = h

accepted-same : {A : Type 0} (held now : Class → Bool) (s : PlainStudy) (e : Edit A) → ((c : Class) → now c ≡ held c) → IsAccepted now s e → IsAccepted held s e
accepted-same held now s e same h = record { allowed = h.allowed; found = record { each = AreTablesHeld-same held now (questions_of s e) same h.found.each } }

-- one more edit
module _ {A : Type 0} where
  edited-more : (s : PlainStudy) (es : List (Edit A)) (e : Edit A) → edited_by s (es ++ e ∷ []) ≡ edited (edited_by s es) e
  edited-more s [] e = refl
  edited-more s (x ∷ es) e = edited-more (edited s x) es e

  accepted-more : (held : Class → Bool) (s : PlainStudy) (es : List (Edit A)) (e : Edit A) → AreAccepted held s es
      → IsAccepted held (edited_by s es) e → AreAccepted held s (es ++ e ∷ [])
  accepted-more held s [] e h k = (k, tt)
  accepted-more held s (x ∷ es) e h k = (h.0, accepted-more held (edited s x) es e h.1 k)

  labels-more : (s : PlainStudy) (es : List (Edit A)) (e : Edit A) (n : ℕ) → labels_by s (es ++ e ∷ []) n ≡ labels_after (edited_by s es) e (labels_by s es n)
  labels-more s [] e n = refl
  labels-more s (x ∷ es) e n = labels-more (edited s x) es e (labels_after s x n)

  asked-more : (s : PlainStudy) (es : List (Edit A)) (e : Edit A) (n : ℕ)
      → asked_after_edits s (es ++ e ∷ []) n ≡ counted_up_by (length (questions_of (edited_by s es) e)) (asked_after_edits s es n)
  asked-more s [] e n = refl
  asked-more s (x ∷ es) e n = asked-more (edited s x) es e (counted_up_by (length (questions_of s x)) n)

  kept-more : (t : Plain Evaluation) (es : List (Edit A)) (e : Edit A) (u v : Plain Evaluation) → AreKeptAfter t es u → IsKeptAfter u e v
      → AreKeptAfter t (es ++ e ∷ []) v
  kept-more t [] e u v h k = (v, subst (λ x. IsKeptAfter x e v) h k, refl)
  kept-more t (x ∷ es) e u v h k = (h.0, h.1, kept-more h.0 es e u v h.2 k)

  stopped-at : (held : Class → Bool) (s : PlainStudy) (es : List (Edit A)) (i : ℕ) (e : Edit A) (r : Refusal A)
      → i < length es → e ≡ get_or es i e → IsRefusalOf held (edited_by s (take i es)) e r → IsStopped held s es i r
  stopped-at held s [] i e r short is h = absurd (omega (arith, short))
  stopped-at held s (x ∷ es) zero e r short is h = subst (λ y. IsRefusalOf held s y r) is h
  stopped-at held s (x ∷ es) (suc i) e r short is h = stopped-at held (edited s x) es i e r (omega (arith, short)) is h

  asked-at : (s : PlainStudy) (es : List (Edit A)) (i : ℕ) (e : Edit A) (r : Refusal A) (old new : ℕ) → i < length es → e ≡ get_or es i e
      → HasStopped (is_of_tables r) (length (questions_of (edited_by s (take i es)) e)) (asked_after_edits s (take i es) old) new
      → HasAskedUpTo s es i r old new
  asked-at s [] i e r old new short is h = absurd (omega (arith, short))
  asked-at s (x ∷ es) zero e r old new short is h = subst (λ y. HasStopped (is_of_tables r) (length (questions_of s y)) old new) is h
  asked-at s (x ∷ es) (suc i) e r old new short is h =
      asked-at (edited s x) es i e r (counted_up_by (length (questions_of s x)) old) new (omega (arith, short)) is h

  pub tells-at : {V : Type 0} (source : ValueSource V) (mid new : V) (s : PlainStudy) (es : List (Edit A))
      (i : ℕ) (e : Edit A) (r : Refusal A) → i < length es → e ≡ get_or es i e
      → TellsFirstFault source mid (questions_of (edited_by s (take i es)) e) new r → StopsAtFault source mid s es i new r
  tells-at source mid new s [] i e r short is h = absurd (omega (arith, short))
  tells-at source mid new s (x ∷ es) zero e r short is h = subst (λ y. TellsFirstFault source mid (questions_of s y) new r)
      is h
  tells-at source mid new s (x ∷ es) (suc i) e r short is h = tells-at source mid new (edited s x) es i e r
      (omega (arith, short)) is h

-- The effect of these edits, all accepted, with the values before and after.
pub record IsRun {A V : Type 0} (source : ValueSource V) (values values_now : V) (old new : BenchState) (es : List (Edit A)) : Type 0 where
  pub accepted : AreAccepted (source.held values) (plain_study (marked_study old)) es
  pub edit : plain_study (marked_study new) ≡ edited_by (plain_study (marked_study old)) es
  pub right : source.is_honest values → IsKeptRight old → IsKeptRight new
  pub kept : AreKeptAfter (evaluation_tree old.study.tree) es (evaluation_tree new.study.tree)
  pub labels : new.relabelled ≡ labels_by (plain_study (marked_study old)) es old.relabelled
  pub counts : source.asked_of values_now ≡ asked_after_edits (plain_study (marked_study old)) es (source.asked_of values)
  pub failures : source.failed_of values_now ≡ source.failed_of values
  pub stays : source.is_honest values → source.is_honest values_now
  pub tables : (c : Class) → source.held values_now c ≡ source.held values c
  pub same : es ≡ [] → new ≡ old

pub run-none : {A V : Type 0} (source : ValueSource V) (values : V) (old : BenchState) → IsRun {A = A} source values values old old []
run-none source values old = record {
  accepted = tt;
  edit = refl;
  right = λ h k. k;
  kept = refl;
  labels = refl;
  counts = refl;
  failures = refl;
  stays = λ h. h;
  tables = λ c. refl;
  same = λ e. refl;
}

module _ {A V : Type 0} (source : ValueSource V) (values values_mid values_now : V) (old between new : BenchState) (xs : List (Edit A)) (i : ℕ)
    (e : Edit A) (h : IsRun source values values_mid old between (take i xs)) (short : i < length xs) (is : e ≡ get_or xs i e) where
  abbrev s : PlainStudy
  s = plain_study (marked_study old)

  abbrev es : List (Edit A)
  es = take i xs

  pub run-next : IsApplied source values_mid values_now between new e (Ok tt) → IsRun source values values_now old new (take (i + 1) xs)
  run-next k = subst (λ ys. IsRun source values values_now old new ys) (sym (take-one xs i e short is)) (record {
    accepted = accepted-more (source.held values) s es e h.accepted (accepted-same (source.held values) (source.held values_mid) (edited_by s es) e
        h.tables (subst (λ x. IsAccepted (source.held values_mid) x e) h.edit k.accepted));
    edit = k.edit ∙ ap (λ x. edited x e) h.edit ∙ sym (edited-more s es e);
    right = λ a b. k.right (h.stays a) (h.right a b);
    kept = kept-more (evaluation_tree old.study.tree) es e (evaluation_tree between.study.tree) (evaluation_tree new.study.tree) h.kept k.kept;
    labels = k.labels ∙ ap (λ x. labels_after x e between.relabelled) h.edit ∙ ap (labels_after (edited_by s es) e)
        h.labels ∙ sym (labels-more s es e old.relabelled);
    counts = k.counts ∙ ap (λ x. counted_up_by (length (questions_of x e)) (source.asked_of values_mid)) h.edit
        ∙ ap (counted_up_by (length (questions_of (edited_by s es) e))) h.counts ∙ sym (asked-more s es e (source.asked_of values));
    failures = k.failures ∙ h.failures;
    stays = λ a. k.stays (h.stays a);
    tables = λ c. k.tables c ∙ h.tables c;
    same = λ none. absurd (some es none);
  })
    where
      some : (ys : List (Edit A)) → ys ++ e ∷ [] ≡ [] → ⊥
      some [] z = let no : e ∷ [] ≡ [] = z in cc
      some (y ∷ ys) z = let no : y ∷ (ys ++ e ∷ []) ≡ [] = z in cc

  module _ (r : Refusal A) (k : IsApplied source values_mid values_now between new e (Err r)) where
    pub run-refusal : IsStopped (source.held values) s xs i r
    run-refusal =
        stopped-at (source.held values) s xs i e r short is (refusal-same (source.held values) (source.held values_mid) (edited_by s es) e r h.tables
        (subst (λ x. IsRefusalOf (source.held values_mid) x e r) h.edit k.refusal))

    pub run-asked : HasAskedUpTo s xs i r (source.asked_of values) (source.asked_of values_now)
    run-asked = asked-at s xs i e r (source.asked_of values) (source.asked_of values_now) short is
        (subst (λ n. HasStopped (is_of_tables r) (length (questions_of (edited_by s es) e)) n (source.asked_of values_now)) h.counts
        (subst (λ x. HasStopped (is_of_tables r) (length (questions_of x e)) (source.asked_of values_mid) (source.asked_of values_now)) h.edit k.counts))
