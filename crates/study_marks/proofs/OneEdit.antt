-- One edit of a bench, as a value.
use Rattle.std.proofs.Common.{◌≡◌, ℕ, ◌+◌, List, length, true, Option, Some, None, refl, sym, ap, ◌∙◌, subst}
use Rattle.std.specs.Prelude.{if◌then◌else◌, MatchOption, Result, Ok, Err, IfErr, OnOk, OnErr, IsErrAnd}
use Rattle.study_material.specs.declared.class.Class.{Class}
use Rattle.study_moves.specs.declared.moves.Move.{Move}
use Rattle.study_moves.specs.Rules.{after}
use Rattle.study_notation.specs.declared.start.Start.{Start}
use Rattle.study_text.specs.Counts.{next_count}
use Rattle.study_tree.specs.Tree.{size_of, with_child}
use Rattle.study_marks.specs.declared.node_label.Evaluation.{Evaluation}
use Rattle.study_marks.specs.declared.refusal.Refusal.{Refusal}
use Rattle.study_marks.specs.declared.edit.Edit.{Edit}
use Rattle.study_marks.specs.declared.edit.Edit.TheVariants as edits
use Rattle.study_marks.specs.declared.mark.Mark.{Mark}
use Rattle.study_marks.specs.declared.stipulation.Stipulation.{Stipulation}
use Rattle.study_marks.specs.Study.{plain_study, position_at}
use Rattle.study_marks.specs.Queries.{asked_at, positions_asked, AllHeld, IsOutside, HasAsked, HasStopped}
use Rattle.study_marks.specs.Queries.{is_of_tables, is_of_device, counted_up_by, failures_after}
use Rattle.study_marks.specs.Edits.{with_position, with_start, with_stipulation, with_insertion, broken, first_illegal_from, insert_refusal, shift_refusal}
use Rattle.study_marks.specs.BenchState.{BenchState, marked_study, evaluation_tree, IsKeptRight}
use Rattle.study_values.specs.Values.{ValueSource}
use Rattle.study_marks.specs.EditLists.{IsShiftRefusal, IsAccepted, IsApplied}
use Rattle.study_marks.proofs.SameShape.{nodes_in-mapped}
use Rattle.study_marks.proofs.StartShifted.{broken-marked_study}

same-size : (k : BenchState) → size_of (marked_study k).tree ≡ size_of (plain_study (marked_study k)).tree
same-size k = ap (λ n. 1 + n) (sym (nodes_in-mapped (λ (x : Mark). tt {0}) (marked_study k).tree.below))

module _ {A V : Type 0} (source : ValueSource V) (values values_now : V) (old new : BenchState) where
  applied-as : (e same : Edit A) (r : Result (Unit {0}) (Refusal A)) → e ≡ same
      → IsApplied source values values_now old new same r
      → IsApplied source values values_now old new e r
  applied-as e same r is h = subst (λ x. IsApplied source values values_now old new x r) (sym is) h

  -- a move is not inserted
  refused-so : (o : Option (Refusal A)) (P : Type 0) (f : Refusal A) (T : Type 0)
      → MatchOption o P (λ g. (let r : Result T (Refusal A) = Err f in r) ≡ Err g) → MatchOption o P (λ g. f ≡ g)
  refused-so None P f T h = h
  refused-so (Some g) P f T h = let same : (let r : Result T (Refusal A) = Err f in r) ≡ Err g = h in cc

  pub insert-refused : (e : Edit A) (steps : List ℕ) (m : Move) (f : Refusal A) (r : Result (Unit {0}) (Refusal A))
      → e ≡ edits.Insert steps m → IsErrAnd r (λ x. x ≡ f)
      → MatchOption (insert_refusal (plain_study (marked_study old)) steps m)
      (IsOutside (source.held values) (asked_at (after (position_at (marked_study old) steps) m)) f)
      (λ g. (let x : Result ℕ (Refusal A) = Err f in x) ≡ Err g)
      → position_at (marked_study old) steps ≡ position_at (plain_study (marked_study old)) steps
      → HasStopped (is_of_tables f) (length (asked_at (after (position_at (marked_study old) steps) m))) (source.asked_of values) (source.asked_of values_now)
      → source.failed_of values_now ≡ (if is_of_device f then next_count (source.failed_of values) else source.failed_of values)
      → (source.is_honest values → source.is_honest values_now) → ((c : Class) → source.held values_now c ≡ source.held values c) → new ≡ old
      → IsApplied source values values_now old new e r
  insert-refused e steps m f (Ok x) is way refusal place counts failures stays tables same = absurd way
  insert-refused e steps m f (Err x) is way refusal place counts failures stays tables same =
      applied-as e (edits.Insert steps m) (Err x) is
      (subst (λ y. IsApplied source values values_now old new
      (edits.Insert steps m) (Err y)) (sym way) (record {
        refusal =
            subst
            (λ p. MatchOption (insert_refusal (plain_study (marked_study old)) steps m)
            (IsOutside (source.held values) (asked_at (after p m)) f) (λ g. f ≡ g)) place
            (refused-so (insert_refusal (plain_study (marked_study old)) steps m)
            (IsOutside (source.held values) (asked_at (after (position_at (marked_study old) steps) m)) f) f ℕ refusal);
        accepted = tt;
        edit = tt;
        right = λ a b. tt;
        kept = tt;
        labels = tt;
        counts = subst (λ p. HasStopped (is_of_tables f) (length (asked_at (after p m))) (source.asked_of values) (source.asked_of values_now)) place counts;
        failures = failures;
        stays = stays;
        tables = tables;
        same = same;
      }))

  -- it is inserted
  not-refused : (o : Option (Refusal A)) (P : Type 0) (k : ℕ) → MatchOption o P (λ g. (let x : Result ℕ (Refusal A) = Ok k in x) ≡ Err g) → o ≡ None
  not-refused None P k h = refl
  not-refused (Some g) P k h = let no : (let x : Result ℕ (Refusal A) = Ok k in x) ≡ Err g = h in absurd cc

  pub insert-accepted : (e : Edit A) (steps : List ℕ) (m : Move) (k : ℕ) (P : Type 0) → e ≡ edits.Insert steps m
      → MatchOption (insert_refusal (plain_study (marked_study old)) steps m) P (λ g. (let x : Result ℕ (Refusal A) = Ok k in x) ≡ Err g)
      → position_at (marked_study old) steps ≡ position_at (plain_study (marked_study old)) steps
      → AllHeld (source.held values) (asked_at (after (position_at (marked_study old) steps) m))
      → plain_study (marked_study new) ≡ with_insertion (plain_study (marked_study old)) steps m
      → (source.is_honest values → IsKeptRight old → IsKeptRight new)
      → ((evaluated : Evaluation) × (evaluation_tree new.study.tree ≡ with_child (evaluation_tree old.study.tree) steps m evaluated))
      → new.relabelled ≡ counted_up_by (length steps + 2) old.relabelled
      → source.asked_of values_now ≡ counted_up_by (length (asked_at (after (position_at (marked_study old) steps) m))) (source.asked_of values)
      → source.failed_of values_now ≡ source.failed_of values → (source.is_honest values → source.is_honest values_now)
      → ((c : Class) → source.held values_now c ≡ source.held values c)
      → IsApplied source values values_now old new e (Ok tt)
  insert-accepted e steps m k P is refusal place found edit right kept labels counts failures stays tables =
      applied-as e (edits.Insert steps m) (Ok tt) is (record {
        refusal = tt;
        accepted =
            record {
              allowed = not-refused (insert_refusal (plain_study (marked_study old)) steps m) P k refusal;
              found = subst (λ p. AllHeld (source.held values) (asked_at (after p m))) place found;
            };
        edit = edit;
        right = right;
        kept = kept;
        labels = labels;
        counts = subst (λ p. source.asked_of values_now ≡ counted_up_by (length (asked_at (after p m))) (source.asked_of values)) place counts;
        failures = failures;
        stays = stays;
        tables = tables;
        same = tt;
      })

  -- another start
  pub shift-applied : (e : Edit A) (start copied : Start) (r : Result (Unit {0}) (Refusal A)) → e ≡ edits.Shift start → copied ≡ start
      → OnOk r (first_illegal_from 0 copied.position (marked_study old).tree.below ≡ None)
      → IfErr r (IsShiftRefusal (source.held values) (positions_asked (with_start (plain_study (marked_study old)) copied))
      (shift_refusal (plain_study (marked_study old)) copied))
      → OnOk r (AllHeld (source.held values) (positions_asked (with_start (plain_study (marked_study old)) copied)))
      → OnOk r (plain_study (marked_study new) ≡ with_start (plain_study (marked_study old)) copied) → (source.is_honest values → OnOk r (IsKeptRight new))
      → OnOk r (new.relabelled ≡ counted_up_by (size_of (marked_study old).tree) old.relabelled)
      → HasAsked (length (positions_asked (with_start (plain_study (marked_study old)) copied))) r (source.asked_of values) (source.asked_of values_now)
      → source.failed_of values_now ≡ failures_after r (source.failed_of values)
      → (source.is_honest values → source.is_honest values_now) → ((c : Class) → source.held values_now c ≡ source.held values c) → OnErr r (new ≡ old)
      → IsApplied source values values_now old new e r
  shift-applied e start copied r is e2 shift_broken_at refusal found edit right labels counts failures stays tables same =
      applied-as e (edits.Shift copied) r (is ∙ ap edits.Shift (sym e2)) (record {
        refusal = refusal;
        accepted = go r shift_broken_at found;
        edit = edit;
        right = λ h k. right h;
        kept = anew r;
        labels = sized r labels;
        counts = counts;
        failures = failures;
        stays = stays;
        tables = tables;
        same = same;
      })
    where
      go : (r : Result (Unit {0}) (Refusal A))
          → OnOk r (first_illegal_from 0 copied.position (marked_study old).tree.below ≡ None)
          → OnOk r (AllHeld (source.held values) (positions_asked (with_start (plain_study (marked_study old)) copied)))
          → OnOk r (IsAccepted {A = A} (source.held values) (plain_study (marked_study old)) (edits.Shift copied))
      go (Ok x) h k = record { allowed = ap (broken {A = A}) (broken-marked_study old copied.position ∙ h); found = k }
      go (Err x) h k = tt

      anew : (r : Result (Unit {0}) (Refusal A)) → OnOk r (Unit {0})
      anew (Ok x) = tt
      anew (Err x) = tt

      sized : (r : Result (Unit {0}) (Refusal A))
          → OnOk r (new.relabelled ≡ counted_up_by (size_of (marked_study old).tree) old.relabelled)
          → OnOk r (new.relabelled ≡ counted_up_by (size_of (plain_study (marked_study old)).tree) old.relabelled)
      sized (Ok x) h = h ∙ ap (λ n. counted_up_by n old.relabelled) (same-size old)
      sized (Err x) h = tt

  -- a new position, which only its values may refuse
  pub position-applied : (e : Edit A) (start copied : Start) (r : Result (Unit {0}) (Refusal A)) → e ≡ edits.Position start → copied ≡ start
      → IfErr r (IsOutside (source.held values) (asked_at copied.position)) → IfErr r (λ f. is_of_tables f ≡ true)
      → OnOk r (AllHeld (source.held values) (asked_at copied.position))
      → OnOk r (plain_study (marked_study new) ≡ with_position (plain_study (marked_study old)) copied)
      → (source.is_honest values → OnOk r (IsKeptRight new)) → OnOk r (new.relabelled ≡ 1)
      → HasAsked (length (asked_at copied.position)) r (source.asked_of values) (source.asked_of values_now)
      → source.failed_of values_now ≡ failures_after r (source.failed_of values)
      → (source.is_honest values → source.is_honest values_now) → ((c : Class) → source.held values_now c ≡ source.held values c) → OnErr r (new ≡ old)
      → IsApplied source values values_now old new e r
  position-applied e start copied r is e2 refusal of_tables found edit right labels counts failures stays tables same =
      applied-as e (edits.Position copied) r (is ∙ ap edits.Position (sym e2)) (record {
        refusal = both r refusal of_tables;
        accepted = go r found;
        edit = edit;
        right = λ h k. right h;
        kept = anew r;
        labels = labels;
        counts = counts;
        failures = failures;
        stays = stays;
        tables = tables;
        same = same;
      })
    where
      anew : (r : Result (Unit {0}) (Refusal A)) → OnOk r (Unit {0})
      anew (Ok x) = tt
      anew (Err x) = tt

      both : (r : Result (Unit {0}) (Refusal A)) → IfErr r (IsOutside (source.held values) (asked_at copied.position)) → IfErr r (λ f. is_of_tables f ≡ true)
          → IfErr r (λ f. IsOutside (source.held values) (asked_at copied.position) f × (is_of_tables f ≡ true))
      both (Ok x) h k = tt
      both (Err x) h k = (h, k)

      go : (r : Result (Unit {0}) (Refusal A)) → OnOk r (AllHeld (source.held values) (asked_at copied.position))
          → OnOk r (IsAccepted {A = A} (source.held values) (plain_study (marked_study old)) (edits.Position copied))
      go (Ok x) h = record { allowed = refl; found = h }
      go (Err x) h = tt

  -- another stipulation
  pub stipulation-applied : (e : Edit A) (stipulation : Stipulation) → e ≡ edits.Stipulate stipulation
      → plain_study (marked_study new) ≡ with_stipulation (plain_study (marked_study old)) stipulation
      → (IsKeptRight old → IsKeptRight new) → evaluation_tree new.study.tree ≡ evaluation_tree old.study.tree
      → new.relabelled ≡ counted_up_by (size_of (marked_study old).tree) old.relabelled
      → source.asked_of values_now ≡ source.asked_of values → source.failed_of values_now ≡ source.failed_of values
      → (source.is_honest values → source.is_honest values_now)
      → ((c : Class) → source.held values_now c ≡ source.held values c) → IsApplied source values values_now old new e (Ok tt)
  stipulation-applied e stipulation is edit right kept labels counts failures stays tables =
      applied-as e (edits.Stipulate stipulation) (Ok tt) is (record {
        refusal = tt;
        accepted = record { allowed = refl; found = record { each = tt } };
        edit = edit;
        right = λ h k. right k;
        kept = kept;
        labels = labels ∙ ap (λ n. counted_up_by n old.relabelled) (same-size old);
        counts = counts;
        failures = failures;
        stays = stays;
        tables = tables;
        same = tt;
      })
