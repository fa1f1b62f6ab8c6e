-- A bench with another start: why it is refused.
use Rattle.std.proofs.Common.{◌≡◌, ℕ, ◌++◌, ◌⊎◌, inl, inr, List, [], ◌∷◌, Bool, Some, None, suc, refl, sym, ap, ◌∙◌, subst}
use Rattle.std.specs.Prelude.{if◌then◌else◌, ◌-◌, length, Result, Ok, Err, IfErr, OnOk}
use Rattle.study_board.specs.Position.{Position}
use Rattle.study_material.specs.declared.class.Class.{Class}
use Rattle.study_moves.specs.Rules.{is_legal, after}
use Rattle.study_notation.specs.declared.start.Start.{Start}
use Rattle.study_tree.specs.Forest.{Forest, none, more}
use Rattle.study_tree.specs.Edits.{IsWithin}
use Rattle.study_tree.specs.Tree.{Plain}
use Rattle.study_marks.specs.declared.refusal.Refusal.{Refusal}
use Rattle.study_marks.specs.declared.refusal.Refusal.TheVariants as refusal
use Rattle.study_marks.specs.declared.node_label.NodeLabel.{NodeLabel}
use Rattle.study_marks.specs.declared.mark.Mark.{Mark}
use Rattle.study_marks.specs.Study.{mapped, plain_study, IsPlayable}
use Rattle.study_marks.specs.Queries.{IsOutside}
use Rattle.study_marks.specs.Edits.{first_path, first_illegal_from, broken, shift_refusal}
use Rattle.study_marks.specs.BenchState.{BenchState, marked_study}
use Rattle.study_marks.specs.EditLists.{IsShiftRefusal}
use Rattle.study_marks.proofs.BenchEdits.{bare-marked_study}
use Rattle.study_marks.proofs.FirstIllegalMove.{whole-playable}

broken-mapped : {L M : Type 0} (g : L → M) (k : ℕ) (p : Position) (f : Forest L) → first_illegal_from k p (mapped g f) ≡ first_illegal_from k p f
broken-mapped g k p none = refl
broken-mapped g k p (more m l b r) =
    ap (λ x. if is_legal p m then first_path k x (first_illegal_from (suc k) p (mapped g r)) else Some (k ∷ [])) (broken-mapped g 0 (after p m) b)
    ∙ ap (λ x. if is_legal p m then first_path k (first_illegal_from 0 (after p m) b) x else Some (k ∷ [])) (broken-mapped g (suc k) p r)

-- the first broken move is that of the shown study
pub broken-shown : (b k : BenchState) (p : Position) → b ≡ k
    → first_illegal_from 0 p b.study.tree.below ≡ first_illegal_from 0 p (plain_study (marked_study k)).tree.below
broken-shown b k p same =
    sym (broken-mapped (λ (l : NodeLabel). tt {0}) 0 p b.study.tree.below)
    ∙ ap (λ (t : Plain (Unit {0})). first_illegal_from 0 p t.below) (sym (bare-marked_study b))
    ∙ ap (λ (x : BenchState). first_illegal_from 0 p (plain_study (marked_study x)).tree.below) same

pub broken-marked_study : (k : BenchState) (p : Position) → first_illegal_from 0 p (plain_study (marked_study k)).tree.below
    ≡ first_illegal_from 0 p (marked_study k).tree.below
broken-marked_study k p = broken-mapped (λ (x : Mark). tt {0}) 0 p (marked_study k).tree.below

pub legal-shifted : (b k : BenchState) (p : Position) → b ≡ k
    → first_illegal_from 0 p b.study.tree.below ≡ None → IsPlayable p k.study.tree.below
legal-shifted b k p same h =
    subst (λ (x : BenchState). IsPlayable p x.study.tree.below) same (whole-playable 0 p b.study.tree.below h)

-- the borrowed root shows the tree
pub at-root : {root tree : Plain NodeLabel} (p : Position) → root ≡ tree → first_illegal_from 0 p tree.below ≡ first_illegal_from 0 p root.below
at-root p e = ap (λ (t : Plain NodeLabel). first_illegal_from 0 p t.below) (sym e)

pub within-root : {tree : Plain NodeLabel} (root : Plain NodeLabel) (steps : List ℕ) → steps ≡ [] → root ≡ tree → IsWithin 256 tree.below
    → IsWithin (256 - length steps) root.below
within-root root steps none_yet e h =
    subst (λ (xs : List ℕ). IsWithin (256 - length xs) root.below) (sym none_yet) (subst (λ (t : Plain NodeLabel). IsWithin 256 t.below) (sym e) h)

-- refused for a broken move, and for any other reason
module _ {A : Type 0} (held : Class → Bool) (asked : List Position) (b k : BenchState) (start : Start) (same : b ≡ k) where
  pub shift-broken : (steps path found now : List ℕ) (r : Refusal A) → steps ≡ []
      → first_illegal_from 0 start.position b.study.tree.below ≡ Some path → found ≡ steps ++ path
      → now ≡ found
      → (r ≡ refusal.ShiftBroken now) ⊎ (r ≡ refusal.OutOfMemory) → IsShiftRefusal held asked (shift_refusal (plain_study (marked_study k)) start) r
  shift-broken steps path found now r e h way is answer =
      let at : now ≡ path = is ∙ way ∙ ap (λ x. x ++ path) e in
      let first : shift_refusal {A = A} (plain_study (marked_study k)) start ≡ Some (refusal.ShiftBroken path) =
      ap (broken {A = A}) (sym (broken-shown b k start.position same) ∙ h) in
      subst (λ o. IsShiftRefusal {A = A} held asked o r) (sym first) (elim answer [ inl x ↦ inl (x ∙ ap refusal.ShiftBroken at) | inr x ↦ inr x ])

  pub shift-outside : {T : Type 0} (r : Result T (Refusal A))
      → first_illegal_from 0 start.position b.study.tree.below ≡ None → IfErr r (IsOutside held asked)
      → IfErr r (IsShiftRefusal held asked (shift_refusal (plain_study (marked_study k)) start))
  shift-outside r h o =
      let first : shift_refusal {A = A} (plain_study (marked_study k)) start ≡ None = ap (broken {A = A}) (sym (broken-shown b k start.position same) ∙ h) in
      subst (λ x. IfErr r (IsShiftRefusal {A = A} held asked x)) (sym first) o

pub on-ok : {T E : Type 0} (r : Result T E) (P : Type 0) → P → OnOk r P
on-ok (Ok x) P h = h
on-ok (Err x) P h = tt
