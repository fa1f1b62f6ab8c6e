-- The text of a view that a writer accepts, starting empty.
use Rattle.std.proofs.Common.{◌≡◌, ℕ, List, [], ◌++◌, ap, subst, ◌∙◌, sym}
use Rattle.study_marks.specs.Edits.{PlainStudy}
use Rattle.study_view.specs.View.{IsViewOf}

pub view-taken : (plain : PlainStudy) (path at old new : List ℕ) → at ≡ path → old ≡ []
    → ((text : List ℕ) × IsViewOf plain at text × (new ≡ old ++ text)) → IsViewOf plain path new
view-taken plain path at old new same empty taken =
    subst (λ (t : List ℕ). IsViewOf plain path t) (sym (taken.2 ∙ ap (λ (o : List ℕ). o ++ taken.0) empty))
    (subst (λ (p : List ℕ). IsViewOf plain p taken.0) same taken.1)
