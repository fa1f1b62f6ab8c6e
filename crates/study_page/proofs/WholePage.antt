-- The parts of a page over all nodes.
use Rattle.std.proofs.Common.{◌≡◌, ℕ, List, [], ◌∷◌, ◌++◌, ap, subst, ◌∙◌, sym}
use Rattle.study_marks.specs.declared.mark.Mark.{Mark}
use Rattle.study_marks.specs.Study.{Study}
use Rattle.study_facts.specs.Made.{Grew}
use Rattle.study_facts.specs.Order.{LinesOfEach, written_order}
use Rattle.study_facts.specs.Walk.{AddsEach}
use Rattle.study_page.specs.Page.{AreRows}

pub all-rows : (Rows : Study Mark → List ℕ → List ℕ → Type 0) (s : Study Mark) (old new : List ℕ) → old ≡ []
    → Grew (LinesOfEach (Rows s) (written_order s)) old new → AreRows Rows s new
all-rows Rows s old new e g =
    subst (λ (t : List ℕ). LinesOfEach (Rows s) (written_order s) t) (sym (g.2 ∙ ap (λ (t : List ℕ). t ++ g.0) e)) g.1

pub from-nothing : (old new text : List ℕ) → old ≡ [] → new ≡ old ++ text → new ≡ text
from-nothing old new text e h = h ∙ ap (λ (u : List ℕ). u ++ text) e

-- what a walk adds, if what that depends on stays as it is
pub kept-each : {T K : Type 0} (P : K → List ℕ → T → T → Type 0) (k : T → K) (paths : List (List ℕ)) (old new : T)
    → AddsEach (λ path a b. P (k a) path a b × (k b ≡ k a)) paths old new → AddsEach (P (k old)) paths old new
kept-each P k [] old new h = h
kept-each P k (path ∷ paths) old new h =
    (h.0, h.1.0, subst (λ x. AddsEach (P x) paths h.0 new) h.1.1 (kept-each P k paths h.0 new h.2))
