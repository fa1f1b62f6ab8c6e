-- Lines of nodes, one after the other.
use Rattle.std.proofs.Common.{◌≡◌, ℕ, List, [], ◌∷◌, ◌++◌, Option, refl, sym, ap, subst, ◌∙◌}
use Rattle.std.specs.List.{flat_map}
use Rattle.study_marks.specs.declared.mark.Mark.{Mark}
use Rattle.study_marks.specs.FaultSums.{below_at}
use Rattle.study_marks.specs.Study.{Study, position_at}
use Rattle.study_board.specs.Position.{Position}
use Rattle.study_facts.specs.declared.zugzwang.Zugzwang.{Zugzwang}
use Rattle.study_facts.specs.Zugzwang.{IsZugzwangOf, zugzwang_line, ZugzwangLines}
use Rattle.study_facts.specs.Made.{Grew}
use Rattle.study_facts.specs.Order.{paths_from, LinesOfEach, written_order}
use Rattle.study_view.specs.Nodes.{IsNodeLine}
use Rattle.study_view.specs.View.{node_line}

each-line : (s : Study Mark) (paths : List (List ℕ)) (text : List ℕ) → LinesOfEach (IsNodeLine s) paths text → text ≡ flat_map (node_line s) paths
each-line s [] text h = h
each-line s (x ∷ xs) text h =
    h.4 ∙ ap (λ (t : List ℕ). t ++ h.1) h.2 ∙ ap (λ (t : List ℕ). node_line s x ++ t) (each-line s xs h.1 h.3)

-- the text has the lines of all nodes
pub all-lines : (s : Study Mark) (p old new : List ℕ) → p ≡ []
    → Grew (LinesOfEach (IsNodeLine s) (p ∷ paths_from p 0 (below_at s.tree.below p))) old new
    → new ≡ old ++ flat_map (node_line s) (written_order s)
all-lines s p old new e h =
    let lines : LinesOfEach (IsNodeLine s) (written_order s) h.0 =
    subst (λ (x : List ℕ). LinesOfEach (IsNodeLine s) (x ∷ paths_from x 0 (below_at s.tree.below x)) h.0) e h.1 in
    h.2 ∙ ap (λ (t : List ℕ). old ++ t) (each-line s (written_order s) h.0 lines)

-- the lines of all mutual zugzwangs
pub all-zugzwangs : (s : Study Mark) (p old new : List ℕ) → p ≡ [] → old ≡ []
    → Grew (LinesOfEach (ZugzwangLines s) (p ∷ paths_from p 0 (below_at s.tree.below p))) old new
    → LinesOfEach (ZugzwangLines s) (written_order s) new
all-zugzwangs s p old new e none h =
    let lines : LinesOfEach (ZugzwangLines s) (written_order s) h.0 =
    subst (λ (x : List ℕ). LinesOfEach (ZugzwangLines s) (x ∷ paths_from x 0 (below_at s.tree.below x)) h.0) e h.1 in
    subst (λ (t : List ℕ). LinesOfEach (ZugzwangLines s) (written_order s) t) (sym (h.2 ∙ ap (λ (t : List ℕ). t ++ h.0) none)) lines

-- the line of a mutual zugzwang at the node of the path
pub zugzwang-grew : (s : Study Mark) (steps : List ℕ) (p : Position) (old new : List ℕ) → p ≡ position_at s steps
    → ((z : Option Zugzwang) × IsZugzwangOf p z × (new ≡ old ++ zugzwang_line steps z)) → Grew (ZugzwangLines s steps) old new
zugzwang-grew s steps p old new e h =
    (zugzwang_line steps h.0, (h.0, subst (λ (q : Position). IsZugzwangOf q h.0) e h.1, refl), h.2)

-- by its own line
pub own-grew : (s : Study Mark) (p steps old new : List ℕ) → p ≡ steps → new ≡ old ++ node_line s p → Grew (IsNodeLine s steps) old new
own-grew s p steps old new e h = (node_line s steps, refl, h ∙ ap (λ (q : List ℕ). old ++ node_line s q) e)
