-- A study has one view at a path.
use Rattle.std.proofs.Common.{◌≡◌, ℕ, ◌+◌, ◌++◌, List, [], ◌∷◌, Option, Some, sym, ap, ◌∙◌, length}
use Rattle.std.specs.List.{flat_map}
use Rattle.study_board.specs.Position.{Position}
use Rattle.study_moves.specs.declared.moves.Move.{Move}
use Rattle.study_moves.specs.Rules.{after}
use Rattle.study_moves.specs.Laws.{EachHasAtMostOneValue}
use Rattle.study_moves.specs.LegalList.{legal_list}
use Rattle.study_values.specs.declared.value.Value.{Value}
use Rattle.study_tree.specs.Tree.{Spot, spot_at}
use Rattle.study_marks.specs.declared.mark.Mark.{Mark}
use Rattle.study_marks.specs.declared.mark.MoveMark.{MoveMark}
use Rattle.study_marks.specs.declared.mark_rules.Aim.{Aim}
use Rattle.study_marks.specs.Annotated.{IsMoveMark}
use Rattle.study_marks.specs.Goals.{aim_of}
use Rattle.study_marks.specs.Marks.{move_mark}
use Rattle.study_marks.specs.Study.{Study, position_at}
use Rattle.study_marks.proofs.OneAnnotation.{one-value, one-list}
use Rattle.study_marks.proofs.PathRenewed.{spot-there}
use Rattle.study_facts.specs.Order.{written_order}
use Rattle.study_facts.specs.Zugzwang.{ZugzwangLines}
use Rattle.study_facts.proofs.OneFacts.{one-each, zugzwang-once}
use Rattle.study_head.specs.declared.solution.SolutionFacts.{SolutionFacts}
use Rattle.study_head.proofs.OneFacts.{one-facts}
use Rattle.study_view.specs.Words.{at_line, move_line}
use Rattle.study_view.specs.View.{start_to, node_line, head_lines, AreMoveLines, ViewsAreUnique}

pub one-mark : EachHasAtMostOneValue → (a : Aim) (d : ℕ) (p : Position) (v w u : Value) (o q : Option MoveMark) → w ≡ u
    → ((mark : MoveMark) × (o ≡ Some mark) × IsMoveMark a d p v w mark) → ((mark : MoveMark) × (q ≡ Some mark) × IsMoveMark a d p v u mark) → o ≡ q
one-mark law a d p v w u o q e h j =
    let all = one-list law p (legal_list p) h.2.0 j.2.0 h.2.1 j.2.1 in
    h.1 ∙ ap Some (h.2.2 ∙ ap (λ vs. move_mark a d v vs w) all ∙ ap (move_mark a d v j.2.0) e ∙ sym j.2.2) ∙ sym j.1

-- the lines of the moves, with one value and one mark each
lines-once : EachHasAtMostOneValue → (s : Study Mark) (path : List ℕ) (x : Spot Mark) → spot_at s.tree path ≡ Some x → (ms : List Move) (t u : List ℕ)
    → AreMoveLines s path ms t → AreMoveLines s path ms u → t ≡ u
lines-once law s path x e [] t u h j = h ∙ sym j
lines-once law s path x e (m ∷ ms) t u h j =
    let k = h.2 x e in
    let l = j.2 x e in
    let p = position_at s path in
    let value : h.0.value ≡ j.0.value = one-value law (after p m) h.0.value j.0.value k.0 l.0 in
    let mark : h.0.on_move ≡ j.0.on_move =
    one-mark law (aim_of s) (length path) p x.label.value h.0.value j.0.value h.0.on_move j.0.on_move value k.1 l.1 in
    h.4 ∙ ap (λ v. move_line (start_to s path) m v h.0.on_move ++ h.1) value
    ∙ ap (λ o. move_line (start_to s path) m j.0.value o ++ h.1) mark
    ∙ ap (λ (r : List ℕ). move_line (start_to s path) m j.0.value j.0.on_move ++ r) (lines-once law s path x e ms h.1 j.1 h.3 j.3) ∙ sym j.4

pub one-view : EachHasAtMostOneValue → ViewsAreUnique
one-view law s path t u h j =
    let spot = spot-there s.tree path h.3 in
    let p = position_at s path in
    h.7 ∙ ap (λ (f : SolutionFacts). head_lines s f ++ (flat_map (node_line s) (written_order s) ++ (at_line path p ++ (h.0 ++ h.1))))
    (one-facts law s h.2 j.2 h.6 j.6)
    ∙ ap (λ (m : List ℕ). head_lines s j.2 ++ (flat_map (node_line s) (written_order s) ++ (at_line path p ++ (m ++ h.1))))
    (lines-once law s path spot.0 spot.1 (legal_list p) h.0 j.0 h.4 j.4)
    ∙ ap (λ (z : List ℕ). head_lines s j.2 ++ (flat_map (node_line s) (written_order s) ++ (at_line path p ++ (j.0 ++ z))))
    (one-each (ZugzwangLines s) (zugzwang-once law s) (written_order s) h.1 j.1 h.5 j.5) ∙ sym j.7
