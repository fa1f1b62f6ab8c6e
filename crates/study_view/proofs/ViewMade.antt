-- The parts of a view, one after the other.
use Rattle.std.proofs.Common.{◌≡◌, ℕ, ◌++◌, List, true, length, ap, subst, ◌∙◌, IsTrue}
use Rattle.std.specs.List.{flat_map}
use Rattle.study_board.specs.Position.{Position}
use Rattle.study_moves.specs.LegalList.{legal_list}
use Rattle.study_notation.specs.declared.start.Start.{Start}
use Rattle.study_values.specs.declared.value.Value.{Value}
use Rattle.study_tree.specs.Tree.{has_spot}
use Rattle.study_marks.specs.declared.mark.Mark.{Mark}
use Rattle.study_marks.specs.declared.mark_rules.Aim.{Aim}
use Rattle.study_marks.specs.Goals.{aim_of}
use Rattle.study_marks.specs.Study.{Study, position_at}
use Rattle.study_facts.specs.declared.continuation.EvaluatedMove.{EvaluatedMove}
use Rattle.study_facts.specs.Continuations.{AreChosen, positions_after}
use Rattle.study_facts.specs.Nodes.{value_at}
use Rattle.study_facts.specs.Order.{LinesOfEach, written_order}
use Rattle.study_facts.specs.Zugzwang.{ZugzwangLines}
use Rattle.study_head.specs.declared.solution.SolutionFacts.{SolutionFacts}
use Rattle.study_head.specs.Solution.{AreSolutionFacts}
use Rattle.study_view.specs.Marking.{holding_count, line_of_move}
use Rattle.study_view.specs.View.{start_to, node_line, head_lines, IsView, asked_at}
use Rattle.study_view.specs.Words.{at_line}
use Rattle.study_view.proofs.MovesReported.{moves-evaluated}
use Rattle.study_view.proofs.StartsAt.{position-of}

pub asked-is : {L : Type 0} (s : Study L) (path : List ℕ) (here : Start) → here ≡ start_to s path
    → positions_after here.position (legal_list here.position) ≡ asked_at s path
asked-is s path here e = ap (λ p. positions_after p (legal_list p)) (position-of s path here e)

pub view-is : (s : Study Mark) (path : List ℕ) (here : Start) (a : Aim) (d : ℕ) (before : Value) (list : List EvaluatedMove)
    (nodes zugzwangs : List ℕ) (facts : SolutionFacts) (text : List ℕ) → IsTrue (has_spot s.tree path)
    → here ≡ start_to s path → a ≡ aim_of s → d ≡ length path → before ≡ value_at s path
    → AreChosen (λ v. true) here.position (legal_list here.position) list
    → nodes ≡ flat_map (node_line s) (written_order s) → LinesOfEach (ZugzwangLines s) (written_order s) zugzwangs → AreSolutionFacts s facts
    → text ≡ head_lines s facts ++ (nodes ++ (at_line path here.position
    ++ (flat_map (line_of_move a d here before (holding_count a d list)) list ++ zugzwangs)))
    → IsView s path text
view-is s path here a d before list nodes zugzwangs facts text found e ea ed ev chosen en zs fs h =
    let p : here.position ≡ position_at s path = position-of s path here e in
    let lines = flat_map (line_of_move a d here before (holding_count a d list)) list in (
      lines,
      zugzwangs,
      facts,
      found,
      moves-evaluated s path a d here before list ea ed e ev (subst (λ (q : Position). AreChosen (λ v. true) q (legal_list q) list) p chosen),
      zs,
      fs,
      h ∙ ap (λ (t : List ℕ). head_lines s facts ++ (t ++ (at_line path here.position ++ (lines ++ zugzwangs)))) en
          ∙ ap (λ q. head_lines s facts ++ (flat_map (node_line s) (written_order s) ++ (at_line path q ++ (lines ++ zugzwangs)))) p,
    )
