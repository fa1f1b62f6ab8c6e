-- A study has one review.
use Rattle.std.proofs.Common.{ℕ, List}
use Rattle.std.proofs.Common.{◌++◌, sym, ap, ◌∙◌}
use Rattle.study_moves.specs.Laws.{EachHasAtMostOneValue}
use Rattle.study_facts.specs.Nodes.{NodeLines, FaultLines}
use Rattle.study_review.specs.Review.{study_line, stipulation_line, empty_line, waste_line, ReviewsAreUnique}
use Rattle.study_facts.specs.Order.{written_order}
use Rattle.study_facts.proofs.OneFacts.{one-each, one-time-count, faults-once, node-once}

pub one-review : EachHasAtMostOneValue → ReviewsAreUnique
one-review law s number t u h j =
    h.6 ∙ ap (λ (f : List ℕ). study_line s number ++ (stipulation_line s ++ (empty_line s ++ (f ++ (waste_line s h.2 ++ h.1)))))
    (one-each (FaultLines s) (faults-once law s) (written_order s) h.0 j.0 h.3 j.3)
    ∙ ap (λ t. study_line s number ++ (stipulation_line s ++ (empty_line s ++ (j.0 ++ (waste_line s t ++ h.1)))))
    (one-time-count law s h.2 j.2 h.5 j.5)
    ∙ ap (λ (n : List ℕ). study_line s number ++ (stipulation_line s ++ (empty_line s ++ (j.0 ++ (waste_line s j.2 ++ n)))))
    (one-each (NodeLines s) (node-once law s) (written_order s) h.1 j.1 h.4 j.4) ∙ sym j.6
