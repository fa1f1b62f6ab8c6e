-- Positions along a path.
use Rattle.std.proofs.Common.{◌≡◌, ℕ, List, [], ◌∷◌, ◌++◌, Some, refl, sym, ap, ◌∙◌}
use Rattle.study_board.specs.Position.{Position}
use Rattle.study_moves.specs.declared.moves.Move.{Move}
use Rattle.study_moves.specs.Rules.{after}
use Rattle.study_tree.specs.Tree.{spot_at}
use Rattle.study_marks.specs.Study.{Study, moves_to, position_after, position_at, IsPlayable}
use Rattle.study_marks.specs.Bench.{played_by}
use Rattle.study_marks.proofs.MovesToNode.{both}
use Rattle.study_facts.specs.Line.{positions_along, line_to}

along-last : (p : Position) (ms : List Move) (m : Move)
    → positions_along p (ms ++ m ∷ []) ≡ positions_along p ms ++ after (position_after p ms) m ∷ []
along-last p [] m = refl
along-last p (n ∷ ms) m = ap (λ (l : List Position). p ∷ l) (along-last (after p n) ms m)

-- the line continues by one position
pub line-last : {L : Type 0} (s : Study L) (steps front : List ℕ) (k : ℕ) (m : Move) (before next : Position) (mid new : List Position)
    → steps ≡ front ++ k ∷ [] → played_by (spot_at s.tree steps) ≡ Some m → IsPlayable s.start.position s.tree.below
    → before ≡ position_at s front → next ≡ after before m → mid ≡ line_to s front → new ≡ mid ++ next ∷ [] → new ≡ line_to s steps
line-last s steps front k m before next mid new path e h b n l t =
    t ∙ ap (λ (xs : List Position). xs ++ next ∷ []) l
    ∙ ap (λ x. line_to s front ++ x ∷ []) (n ∙ ap (λ q. after q m) b)
    ∙ sym (along-last s.start.position (moves_to s.tree.below front) m)
    ∙ ap (positions_along s.start.position) (sym (both s.start.position s.tree steps front k m path e h).0)
