-- Not part of any public contract: what some of the moves in a list lead to, which of them alone holds, the other half of a zugzwang, and a row that is added.
use Rattle.std.specs.Prelude.{◌≡◌, ℕ, Bool, true, false, ◌⊎◌, List, [], ◌∷◌, ◌++◌}
use Rattle.study_board.specs.Position.{Position}
use Rattle.study_moves.specs.declared.moves.Move.{Move}
use Rattle.study_moves.specs.Rules.{after}
use Rattle.study_moves.specs.EnPassant.{has_legal_en_passant}
use Rattle.study_zugzwang.specs.Zugzwang.{handed_on, EitherCanMove, ScoresLessThan}
use Rattle.study_search.specs.declared.only_moves.Outcome.{Outcome}
use Rattle.study_search.specs.OnlyMoves.{Holds, HasOnlyMoves}
use Rattle.study_search.specs.Rows.{IsRow}

-- some of these moves of q leads to such a position
abbrev pub SomeLeads : (Position → Type 0) → Position → List Move → Type 0
SomeLeads P q [] = ⊥
SomeLeads P q (m ∷ ms) = P (after q m) ⊎ SomeLeads P q ms

-- of these moves of p exactly m holds
abbrev pub IsOnlyAmong : Outcome → Position → Move → List Move → Type 0
IsOnlyAmong o p m [] = ⊥
IsOnlyAmong o p m (k ∷ ks) =
    ((k ≡ m) × Holds o (after p k) × ¬ (SomeLeads (Holds o) p ks)) ⊎ (¬ (Holds o (after p k)) × IsOnlyAmong o p m ks)

-- no capture in passing is legal, either side has a legal move, and with the other side to move that side scores less than so many half points
abbrev pub OtherScoresLess : Position → ℕ → Type 0
OtherScoresLess p limit = (has_legal_en_passant p ≡ false) × EitherCanMove p × ScoresLessThan (handed_on p) limit

-- a row is added, or there is none
abbrev pub AddsRow : Outcome → ℕ → Position → List Move → List Move → Bool → Type 0
AddsRow o n p old new true = (row : List Move) × IsRow o n p row × (new ≡ old ++ row)
AddsRow o n p old new false = ¬ (HasOnlyMoves o n p)
