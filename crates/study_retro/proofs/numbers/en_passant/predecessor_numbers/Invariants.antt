use Rattle.std.proofs.Common.{ℕ, ◌+◌, ◌≤◌, length, take, Contains}
use Rattle.study_moves.specs.declared.moves.Move.{Move}
use Rattle.study_retro.specs.Predecessors.{IsNumberBefore, ComesBefore}
use Rattle.study_retro.proofs.numbers.en_passant.predecessor_numbers.Given as goal

abbrev pub invariant-loop-by : goal.invariant-loop-by
invariant-loop-by l = record {
  few : length l.list.items ≤ l.by-index + l.by-index;
  all : (m : Move) → Contains (take l.by-index l.by-items) m → (n : ℕ) → IsNumberBefore l.class l.at l.number m n → Contains l.list.items n;
  only : (n : ℕ) → Contains l.list.items n → ComesBefore l.class l.at l.number n;
}
