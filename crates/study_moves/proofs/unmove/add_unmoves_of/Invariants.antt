use Rattle.std.proofs.Common.{ℕ, length}
use Rattle.study_moves.proofs.LastMoves.{IsGathering}
use Rattle.study_moves.proofs.unmove.add_unmoves_of.Given as goal

abbrev pub invariant-loop-origin : goal.invariant-loop-origin
invariant-loop-origin l = (next : ℕ)
    × IsGathering l.man l.initial.origin-iterator l.origin-iterator next (length l.list.items) (length l.initial.list.items) l.initial.list.items l.list.items
