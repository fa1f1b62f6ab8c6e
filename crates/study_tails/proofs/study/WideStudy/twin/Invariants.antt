use Rattle.std.proofs.Common.{◌≡◌, ◌+◌, ◌≤◌, ◌-◌, drop, length}
use Rattle.study_tails.specs.Blocks.{twin_among}
use Rattle.study_tails.proofs.study.WideStudy.twin.Given as goal

-- none so far has the position
abbrev pub invariant-loop-k : goal.invariant-loop-k
invariant-loop-k g l = record {
  within : l.k ≤ length l.earlier;
  later : twin_among l.self l.position (l.k + 1) (drop l.k l.earlier) ≡ twin_among l.self l.position 1 l.earlier;
}

abbrev pub decreases-loop-k : goal.decreases-loop-k
decreases-loop-k g l = length l.earlier - l.k
