use Rattle.std.proofs.Common.{◌≡◌, ◌++◌, ◌≤◌, ◌-◌, [], take, drop, length}
use Rattle.study_tails.specs.Blocks.{blocks_text}
use Rattle.study_tails.proofs.blocks.add_blocks.Given as goal

-- the blocks so far, and those of the tails that are left
abbrev pub invariant-loop-k : goal.invariant-loop-k
invariant-loop-k g l = record {
  within : l.k ≤ length l.paths;
  written : l.out ++ blocks_text l.study l.game (length l.paths) (take l.k l.paths) (drop l.k l.paths)
      ≡ l.fn.out ++ blocks_text l.study l.game (length l.paths) [] l.paths;
}

abbrev pub decreases-loop-k : goal.decreases-loop-k
decreases-loop-k g l = length l.paths - l.k
