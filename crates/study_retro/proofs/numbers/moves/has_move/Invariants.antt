use Rattle.std.proofs.Common.{◌≡◌, ℕ, ◌<◌, true, false, take, Contains}
use Rattle.study_board.specs.declared.men.Man.{Man}
use Rattle.study_board.specs.Men.{same_side}
use Rattle.study_moves.specs.AnyOrder.{is_safe_target}
use Rattle.study_retro.proofs.numbers.moves.has_move.Given as goal

abbrev pub invariant-loop-man : goal.invariant-loop-man
invariant-loop-man l = (m : Man) → Contains (take l.man-index l.man-items) m → same_side m.side l.setup.to_move ≡ true → (x : ℕ) → x < 64
    → is_safe_target l.setup.men.items l.setup.to_move m x ≡ false
