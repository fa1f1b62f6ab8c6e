use Rattle.std.proofs.Common.{◌≡◌, ℕ, ◌<◌, ◌&&◌, [], take}
use Rattle.std.specs.List.{list_any}
use Rattle.study_board.specs.Men.{attacks_square}
use Rattle.study_board.specs.Sets.{has}
use Rattle.study_retro.specs.Still.{opposing_man, is_relevant_target}
use Rattle.study_retro.proofs.rows.quiet.squares_bearing.Given as goal

abbrev pub invariant-loop-m : goal.invariant-loop-m
invariant-loop-m l = (y : ℕ) → y < 64 → has l.set y ≡ list_any (λ m. is_relevant_target l.last l.to_move m && attacks_square [] (opposing_man l.last m.at) y)
    (take l.m-index l.others)
