use Rattle.std.proofs.Common.{◌≡◌, ◌&&◌, take}
use Rattle.std.specs.List.{list_any}
use Rattle.study_board.specs.declared.men.Kind.TheVariants.{King}
use Rattle.study_board.specs.Men.{is_man}
use Rattle.study_board.specs.Sets.{has}
use Rattle.study_retro.proofs.numbers.quiet.has_king_in.Given as goal

abbrev pub invariant-loop-m : goal.invariant-loop-m
invariant-loop-m l = l.found ≡ list_any (λ m. is_man l.side King m && has l.set m.at) (take l.m-index l.men)
