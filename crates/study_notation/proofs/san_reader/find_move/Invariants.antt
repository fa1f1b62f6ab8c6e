use Rattle.std.proofs.Common.{◌≡◌, take}
use Rattle.std.specs.List.{filter}
use Rattle.std.specs.Option.{option_to_list}
use Rattle.study_notation.specs.Matching.{matches}
use Rattle.study_notation.proofs.san_reader.find_move.Given as goal

abbrev pub invariant-loop-m : goal.invariant-loop-m
invariant-loop-m l = filter (matches l.p l.san) (take l.m-index l.moves) ≡ option_to_list l.found
