use Rattle.std.proofs.Common.{◌≡◌, take}
use Rattle.std.specs.Option.{option_to_list}
use Rattle.study_wide_text.proofs.FindMove.{meant_among}
use Rattle.study_wide_text.proofs.san_reader.find_move.Given as goal

abbrev pub invariant-loop-man : goal.invariant-loop-man
invariant-loop-man l = meant_among l.p.board l.san (take l.man-index l.men) ≡ option_to_list l.found
