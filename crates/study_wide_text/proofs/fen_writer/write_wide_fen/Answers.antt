use Rattle.std.proofs.Common.{arith}
use Rattle.std.proofs.lemmas.Grind.{common_steps}
use Rattle.study_wide_text.specs.Fen.{wide_fen_text}
use Rattle.study_wide_text.proofs.PlacementLength.{placement_is_short}
use Rattle.study_wide_text.proofs.fen_writer.write_wide_fen.Goals as goal

pub write_placement-requires : goal.write_placement-requires
write_placement-requires c = (omega arith, (omega (arith, placement_is_short), c.new-out.ensures))

pub push_byte-requires : goal.push_byte-requires
push_byte-requires c = (omega arith, (omega arith, omega (arith, placement_is_short)))

pub push_byte-requires-2 : goal.push_byte-requires-2
push_byte-requires-2 c = (omega arith, (omega arith, omega (arith, placement_is_short)))

pub push_byte-requires-3 : goal.push_byte-requires-3
push_byte-requires-3 c = (omega arith, (omega arith, omega (arith, placement_is_short)))

pub push_byte-requires-4 : goal.push_byte-requires-4
push_byte-requires-4 c = (omega arith, (omega arith, omega (arith, placement_is_short)))

pub push_byte-requires-5 : goal.push_byte-requires-5
push_byte-requires-5 c = (omega arith, (omega arith, omega (arith, placement_is_short)))

pub push_byte-requires-6 : goal.push_byte-requires-6
push_byte-requires-6 c = (omega arith, (omega arith, omega (arith, placement_is_short)))

pub push_rights-requires : goal.push_rights-requires
push_rights-requires c = omega (arith, placement_is_short)

pub push_passed-requires : goal.push_passed-requires
push_passed-requires c = (omega arith, omega (arith, placement_is_short))

pub push_number-requires : goal.push_number-requires
push_number-requires c = (omega arith, omega (arith, placement_is_short))

pub push_number-requires-2 : goal.push_number-requires-2
push_number-requires-2 c = (omega arith, omega (arith, placement_is_short))

pub returns : goal.returns
unfolding wide_fen_text
returns c = grind (arith, common_steps)
