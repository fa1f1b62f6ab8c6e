use Rattle.study_board.proofs.TableBits.{rook_has}
use Rattle.study_board.proofs.square_sets.rook_lines.Goals as goal

pub returns : goal.returns
returns c x lx = rw c.of_bits.ensures (rook_has c.args.a c.number.result c.number.ensures.value c.number.ensures.small x lx)
