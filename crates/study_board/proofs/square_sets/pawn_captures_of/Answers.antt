use Rattle.study_board.proofs.TableBits.{white_has, black_has}
use Rattle.study_board.proofs.square_sets.pawn_captures_of.Goals as goal

pub returns-in-White : goal.returns-in-White
returns-in-White c x lx =
    rw (c.of_bits.ensures, c.in-White.is) (white_has c.args.a c.number.result c.number.ensures.value c.number.ensures.small x lx)

pub returns-in-Black : goal.returns-in-Black
returns-in-Black c x lx =
    rw (c.of_bits-in-Black.ensures, c.in-Black.is)
    (black_has c.args.a c.number-in-Black.result c.number-in-Black.ensures.value c.number-in-Black.ensures.small x lx)
