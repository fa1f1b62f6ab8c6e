use Rattle.study_board.proofs.Bearing.{king_reach, knight_reach, pawn_reach, rook_reach, bishop_reach, queen_reach}
use Rattle.study_board.proofs.square_sets.attacks.Goals as goal

pub returns-in-King : goal.returns-in-King
returns-in-King c x lx = king_reach c.args.men.now c.args.m.now x _ c.in-King.is (c.king_steps.ensures x lx)

pub returns-in-Queen : goal.returns-in-Queen
returns-in-Queen c x lx =
    queen_reach c.args.men.now c.args.m.now x _ _ _ _ _ c.in-Queen.is (c.rook_lines.ensures x lx)
    (c.bishop_lines.ensures x lx) (c.union.ensures x) (c.shadows.ensures x lx) (c.without.ensures x lx)

pub returns-in-Rook : goal.returns-in-Rook
returns-in-Rook c x lx =
    rook_reach c.args.men.now c.args.m.now x _ _ _ c.in-Rook.is (c.rook_lines-in-Rook.ensures x lx)
    (c.shadows-in-Rook.ensures x lx) (c.without-in-Rook.ensures x lx)

pub returns-in-Bishop : goal.returns-in-Bishop
returns-in-Bishop c x lx =
    bishop_reach c.args.men.now c.args.m.now x _ _ _ c.in-Bishop.is (c.bishop_lines-in-Bishop.ensures x lx)
    (c.shadows-in-Bishop.ensures x lx) (c.without-in-Bishop.ensures x lx)

pub returns-in-Knight : goal.returns-in-Knight
returns-in-Knight c x lx = knight_reach c.args.men.now c.args.m.now x _ c.in-Knight.is (c.knight_jumps.ensures x lx)

pub returns-in-Pawn : goal.returns-in-Pawn
returns-in-Pawn c x lx = pawn_reach c.args.men.now c.args.m.now x _ c.in-Pawn.is (c.pawn_captures_of.ensures x lx)
