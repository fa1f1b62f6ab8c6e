use Rattle.study_tails.proofs.BlocksWritten.{counted}
use Rattle.study_tails.proofs.blocks.add_game_reason.Goals as goal

pub returns-in_default : goal.returns-in_default
returns-in_default g c = rw (counted c.args.men c.args.why _ c.reason_of_game-reason.ensures c.in_default.not-TooManyTails) c.add_pieces.ensures
