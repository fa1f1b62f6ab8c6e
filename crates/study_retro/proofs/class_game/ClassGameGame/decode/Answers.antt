use Rattle.study_retro.proofs.PlaceLemmas.{decode_at}
use Rattle.study_retro.proofs.class_game.ClassGameGame.decode.Goals as goal

pub returns : goal.returns
returns g c = decode_at c.args.self.now.class c.args.number c.decode.result c.decode.ensures.some c.decode.ensures.none
