use Rattle.study_retro.proofs.StillChess.{still_held}
use Rattle.study_retro.proofs.class_game.ClassGameLevelGame.first.Goals as goal

pub returns-then-starts_undecided-clause-held : goal.returns-then-starts_undecided-clause-held
returns-then-starts_undecided-clause-held g c = λ outer.
    still_held c.args.self.now.class c.args.self.now.tables.now c.args.number c.requires.laws outer (c.starts_undecided.ensures c.if-starts_undecided.true)
