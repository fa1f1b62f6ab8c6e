use Rattle.study_search.proofs.OnlyMoves.{no-key, key-by}
use Rattle.study_search.proofs.only_moves.key_move.Goals as goal

pub returns-in-Ok-false-clause-game : goal.returns-in-Ok-false-clause-game
returns-in-Ok-false-clause-game g c h =
    no-key c.args.outcome c.args.p.now c.in-Ok-false.field-0 (c.in-Ok-false.ensures.game h) c.in-Ok-false.field-0-test

pub returns-in-Ok-true-clause-game : goal.returns-in-Ok-true-clause-game
returns-in-Ok-true-clause-game g c h =
    key-by c.args.outcome c.args.p.now c.only_move.result ((c.in-Ok-true.ensures.game h).0 c.in-Ok-true.field-0-test)
    (c.only_move.ensures.game (c.has.ensures.honest h))
