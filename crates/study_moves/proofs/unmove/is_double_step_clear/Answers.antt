use Rattle.std.proofs.Common.{◌≡◌, ◌∙◌, sym, true}
use Rattle.study_board.specs.Position.{is_occupied}
use Rattle.study_moves.proofs.QuietPawns.{stopped}
use Rattle.study_moves.proofs.unmove.is_double_step_clear.Goals as goal

pub returns-then-is_occupied : goal.returns-then-is_occupied
returns-then-is_occupied c a la =
    rw c.empty.ensures
    (let o : is_occupied c.args.men.now c.args.one ≡ true = rw (← c.number.ensures.value) (sym c.is_occupied.ensures ∙ c.if-is_occupied.true) in
    stopped c.args.men.now c.args.one c.args.two a o)
