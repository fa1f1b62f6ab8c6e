use Rattle.std.proofs.Common.{◌-◌, Bool, Some, sym, ap, ◌∙◌, arith}
use Rattle.std.specs.Option.{option_map}
use Rattle.study_games.specs.Tokens.{token_seen, lexed_seen}
use Rattle.study_reading.specs.Behind.{moves_left}
use Rattle.study_reading.proofs.NoneBehind.{fault_on, token_on}
use Rattle.study_reading.proofs.behind_result.moves_in.Goals.{in-Err, in-Ok+else-is_of_moves}
use Rattle.study_reading.proofs.behind_result.moves_in.Goals as goal

pub loop-fuel-preserved : goal.loop-fuel-preserved
loop-fuel-preserved c =
    let l = c.loop-fuel in
    ap (λ (b : Bool). moves_left (l.fuel - 1) b c.match-found.behind.now) c.begins_feed-fresh.ensures
    ∙ elim c.match-found.branch [
      | in-Err w ↦ fault_on l.fuel (l.fuel - 1) l.fresh l.rest.now w.in-Err.fault c.match-found.behind.now (omega (arith, c.loop-fuel-test.true))
          (sym c.read_token.ensures ∙ ap (option_map lexed_seen) (c.in-Some.is ∙ ap Some w.in-Err.is))
          (rw w.behind-is w.behind_fault-behind.ensures)
      | in-Ok+else-is_of_moves w ↦ token_on l.fuel (l.fuel - 1) l.fresh l.rest.now (token_seen w.in-Ok.cut.token) c.match-found.behind.now
          (omega (arith, c.loop-fuel-test.true))
          (rw w.behind-is (sym c.read_token.ensures ∙ ap (option_map lexed_seen) (c.in-Some.is ∙ ap Some w.in-Ok.is)))
          (sym w.is_of_moves.ensures ∙ w.if-is_of_moves.false)
    ]
    ∙ l.invariant
