use Rattle.std.proofs.Common.{◌∙◌, arith}
use Rattle.study_games.specs.Tokens.{token_seen}
use Rattle.study_games.proofs.Fuel.{english_on}
use Rattle.study_games.proofs.language.in_english.Goals as goal

pub loop-fuel-preserved : goal.loop-fuel-preserved
loop-fuel-preserved g c =
    let read = rw c.in-Some-Ok.field-0-is at c.in-Some-Ok.ensures in
    english_on c.loop-fuel.fuel c.args.language c.loop-fuel.fresh c.begins_feed-fresh.result c.loop-fuel.rest.now c.in-Some-Ok.cut.rest.now
    c.before-in-loop-fuel.result.now (token_seen c.in-Some-Ok.cut.token) c.loop-fuel.out c.add_token.new.out
    (omega (arith, c.loop-fuel-test.true)) read c.before-in-loop-fuel.ensures c.in_ok-add_token.ensures c.begins_feed-fresh.ensures
    ∙ c.loop-fuel.invariant
