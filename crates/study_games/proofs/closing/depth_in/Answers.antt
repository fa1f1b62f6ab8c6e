use Rattle.std.proofs.Common.{◌∙◌, arith}
use Rattle.study_games.specs.Tokens.{token_seen}
use Rattle.study_games.proofs.Fuel.{depth_on}
use Rattle.study_games.proofs.closing.depth_in.Goals as goal

pub loop-fuel-preserved : goal.loop-fuel-preserved
loop-fuel-preserved c =
    let read = rw c.in-Some-Ok.field-0-is at c.in-Some-Ok.ensures in
    depth_on c.loop-fuel.fuel c.loop-fuel.depth c.depth_after-depth.result c.loop-fuel.fresh c.begins_feed-fresh.result c.loop-fuel.rest.now
    c.in-Some-Ok.cut.rest.now (token_seen c.in-Some-Ok.cut.token)
    (omega (arith, c.loop-fuel-test.true)) read c.depth_after-depth.ensures c.begins_feed-fresh.ensures
    ∙ c.loop-fuel.invariant
