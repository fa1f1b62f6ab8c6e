use Rattle.std.proofs.Common.{◌∙◌, arith}
use Rattle.study_games.proofs.Fuel.{spelled_on}
use Rattle.study_games.proofs.ascii.spell_out.Goals as goal

pub loop-fuel-preserved : goal.loop-fuel-preserved
loop-fuel-preserved g c =
    spelled_on c.loop-fuel.fuel c.is_utf8-utf8.result c.loop-fuel.rest.now c.in-Some.behind.now c.in-Some.c c.loop-fuel.out c.add_character.new.out
    (omega (arith, c.loop-fuel-test.true)) c.in-Some.ensures c.in_ok-add_character.ensures ∙ c.loop-fuel.invariant
