use Rattle.std.proofs.Common.{◌≡◌, true, false, Option, sym, ◌∙◌, subst}
use Rattle.study_levels.specs.Propagation.{IsHeldCell}
use Rattle.study_levels.specs.Numbered.{leads_in}
use Rattle.study_levels.proofs.FirstLemmas.{held-mate, held-first}
use Rattle.study_levels.proofs.initial.initial_by_moves.Goals as goal

pub returns-then-is_mate-clause-held : goal.returns-then-is_mate-clause-held
returns-then-is_mate-clause-held g c = λ outer.
    let e = sym c.decode.ensures ∙ c.in-Some.is in
    subst (λ (o : Option g.row.G-Position.Denot). IsHeldCell (leads_in (g.G.Game.numbered c.args.game.now))
    (g.G.Game.numbered c.args.game.now).mate (g.G.Game.numbered c.args.game.now).home false 0 o 1) (sym e)
    (held-mate c.requires.laws outer c.in-Some.at (c.is_mate.ensures.0 c.if-is_mate.true))

pub returns-clause-held : goal.returns-clause-held
returns-clause-held g c = λ outer.
    let e = sym c.decode.ensures ∙ c.in-Some.is in
    let d = c.requires.laws.decoded c.args.number c.in-Some.at e in
    subst (λ (o : Option g.row.G-Position.Denot). IsHeldCell (leads_in (g.G.Game.numbered c.args.game.now))
    (g.G.Game.numbered c.args.game.now).mate (g.G.Game.numbered c.args.game.now).home c.initial_by_value.result.far 0 o
    c.initial_by_value.result.cell) (sym e)
    (held-first c.requires.laws outer c.in-Some.at d.0 d.1 (λ m. let y = c.is_mate.ensures.1 m in
    let n = c.if-is_mate.false in let no : true ≡ false = sym y ∙ n in cc) c.value_by_conversion.result
    c.initial_by_value.result.cell c.initial_by_value.result.far c.value_by_conversion.ensures c.initial_by_value.ensures)
