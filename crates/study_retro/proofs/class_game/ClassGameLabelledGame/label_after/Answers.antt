use Rattle.std.proofs.Common.{ℕ, ◌<◌, refl, sym, ◌∙◌, subst}
use Rattle.study_moves.specs.Rules.{after}
use Rattle.study_material.specs.Needs.{LeadsOn}
use Rattle.study_retro.proofs.MovedSteps.{quiet_below, quiet_label}
use Rattle.study_retro.proofs.class_game.ClassGameLabelledGame.label_after.Goals as goal

pub bounds-cells-next : goal.bounds-cells-next
bounds-cells-next g c =
    let is = c.in-Some.ensures in
    subst (λ (k : ℕ). c.in-Some.next < k) (sym c.requires.cells)
    (quiet_below c.args.self.now.class c.args.number c.args.at.now c.requires.at is.0 c.args.by.now c.requires.by is.1
    c.args.self.now.tables.now c.requires.laws c.args.cells.now c.in-Some.next is.2)

pub label-requires-clause-known : goal.label-requires-clause-known
label-requires-clause-known g c =
    let here = c.requires.laws.decoded c.args.number c.args.at.now c.requires.at in
    subst (LeadsOn c.args.self.now.class) (sym c.played-to.ensures.value)
    (c.requires.laws.closed c.args.at.now (after c.args.at.now c.args.by.now) here.0 here.1 (c.args.by.now, c.requires.by, refl))

pub returns-in-Some-clause-value : goal.returns-in-Some-clause-value
returns-in-Some-clause-value g c =
    let is = c.in-Some.ensures in
    c.value_at.ensures
    ∙ quiet_label c.args.self.now.class c.args.number c.args.at.now c.requires.at is.0 c.args.by.now c.requires.by is.1
    c.args.self.now.tables.now c.requires.laws c.args.cells.now c.in-Some.next is.2
