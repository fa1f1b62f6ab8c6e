use Rattle.std.proofs.Common.{ℕ, arith}
use Rattle.study_levels.specs.Numbered.{HasPosition, StepLeads, leads_in}
use Rattle.study_levels.proofs.HeldLemmas.{held-tells}
use Rattle.study_levels.proofs.CellsLemmas.{added-has, added-tells, dropped-has, lowered-has}
use Rattle.study_levels.proofs.NextLemmas.{level-even, level-odd}
use Rattle.study_levels.proofs.levels.step.Goals as goal

pub returns-then-level-eq0-clause-held : goal.returns-then-level-eq0-clause-held
returns-then-level-eq0-clause-held g c = λ outer far held.
    level-even c.requires.laws outer far c.args.level (λ e. c.requires.level) c.args.cells.now held
    c.propagate_losses.new.cells c.if-level-eq0.true c.propagate_losses.ensures.rise c.propagate_losses.ensures.done

pub returns-else-level-eq0-clause-held : goal.returns-else-level-eq0-clause-held
returns-else-level-eq0-clause-held g c = λ outer far held.
    let marks = c.propagate_wins-marked.ensures in
    let marked = c.propagate_wins-marked.new.cells in
    let then = added-tells c.args.level (leads_in (g.G.Game.numbered c.args.game.now))
    (g.G.Game.numbered c.args.game.now).mate (g.G.Game.numbered c.args.game.now).position
    (λ (i : ℕ). (j : ℕ) × StepLeads (g.G.Game.numbered c.args.game.now) i j) c.args.cells.now marked marks.rise
    (held-tells c.requires.laws far c.args.level c.args.cells.now held) in
    let all = c.confirm_losses.ensures in
    level-odd c.requires.laws outer far c.args.level (λ e. c.requires.level) c.args.cells.now held
    marked c.confirm_losses.new.cells (let n = c.if-level-eq0.false in omega arith)
    marks.rise marks.done all.fall (all.lost outer then) (all.kept outer then)

pub returns-then-level-eq0-clause-numbered : goal.returns-then-level-eq0-clause-numbered
returns-then-level-eq0-clause-numbered g c =
    lowered-has c.args.level (HasPosition (g.G.Game.numbered c.args.game.now)) c.args.cells.now c.propagate_losses.new.cells
    c.requires.numbered _ (λ i w. (w.2.0, w.2.2)) c.propagate_losses.ensures.rise

pub confirm_losses-requires-clause-numbered : goal.confirm_losses-requires-clause-numbered
confirm_losses-requires-clause-numbered g c =
    added-has c.args.level (HasPosition (g.G.Game.numbered c.args.game.now)) c.args.cells.now c.propagate_wins-marked.new.cells
    c.requires.numbered _ (λ i w. (w.1.0, w.1.2)) c.propagate_wins-marked.ensures.rise

pub returns-else-level-eq0-clause-numbered : goal.returns-else-level-eq0-clause-numbered
returns-else-level-eq0-clause-numbered g c =
    dropped-has c.args.level (HasPosition (g.G.Game.numbered c.args.game.now)) c.propagate_wins-marked.new.cells c.confirm_losses.new.cells
    (added-has c.args.level (HasPosition (g.G.Game.numbered c.args.game.now)) c.args.cells.now c.propagate_wins-marked.new.cells
    c.requires.numbered _ (λ i w. (w.1.0, w.1.2)) c.propagate_wins-marked.ensures.rise) c.confirm_losses.ensures.fall
