use Rattle.std.proofs.Common.{ℕ, ◌<◌, ◌≤◌, inr, slice_index}
use Rattle.study_table.proofs.ClassLemmas.{cells-settled}
use Rattle.study_table.proofs.LevelLemmas.{other-far}
use Rattle.study_levels.proofs.StillLemmas.{held-below}
use Rattle.study_levels.proofs.levels.solve_cells.Goals as goal

pub returns-in-None-clause-right : goal.returns-in-None-clause-right
returns-in-None-clause-right g c = λ outer e. cells-settled c.requires.laws c.all_levels-ended.new.cells outer (λ k l. inr ((rw c.as_slice.ensures at c.in-None.ensures).given k l))

pub returns-in-Some-clause-far : goal.returns-in-Some-clause-far
returns-in-Some-clause-far g c = λ outer e.
    let cells = c.all_levels-ended.new.cells in
    let near : (n : ℕ) → n < (g.G.Game.numbered c.args.game.now).size → slice_index cells n ≤ 255 = λ n b. c.all_levels-ended.ensures.bytes n in
    let held = c.all_levels-ended.ensures.held outer c.initialise-far.result (c.initialise-far.ensures.held outer) in
    other-far c.requires.laws cells outer near (held-below c.requires.laws outer c.initialise-far.result cells near held)
    c.in-Some.field-0 (rw c.as_slice.ensures at c.in-Some.ensures).other.0 (rw c.as_slice.ensures at c.in-Some.ensures).other.1
