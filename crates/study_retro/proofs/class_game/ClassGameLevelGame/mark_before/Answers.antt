use Rattle.std.proofs.Common.{ℕ, ◌+◌, ◌*◌, false, refl}
use Rattle.study_retro.specs.ClassGame.{class_game}
use Rattle.study_levels.specs.Numbered.{LeadsIntoRow}
use Rattle.study_retro.specs.RowLevels.{IsBeforeRow}
use Rattle.study_retro.proofs.BackLemmas.{before_is_leads, leads_is_before, set-why, set-added}
use Rattle.study_retro.proofs.class_game.ClassGameLevelGame.mark_before.Goals as goal

pub returns-clause-rise : goal.returns-clause-rise
returns-clause-rise g c =
    let row = c.args.row in
    let class = c.args.self.now.class in
    let Leads : ℕ → Type 0 = LeadsIntoRow (class_game class c.args.self.now.tables.now) row c.args.decided in
    set-added Leads c.args.level (c.args.level + 2) c.args.cells.now c.write_before_row.new.cells refl
    (set-why (c.args.level + 2) false (IsBeforeRow class row c.args.decided) Leads c.args.cells.now c.write_before_row.new.cells
    (λ i b. (b.0, b.1, b.2, before_is_leads class (64 * row + b.0) i b.3)) c.write_before_row.ensures.rise)

pub returns-clause-done : goal.returns-clause-done
returns-clause-done g c = λ i y on e t.
    let h = c.write_before_row.ensures.done i y on e (leads_is_before c.args.self.now.class (64 * c.args.row + y) i t) in
    h.0
