use Rattle.std.proofs.Common.{◌≡◌, ◌≤◌, ℕ, ◌*◌, ◌∙◌, sym, ap, subst, List, drop}
use Rattle.std.specs.Prelude.{Option, Some}
use Rattle.study_values.specs.Number.{cells_of}
use Rattle.study_tablefile.specs.Format.{page_cells_of}
use Rattle.study_table.specs.Table.{Table, table_of}
use Rattle.study_prober.specs.WholeTables.{Whole}
use Rattle.study_prober.proofs.ReadPages.{page_begins, page_values, some-table}
use Rattle.study_prober.proofs.whole_tables.WholeTablesCellPages.read_cells.Goals as goal

pub copy_cells-requires : goal.copy_cells-requires
copy_cells-requires g c =
    let table = c.in-Some.table.now in
    let own : table.class ≡ c.args.class = c.in-Some.ensures.closed.class c.args.class table (sym c.in-Some.ensures.value) in
    subst (λ (m : ℕ). 4096 * c.args.number ≤ m) (ap cells_of (sym own) ∙ sym c.cells.ensures.size) (page_begins c.args.class c.args.number c.requires)

pub returns-clause-game : goal.returns-clause-game
returns-clause-game g c = λ right.
    let table = c.in-Some.table.now in
    let same = ap (λ (w : Whole). w.tables) c.self.view_is in
    let found = subst (λ (held : List (Option Table)). Some table ≡ table_of held c.args.class) same c.in-Some.ensures.value in
    page_values table c.args.class c.args.number c.copy_cells.new.into (c.in-Some.ensures.closed.class c.args.class table (sym c.in-Some.ensures.value))
    (c.in-Some.ensures.closed.complete c.args.class table (sym c.in-Some.ensures.value)) (right.right c.args.class table (sym found))
    (c.copy_cells.ensures ∙ ap (λ (xs : List ℕ). page_cells_of (drop (4096 * c.args.number) xs)) c.cells.ensures.value)

pub returns-clause-no_table : goal.returns-clause-no_table
returns-clause-no_table g c = λ d.
    let same = ap (λ (w : Whole). w.tables) c.self.view_is in
    some-table c.args.self.now.tables c.args.class d c.in-Some.table.now
    (subst (λ (held : List (Option Table)). Some c.in-Some.table.now ≡ table_of held c.args.class) same c.in-Some.ensures.value)
