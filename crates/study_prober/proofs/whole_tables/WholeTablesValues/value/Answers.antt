use Rattle.std.proofs.Common.{◌≡◌, ◌∙◌, sym, ap, subst, List, Option, Some, Ok, get_or}
use Rattle.study_values.specs.Index.{index_of}
use Rattle.study_values.specs.Cells.{value_of}
use Rattle.study_table.specs.Table.{Table, table_of}
use Rattle.study_prober.specs.WholeTables.{Whole}
use Rattle.study_prober.proofs.Tables.{one_class, same_table, table_class, some_held, answer_of_cell}
use Rattle.study_prober.proofs.whole_tables.WholeTablesValues.value.Goals as goal

pub at-requires : goal.at-requires
at-requires g c = table_class c.self.inside.tables c.class_of-class.result.0 c.args.p.now c.in-Some.table.now
    c.in-Some.ensures.closed c.class_of-class.ensures.class c.in-Some.ensures.value

pub returns-clause-game : goal.returns-clause-game
returns-clause-game g c = λ right.
    let same = ap (λ (w : Whole). w.tables) c.self.view_is in
    let found = subst (λ (held : List (Option Table)). Some c.in-Some.table.now ≡ table_of held c.class_of-class.result.0) same c.in-Some.ensures.value in
    c.at.ensures.right (right.right c.class_of-class.result.0 c.in-Some.table.now (sym found))

pub returns-clause-no_table : goal.returns-clause-no_table
returns-clause-no_table g c = λ d.
    let same = ap (λ (w : Whole). w.tables) c.self.view_is in
    let found = subst (λ (held : List (Option Table)). Some c.in-Some.table.now ≡ table_of held c.class_of-class.result.0) same c.in-Some.ensures.value in
    some_held c.args.self.now.tables c.class_of-class.result.0 d c.args.p.now c.in-Some.table.now c.at.result c.class_of-class.ensures.class found

pub returns-clause-reported : goal.returns-clause-reported
returns-clause-reported g c = λ d t of is.
    let same = ap (λ (w : Whole). w.tables) c.self.view_is in
    let found = subst (λ (held : List (Option Table)). Some c.in-Some.table.now ≡ table_of held c.class_of-class.result.0) same c.in-Some.ensures.value in
    let table = same_table c.args.self.now.tables d c.class_of-class.result.0 t c.in-Some.table.now
    (one_class d c.class_of-class.result.0 c.args.p.now of c.class_of-class.ensures.class) found is in
    ap (λ v. Ok v) (c.at.ensures.reported ∙ ap (λ (u : Table). value_of (get_or u.cells (index_of c.args.p.now) 0)) table)

pub returns-clause-given : goal.returns-clause-given
returns-clause-given g c =
    let same = ap (λ (w : Whole). w.tables) c.self.view_is in
    let found = subst (λ (held : List (Option Table)). Some c.in-Some.table.now ≡ table_of held c.class_of-class.result.0) same c.in-Some.ensures.value in
    answer_of_cell c.args.self.now.tables c.class_of-class.result.0 c.args.p.now (Some c.in-Some.table.now) _
    c.class_of-class.ensures.class found (ap (λ v. Ok v) c.at.ensures.reported)
