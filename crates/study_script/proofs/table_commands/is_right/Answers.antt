use Rattle.std.proofs.Common.{◌≡◌, List, Option, Some, sym, ap, subst, ◌∙◌}
use Rattle.study_table.specs.Table.{Table, IsReady, table_of}
use Rattle.study_script.proofs.HeldTables.{ready_of, class_of_held}
use Rattle.study_script.proofs.table_commands.is_right.Goals as goal

pub verify-requires : goal.verify-requires
verify-requires g c = subst (λ (held : List (Option Table)). IsReady held c.in-Some.table.now.class)
    (c.tables.ensures ∙ sym c.tables-in-Some.ensures)
    (ready_of c.tables.result.now c.args.class c.in-Some.table.now c.in-Some.ensures.closed c.in-Some.ensures.value)

pub returns-in-Some-clause-right : goal.returns-in-Some-clause-right
returns-in-Some-clause-right g c = λ needs.
    let held = c.args.tables.now.tables in
    let found : Some c.in-Some.table.now ≡ table_of held c.args.class =
    c.in-Some.ensures.value ∙ ap (λ (h : List (Option Table)). table_of h c.args.class) c.tables.ensures in
    let same = class_of_held c.tables.result.now c.args.class c.in-Some.table.now c.in-Some.ensures.closed c.in-Some.ensures.value in
    rw (← found) (c.verify.ensures (rw (c.tables-in-Some.ensures, same) needs))
