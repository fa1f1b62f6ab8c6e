use Rattle.std.proofs.Common.{List, Option, Err, sym, ap, subst, ◌∙◌}
use Rattle.study_material.specs.Needs.{needs_of}
use Rattle.study_table.specs.Table.{Table}
use Rattle.study_table.specs.TableSet.{first_missing}
use Rattle.study_table.specs.Sound.{NeedsAreRight}
use Rattle.study_script.proofs.HeldTables.{may_add, none_missing, needs_right, whole_with}
use Rattle.study_script.proofs.ClassReplies.{build_held, build_no_room, build_missing, build_far, build_done}
use Rattle.study_script.proofs.table_commands.build_class.Goals as goal

pub returns-then-has_table : goal.returns-then-has_table
returns-then-has_table g c = λ s h. build_held c.args.tables.now s h c.args.class (sym c.has_table.ensures.value ∙ c.if-has_table.true)

pub returns-in_default : goal.returns-in_default
returns-in_default g c = λ s h. build_no_room c.args.tables.now s h c.args.class (sym c.has_table.ensures.value ∙ c.if-has_table.false)

pub add_table-requires : goal.add_table-requires
add_table-requires g c =
    let none = none_missing (first_missing c.args.tables.now.tables (needs_of c.args.class))
    (λ d e.
    let no = rw c.in-Ok-build.is at
    ((c.build.ensures.missing d).1
    (ap (λ (held : List (Option Table)). first_missing held (needs_of c.args.class)) c.tables.ensures ∙ e)) in
    cc) in
    may_add c.args.tables.now.tables c.args.class c.in-Ok-build.table.class c.in-Ok-build.ensures.class
    (sym c.has_table.ensures.value ∙ c.if-has_table.false) none

pub returns-in-Ok-build : goal.returns-in-Ok-build
returns-in-Ok-build g c = λ s h.
    let w = c.args.tables.now in
    let none =
    none_missing (first_missing w.tables (needs_of c.args.class))
    (λ d e.
    let no = rw c.in-Ok-build.is at
    ((c.build.ensures.missing d).1
    (ap (λ (held : List (Option Table)). first_missing held (needs_of c.args.class)) c.tables.ensures
    ∙ e)) in cc) in
    let right =
    c.in-Ok-build.ensures.right (subst (λ (held : List (Option Table)). NeedsAreRight held c.args.class)
    (sym c.tables.ensures) (needs_right w.tables c.args.class h.values)) in
    build_done w s h c.args.class c.add_table.new.tables c.in-Ok-build.table c.in-Ok-build.report.deepest_win
    (sym c.has_table.ensures.value ∙ c.if-has_table.false) none c.in-Ok-build.ensures.class c.add_table.ensures.complete
    right c.in-Ok-build.ensures.deepest_win
    (whole_with w c.add_table.new.tables s c.in-Ok-build.table c.args.class c.has_table.ensures.closed h right c.in-Ok-build.ensures.class
    c.add_table.ensures.held)

pub returns-in-Err-MissingTable : goal.returns-in-Err-MissingTable
returns-in-Err-MissingTable g c = λ s h.
    let is = ap (λ (held : List (Option Table)). first_missing held (needs_of c.args.class)) (sym c.tables.ensures)
    ∙ (c.build.ensures.missing c.in-Err-MissingTable.need).0
    (c.in-Err-MissingTable.is ∙ ap Err c.in-Err-MissingTable.field-0-is) in
    rw c.in-Err-MissingTable.need-is (build_missing c.args.tables.now s h c.args.class c.in-Err-MissingTable.need
    (sym c.has_table.ensures.value ∙ c.if-has_table.false) is)

pub returns-in-Err-DistanceTooLarge : goal.returns-in-Err-DistanceTooLarge
returns-in-Err-DistanceTooLarge g c = λ s h.
    let w = c.args.tables.now in
    let far_is = c.in-Err-DistanceTooLarge.is ∙ ap Err c.in-Err-DistanceTooLarge.field-0-is in
    let none =
    none_missing (first_missing w.tables (needs_of c.args.class))
    (λ d e.
    let no = rw far_is at
    ((c.build.ensures.missing d).1
    (ap (λ (held : List (Option Table)). first_missing held (needs_of c.args.class)) c.tables.ensures
    ∙ e)) in cc) in
    let far =
    c.build.ensures.far (subst (λ (held : List (Option Table)). NeedsAreRight held c.args.class)
    (sym c.tables.ensures) (needs_right w.tables c.args.class h.values)) far_is in
    build_far w s h c.args.class (sym c.has_table.ensures.value ∙ c.if-has_table.false) none far
