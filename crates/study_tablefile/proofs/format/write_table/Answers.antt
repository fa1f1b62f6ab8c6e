use Rattle.std.proofs.Common.{◌<◌, length, sym, ◌∙◌, arith, rules}
use Rattle.std.proofs.lemmas.Bool.{eqb-false}
use Rattle.study_text.proofs.TextTaken.{OnErr-known}
use Rattle.study_tablefile.proofs.PagesWritten.{header_stops, header_wrote, page_stops, page_wrote, number_fits}
use Rattle.study_tablefile.proofs.format.write_table.Goals as goal

pub returns-in_err-put_header-clause-err : goal.returns-in_err-put_header-clause-err
returns-in_err-put_header-clause-err g c =
    OnErr-known c.from_residual.result _ (header_stops _ _ c.args.table.now _ c.class-class.ensures.value c.in_err-put_header.ensures.err)

pub loop-rest-init : goal.loop-rest-init
loop-rest-init g c =
    header_wrote _ _ c.args.table.now _ _ c.class-class.ensures.value c.cells-rest.ensures.value c.cells-rest.ensures.size c.in_ok-put_header.ensures.ok

pub returns-in_err-put_page-clause-err : goal.returns-in_err-put_page-clause-err
returns-in_err-put_page-clause-err g c =
    let ne = eqb-false (length c.loop-rest.rest.now) 0 (sym c.is_empty.ensures ∙ c.loop-rest-test.true) in
    let some : 0 < length c.loop-rest.rest.now = omega arith in
    OnErr-known c.from_residual-in_err-put_page.result _
    (page_stops _ _ _ c.args.table.now c.loop-rest.number c.loop-rest.invariant.0 c.min.result _
    c.loop-rest.rest.now _ c.loop-rest.invariant.1 some (search rules) (search rules) c.split_at.ensures.front
    c.in_err-put_page.ensures.err)

pub overflow_add-number : goal.overflow_add-number
overflow_add-number g c =
    let few = number_fits _ _ c.args.table.now c.loop-rest.number c.loop-rest.invariant.0 c.loop-rest.rest.now
    c.loop-rest.invariant.1 in omega arith

pub loop-rest-preserved : goal.loop-rest-preserved
loop-rest-preserved g c =
    let ne = eqb-false (length c.loop-rest.rest.now) 0 (sym c.is_empty.ensures ∙ c.loop-rest-test.true) in
    let some : 0 < length c.loop-rest.rest.now = omega arith in
    page_wrote _ _ _ c.args.table.now c.loop-rest.number c.loop-rest.invariant.0 c.min.result _ c.loop-rest.rest.now
    _ _ c.loop-rest.invariant.1 some (search rules) (search rules) c.split_at.ensures.front
    c.split_at.ensures.back c.in_ok-put_page.ensures.ok
