use Rattle.std.proofs.Common.{refl, ap, ◌∙◌}
use Rattle.std.proofs.lemmas.Result.{on_err_weaker}
use Rattle.study_tablefile.specs.Format.{page_cells_of, page_digest, page_text}
use Rattle.study_text.proofs.TextTaken.{OnErr-known, stops_first, stops_second}
use Rattle.study_tablefile.proofs.format.put_page.Goals as goal

pub returns-in_err-write_text-clause-err : goal.returns-in_err-write_text-clause-err
unfolding page_text
returns-in_err-write_text-clause-err g c =
    let cells = page_cells_of c.args.cells.now in
    OnErr-known c.from_residual.result _ (stops_first _ _ (page_text c.args.fields.now c.args.number cells) _ cells
    (page_digest c.args.fields.now c.args.number cells) refl (c.as_slice.ensures ∙ c.padded_cells-cells.ensures)
    c.in_err-write_text.ensures.err)

pub returns-clause-err : goal.returns-clause-err
unfolding page_text
returns-clause-err g c =
    let cells = page_cells_of c.args.cells.now in
    let digest = c.as_slice-3.ensures ∙ c.page_digest.ensures ∙ ap (page_digest c.args.fields.now c.args.number)
    (c.as_slice-2.ensures ∙ c.padded_cells-cells.ensures) in
    on_err_weaker c.write_text-2.result (λ h. stops_second _ _ _ (page_text c.args.fields.now c.args.number cells) _ _
    cells (page_digest c.args.fields.now c.args.number cells) refl
    (c.as_slice.ensures ∙ c.padded_cells-cells.ensures) digest c.in_ok-write_text.ensures.ok h) c.write_text-2.ensures.err
