use Rattle.std.proofs.Common.{ap, ◌∙◌}
use Rattle.study_material.specs.declared.class.Class.{Class}
use Rattle.study_values.specs.Number.{cells_of}
use Rattle.study_listing.specs.Pieces.{HasWrittenLines}
use Rattle.study_listing.proofs.Pieces.{piece-written, written-of}
use Rattle.study_listing.proofs.piece.write_selected.Goals as goal

pub returns-in-Ok-clause-text : goal.returns-in-Ok-clause-text
returns-in-Ok-clause-text g c h selected =
    let piece = c.args.piece.now in
    let old = g.W.Write.contents c.args.out.now in
    let mid = g.W.Write.contents c.write_lines.new.out in
    let new = g.W.Write.contents c.write_how_far.new.out in
    piece-written piece c.args.selection c.end_of-end.result c.cells.result old mid new c.write_how_far.result c.end_of-end.ensures
    (c.cells.ensures ∙ ap (λ (x : Class). cells_of x) c.class.ensures) selected
    (written-of (HasWrittenLines c.args.selection piece.numbers.from c.end_of-end.result old mid) c.write_lines.result c.in-Ok.field-0
    (c.write_lines.ensures.lines h) c.in-Ok.is) c.write_how_far.ensures.written
