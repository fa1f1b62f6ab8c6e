use Rattle.std.proofs.Common.{◌+◌, ◌*◌, sym, ◌∙◌, ap}
use Rattle.std.proofs.lemmas.Bool.{false≢true, not-true, not-false}
use Rattle.study_board.specs.declared.men.Side.{Side}
use Rattle.study_board.specs.Men.{same_side}
use Rattle.study_board.proofs.EqualMen.{side_same}
use Rattle.study_retro.proofs.RowBackLemmas.{row_came}
use Rattle.study_retro.proofs.rows.predecessors.write_before_man_of_row.Goals as goal

-- no man of the other side has moved
pub returns-then-ne-clause-done : goal.returns-then-ne-clause-done
returns-then-ne-clause-done g c = λ n y on e b.
    let row = c.args.row.now in
    let q = c.requires.numbered y on e in
    let came = row_came row.class (64 * row.number + y) y q.0 q.1 row.others.items row.last row.to_move (row.encoded y on) c.args.man.now c.requires.man
    b.0 n b.1 b.2 in
    absurd (false≢true (sym (sym (side_same _ _) ∙ not-true _ (sym c.ne.ensures ∙ c.if-ne.true))
    ∙ ap (λ (s : Side). same_side c.args.man.now.side s) c.other.ensures ∙ came.0))

pub write_before_man_from-requires-clause-side : goal.write_before_man_from-requires-clause-side
write_before_man_from-requires-clause-side g c =
    sym (ap (λ (s : Side). same_side c.args.man.now.side s) c.other.ensures) ∙ sym (side_same _ _) ∙ not-false _ (sym c.ne.ensures ∙ c.if-ne.false)
