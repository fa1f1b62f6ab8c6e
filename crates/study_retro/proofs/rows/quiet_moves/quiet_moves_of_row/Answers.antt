use Rattle.std.proofs.Common.{ℕ, ◌+◌, ◌*◌, ◌++◌, ◌∷◌, [], sym, ◌∙◌, ap, subst, arith}
use Rattle.std.proofs.lemmas.Bool.{false≢true, not-true, not-false}
use Rattle.study_board.specs.Sets.{has}
use Rattle.study_board.proofs.EqualMen.{side_same}
use Rattle.study_board.proofs.SetBits.{has-zero}
use Rattle.study_material.specs.declared.class.Class.{Class}
use Rattle.study_retro.specs.Predecessors.{AreEncoded}
use Rattle.study_retro.specs.Still.{on_square}
use Rattle.study_retro.proofs.RowEscapeLemmas.{row_goes}
use Rattle.study_retro.proofs.rows.quiet_moves.quiet_moves_of_row.Goals as goal

-- no man of the other side moves
pub returns-then-ne-clause-no : goal.returns-then-ne-clause-no
returns-then-ne-clause-no g c = λ y on e f. absurd (false≢true (sym f ∙ e))

pub returns-then-ne-clause-yes : goal.returns-then-ne-clause-yes
returns-then-ne-clause-yes g c = λ y q on e at x legal quiet.
    let row = c.args.row.now in
    let small = row.plain in
    let encodes = subst (λ (d : Class). AreEncoded d (64 * row.number + y) (row.others.items ++ on_square row.last y ∷ []) row.to_move) c.requires.class
    (row.encoded y on) in
    let go = row_goes c.args.game.now.class (64 * row.number + y) y q at (omega (arith, small, on)) row.others.items row.last row.to_move encodes
    c.args.man.now c.requires.man x legal quiet in
    absurd (false≢true (sym (sym (side_same _ _) ∙ not-true _ (sym c.ne.ensures ∙ c.if-ne.true)) ∙ go.1))

-- and if no number may lose no move needs to be examined
pub returns-then-is_empty-clause-no : goal.returns-then-is_empty-clause-no
returns-then-is_empty-clause-no g c = λ y on e f. absurd (false≢true (sym f ∙ e))

pub returns-then-is_empty-clause-yes : goal.returns-then-is_empty-clause-yes
returns-then-is_empty-clause-yes g c = λ y q on e.
    absurd (false≢true (sym (ap (λ (s : ℕ). has s y) (c.is_empty.ensures.0 c.if-is_empty.true) ∙ has-zero y) ∙ e))

pub quiet_moves_of_man_from-requires-clause-side : goal.quiet_moves_of_man_from-requires-clause-side
quiet_moves_of_man_from-requires-clause-side g c = sym (side_same _ _) ∙ not-false _ (sym c.ne.ensures ∙ c.if-ne.false)
