use Rattle.std.proofs.Common.{ℕ, ◌∙◌, sym, ap}
use Rattle.std.proofs.lemmas.Bool.{false≢true, or_parts}
use Rattle.study_board.specs.declared.men.Side.{Side}
use Rattle.study_board.specs.Men.{is_attacked}
use Rattle.study_board.specs.Sets.{has}
use Rattle.study_board.proofs.SetBits.{has-zero}
use Rattle.study_retro.proofs.RowLemmas.{are_still}
use Rattle.study_retro.proofs.StillChess.{not_true}
use Rattle.study_retro.proofs.rows.quiet.still_squares.Goals as goal

pub returns-then-are_restless : goal.returns-then-are_restless
returns-then-are_restless c = λ y ly e board. absurd (false≢true (sym (has-zero y) ∙ ap (λ (n : ℕ). has n y) (sym c.empty.ensures) ∙ e))

pub returns : goal.returns
returns c = λ y ly e board.
    let out = not_true (has c.union.result y) (sym (c.complement.ensures y ly) ∙ e) in
    let parts = or_parts _ _ (sym (c.union.ensures y) ∙ out) in
    are_still c.args.others.now c.args.last.now c.args.to_move c.attacked_squares-ours.result c.attacked_squares-theirs.result y
    c.attacked_squares-ours.ensures
    (λ x l. c.attacked_squares-theirs.ensures x l ∙ ap (λ (s : Side). is_attacked c.args.others.now s x) c.other.ensures)
    (sym c.are_restless.ensures ∙ c.if-are_restless.false)
    (sym (c.squares_bearing.ensures y ly) ∙ parts.0)
    (sym (c.squares_exposed.ensures y ly) ∙ parts.1)
    board ly
