use Rattle.std.proofs.Common.{ℕ, ◌++◌, List, ap, ◌∙◌}
use Rattle.study_board.specs.declared.men.Man.{Man}
use Rattle.study_board.specs.declared.men.Side.{Side}
use Rattle.study_view.specs.Setup.{passed_squares}
use Rattle.study_web.specs.Setup.{squares_text}
use Rattle.study_web.proofs.answers.setup.passed_of.Goals as goal

pub returns-in-Ok-clause-text : goal.returns-in-Ok-clause-text
returns-in-Ok-clause-text g c =
    let p = c.args.start.now.position in
    c.in-Ok.ensures ∙ ap (λ (xs : List ℕ). xs ++ squares_text c.as_slice.result.now) c.new-text.ensures.items
    ∙ ap squares_text (c.as_slice.ensures.value ∙ c.passed_squares-squares.ensures
    ∙ ap (λ (men : List Man). passed_squares men c.to_move.result) c.men.ensures.value
    ∙ ap (λ (side : Side). passed_squares p.men side) c.to_move.ensures)
