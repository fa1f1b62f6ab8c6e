use Rattle.std.proofs.Common.{◌||◌, Bool, refl, ◌∙◌, ap}
use Rattle.study_board.specs.Sets.{has}
use Rattle.study_retro.proofs.rows.quiet_moves.with_square_if.Goals as goal

pub returns-then-more : goal.returns-then-more
returns-then-more c = λ x on.
    c.union.ensures x ∙ ap (λ (b : Bool). has c.args.set x || b) (c.of.ensures x on) ∙ rw c.if-more.true refl
