use Rattle.std.proofs.Common.{ℕ, ◌∙◌, ap}
use Rattle.std.proofs.lemmas.Bool.{ne_eqb}
use Rattle.study_board.specs.Sets.{has}
use Rattle.study_board.proofs.SetBits.{has-zero}
use Rattle.study_levels.proofs.cell_blocks.square_where.Goals as goal

pub returns-else-cell-byte : goal.returns-else-cell-byte
returns-else-cell-byte c = λ y on.
    rw (ne_eqb c.args.cell c.args.byte c.if-cell-byte.false) (ap (λ (s : ℕ). has s y) c.empty.ensures ∙ has-zero y)
