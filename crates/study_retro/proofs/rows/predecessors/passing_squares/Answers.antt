use Rattle.std.proofs.Common.{◌≡◌, ℕ, true, not, sym, ◌∙◌, ap}
use Rattle.std.proofs.lemmas.Bool.{false≢true}
use Rattle.study_board.specs.declared.men.Kind.TheVariants.{Pawn}
use Rattle.study_board.specs.Men.{is_pawn}
use Rattle.study_board.proofs.EqualMen.{kind_same}
use Rattle.study_board.proofs.SetBits.{has-zero}
use Rattle.study_board.specs.Sets.{has}
use Rattle.study_retro.proofs.RowBackLemmas.{pawn_plainly}
use Rattle.study_retro.proofs.rows.predecessors.passing_squares.Goals as goal

pub returns-then-eq : goal.returns-then-eq
returns-then-eq c = λ y on e.
    let last = c.args.last.now in
    let pawn : is_pawn last ≡ true = sym (kind_same last.kind Pawn) ∙ sym c.eq.ensures ∙ c.if-eq.true in
    pawn_plainly c.args.class last y pawn (sym (c.double_step_squares.ensures y on) ∙ e)

-- each square is in the set
pub returns-else-eq : goal.returns-else-eq
returns-else-eq c = λ y on e.
    let all : has c.complement.result y ≡ true = c.complement.ensures y on ∙ ap not (ap (λ (s : ℕ). has s y) c.empty-else-eq.ensures ∙ has-zero y) in
    absurd (false≢true (sym e ∙ all))
