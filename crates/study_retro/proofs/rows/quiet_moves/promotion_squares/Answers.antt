use Rattle.std.proofs.Common.{◌≡◌, true, false, refl, sym, ◌∙◌}
use Rattle.study_board.specs.declared.men.Kind.TheVariants.{Pawn}
use Rattle.study_board.specs.Men.{is_pawn}
use Rattle.study_board.proofs.EqualMen.{kind_same}
use Rattle.study_board.proofs.SetBits.{has-zero}
use Rattle.study_retro.proofs.rows.quiet_moves.promotion_squares.Goals as goal

pub returns-then-eq : goal.returns-then-eq
returns-then-eq c = λ x on.
    let pawn : is_pawn c.args.man.now ≡ true = sym (kind_same c.args.man.now.kind Pawn) ∙ sym c.eq.ensures ∙ c.if-eq.true in
    rw (c.last_rank_squares.ensures x on, pawn) refl

pub returns-else-eq : goal.returns-else-eq
returns-else-eq c = λ x on.
    let none : is_pawn c.args.man.now ≡ false = sym (kind_same c.args.man.now.kind Pawn) ∙ sym c.eq.ensures ∙ c.if-eq.false in
    rw (c.empty.ensures, has-zero x, none) refl
