use Rattle.std.proofs.Common.{◌≡◌, true, false, refl, ◌∙◌, sym}
use Rattle.study_board.specs.declared.men.Kind.TheVariants.{Pawn}
use Rattle.study_board.specs.Men.{is_pawn, same_side}
use Rattle.study_board.proofs.EqualMen.{side_same, kind_same}
use Rattle.study_board.proofs.SetBits.{has-zero}
use Rattle.study_retro.proofs.RowLemmas.{not_false}
use Rattle.study_retro.proofs.rows.quiet.squares_exposed.Goals as goal

pub returns-else-eq : goal.returns-else-eq
returns-else-eq c = λ y ly.
    let own : same_side c.args.last.now.side c.args.to_move ≡ true = sym (side_same c.args.last.now.side c.args.to_move)
    ∙ not_false _ (sym c.ne.ensures ∙ c.if-ne.false) in
    let none : is_pawn c.args.last.now ≡ false = sym (kind_same c.args.last.now.kind Pawn) ∙ sym c.eq.ensures ∙ c.if-eq.false in
    rw (c.empty.ensures, has-zero y, own, none) refl
