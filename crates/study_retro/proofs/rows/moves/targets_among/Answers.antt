use Rattle.std.proofs.Common.{◌≡◌, true, false, sym, ◌∙◌}
use Rattle.study_board.specs.declared.men.Kind.TheVariants.{Pawn}
use Rattle.study_board.specs.Men.{is_pawn}
use Rattle.study_board.proofs.EqualMen.{kind_same}
use Rattle.study_retro.proofs.RowMoveLemmas.{goes_as_piece, steps_as_pawn}
use Rattle.study_retro.proofs.rows.moves.targets_among.Goals as goal

pub returns-then-eq : goal.returns-then-eq
returns-then-eq c x lx =
    let pawn : is_pawn c.args.man.now ≡ true = sym (kind_same c.args.man.now.kind Pawn) ∙ sym c.eq.ensures ∙ c.if-eq.true in
    c.pawn_step_targets.ensures x lx ∙ steps_as_pawn c.args.others.now c.args.man.now x pawn

pub returns-else-eq : goal.returns-else-eq
returns-else-eq c x lx =
    let piece : is_pawn c.args.man.now ≡ false = sym (kind_same c.args.man.now.kind Pawn) ∙ sym c.eq.ensures ∙ c.if-eq.false in
    c.without.ensures x lx ∙ rw (c.attacks.ensures x lx, c.occupied_squares.ensures x lx) (sym (goes_as_piece c.args.others.now c.args.man.now x piece))
