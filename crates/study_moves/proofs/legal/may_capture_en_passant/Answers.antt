use Rattle.std.proofs.Common.{◌∙◌, sym}
use Rattle.study_board.specs.declared.men.Kind.TheVariants.{Pawn}
use Rattle.study_board.proofs.EqualMen.{kind_same}
use Rattle.study_moves.proofs.SafeTargets.{none_passed, no_pawn_passes}
use Rattle.study_moves.proofs.legal.may_capture_en_passant.Goals as goal

pub returns-in-None : goal.returns-in-None
returns-in-None c e x = none_passed c.args.p.now.passed c.args.man.now x (sym c.passed.ensures ∙ c.in-None.is)

pub returns-in-Some : goal.returns-in-Some
returns-in-Some c e x = no_pawn_passes c.args.p.now.passed c.args.man.now x (sym (c.eq.ensures ∙ kind_same c.args.man.now.kind Pawn) ∙ e)
