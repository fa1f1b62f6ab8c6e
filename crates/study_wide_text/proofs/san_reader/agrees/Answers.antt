use Rattle.std.proofs.Common.{arith}
use Rattle.std.proofs.lemmas.Grind.{common_steps}
use Rattle.study_board.specs.declared.men.Kind.TheVariants.{Pawn}
use Rattle.study_board.proofs.EqualMen.{kind_same}
use Rattle.study_notation.specs.Matching.{agrees}
use Rattle.study_notation.proofs.EqualPromotions.{promotion_same}
use Rattle.study_wide_text.proofs.san_reader.agrees.Goals as goal

pub returns-then-eq-3 : goal.returns-then-eq-3
unfolding agrees
returns-then-eq-3 c =
    grind (
      arith,
      common_steps,
      promotion_same c.args.san.now.promoted c.args.m.now.promoted,
      kind_same c.args.man.now.kind c.args.san.now.kind,
      kind_same c.args.man.now.kind Pawn,
    )

pub returns-else-eq-3 : goal.returns-else-eq-3
unfolding agrees
returns-else-eq-3 c =
    grind (
      arith,
      common_steps,
      promotion_same c.args.san.now.promoted c.args.m.now.promoted,
      kind_same c.args.man.now.kind c.args.san.now.kind,
    )
