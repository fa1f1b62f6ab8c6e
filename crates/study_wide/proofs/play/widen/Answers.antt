use Rattle.study_wide.proofs.FewMen.{wide_of}
use Rattle.study_wide.proofs.play.widen.Goals as goal

pub of-requires : goal.of-requires
of-requires c =
    rw (c.copied_men.ensures, c.men.ensures.value, c.to_move.ensures, c.passed.ensures, c.none.ensures) (wide_of c.args.p.now c.men.ensures.valid)
