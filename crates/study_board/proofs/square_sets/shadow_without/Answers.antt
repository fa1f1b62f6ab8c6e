use Rattle.std.proofs.Common.{sym, ◌∙◌}
use Rattle.std.proofs.lemmas.Bool.{eqb-true}
use Rattle.study_board.specs.Geometry.{strictly_between}
use Rattle.study_board.proofs.SetBits.{none_unless, same_is_not}
use Rattle.study_board.proofs.square_sets.shadow_without.Goals as goal

pub returns-then-eq : goal.returns-then-eq
returns-then-eq c x lx =
    let same = eqb-true _ _ (sym c.eq.ensures ∙ c.if-eq.true) in
    rw c.empty.ensures (none_unless _ (strictly_between c.args.a c.args.y x) x (same_is_not c.args.y c.args.lifted same))
