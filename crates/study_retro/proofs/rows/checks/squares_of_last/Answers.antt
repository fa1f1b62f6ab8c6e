use Rattle.std.proofs.Common.{◌≡◌, false, sym, ◌∙◌}
use Rattle.std.proofs.lemmas.Bool.{not-true}
use Rattle.study_board.specs.Men.{attacks_square, same_side}
use Rattle.study_board.proofs.EqualMen.{side_same}
use Rattle.study_board.proofs.SetBits.{none_unless}
use Rattle.study_retro.specs.Still.{opposing_man}
use Rattle.study_retro.proofs.rows.checks.squares_of_last.Goals as goal

pub returns-then-ne : goal.returns-then-ne
returns-then-ne c y ly =
    let other : same_side c.args.last.now.side c.args.by ≡ false =
    sym (side_same c.args.last.now.side c.args.by) ∙ not-true _ (sym c.ne.ensures ∙ c.if-ne.true) in
    rw c.empty.ensures (none_unless _ (attacks_square c.args.others.now (opposing_man c.args.last.now c.args.x) y) y other)
