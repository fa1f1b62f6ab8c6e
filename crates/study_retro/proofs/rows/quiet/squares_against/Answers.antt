use Rattle.std.proofs.Common.{[], sym, ◌∙◌}
use Rattle.study_board.specs.Men.{attacks_square}
use Rattle.study_board.proofs.SetBits.{none_unless}
use Rattle.study_retro.specs.Still.{opposing_man}
use Rattle.study_retro.proofs.rows.quiet.squares_against.Goals as goal

pub returns-then-not-is_relevant_target : goal.returns-then-not-is_relevant_target
returns-then-not-is_relevant_target c y ly =
    rw c.empty.ensures (none_unless _ (attacks_square [] (opposing_man c.args.last.now c.args.m.now.at) y) y (sym c.is_relevant_target.ensures
    ∙ c.if-not-is_relevant_target.true))
