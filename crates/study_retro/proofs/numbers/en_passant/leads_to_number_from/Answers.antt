use Rattle.std.proofs.Common.{refl}
use Rattle.study_moves.specs.Unmoves.{move_from}
use Rattle.study_retro.proofs.MovedSteps.{lands_left}
use Rattle.study_retro.proofs.QuietSteps.{dead_plain}
use Rattle.study_retro.proofs.numbers.en_passant.leads_to_number_from.Goals as goal

pub returns-then-not-may_leave_capture : goal.returns-then-not-may_leave_capture
returns-then-not-may_leave_capture c = λ q p at leads. (
  λ t. lands_left c.args.class c.args.number q at (dead_plain c.args.class c.args.number q at c.requires.plain) p
      (move_from c.args.man.now c.args.origin) leads (c.may_leave_capture.ensures c.if-not-may_leave_capture.true),
  λ e. refl,
)
