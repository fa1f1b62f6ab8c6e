use Rattle.std.proofs.Common.{ap, ◌∙◌}
use Rattle.study_command.specs.Paths.{steps_of}
use Rattle.study_command.specs.Documents.{Document}
use Rattle.study_script.specs.State.{quiet}
use Rattle.study_script.specs.Replies.{start_found}
use Rattle.study_script.proofs.HeldBehindReplies.{empty_seen, start_seen, study_seen}
use Rattle.study_script.proofs.queries.start_at.Goals as goal

pub returns-in-Empty : goal.returns-in-Empty
returns-in-Empty g c = λ s h. (quiet, ap (λ (x : Document). start_found quiet x (steps_of c.args.path.now)) (empty_seen c.args.document.now s c.in-Empty.is h))

pub returns-in-Start : goal.returns-in-Start
returns-in-Start g c = λ s h. let f = c.root_start.ensures in (
  f.0,
  f.1 ∙ ap (λ (x : Document). start_found f.0 x (steps_of c.args.path.now))
      (start_seen c.args.document.now c.in-Start.start s c.in-Start.is h),
)

pub returns-in-Study : goal.returns-in-Study
returns-in-Study g c = λ s h. let f = c.node_start.ensures in (
  f.0,
  f.1 ∙ ap (λ (x : Document). start_found f.0 x (steps_of c.args.path.now))
      (study_seen c.args.document.now c.in-Study.bench s c.in-Study.is h),
)
