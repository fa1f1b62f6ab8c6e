use Rattle.study_command.proofs.Printable.{printable_first}
use Rattle.study_command.proofs.arguments.read_one_word.Goals as goal

pub returns-clause-printable : goal.returns-clause-printable
returns-clause-printable c = λ h. (printable_first c.args.rest.now _ _ c.in_ok-word.ensures.some h).0
