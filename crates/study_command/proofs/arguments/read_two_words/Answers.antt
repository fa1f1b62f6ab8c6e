use Rattle.study_command.proofs.Printable.{printable_first, printable_behind}
use Rattle.study_command.proofs.arguments.read_two_words.Goals as goal

pub returns-clause-printable : goal.returns-clause-printable
returns-clause-printable c =
    λ h. (printable_first c.in_ok-first.rest.now _ _ c.in_ok-second.ensures.some
    (rw c.in_ok-first.ensures.behind (printable_behind c.args.rest.now h))).0
