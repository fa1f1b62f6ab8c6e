use Rattle.study_text.specs.Words.{words}
use Rattle.study_command.proofs.Printable.{printable_first}
use Rattle.study_web.proofs.find_words.read_find.Goals as goal

pub as_text-requires : goal.as_text-requires
as_text-requires c =
    (printable_first c.args.rest.now c.in-Some.name.now (words c.in-Some.behind.now) c.in-Some.ensures.some c.requires).0
