use Rattle.std.proofs.Common.{ap, ◌∙◌}
use Rattle.study_script.specs.Replies.{class_parsed}
use Rattle.study_script.proofs.HeldTables.{class_parsed-name_of}
use Rattle.study_script.proofs.table_commands.class_of_name.Goals as goal

pub returns-in-Ok-clause-ok : goal.returns-in-Ok-clause-ok
returns-in-Ok-clause-ok c = ap class_parsed c.in-Ok.ensures.ok ∙ class_parsed-name_of c.in-Ok.class
