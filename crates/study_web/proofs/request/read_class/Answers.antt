use Rattle.std.proofs.Common.{ap, sym, ◌∙◌}
use Rattle.study_script.specs.Replies.{class_parsed}
use Rattle.study_script.proofs.HeldTables.{class_parsed-name_of}
use Rattle.study_web.proofs.request.read_class.Goals as goal

pub returns-in-Ok : goal.returns-in-Ok
returns-in-Ok c = sym (ap class_parsed c.in-Ok.ensures.ok ∙ class_parsed-name_of c.in-Ok.class)
