use Rattle.std.proofs.Common.{sym, ap, ◌∙◌}
use Rattle.study_script.specs.Replies.{class_parsed}
use Rattle.study_script.proofs.HeldTables.{class_parsed-name_of}
use Rattle.study_report.specs.Reported.{class_kind}
use Rattle.study_report.proofs.line_kind.class_kind.Goals as goal

pub returns-in-Ok : goal.returns-in-Ok
returns-in-Ok c = sym (ap class_kind (ap class_parsed c.in-Ok.ensures.ok ∙ class_parsed-name_of c.in-Ok.field-0))
