use Rattle.std.proofs.Common.{sym, ◌∙◌}
use Rattle.study_reply.proofs.ReasonsFound.{of-edit}
use Rattle.study_reply.proofs.reply.LineRefusal.reason.Goals as goal

pub returns-in-Line : goal.returns-in-Line
returns-in-Line g c = rw c.in-Line.is (c.reason.ensures ∙ sym (c.texts_have_reasons.ensures.0 c.in-Line.refusal))

pub returns-in-Edit : goal.returns-in-Edit
returns-in-Edit g c = rw c.in-Edit.is (c.edit_reason.ensures ∙ of-edit c.texts_have_reasons.ensures c.in-Edit.refusal)
