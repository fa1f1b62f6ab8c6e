use Rattle.study_web.specs.RemarkRows.{told_fields}
use Rattle.study_web.proofs.answers.remark_rows.add_fields.Goals as goal

pub returns-in-BehindResult : goal.returns-in-BehindResult
unfolding told_fields
returns-in-BehindResult g c = rw c.in-BehindResult.is c.add_pair.ensures
