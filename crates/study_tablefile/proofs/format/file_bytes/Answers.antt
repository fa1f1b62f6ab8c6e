use Rattle.std.proofs.Common.{sym, ◌∙◌}
use Rattle.study_tablefile.proofs.ReadAgain.{text_length}
use Rattle.study_tablefile.proofs.format.file_bytes.Goals as goal

pub returns-clause-text : goal.returns-clause-text
returns-clause-text c t v e = text_length t c.args.class v e ∙ sym c.file_size.ensures
