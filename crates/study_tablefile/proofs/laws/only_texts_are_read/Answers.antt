use Rattle.study_tablefile.proofs.TablesRead.{text_of_read, complete_when_read}
use Rattle.study_tablefile.proofs.laws.only_texts_are_read.Goals as goal

pub returns-clause-text : goal.returns-clause-text
returns-clause-text c = text_of_read

pub returns-clause-complete : goal.returns-clause-complete
returns-clause-complete c = complete_when_read
