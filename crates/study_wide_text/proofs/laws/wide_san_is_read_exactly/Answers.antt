use Rattle.study_wide_text.proofs.WideReadExactly.{exactly}
use Rattle.study_wide_text.proofs.laws.wide_san_is_read_exactly.Goals as goal

pub returns-clause-one : goal.returns-clause-one
returns-clause-one c = λ g text m wide. (exactly g text wide).one m

pub returns-clause-none : goal.returns-clause-none
returns-clause-none c = λ g text wide. (exactly g text wide).none

pub returns-clause-several : goal.returns-clause-several
returns-clause-several c = λ g text wide. (exactly g text wide).more

pub returns-clause-no_san : goal.returns-clause-no_san
returns-clause-no_san c = λ g text wide. (exactly g text wide).not_san

pub returns-clause-never : goal.returns-clause-never
returns-clause-never c = λ g text wide. (exactly g text wide).never
