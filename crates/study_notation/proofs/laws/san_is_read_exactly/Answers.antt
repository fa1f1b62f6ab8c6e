use Rattle.study_notation.proofs.ReadExactly.{exactly}
use Rattle.study_notation.proofs.laws.san_is_read_exactly.Goals as goal

pub returns-clause-one : goal.returns-clause-one
returns-clause-one c = λ p text m valid. (exactly p text valid).one m

pub returns-clause-none : goal.returns-clause-none
returns-clause-none c = λ p text valid. (exactly p text valid).none

pub returns-clause-several : goal.returns-clause-several
returns-clause-several c = λ p text valid. (exactly p text valid).more

pub returns-clause-castling : goal.returns-clause-castling
returns-clause-castling c = λ p text valid. (exactly p text valid).left_out

pub returns-clause-no_san : goal.returns-clause-no_san
returns-clause-no_san c = λ p text valid. (exactly p text valid).not_san
