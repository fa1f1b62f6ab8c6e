use Rattle.study_retro.proofs.numbers.quiet.starts_undecided.Goals as goal

pub returns-then-number-lt-EN_PASSANT_BIT : goal.returns-then-number-lt-EN_PASSANT_BIT
returns-then-number-lt-EN_PASSANT_BIT c = λ t q at. (c.if-number-lt-EN_PASSANT_BIT.true, c.begins_still.ensures t q at)
