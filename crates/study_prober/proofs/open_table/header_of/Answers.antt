use Rattle.study_prober.proofs.Headers.{never_bad, read_of}
use Rattle.study_prober.proofs.open_table.header_of.Goals as goal

pub returns-in-Err-read_header-clause-reads : goal.returns-in-Err-read_header-clause-reads
returns-in-Err-read_header-clause-reads g c =
    λ t v known honest. absurd
    (never_bad t v c.header.new.into c.in-Err-read_header.fault known (c.in_default.ensures.ok t v honest)
    c.in-Err-read_header.ensures.fault)

pub returns-in-Ok-clause-reads : goal.returns-in-Ok-clause-reads
returns-in-Ok-clause-reads g c = λ t v known honest. read_of t v c.header.new.into c.in-Ok.header known
    (c.in_default.ensures.ok t v honest) c.in-Ok.ensures.class c.in-Ok.ensures.version
