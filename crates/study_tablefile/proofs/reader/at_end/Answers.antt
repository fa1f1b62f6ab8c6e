use Rattle.std.proofs.Common.{◌≡◌, length, take, arith}
use Rattle.study_tablefile.proofs.StoppedAt.{trailing_at}
use Rattle.study_tablefile.proofs.reader.at_end.Goals as goal

pub returns-in-Ok-clause-stops : goal.returns-in-Ok-clause-stops
returns-in-Ok-clause-stops g c bytes pages e =
    let one : length (take c.in-Ok.field-0 c.read.new.buf) ≡ 1 = omega (arith, c.in-Ok.ensures.bound.0, c.in-Ok.ensures.bound.1) in
    trailing_at _ _ (take c.in-Ok.field-0 c.read.new.buf) bytes pages one c.in-Ok.ensures.bytes.0 e
