use Rattle.std.proofs.Common.{sym, arith}
use Rattle.std.proofs.lemmas.List.{take_all}
use Rattle.study_entry.proofs.name.first.Goals as goal

pub returns-then-text-lt-LONGEST-clause-value : goal.returns-then-text-lt-LONGEST-clause-value
returns-then-text-lt-LONGEST-clause-value c = sym (take_all 255 c.args.text.now (omega arith))
