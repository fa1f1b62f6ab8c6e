use Rattle.study_index.proofs.ReadCells.{some_plain, none_plain}
use Rattle.study_index.proofs.decoding.decode_plain.Goals as goal

pub returns-clause-some : goal.returns-clause-some
returns-clause-some c = some_plain c.args.class c.args.n _ _ c.requires.cell c.requires.plain c.slots-slots.ensures c.decode_slots.ensures.some

pub returns-clause-none : goal.returns-clause-none
returns-clause-none c = none_plain c.args.class c.args.n _ _ c.requires.plain c.slots-slots.ensures c.decode_slots.ensures.none
