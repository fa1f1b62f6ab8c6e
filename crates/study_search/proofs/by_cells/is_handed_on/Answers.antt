use Rattle.study_search.proofs.ZugzwangCells.{not-handed, handed-by}
use Rattle.study_search.proofs.by_cells.is_handed_on.Goals as goal

pub returns-in-None : goal.returns-in-None
returns-in-None c = not-handed c.args.class c.args.number c.in-None.ensures.none

pub returns-in-Some : goal.returns-in-Some
returns-in-Some c = handed-by c.args.class c.args.number c.in-Some.p c.can_either_move.result c.in-Some.ensures.some c.can_either_move.ensures
