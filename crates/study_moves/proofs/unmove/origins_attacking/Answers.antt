use Rattle.std.proofs.Common.{◌∙◌, sym, ◌||◌}
use Rattle.study_board.specs.Men.{other_side}
use Rattle.study_board.specs.Sets.{bears_past}
use Rattle.study_board.proofs.SetBits.{none_unless}
use Rattle.study_moves.specs.KingSafety.{threatened_past}
use Rattle.study_moves.specs.Unmoves.{set_back}
use Rattle.study_moves.proofs.unmove.origins_attacking.Goals as goal

pub returns-else-is_king_elsewhere : goal.returns-else-is_king_elsewhere
returns-else-is_king_elsewhere c a la =
    rw c.empty.ensures
    (let men = c.args.men.now in
    let man = c.args.man.now in
    let k = c.args.k.now in
    none_unless _ (bears_past men man.at (set_back man a) k.at || threatened_past men (other_side c.args.side)
    man.at k.at a) a (sym c.is_king_elsewhere.ensures ∙ c.if-is_king_elsewhere.false))
