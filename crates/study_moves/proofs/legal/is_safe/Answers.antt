use Rattle.std.proofs.Common.{◌≡◌, ◌∙◌, ap, false, not}
use Rattle.study_board.specs.Sets.{has}
use Rattle.study_moves.specs.KingSafety.{is_unsafe}
use Rattle.study_moves.proofs.SafeTargets.{safe_where}
use Rattle.study_moves.proofs.legal.is_safe.Goals as goal

pub returns-else-may_capture_en_passant : goal.returns-else-may_capture_en_passant
returns-else-may_capture_en_passant c =
    let small = c.number-target.ensures.small in
    let none : c.may_capture_en_passant.result ≡ false = cc in
    let set : has c.unsafe_targets.result c.args.m.now.target ≡ is_unsafe c.args.p.now.men c.args.p.now.to_move c.args.man.now c.args.m.now.target =
    c.unsafe_targets.ensures c.args.m.now.target small ∙ rw (c.men.ensures.value, c.to_move-else-may_capture_en_passant.ensures) in
    ap not c.contains.ensures ∙ safe_where c.args.p.now c.args.man.now c.args.m.now c.unsafe_targets.result
    c.requires.going (c.may_capture_en_passant.ensures none c.args.m.now.target) set
