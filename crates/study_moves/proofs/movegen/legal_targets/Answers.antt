use Rattle.std.proofs.lemmas.Bool.{false≢true}
use Rattle.study_moves.proofs.TargetSets.{all_in_targets, targets_go}
use Rattle.study_moves.proofs.SafeTargets.{safe_all, safe_go, safe_sure}
use Rattle.study_moves.proofs.movegen.legal_targets.Goals as goal

pub returns-then-may_capture_en_passant-clause-all : goal.returns-then-may_capture_en_passant-clause-all
returns-then-may_capture_en_passant-clause-all c =
    all_in_targets c.args.p.now c.args.man.now c.men-men.result.now c.to_move-side.result c.passed.result
    c.targets-all.result c.men-men.ensures.value c.to_move-side.ensures c.passed.ensures c.targets-all.ensures

pub returns-then-may_capture_en_passant-clause-going : goal.returns-then-may_capture_en_passant-clause-going
returns-then-may_capture_en_passant-clause-going c =
    targets_go c.args.p.now c.args.man.now c.men-men.result.now c.to_move-side.result c.passed.result
    c.targets-all.result c.men-men.ensures.value c.to_move-side.ensures c.passed.ensures c.targets-all.ensures

pub returns-then-may_capture_en_passant-clause-sure : goal.returns-then-may_capture_en_passant-clause-sure
returns-then-may_capture_en_passant-clause-sure c e = absurd (false≢true e)

pub returns-else-may_capture_en_passant-clause-all : goal.returns-else-may_capture_en_passant-clause-all
returns-else-may_capture_en_passant-clause-all c = safe_all c.args.p.now c.args.man.now c.men-men.result.now c.to_move-side.result
    c.passed.result c.targets-all.result c.unsafe_targets.result c.without.result c.men-men.ensures.value
    c.to_move-side.ensures c.passed.ensures c.targets-all.ensures c.unsafe_targets.ensures c.without.ensures
    c.requires (c.may_capture_en_passant.ensures c.if-may_capture_en_passant.false)

pub returns-else-may_capture_en_passant-clause-going : goal.returns-else-may_capture_en_passant-clause-going
returns-else-may_capture_en_passant-clause-going c =
    safe_go c.args.p.now c.args.man.now c.men-men.result.now c.to_move-side.result c.passed.result
    c.targets-all.result c.unsafe_targets.result c.without.result c.men-men.ensures.value c.to_move-side.ensures
    c.passed.ensures c.targets-all.ensures c.unsafe_targets.ensures c.without.ensures c.requires
    (c.may_capture_en_passant.ensures c.if-may_capture_en_passant.false)

pub returns-else-may_capture_en_passant-clause-sure : goal.returns-else-may_capture_en_passant-clause-sure
returns-else-may_capture_en_passant-clause-sure c e =
    safe_sure c.args.p.now c.args.man.now c.men-men.result.now c.to_move-side.result c.passed.result
    c.targets-all.result c.unsafe_targets.result c.without.result c.men-men.ensures.value c.to_move-side.ensures
    c.passed.ensures c.targets-all.ensures c.unsafe_targets.ensures c.without.ensures c.requires
    (c.may_capture_en_passant.ensures c.if-may_capture_en_passant.false)
