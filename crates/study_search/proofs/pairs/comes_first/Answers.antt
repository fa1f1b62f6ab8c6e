use Rattle.std.proofs.Common.{◌⊎◌, inl, inr}
use Rattle.study_material.specs.declared.class.Class.{Class}
use Rattle.study_material.specs.Needs.{NeedsClass}
use Rattle.study_board.specs.Position.{Position}
use Rattle.study_search.proofs.Faults.{reported-wider, if-wider, if_reported}
use Rattle.study_search.proofs.OneOfTwo.{first-drawn, not-drawn}
use Rattle.study_search.proofs.pairs.comes_first.Goals as goal

abbrev either : Position → Position → Class → Type 0
either p q c = NeedsClass p c ⊎ NeedsClass q c

pub returns-in-Err-clause-faults : goal.returns-in-Err-clause-faults
returns-in-Err-clause-faults g c =
    reported-wider g.V.Values.source (NeedsClass c.args.p.now) (either c.args.p.now c.args.q.now) (λ d n. inl n)
    c.args.values.now c.in-Err.fault c.in-Err.ensures.faults

pub returns-in-Ok-false-clause-faults : goal.returns-in-Ok-false-clause-faults
returns-in-Ok-false-clause-faults g c =
    if-wider g.V.Values.source (NeedsClass c.args.q.now) (either c.args.p.now c.args.q.now) (λ d n. inr n)
    c.args.values.now c.has_lower_number.result
    (if_reported g.V.Values.source (NeedsClass c.args.q.now) c.args.values.now c.has.new.values c.has_lower_number.result
    c.has_lower_number.ensures.faults c.has.ensures.tables c.has.ensures.honest)

pub returns-in-Ok-true-clause-game : goal.returns-in-Ok-true-clause-game
returns-in-Ok-true-clause-game g c h =
    first-drawn c.args.p.now c.args.q.now c.in-Ok-true.field-0 (c.in-Ok-true.ensures.game h) c.in-Ok-true.field-0-test

pub returns-in-Ok-false-clause-game : goal.returns-in-Ok-false-clause-game
returns-in-Ok-false-clause-game g c h =
    not-drawn c.args.p.now c.args.q.now c.in-Ok-false.field-0 c.has_lower_number.result (c.in-Ok-false.ensures.game h) c.in-Ok-false.field-0-test
    (c.has_lower_number.ensures.game (c.has.ensures.honest h))
