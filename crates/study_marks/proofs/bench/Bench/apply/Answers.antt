use Rattle.std.proofs.Common.{◌≡◌, IfErr, sym, refl, ap, subst}
use Rattle.study_board.specs.Position.{Position}
use Rattle.study_moves.specs.Rules.{after}
use Rattle.study_notation.specs.declared.start.Start.{Start}
use Rattle.study_marks.specs.declared.mark.Mark.{Mark}
use Rattle.study_marks.specs.Study.{position_after, position_at, plain_study}
use Rattle.study_marks.specs.Queries.{asked_at, positions_asked}
use Rattle.study_marks.specs.Edits.{with_start}
use Rattle.study_marks.specs.EditLists.{questions_of}
use Rattle.study_marks.specs.Answers.{TellsFirstFault}
use Rattle.study_marks.proofs.FaultsReported.{same-first, same-undamaged}
use Rattle.study_marks.specs.BenchState.{marked_study}
use Rattle.study_marks.proofs.SameShape.{moves_to-mapped}
use Rattle.study_marks.proofs.OneEdit.{position-applied, insert-refused, insert-accepted, shift-applied, stipulation-applied}
use Rattle.study_marks.proofs.bench.Bench.apply.Goals as goal

pub returns-in_err-_place-in-Insert-clause-applied : goal.returns-in_err-_place-in-Insert-clause-applied
returns-in_err-_place-in-Insert-clause-applied g c =
    let e = c.in_err-_place-in-Insert.ensures in
    let place =
    ap (position_after (marked_study c.args.self.now).start.position)
    (sym (moves_to-mapped (λ (x : Mark). tt {0}) (marked_study c.args.self.now).tree.below c.in-Insert.path)) in
    insert-refused g.V.Values.source c.args.values.now c.insert.new.values c.args.self.now
    c.insert.new.self c.args.edit.now c.in-Insert.path c.in-Insert.m c.in_err-_place-in-Insert.field-0.0
    c.from_residual.result
    c.in-Insert.is c.from_residual.ensures.1 e.refusal place e.asked e.failures e.honest e.tables e.same

pub returns-in-Shift-clause-applied : goal.returns-in-Shift-clause-applied
returns-in-Shift-clause-applied g c =
    let e = c.shift_position.ensures in
    shift-applied g.V.Values.source c.args.values.now c.shift_position.new.values c.args.self.now
    c.shift_position.new.self c.args.edit.now c.in-Shift.start c.copied-in-Shift.result c.shift_position.result
    c.in-Shift.is c.copied-in-Shift.ensures e.broken e.refusal e.found e.edited e.right e.relabelled e.asked e.failures e.honest e.tables e.same

pub returns-in-Stipulate-clause-applied : goal.returns-in-Stipulate-clause-applied
returns-in-Stipulate-clause-applied g c =
    let e = c.set_stipulation.ensures in
    stipulation-applied g.V.Values.source c.args.values.now c.args.values.now c.args.self.now
    c.set_stipulation.new.self c.args.edit.now c.in-Stipulate.stipulation c.in-Stipulate.is e.edited e.right e.kept
    e.relabelled refl refl (λ h. h) (λ k. refl)

pub returns-in_ok-_place-in-Insert-clause-applied : goal.returns-in_ok-_place-in-Insert-clause-applied
returns-in_ok-_place-in-Insert-clause-applied g c =
    let e = c.in_ok-_place-in-Insert.ensures in
    let place =
    ap (position_after (marked_study c.args.self.now).start.position)
    (sym (moves_to-mapped (λ (x : Mark). tt {0}) (marked_study c.args.self.now).tree.below c.in-Insert.path)) in
    insert-accepted g.V.Values.source c.args.values.now c.insert.new.values c.args.self.now
    c.insert.new.self c.args.edit.now c.in-Insert.path c.in-Insert.m c.in_ok-_place-in-Insert._place _
    c.in-Insert.is e.refusal place e.found e.edited e.right e.kept e.relabelled e.asked e.failures e.honest e.tables

pub returns-in_err-_place-in-Insert-clause-first : goal.returns-in_err-_place-in-Insert-clause-first
returns-in_err-_place-in-Insert-clause-first g c =
    let s = plain_study (marked_study c.args.self.now) in
    let place : position_at (marked_study c.args.self.now) c.in-Insert.path ≡ position_at s c.in-Insert.path =
    ap (position_after (marked_study c.args.self.now).start.position)
    (sym (moves_to-mapped (λ (x : Mark). tt {0}) (marked_study c.args.self.now).tree.below c.in-Insert.path)) in
    same-first g.V.Values.source c.args.values.now (questions_of s c.args.edit.now) c.insert.new.values
    c.from_residual.result c.in_err-_place-in-Insert.field-0.0 c.from_residual.ensures.1
    (subst (λ x. TellsFirstFault g.V.Values.source c.args.values.now (questions_of s x) c.insert.new.values
    c.in_err-_place-in-Insert.field-0.0) (sym c.in-Insert.is)
    (subst (λ (p : Position). TellsFirstFault g.V.Values.source c.args.values.now (asked_at (after p c.in-Insert.m))
    c.insert.new.values c.in_err-_place-in-Insert.field-0.0) place c.in_err-_place-in-Insert.ensures.first))

pub returns-in-Shift-clause-first : goal.returns-in-Shift-clause-first
returns-in-Shift-clause-first g c =
    let s = plain_study (marked_study c.args.self.now) in
    subst (λ x. IfErr c.shift_position.result (TellsFirstFault g.V.Values.source c.args.values.now (questions_of s x)
    c.shift_position.new.values)) (sym c.in-Shift.is)
    (subst (λ (st : Start). IfErr c.shift_position.result (TellsFirstFault g.V.Values.source c.args.values.now
    (positions_asked (with_start s st)) c.shift_position.new.values)) c.copied-in-Shift.ensures c.shift_position.ensures.first)

pub returns-in_err-_place-in-Insert-clause-no_damage : goal.returns-in_err-_place-in-Insert-clause-no_damage
returns-in_err-_place-in-Insert-clause-no_damage g c = λ h.
    same-undamaged c.in_err-_place-in-Insert.field-0.0 c.from_residual.result c.from_residual.ensures.1
    (c.in_err-_place-in-Insert.ensures.no_damage h)

pub returns-in-Position-clause-applied : goal.returns-in-Position-clause-applied
returns-in-Position-clause-applied g c =
    let e = c.set_position.ensures in
    position-applied g.V.Values.source c.args.values.now c.set_position.new.values c.args.self.now
    c.set_position.new.self c.args.edit.now c.in-Position.start c.copied.result c.set_position.result
    c.in-Position.is c.copied.ensures e.refusal e.takes_no_memory e.found e.edited e.right e.relabelled e.asked e.failures e.honest e.tables e.same
