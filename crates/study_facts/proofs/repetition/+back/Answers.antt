use Rattle.std.proofs.Common.{◌≡◌, true, false, ◌-◌, ◌↔◌, List, sym, subst}
use Rattle.std.proofs.lemmas.Bool.{iff_false}
use Rattle.study_moves.specs.declared.moves.Move.{Move}
use Rattle.study_facts.specs.Repetition.{IsRepeatableWithin}
use Rattle.study_facts.specs.Leads.{SomeLeads, AllWinsRepeat, MustRepeat}
use Rattle.study_facts.specs.Asked.{within}
use Rattle.study_facts.proofs.Within.{leads-first, evaluated-wider, fault-wider}
use Rattle.study_facts.proofs.AskedSteps.{evaluated-then, fault-then, asked-then}
use Rattle.study_facts.proofs.BackSteps.{AreLegal, goes-by, back-by, if-ok, some-later}
use Rattle.study_facts.proofs.repetition.+back.Goals as goal

pub must_repeat-returns-clause-game : goal.must_repeat-returns-clause-game
must_repeat-returns-clause-game g t c h =
    let line = c.args.line.now in
    let r = c.args.r.now in
    let ms = c.as_slice.result.now in
    if-ok (λ b. (b ≡ true) ↔ AllWinsRepeat line c.args.m r false ms) (λ b. (b ≡ true) ↔ MustRepeat line c.args.m r) c.all_wins_repeat.result
    (λ b. goes-by line c.args.m r ms b
    (subst (λ (l : List Move). AreLegal r l) (sym c.as_slice.ensures.value) c.legal_moves-moves.ensures.legal))
    (c.all_wins_repeat.ensures.game h)

pub is_repeatable_within-returns-clause-game : goal.is_repeatable_within-returns-clause-game
is_repeatable_within-returns-clause-game g t c h =
    let line = c.args.line.now in
    let q = c.args.q.now in
    let ms = c.as_slice.result.now in
    if-ok (λ b. (b ≡ true) ↔ SomeLeads (MustRepeat line (c.args.m - 1)) q ms) (λ b. (b ≡ true) ↔ IsRepeatableWithin line c.args.m q)
    c.can_force_repetition.result
    (λ b. back-by line c.args.m q ms b (iff_false c.is_near_history.ensures c.if-is_near_history.false) c.if-m-eq0.false
    (subst (λ (l : List Move). AreLegal q l) (sym c.as_slice.ensures.value) c.legal_moves-moves.ensures.legal))
    (c.can_force_repetition.ensures.game h)

pub can_force_repetition-returns-in-Ok-false-clause-game : goal.can_force_repetition-returns-in-Ok-false-clause-game
can_force_repetition-returns-in-Ok-false-clause-game g t c h =
    some-later (MustRepeat c.args.line.now c.args.m) c.args.q.now c.in-Some.n.now c.args.moves.now c.in-Some.rest.now c.played-next.result
    c.in-Ok-false.field-0 c.can_force_repetition.result c.in-Some.ensures.cases.0 c.played-next.ensures.value c.in-Ok-false.field-0-test
    (c.in-Ok-false.ensures.game h)
    (c.can_force_repetition.ensures.game (c.must_repeat.ensures.honest h))

pub all_wins_repeat-returns-in-Err-is_repeatable_within-clause-evaluated : goal.all_wins_repeat-returns-in-Err-is_repeatable_within-clause-evaluated
all_wins_repeat-returns-in-Err-is_repeatable_within-clause-evaluated g t c =
    fault-then (within c.args.r.now g.V.Values.source) c.args.values.now c.is_lost.new.values c.is_repeatable_within.new.values
    c.in-Err-is_repeatable_within.fault
    (evaluated-wider g.V.Values.source c.args.r.now c.played-next.result (leads-first c.args.r.now c.played-next.result c.in-Some.h.now c.args.moves.now
    c.in-Some.rest.now c.in-Some.ensures.cases.0 c.requires.legal c.played-next.ensures.value)
    c.args.values.now c.is_lost.new.values c.in-Ok-true.ensures.evaluated)
    (fault-wider g.V.Values.source c.args.r.now c.played-next.result (leads-first c.args.r.now c.played-next.result c.in-Some.h.now c.args.moves.now
    c.in-Some.rest.now c.in-Some.ensures.cases.0 c.requires.legal c.played-next.ensures.value)
    c.is_lost.new.values c.is_repeatable_within.new.values c.in-Err-is_repeatable_within.fault c.in-Err-is_repeatable_within.ensures.evaluated)

pub all_wins_repeat-returns-in-Ok-true-is_repeatable_within-clause-evaluated : goal.all_wins_repeat-returns-in-Ok-true-is_repeatable_within-clause-evaluated
all_wins_repeat-returns-in-Ok-true-is_repeatable_within-clause-evaluated g t c =
    asked-then (within c.args.r.now g.V.Values.source) c.args.values.now c.is_repeatable_within.new.values c.all_wins_repeat.new.values c.all_wins_repeat.result
    (evaluated-then (within c.args.r.now g.V.Values.source) c.args.values.now c.is_lost.new.values c.is_repeatable_within.new.values
    (evaluated-wider g.V.Values.source c.args.r.now c.played-next.result (leads-first c.args.r.now c.played-next.result c.in-Some.h.now c.args.moves.now
    c.in-Some.rest.now c.in-Some.ensures.cases.0 c.requires.legal c.played-next.ensures.value)
    c.args.values.now c.is_lost.new.values c.in-Ok-true.ensures.evaluated)
    (evaluated-wider g.V.Values.source c.args.r.now c.played-next.result (leads-first c.args.r.now c.played-next.result c.in-Some.h.now c.args.moves.now
    c.in-Some.rest.now c.in-Some.ensures.cases.0 c.requires.legal c.played-next.ensures.value)
    c.is_lost.new.values c.is_repeatable_within.new.values c.in-Ok-true-is_repeatable_within.ensures.evaluated)) c.all_wins_repeat.ensures.evaluated

pub all_wins_repeat-returns-in-Ok-false-is_repeatable_within-clause-evaluated : goal.all_wins_repeat-returns-in-Ok-false-is_repeatable_within-clause-evaluated
all_wins_repeat-returns-in-Ok-false-is_repeatable_within-clause-evaluated g t c =
    evaluated-then (within c.args.r.now g.V.Values.source) c.args.values.now
    c.is_lost.new.values c.is_repeatable_within.new.values
    (evaluated-wider g.V.Values.source c.args.r.now c.played-next.result (leads-first c.args.r.now c.played-next.result c.in-Some.h.now c.args.moves.now
    c.in-Some.rest.now c.in-Some.ensures.cases.0 c.requires.legal c.played-next.ensures.value)
    c.args.values.now c.is_lost.new.values c.in-Ok-true.ensures.evaluated)
    (evaluated-wider g.V.Values.source c.args.r.now c.played-next.result (leads-first c.args.r.now c.played-next.result c.in-Some.h.now c.args.moves.now
    c.in-Some.rest.now c.in-Some.ensures.cases.0 c.requires.legal c.played-next.ensures.value)
    c.is_lost.new.values c.is_repeatable_within.new.values c.in-Ok-false-is_repeatable_within.ensures.evaluated)

pub all_wins_repeat-returns-in-Ok-false-clause-evaluated : goal.all_wins_repeat-returns-in-Ok-false-clause-evaluated
all_wins_repeat-returns-in-Ok-false-clause-evaluated g t c =
    asked-then (within c.args.r.now g.V.Values.source) c.args.values.now c.is_lost.new.values c.all_wins_repeat-in-Ok-false.new.values
    c.all_wins_repeat-in-Ok-false.result
    (evaluated-wider g.V.Values.source c.args.r.now c.played-next.result (leads-first c.args.r.now c.played-next.result c.in-Some.h.now c.args.moves.now
    c.in-Some.rest.now c.in-Some.ensures.cases.0 c.requires.legal c.played-next.ensures.value)
    c.args.values.now c.is_lost.new.values c.in-Ok-false.ensures.evaluated) c.all_wins_repeat-in-Ok-false.ensures.evaluated

pub can_force_repetition-returns-in-Ok-false-clause-evaluated : goal.can_force_repetition-returns-in-Ok-false-clause-evaluated
can_force_repetition-returns-in-Ok-false-clause-evaluated g t c =
    asked-then (within c.args.q.now g.V.Values.source) c.args.values.now c.must_repeat.new.values c.can_force_repetition.new.values
    c.can_force_repetition.result
    (evaluated-wider g.V.Values.source c.args.q.now c.played-next.result (leads-first c.args.q.now c.played-next.result c.in-Some.n.now c.args.moves.now
    c.in-Some.rest.now c.in-Some.ensures.cases.0 c.requires.legal c.played-next.ensures.value)
    c.args.values.now c.must_repeat.new.values c.in-Ok-false.ensures.evaluated) c.can_force_repetition.ensures.evaluated

pub all_wins_repeat-returns-in-Err-clause-evaluated : goal.all_wins_repeat-returns-in-Err-clause-evaluated
all_wins_repeat-returns-in-Err-clause-evaluated g t c =
    fault-wider g.V.Values.source c.args.r.now c.played-next.result (leads-first c.args.r.now c.played-next.result c.in-Some.h.now c.args.moves.now
    c.in-Some.rest.now c.in-Some.ensures.cases.0 c.requires.legal c.played-next.ensures.value)
    c.args.values.now c.is_lost.new.values c.in-Err.fault c.in-Err.ensures.evaluated

pub can_force_repetition-returns-in-Err-clause-evaluated : goal.can_force_repetition-returns-in-Err-clause-evaluated
can_force_repetition-returns-in-Err-clause-evaluated g t c =
    fault-wider g.V.Values.source c.args.q.now c.played-next.result (leads-first c.args.q.now c.played-next.result c.in-Some.n.now c.args.moves.now
    c.in-Some.rest.now c.in-Some.ensures.cases.0 c.requires.legal c.played-next.ensures.value)
    c.args.values.now c.must_repeat.new.values c.in-Err.fault c.in-Err.ensures.evaluated

pub can_force_repetition-returns-in-Ok-true-clause-evaluated : goal.can_force_repetition-returns-in-Ok-true-clause-evaluated
can_force_repetition-returns-in-Ok-true-clause-evaluated g t c =
    evaluated-wider g.V.Values.source c.args.q.now c.played-next.result (leads-first c.args.q.now c.played-next.result c.in-Some.n.now c.args.moves.now
    c.in-Some.rest.now c.in-Some.ensures.cases.0 c.requires.legal c.played-next.ensures.value)
    c.args.values.now c.must_repeat.new.values c.in-Ok-true.ensures.evaluated
