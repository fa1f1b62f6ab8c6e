use Rattle.std.proofs.Common.{◌≡◌, List, ◌∷◌, map, length, suc, false, sym, ap, subst}
use Rattle.study_board.specs.Position.{Position}
use Rattle.study_moves.specs.declared.moves.Move.{Move}
use Rattle.study_moves.specs.Rules.{after}
use Rattle.study_values.specs.Game.{IsValueOf}
use Rattle.study_marks.specs.Evaluated.{IsProbeFaultOf, ProbeCount}
use Rattle.study_marks.proofs.ValuesAsked.{no_value-here, no_value-later, held-evaluated, asked-more}
use Rattle.study_facts.proofs.BestSteps.{best-more}
use Rattle.study_facts.proofs.best.+best_among.Goals as goal

pub returns-in-Err-clause-no_value : goal.returns-in-Err-clause-no_value
returns-in-Err-clause-no_value g t c =
    let held = g.V.Values.source.held c.args.values.now in
    let p = c.args.p.now in
    let rest = map (after p) c.in-Some.rest.now in
    subst (λ (ms : List Move). IsProbeFaultOf held (map (after p) ms) c.in-Err.fault)
    (sym c.in-Some.ensures.cases.0)
    (subst (λ (q : Position). IsProbeFaultOf held (q ∷ rest) c.in-Err.fault) c.played-next.ensures.value
    (no_value-here held c.played-next.result rest c.value.result c.in-Err.fault c.in-Err.is c.value.ensures.no_table
    c.value.ensures.damaged))

pub returns-in-Err-best_among-clause-no_value : goal.returns-in-Err-best_among-clause-no_value
returns-in-Err-best_among-clause-no_value g t c =
    let held = g.V.Values.source.held c.args.values.now in
    let p = c.args.p.now in
    let rest = map (after p) c.in-Some.rest.now in
    subst (λ (ms : List Move). IsProbeFaultOf held (map (after p) ms) c.in-Err-best_among.fault)
    (sym c.in-Some.ensures.cases.0)
    (subst (λ (q : Position). IsProbeFaultOf held (q ∷ rest) c.in-Err-best_among.fault) c.played-next.ensures.value
    (no_value-later held (g.V.Values.source.held c.value.new.self) c.played-next.result rest c.in-Err-best_among.fault
    (held-evaluated held c.played-next.result c.value.result c.in-Ok.value c.in-Ok.is c.value.ensures.no_table) c.value.ensures.same_tables
    c.in-Err-best_among.ensures.no_value))

pub returns-in-Err-best_among-clause-asked : goal.returns-in-Err-best_among-clause-asked
returns-in-Err-best_among-clause-asked g t c =
    let long : suc (length c.in-Some.rest.now) ≡ length c.args.moves.now = sym (ap length c.in-Some.ensures.cases.0) in
    subst (λ n. ProbeCount n false (g.V.Values.source.asked_of c.args.values.now) (g.V.Values.source.asked_of c.best_among.new.values)) long
    (asked-more (length c.in-Some.rest.now) false (g.V.Values.source.asked_of c.args.values.now)
    (g.V.Values.source.asked_of c.value.new.self) (g.V.Values.source.asked_of c.best_among.new.values) c.value.ensures.asked
    c.in-Err-best_among.ensures.asked)

pub returns-in-Ok-best_among-clause-game : goal.returns-in-Ok-best_among-clause-game
returns-in-Ok-best_among-clause-game g t c h =
    best-more c.args.p.now c.in-Some.m.now c.args.moves.now c.in-Some.rest.now c.in-Ok.value c.in-Ok-best_among.later c.better_of.result
    c.in-Some.ensures.cases.0
    (subst (λ (q : Position). IsValueOf q c.in-Ok.value) c.played-next.ensures.value (c.in-Ok.ensures.game h))
    (c.in-Ok-best_among.ensures.game (c.value.ensures.stays_honest h)) c.better_of.ensures
