use Rattle.std.proofs.Common.{◌≡◌, ◌+◌, ◌≤◌, ◌<◌, List, ◌∷◌, map, length, is_ok, IfErr, sym, ap, subst, arith, suc}
use Rattle.study_board.specs.Position.{Position}
use Rattle.study_moves.specs.declared.moves.Move.{Move}
use Rattle.study_moves.specs.Rules.{after}
use Rattle.study_values.specs.Game.{IsValueOf}
use Rattle.study_marks.specs.MoveOutcomes.{MoveOutcomes}
use Rattle.study_marks.specs.Evaluated.{IsProbeFaultOf, ProbeCount}
use Rattle.study_marks.proofs.ValuesAsked.{next_count-more, no_value-here, no_value-more, asked-more, legal-rest, room-with}
use Rattle.study_marks.proofs.evaluate.+tally_moves.Goals as goal

pub tally_moves-requires : goal.tally_moves-requires
tally_moves-requires g t c κs within =
    let long : length c.args.moves.now ≡ suc (length c.in-Some.rest.now) = ap length c.in-Some.ensures.cases.0 in (
      omega (arith, long, c.decreases),
      (
        within,
        (
          legal-rest c.args.p.now _ c.args.moves.now c.in-Some.rest.now c.in-Some.ensures.cases.0 c.requires.legal,
          subst (λ (u : MoveOutcomes). length u.mates + u.draws + length c.in-Some.rest.now ≤ 62) (sym c.add.ensures)
              (room-with c.args.tally.now c.in-Ok.value (length c.in-Some.rest.now)
              (subst (λ n. length c.args.tally.now.mates + c.args.tally.now.draws + n ≤ 62) long
              c.requires.room)),
        ),
      ),
    )

pub returns-in-Err-clause-no_value : goal.returns-in-Err-clause-no_value
returns-in-Err-clause-no_value g t c =
    let held = g.V.Values.source.held c.args.values.now in
    let rest = map (after c.args.p.now) c.in-Some.rest.now in
    subst (λ (ms : List Move). IsProbeFaultOf held (map (after c.args.p.now) ms) c.in-Err.fault)
    (sym c.in-Some.ensures.cases.0)
    (subst (λ (q : Position). IsProbeFaultOf held (q ∷ rest) c.in-Err.fault) c.played-next.ensures.value
    (no_value-here held c.played-next.result rest c.value.result c.in-Err.fault c.in-Err.is c.value.ensures.no_table
    c.value.ensures.damaged))

pub returns-in-Err-clause-asked : goal.returns-in-Err-clause-asked
returns-in-Err-clause-asked g t c =
    let long : length c.args.moves.now ≡ suc (length c.in-Some.rest.now) = ap length c.in-Some.ensures.cases.0 in
    (0, (let z : 0 < length c.args.moves.now = omega (arith, long) in z), c.value.ensures.asked)

pub returns-in-Ok-clause-game : goal.returns-in-Ok-clause-game
returns-in-Ok-clause-game g t c h =
    next_count-more c.args.p.now c.in-Some.m.now c.args.moves.now c.in-Some.rest.now c.in-Ok.value c.args.tally.now
    c.add.new.self c.tally_moves.new.tally c.tally_moves.result c.in-Some.ensures.cases.0
    (subst (λ (q : Position). IsValueOf q c.in-Ok.value) c.played-next.ensures.value (c.in-Ok.ensures.game h))
    c.add.ensures (c.tally_moves.ensures.game (c.value.ensures.stays_honest h))

pub returns-in-Ok-clause-no_value : goal.returns-in-Ok-clause-no_value
returns-in-Ok-clause-no_value g t c =
    let next = c.played-next.ensures.value in
    subst
    (λ (ms : List Move). IfErr c.tally_moves.result
    (IsProbeFaultOf (g.V.Values.source.held c.args.values.now) (map (after c.args.p.now) ms)))
    (sym c.in-Some.ensures.cases.0)
    (subst (λ (q : Position). IfErr c.tally_moves.result
    (IsProbeFaultOf (g.V.Values.source.held c.args.values.now) (q ∷ map (after c.args.p.now) c.in-Some.rest.now))) next
    (no_value-more (g.V.Values.source.held c.args.values.now) (g.V.Values.source.held c.value.new.self) c.played-next.result
    (map (after c.args.p.now) c.in-Some.rest.now) c.value.result c.in-Ok.value c.tally_moves.result c.in-Ok.is
    c.value.ensures.no_table c.value.ensures.same_tables c.tally_moves.ensures.no_value))

pub returns-in-Ok-clause-asked : goal.returns-in-Ok-clause-asked
returns-in-Ok-clause-asked g t c =
    let long : suc (length c.in-Some.rest.now) ≡ length c.args.moves.now = sym (ap length c.in-Some.ensures.cases.0) in
    subst (λ n. ProbeCount n (is_ok c.tally_moves.result) (g.V.Values.source.asked_of c.args.values.now)
    (g.V.Values.source.asked_of c.tally_moves.new.values)) long
    (asked-more (length c.in-Some.rest.now) (is_ok c.tally_moves.result) (g.V.Values.source.asked_of c.args.values.now)
    (g.V.Values.source.asked_of c.value.new.self) (g.V.Values.source.asked_of c.tally_moves.new.values) c.value.ensures.asked
    c.tally_moves.ensures.asked)
