use Rattle.arrayvec.specs.ArrayVec.{array_vec_len}
use Rattle.std.proofs.Common.{◌≡◌, ◌+◌, ◌≤◌, true, arith, map, List, length, ap, sym, subst, suc}
use Rattle.std.specs.List.{All}
use Rattle.study_board.specs.Position.{Position}
use Rattle.study_moves.specs.Rules.{is_legal, after}
use Rattle.study_facts.specs.declared.continuation.EvaluatedMove.{EvaluatedMove}
use Rattle.study_facts.specs.Asked.{within}
use Rattle.study_facts.proofs.Within.{leads-to, each-legal, some-evaluated, evaluated-wider, fault-wider, some-fault}
use Rattle.study_facts.proofs.Chosen.{all-first, all-rest}
use Rattle.study_moves.specs.LegalList.{legal_list}
use Rattle.study_facts.proofs.NotHeld.{no_value-not-held}
use Rattle.study_facts.proofs.AskedSteps.{asked-then}
use Rattle.study_facts.proofs.missing_defences.+push_defences.Goals as goal

pub returns-in-Err-clause-no_value : goal.returns-in-Err-clause-no_value
returns-in-Err-clause-no_value g t c k e =
    no_value-not-held (g.V.Values.source.held c.args.values.now) (map (after c.played-next.result) (legal_list c.played-next.result)) c.in-Err.fault k
    c.in-Err.ensures.no_value e

pub returns-in-Ok-clause-evaluated : goal.returns-in-Ok-clause-evaluated
returns-in-Ok-clause-evaluated g t c =
    asked-then (within c.args.node.now.position.now g.V.Values.source) c.args.values.now c.holding_moves.new.values c.push_defences.new.values
    c.push_defences.result
    (evaluated-wider g.V.Values.source c.args.node.now.position.now c.played-next.result
    (leads-to c.args.node.now.position.now c.played-next.result c.in-Some.x.now.played
    (all-first (λ x. is_legal c.args.node.now.position.now x.played ≡ true) c.in-Some.x.now c.args.moves.now c.in-Some.rest.now c.in-Some.ensures.cases.0
    c.requires.legal) c.played-next.ensures.value)
    c.args.values.now c.holding_moves.new.values
    (some-evaluated g.V.Values.source c.played-next.result c.args.values.now c.holding_moves.new.values
    (map (after c.played-next.result) (legal_list c.played-next.result)) (each-legal c.played-next.result) c.in-Ok.ensures.evaluated))
    c.push_defences.ensures.evaluated

pub push_defences-requires : goal.push_defences-requires
push_defences-requires g t c κs within =
    let p = c.args.node.now.position.now in
    let long : length c.args.moves.now ≡ suc (length c.in-Some.rest.now) = ap length c.in-Some.ensures.cases.0 in
    let room : array_vec_len c.args.list.now + length c.args.moves.now ≤ 62 = c.requires.room in
    let one : array_vec_len c.push_defence.new.list ≡ array_vec_len c.args.list.now + 1 = c.push_defence.ensures.len in
    let answers : All (λ y. is_legal c.played-next.result y.played ≡ true) c.as_slice.result.now =
    subst (λ (l : List EvaluatedMove). All (λ y. is_legal c.played-next.result y.played ≡ true) l) (sym c.as_slice.ensures.value) c.in-Ok.ensures.legal in (
      omega (arith, long, c.decreases),
      (
        within,
        (
          c.requires.depth,
          (
            all-rest (λ x. is_legal p x.played ≡ true) c.in-Some.x.now c.args.moves.now c.in-Some.rest.now c.in-Some.ensures.cases.0 c.requires.legal,
            (
              (let z : array_vec_len c.push_defence.new.list + length c.in-Some.rest.now ≤ 62 = omega (arith, long, room, one) in z),
              c.push_defence.ensures.legal
                  (all-first (λ x. is_legal p x.played ≡ true) c.in-Some.x.now c.args.moves.now c.in-Some.rest.now
                  c.in-Some.ensures.cases.0 c.requires.legal)
                  (subst (λ (q : Position). All (λ y. is_legal q y.played ≡ true) c.as_slice.result.now) c.played-next.ensures.value answers)
                  c.requires.listed,
            ),
          ),
        ),
      ),
    )

pub returns-in-Err-clause-evaluated : goal.returns-in-Err-clause-evaluated
returns-in-Err-clause-evaluated g t c =
    fault-wider g.V.Values.source c.args.node.now.position.now c.played-next.result
    (leads-to c.args.node.now.position.now c.played-next.result c.in-Some.x.now.played
    (all-first (λ x. is_legal c.args.node.now.position.now x.played ≡ true) c.in-Some.x.now c.args.moves.now c.in-Some.rest.now c.in-Some.ensures.cases.0
    c.requires.legal) c.played-next.ensures.value)
    c.args.values.now c.holding_moves.new.values c.in-Err.fault
    (some-fault g.V.Values.source c.played-next.result (g.V.Values.source.held c.args.values.now) c.args.values.now c.holding_moves.new.values
    (map (after c.played-next.result) (legal_list c.played-next.result)) c.in-Err.fault (each-legal c.played-next.result) c.in-Err.ensures.no_value
    c.in-Err.ensures.first)
