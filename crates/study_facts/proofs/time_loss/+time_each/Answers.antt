use Rattle.arrayvec.specs.ArrayVec.{array_vec_len}
use Rattle.std.proofs.Common.{◌≡◌, ◌+◌, ◌≤◌, true, arith, length, ap, suc}
use Rattle.study_moves.specs.Rules.{is_legal}
use Rattle.study_facts.specs.Asked.{within}
use Rattle.study_facts.proofs.Within.{leads-to, evaluated-wider, fault-wider}
use Rattle.study_facts.proofs.Chosen.{all-first, all-rest}
use Rattle.study_facts.proofs.AskedSteps.{asked-then}
use Rattle.study_facts.proofs.time_loss.+time_each.Goals as goal

pub returns-in-Ok-clause-evaluated : goal.returns-in-Ok-clause-evaluated
returns-in-Ok-clause-evaluated g t c =
    asked-then (within c.args.before.now.position.now g.V.Values.source) c.args.values.now c.waste_of_time_for_goal.new.values c.time_each.new.values
    c.time_each.result
    (evaluated-wider g.V.Values.source c.args.before.now.position.now c.played-next.result
    (leads-to c.args.before.now.position.now c.played-next.result c.in-Some.x.now.played
    (all-first (λ x. is_legal c.args.before.now.position.now x.played ≡ true) c.in-Some.x.now c.args.moves.now c.in-Some.rest.now c.in-Some.ensures.cases.0
    c.requires.legal) c.played-next.ensures.value)
    c.args.values.now c.waste_of_time_for_goal.new.values c.in-Ok.ensures.evaluated) c.time_each.ensures.evaluated

pub time_each-requires : goal.time_each-requires
time_each-requires g t c κs within =
    let p = c.args.before.now.position.now in
    let long : length c.args.moves.now ≡ suc (length c.in-Some.rest.now) = ap length c.in-Some.ensures.cases.0 in
    let room : array_vec_len c.args.list.now + length c.args.moves.now ≤ 62 = c.requires.room in
    let one : array_vec_len c.push_timed.new.list ≡ array_vec_len c.args.list.now + 1 = c.push_timed.ensures.len in (
      omega (arith, long, c.decreases),
      (
        within,
        (
          all-rest (λ x. is_legal p x.played ≡ true) c.in-Some.x.now c.args.moves.now c.in-Some.rest.now c.in-Some.ensures.cases.0 c.requires.legal,
          (
            (let z : array_vec_len c.push_timed.new.list + length c.in-Some.rest.now ≤ 62 = omega (arith, long, room, one) in z),
            c.push_timed.ensures.legal
                (all-first (λ x. is_legal p x.played ≡ true) c.in-Some.x.now c.args.moves.now c.in-Some.rest.now
                c.in-Some.ensures.cases.0 c.requires.legal)
                c.requires.listed,
          ),
        ),
      ),
    )

pub returns-in-Err-clause-evaluated : goal.returns-in-Err-clause-evaluated
returns-in-Err-clause-evaluated g t c =
    fault-wider g.V.Values.source c.args.before.now.position.now c.played-next.result
    (leads-to c.args.before.now.position.now c.played-next.result c.in-Some.x.now.played
    (all-first (λ x. is_legal c.args.before.now.position.now x.played ≡ true) c.in-Some.x.now c.args.moves.now c.in-Some.rest.now c.in-Some.ensures.cases.0
    c.requires.legal) c.played-next.ensures.value)
    c.args.values.now c.waste_of_time_for_goal.new.values c.in-Err.fault c.in-Err.ensures.evaluated
