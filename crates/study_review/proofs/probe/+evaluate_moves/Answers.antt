use Rattle.std.proofs.Common.{◌≡◌, true, length, suc, ap, arith}
use Rattle.study_moves.specs.Rules.{is_legal}
use Rattle.study_facts.specs.Asked.{within}
use Rattle.study_facts.proofs.Asking.{asks-then}
use Rattle.study_facts.proofs.Chosen.{all-rest}
use Rattle.study_review.proofs.ReportedMoves.{evaluated-one}
use Rattle.study_review.proofs.probe.+evaluate_moves.Goals as goal

pub evaluate_moves-requires : goal.evaluate_moves-requires
evaluate_moves-requires g t c κs within =
    let p = c.args.p.now in
    let long : length c.args.moves.now ≡ suc (length c.in-Some.rest.now) = ap length c.in-Some.ensures.cases.0 in (
      omega (arith, long, c.decreases),
      (
        within.0,
        (
          within.1,
          (
            all-rest (λ m. is_legal p m ≡ true) c.in-Some.m.now c.args.moves.now c.in-Some.rest.now c.in-Some.ensures.cases.0 c.requires.moves,
            c.in_ok-push_evaluated-in-Some.ensures.legal c.requires.legal,
          ),
        ),
      ),
    )

pub returns-in_ok-push_evaluated-in-Some-clause-game : goal.returns-in_ok-push_evaluated-in-Some-clause-game
returns-in_ok-push_evaluated-in-Some-clause-game g t c h =
    evaluated-one c.args.p.now c.in-Some.m.now c.args.moves.now c.in-Some.rest.now c.args.evaluated.now.items c.push_evaluated.new.evaluated.items
    c.evaluate_moves.new.evaluated.items
    c.evaluate_moves.result c.in-Some.ensures.cases.0 (c.in_ok-push_evaluated-in-Some.ensures.game h)
    (c.evaluate_moves.ensures.game (c.in_ok-push_evaluated-in-Some.ensures.asked.honest h))

pub returns-in_ok-push_evaluated-in-Some-clause-asked : goal.returns-in_ok-push_evaluated-in-Some-clause-asked
returns-in_ok-push_evaluated-in-Some-clause-asked g t c =
    asks-then (within c.args.p.now g.V.Values.source)
    c.args.values.now c.push_evaluated.new.values c.evaluate_moves.new.values c.evaluate_moves.result c.in_ok-push_evaluated-in-Some.ensures.asked
    c.evaluate_moves.ensures.asked
