use Rattle.std.proofs.Common.{◌≡◌, ◌∷◌, length, ap, rules, arith}
use Rattle.study_web.proofs.Faults.{later_fault}
use Rattle.study_web.proofs.Needed.{need_needed, rest_needed, rest_ascends, rest_settled}
use Rattle.study_web.proofs.answers.make.+load_classes.Goals as goal

pub load_needed-requires : goal.load_needed-requires
load_needed-requires g t c =
    let e : c.args.needed.now ≡ c.in-Some.need.now ∷ c.in-Some.rest.now = search rules in
    need_needed c.args.class c.in-Some.need.now c.in-Some.rest.now c.args.needed.now e c.requires.needed

pub load_classes-requires : goal.load_classes-requires
load_classes-requires g t c κs within =
    let e : c.args.needed.now ≡ c.in-Some.need.now ∷ c.in-Some.rest.now = search rules in
    let l = ap length e in (
      omega (arith, l, c.decreases),
      (
        within,
        (
          rest_needed c.args.class c.in-Some.need.now c.in-Some.rest.now c.args.needed.now e c.requires.needed,
          (
            rest_ascends c.in-Some.need.now c.in-Some.rest.now c.args.needed.now e c.requires.ascending,
            rest_settled c.needs_come_first.ensures c.args.spans.now c.args.bytes.now c.args.class c.in-Some.need.now c.in-Some.rest.now c.args.needed.now
                c.args.tables.now.tables c.load_needed.new.tables.tables e c.requires.needed c.requires.ascending c.requires.settled
                c.in_ok-load_needed-in-Some.ensures.settled c.in_ok-load_needed-in-Some.ensures.keeps,
          ),
        ),
      ),
    )

pub returns-in_ok-load_needed-in-Some-clause-fault : goal.returns-in_ok-load_needed-in-Some-clause-fault
returns-in_ok-load_needed-in-Some-clause-fault g t c =
    let e : c.args.needed.now ≡ c.in-Some.need.now ∷ c.in-Some.rest.now = search rules in
    later_fault c.load_classes.result c.args.spans.now c.args.bytes.now c.args.class c.in-Some.need.now c.in-Some.rest.now c.args.needed.now e
    c.in_ok-load_needed-in-Some.ensures.sound c.load_classes.ensures.fault
