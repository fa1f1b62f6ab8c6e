use Rattle.std.proofs.Common.{◌≡◌, true, List, sym, subst, rules}
use Rattle.std.specs.List.{Contains}
use Rattle.study_material.specs.declared.class.Class.{Class}
use Rattle.study_material.specs.Needs.{IsOrder}
use Rattle.study_web.specs.Making.{is_ascending}
use Rattle.study_web.proofs.Faults.{all_raised}
use Rattle.study_web.proofs.Needed.{order_ascends}
use Rattle.study_web.proofs.answers.make.needed_tables.Goals as goal

pub load_classes-requires-clause-needed : goal.load_classes-requires-clause-needed
load_classes-requires-clause-needed g c = λ d k.
    (c.order-needed.ensures.each d).0 (subst (λ (cs : List Class). Contains cs d) c.as_slice.ensures.value k)

pub load_classes-requires-clause-ascending : goal.load_classes-requires-clause-ascending
load_classes-requires-clause-ascending g c =
    subst (λ (cs : List Class). is_ascending cs ≡ true) (sym c.as_slice.ensures.value) (order_ascends c.order-needed.ensures)

pub load_classes-requires-clause-settled : goal.load_classes-requires-clause-settled
load_classes-requires-clause-settled g c = λ d needed out.
    absurd (out (subst (λ (cs : List Class). Contains cs d) (sym c.as_slice.ensures.value) ((c.order-needed.ensures.each d).1 needed)))

pub returns-in_err-load_classes-clause-fault : goal.returns-in_err-load_classes-clause-fault
returns-in_err-load_classes-clause-fault g c =
    let fault = all_raised c.load_classes.result c.args.spans.now c.args.bytes.now c.args.class c.as_slice.result.now
    (subst (λ (cs : List Class). IsOrder c.args.class cs) (sym c.as_slice.ensures.value) c.order-needed.ensures) c.load_classes.ensures.fault in search rules
