use Rattle.study_material.specs.declared.class.Class.TheVariants.{KQKQ, KQKR, KQKB, KQKN, KQKP, KRKR, KRKB, KRKN, KRKP, KBKB, KBKN, KBKP, KNKN, KNKP, KPKP}
use Rattle.study_material.proofs.NeedsThroughOthers.{order_is}
use Rattle.study_material.proofs.needed_classes.ordered_of_both.Goals as goal

pub returns-in-KQKQ-clause-order : goal.returns-in-KQKQ-clause-order
returns-in-KQKQ-clause-order c = rw c.in-KQKQ.is (order_is KQKQ)

pub returns-in-KQKR-clause-order : goal.returns-in-KQKR-clause-order
returns-in-KQKR-clause-order c = rw c.in-KQKR.is (order_is KQKR)

pub returns-in-KQKB-clause-order : goal.returns-in-KQKB-clause-order
returns-in-KQKB-clause-order c = rw c.in-KQKB.is (order_is KQKB)

pub returns-in-KQKN-clause-order : goal.returns-in-KQKN-clause-order
returns-in-KQKN-clause-order c = rw c.in-KQKN.is (order_is KQKN)

pub returns-in-KQKP-clause-order : goal.returns-in-KQKP-clause-order
returns-in-KQKP-clause-order c = rw c.in-KQKP.is (order_is KQKP)

pub returns-in-KRKR-clause-order : goal.returns-in-KRKR-clause-order
returns-in-KRKR-clause-order c = rw c.in-KRKR.is (order_is KRKR)

pub returns-in-KRKB-clause-order : goal.returns-in-KRKB-clause-order
returns-in-KRKB-clause-order c = rw c.in-KRKB.is (order_is KRKB)

pub returns-in-KRKN-clause-order : goal.returns-in-KRKN-clause-order
returns-in-KRKN-clause-order c = rw c.in-KRKN.is (order_is KRKN)

pub returns-in-KRKP-clause-order : goal.returns-in-KRKP-clause-order
returns-in-KRKP-clause-order c = rw c.in-KRKP.is (order_is KRKP)

pub returns-in-KBKB-clause-order : goal.returns-in-KBKB-clause-order
returns-in-KBKB-clause-order c = rw c.in-KBKB.is (order_is KBKB)

pub returns-in-KBKN-clause-order : goal.returns-in-KBKN-clause-order
returns-in-KBKN-clause-order c = rw c.in-KBKN.is (order_is KBKN)

pub returns-in-KBKP-clause-order : goal.returns-in-KBKP-clause-order
returns-in-KBKP-clause-order c = rw c.in-KBKP.is (order_is KBKP)

pub returns-in-KNKN-clause-order : goal.returns-in-KNKN-clause-order
returns-in-KNKN-clause-order c = rw c.in-KNKN.is (order_is KNKN)

pub returns-in-KNKP-clause-order : goal.returns-in-KNKP-clause-order
returns-in-KNKP-clause-order c = rw c.in-KNKP.is (order_is KNKP)

pub returns-in-KPKP-clause-order : goal.returns-in-KPKP-clause-order
returns-in-KPKP-clause-order c = rw c.in-KPKP.is (order_is KPKP)
