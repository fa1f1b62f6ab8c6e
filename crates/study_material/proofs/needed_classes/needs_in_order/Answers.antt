use Rattle.study_material.specs.declared.class.Class.TheVariants.{KK, KQK, KRK, KBK, KNK, KPK, KQQK, KQRK}
use Rattle.study_material.specs.declared.class.Class.TheVariants.{KQBK, KQNK, KQPK, KRRK, KRBK, KRNK, KRPK}
use Rattle.study_material.specs.declared.class.Class.TheVariants.{KBBK, KBNK, KBPK, KNNK, KNPK, KPPK}
use Rattle.study_material.proofs.NeedsThroughOthers.{order_is}
use Rattle.study_material.proofs.needed_classes.needs_in_order.Goals as goal

pub returns-in-KK-clause-order : goal.returns-in-KK-clause-order
returns-in-KK-clause-order c = rw c.in-KK.is (order_is KK)

pub returns-in-KQK-clause-order : goal.returns-in-KQK-clause-order
returns-in-KQK-clause-order c = rw c.in-KQK.is (order_is KQK)

pub returns-in-KRK-clause-order : goal.returns-in-KRK-clause-order
returns-in-KRK-clause-order c = rw c.in-KRK.is (order_is KRK)

pub returns-in-KBK-clause-order : goal.returns-in-KBK-clause-order
returns-in-KBK-clause-order c = rw c.in-KBK.is (order_is KBK)

pub returns-in-KNK-clause-order : goal.returns-in-KNK-clause-order
returns-in-KNK-clause-order c = rw c.in-KNK.is (order_is KNK)

pub returns-in-KPK-clause-order : goal.returns-in-KPK-clause-order
returns-in-KPK-clause-order c = rw c.in-KPK.is (order_is KPK)

pub returns-in-KQQK-clause-order : goal.returns-in-KQQK-clause-order
returns-in-KQQK-clause-order c = rw c.in-KQQK.is (order_is KQQK)

pub returns-in-KQRK-clause-order : goal.returns-in-KQRK-clause-order
returns-in-KQRK-clause-order c = rw c.in-KQRK.is (order_is KQRK)

pub returns-in-KQBK-clause-order : goal.returns-in-KQBK-clause-order
returns-in-KQBK-clause-order c = rw c.in-KQBK.is (order_is KQBK)

pub returns-in-KQNK-clause-order : goal.returns-in-KQNK-clause-order
returns-in-KQNK-clause-order c = rw c.in-KQNK.is (order_is KQNK)

pub returns-in-KQPK-clause-order : goal.returns-in-KQPK-clause-order
returns-in-KQPK-clause-order c = rw c.in-KQPK.is (order_is KQPK)

pub returns-in-KRRK-clause-order : goal.returns-in-KRRK-clause-order
returns-in-KRRK-clause-order c = rw c.in-KRRK.is (order_is KRRK)

pub returns-in-KRBK-clause-order : goal.returns-in-KRBK-clause-order
returns-in-KRBK-clause-order c = rw c.in-KRBK.is (order_is KRBK)

pub returns-in-KRNK-clause-order : goal.returns-in-KRNK-clause-order
returns-in-KRNK-clause-order c = rw c.in-KRNK.is (order_is KRNK)

pub returns-in-KRPK-clause-order : goal.returns-in-KRPK-clause-order
returns-in-KRPK-clause-order c = rw c.in-KRPK.is (order_is KRPK)

pub returns-in-KBBK-clause-order : goal.returns-in-KBBK-clause-order
returns-in-KBBK-clause-order c = rw c.in-KBBK.is (order_is KBBK)

pub returns-in-KBNK-clause-order : goal.returns-in-KBNK-clause-order
returns-in-KBNK-clause-order c = rw c.in-KBNK.is (order_is KBNK)

pub returns-in-KBPK-clause-order : goal.returns-in-KBPK-clause-order
returns-in-KBPK-clause-order c = rw c.in-KBPK.is (order_is KBPK)

pub returns-in-KNNK-clause-order : goal.returns-in-KNNK-clause-order
returns-in-KNNK-clause-order c = rw c.in-KNNK.is (order_is KNNK)

pub returns-in-KNPK-clause-order : goal.returns-in-KNPK-clause-order
returns-in-KNPK-clause-order c = rw c.in-KNPK.is (order_is KNPK)

pub returns-in-KPPK-clause-order : goal.returns-in-KPPK-clause-order
returns-in-KPPK-clause-order c = rw c.in-KPPK.is (order_is KPPK)
