use Rattle.study_tails.proofs.Resumed.{below_step}
use Rattle.study_tails.proofs.followed.+subtree_at.Goals as goal

pub returns-in-Some-child : goal.returns-in-Some-child
returns-in-Some-child g t c =
    rw (c.in-Some.ensures.cases.0, below_step c.args.from.below c.in-Some.first.now c.in-Some.rest.now _ c.in-Some-child.ensures) c.subtree_at.ensures
