use Rattle.study_marks.proofs.FirstIllegalMove.{no-child}
use Rattle.study_marks.proofs.PathWalks.{playable_at}
use Rattle.study_page.proofs.tree.go_on.Goals as goal

pub unreachable-requires : goal.unreachable-requires
unreachable-requires g c = no-child c.args.here.now.node.below 0 c.requires.there c.in_default.ensures

pub played-start-requires : goal.played-start-requires
played-start-requires g c = (playable_at c.args.here.now.start.position c.args.here.now.node.below 0 _ c.requires.playable c.in-Some.ensures).0

pub returns : goal.returns
returns g c = (c.in-Some.child.played, (c.in-Some.ensures, c.played-start.ensures.value))
