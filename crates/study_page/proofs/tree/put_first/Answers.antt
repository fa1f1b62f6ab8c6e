use Rattle.study_marks.proofs.FirstIllegalMove.{no-child}
use Rattle.study_marks.proofs.PathWalks.{playable_at}
use Rattle.study_page.proofs.TreeWritten.{first_written}
use Rattle.study_page.proofs.tree.put_first.Goals as goal

pub unreachable-requires : goal.unreachable-requires
unreachable-requires g c = no-child c.args.here.now.node.below 0 c.requires.there c.in_default.ensures

pub put_made-requires : goal.put_made-requires
put_made-requires g c = (playable_at c.args.here.now.start.position c.args.here.now.node.below 0 _ c.requires.playable c.in-Some.ensures).0

pub returns : goal.returns
returns g c =
    first_written c.args.hero c.args.here.now.start c.args.first c.args.here.now.node.below _ c.args.html.now c.put_made.new.html c.put_made.result
    c.in-Some.ensures c.put_made.ensures
