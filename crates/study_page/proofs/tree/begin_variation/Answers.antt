use Rattle.study_marks.proofs.FirstIllegalMove.{no-child}
use Rattle.study_marks.proofs.PathWalks.{playable_at}
use Rattle.study_page.proofs.WholePage.{from-nothing}
use Rattle.study_page.proofs.tree.begin_variation.Goals as goal

pub unreachable-requires : goal.unreachable-requires
unreachable-requires g c = no-child c.args.here.now.node.below c.args.place c.requires.there c.in_default.ensures

pub put_made-requires : goal.put_made-requires
put_made-requires g c =
    (playable_at c.args.here.now.start.position c.args.here.now.node.below c.args.place _ c.requires.playable c.in-Some.ensures).0

pub played-start-requires : goal.played-start-requires
played-start-requires g c =
    (playable_at c.args.here.now.start.position c.args.here.now.node.below c.args.place _ c.requires.playable c.in-Some.ensures).0

pub returns : goal.returns
returns g c =
    rw c.in-Ok.ensures.ok (
      c.in-Some.child.played,
      (
        c.in-Some.ensures,
        c.played-start.ensures.value,
        from-nothing c.new-text.result c.put_made.new.html _ c.new-text.ensures c.in_ok-put_made.ensures,
      ),
    )
