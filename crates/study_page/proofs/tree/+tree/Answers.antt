use Rattle.std.proofs.Common.{ap, nat_lt, arith, ◌∙◌, ◌++◌, refl, []}
use Rattle.study_marks.proofs.PathWalks.{skip, fewer}
use Rattle.study_page.specs.Tree.{item_words, tree_words}
use Rattle.study_pgn.proofs.ChildSteps.{playable_below}
use Rattle.study_page.proofs.TreeWritten.{ok_holds, no_tree, item_written, list_written, ply_written}
use Rattle.study_moves.specs.declared.moves.Move.{Move}
use Rattle.study_tree.specs.Forest.{Twig}
use Rattle.study_tree.specs.Tree.{Plain}
use Rattle.study_marks.specs.declared.mark.Mark.{Mark}
use Rattle.study_page.proofs.tree.+tree.Goals as goal

-- a child, by the move to it
abbrev child : Move → Plain Mark → Twig Mark
child m node = record { played = m; label = node.label; below = node.below }

pub put_variations-begin_variation-requires-clause-there : goal.put_variations-begin_variation-requires-clause-there
put_variations-begin_variation-requires-clause-there g t c = omega (arith, c.loop-place-test.true, c.width-place-end.ensures)

pub put_variations-put_line-written-requires : goal.put_variations-put_line-written-requires
put_variations-put_line-written-requires g t c κs within =
    let f = c.args.here.now.node.below in
    let begun = rw (← c.deref_mut-line.ensures.value) at c.in_ok-variation.ensures in (
      omega (arith, fewer f c.loop-place.place _ begun.1.0, c.decreases),
      (within.0, (within.1, playable_below c.args.here.now.start _ f c.loop-place.place _ begun.1.0 begun.1.1 c.requires)),
    )

pub put_variations-loop-place-preserved : goal.put_variations-loop-place-preserved
put_variations-loop-place-preserved g t c =
    let f = c.args.here.now.node.below in
    let s = c.args.here.now.start in
    let line = c.deref_mut-line.result.now in
    let begun = rw (← c.deref_mut-line.ensures.value) at c.in_ok-variation.ensures in
    item_written c.args.hero s f c.loop-place.place _ line.reached.start begun.1.1 [] line.text c.put_line-written.new.html
    c.loop-place.list (item_words c.args.hero s (skip 1 f)) c.end_variation.new.list
    begun.1.0 refl begun.1.2 (ok_holds c.put_line-written.result c.in_ok-end_variation.ensures.written c.put_line-written.ensures)
    c.in_ok-end_variation.ensures.item c.loop-place.invariant

pub put_variations-returns : goal.put_variations-returns
put_variations-returns g t c =
    let f = c.args.here.now.node.below in
    list_written c.args.hero c.args.here.now.start f c.loop-place.place c.args.html.now c.loop-place.list c.put_list.new.html c.put_list.result
    (omega (arith, c.loop-place-test.false, c.width-place-end.ensures)) c.loop-place.invariant c.put_list.ensures

pub put_line-returns-then-moves-eq0 : goal.put_line-returns-then-moves-eq0
put_line-returns-then-moves-eq0 g t c =
    no_tree c.args.hero c.plies.here.start c.plies.first c.plies.here.node.below c.plies.html (omega (arith, c.if-moves-eq0.true, c.width-moves.ensures))
    ∙ c.plies.invariant.written

pub put_line-put_first-requires-clause-there : goal.put_line-put_first-requires-clause-there
put_line-put_first-requires-clause-there g t c = omega (arith, c.if-moves-eq0.false, c.width-moves.ensures)

pub put_line-go_on-requires-clause-there : goal.put_line-go_on-requires-clause-there
put_line-go_on-requires-clause-there g t c = omega (arith, c.if-moves-eq0.false, c.width-moves.ensures)

pub put_line-plies-preserved : goal.put_line-plies-preserved
put_line-plies-preserved g t c =
    let f = c.plies.here.node.below in
    let s = c.plies.here.start in
    record {
      playable = playable_below s c.go_on.new.here.start f 0 (child c.go_on.ensures.0 c.go_on.new.here.node) c.go_on.ensures.1.0 c.go_on.ensures.1.1
          c.plies.invariant.playable;
      written = ply_written c.args.hero s c.plies.first f (child c.go_on.ensures.0 c.go_on.new.here.node) c.go_on.new.here.start c.go_on.ensures.1.1
          c.plies.html c.put_first.new.html c.put_variations.new.html
          (c.args.html.now ++ tree_words c.args.hero c.args.first c.args.here.now.start c.args.here.now.node.below) (nat_lt 1 c.width-moves.result)
          c.go_on.ensures.1.0 (c.in_ok-put_first.ensures (child c.go_on.ensures.0 c.go_on.new.here.node) c.go_on.ensures.1.0) c.in_ok-put_variations.ensures
          (ap (nat_lt 1) c.width-moves.ensures) c.plies.invariant.written;
      fewer = omega (arith, fewer f 0 (child c.go_on.ensures.0 c.go_on.new.here.node) c.go_on.ensures.1.0, c.plies.invariant.fewer);
    }

pub put_line-plies-smaller : goal.put_line-plies-smaller
put_line-plies-smaller g t c =
    omega (arith, fewer c.plies.here.node.below 0 (child c.go_on.ensures.0 c.go_on.new.here.node) c.go_on.ensures.1.0)
