use Rattle.std.proofs.Common.{◌≡◌, ◌++◌, ◌+◌, ◌*◌, ◌≤◌}
use Rattle.study_marks.specs.Study.{IsPlayable}
use Rattle.study_tree.specs.Forest.{nodes_in}
use Rattle.study_marks.proofs.PathWalks.{skip}
use Rattle.study_page.specs.Tree.{item_words, tree_words}
use Rattle.study_page.proofs.tree.+tree.Given as goal

-- fewer nodes are below a child
abbrev pub decreases-put_variations : goal.decreases-put_variations
decreases-put_variations g l = 2 * nodes_in l.here.now.node.below

abbrev pub decreases-put_line : goal.decreases-put_line
decreases-put_line g l = 2 * nodes_in l.here.now.node.below + 1

-- the items that are written, and those that are left, are all of them
abbrev pub invariant-put_variations-loop-place : goal.invariant-put_variations-loop-place
invariant-put_variations-loop-place g l =
    l.list ++ item_words l.hero l.here.start (skip l.place l.here.node.below) ≡ item_words l.hero l.here.start (skip 1 l.here.node.below)

-- what is written, and what follows the node that is reached, are all of it
abbrev pub invariant-put_line-plies : goal.invariant-put_line-plies
invariant-put_line-plies g l = record {
  playable : IsPlayable l.here.start.position l.here.node.below;
  written : l.html ++ tree_words l.hero l.first l.here.start l.here.node.below
      ≡ l.fn.html ++ tree_words l.hero l.fn.first l.fn.here.start l.fn.here.node.below;
  fewer : nodes_in l.here.node.below ≤ nodes_in l.fn.here.node.below;
}

abbrev pub decreases-put_line-plies : goal.decreases-put_line-plies
decreases-put_line-plies g l = nodes_in l.here.node.below
