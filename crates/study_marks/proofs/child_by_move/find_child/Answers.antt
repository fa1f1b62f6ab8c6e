use Rattle.std.proofs.Common.{sym, ◌∙◌}
use Rattle.study_tree.specs.Tree.{plain_tree}
use Rattle.study_marks.proofs.PathRenewed.{no-spot}
use Rattle.study_marks.proofs.ChildFound.{place_at-below, spot-children}
use Rattle.study_marks.proofs.child_by_move.find_child.Goals as goal
use Rattle.study_marks.proofs.child_by_move.find_child.Goals.{in-None, in-Some}

pub find_from-requires-clause-all : goal.find_from-requires-clause-all
find_from-requires-clause-all g c = elim c.match-node.branch [
  | in-None w ↦ absurd (no-spot (plain_tree c.args.tree.now) c.args.steps.now c.requires.found w.in-None.ensures)
  | in-Some w ↦ w.count-is ∙ spot-children (plain_tree c.args.tree.now) c.args.steps.now _ w.in-Some.ensures
]

pub returns : goal.returns
returns g c = c.find_from.ensures ∙ sym (place_at-below (plain_tree c.args.tree.now).below c.args.steps.now c.args.m.now)
