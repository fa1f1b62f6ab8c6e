use Rattle.std.proofs.Common.{ap, ◌∙◌, length, sym, subst}
use Rattle.study_tree.specs.Tree.{plain_tree}
use Rattle.study_marks.specs.BenchState.{evaluation_tree, AllAddUp}
use Rattle.study_marks.proofs.PathMoved.{all-moved, all-evaluated, counted_by-more, changed-there}
use Rattle.study_marks.proofs.fault_sums.update_faults.Goals as goal

pub returns-clause-evaluated : goal.returns-clause-evaluated
returns-clause-evaluated g c =
    let tree = plain_tree c.args.tree.now in
    let e = changed-there tree c.args.steps.now c.change_along-changed.result _ c.requires.found
    c.change_along-changed.ensures.refusal c.change_along-changed.ensures.changed in
    ap evaluation_tree e ∙ all-evaluated c.args.aim.now c.counted_from_depth-from.result c.args.minus c.args.plus tree c.args.steps.now

pub returns-clause-right : goal.returns-clause-right
returns-clause-right g c =
    let tree = plain_tree c.args.tree.now in
    let e = changed-there tree c.args.steps.now c.change_along-changed.result _ c.requires.found
    c.change_along-changed.ensures.refusal c.change_along-changed.ensures.changed in
    subst (AllAddUp c.args.aim.now) (sym e)
    (all-moved c.args.aim.now c.counted_from_depth-from.result c.args.minus c.args.plus tree c.args.steps.now c.requires.found
    c.requires.off c.size-few.ensures.few c.counted_from_depth-from.ensures)

pub returns-clause-count : goal.returns-clause-count
returns-clause-count g c =
    changed-there (plain_tree c.args.tree.now) c.args.steps.now c.change_along-changed.result _ c.requires.found
    c.change_along-changed.ensures.refusal c.change_along-changed.ensures.count
    ∙ counted_by-more (length c.args.steps.now) c.args.tree.now.relabelled
