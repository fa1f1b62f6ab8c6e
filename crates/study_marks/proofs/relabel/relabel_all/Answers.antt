use Rattle.std.proofs.Common.{◌∙◌}
use Rattle.study_tree.specs.Tree.{plain_tree}
use Rattle.study_marks.proofs.LabelsRefreshed.{right-refreshed, evaluated-restated}
use Rattle.study_marks.proofs.PathMoved.{counted_by-size}
use Rattle.study_marks.proofs.relabel.relabel_all.Goals as goal

pub returns-clause-evaluated : goal.returns-clause-evaluated
returns-clause-evaluated g c =
    evaluated-restated c.args.all.now c.args.aim.now (plain_tree c.args.tree.now) (plain_tree c.rewrite.new.self) c.size-few.ensures.few
    c.rewrite.ensures.written

pub returns-clause-right : goal.returns-clause-right
returns-clause-right g c =
    right-refreshed c.args.all.now c.args.aim.now (plain_tree c.args.tree.now) (plain_tree c.rewrite.new.self) c.size-few.ensures.few c.rewrite.ensures.written

pub returns-clause-count : goal.returns-clause-count
returns-clause-count g c =
    c.rewrite.ensures.count ∙ counted_by-size (plain_tree c.args.tree.now) c.args.tree.now.relabelled
