use Rattle.std.proofs.Common.{ap, sym, ◌∙◌}
use Rattle.study_tree.specs.Edits.{width}
use Rattle.study_marks.proofs.Readers.{width-shown_marks}
use Rattle.study_marks.proofs.marked_node.MarkedNode.width.Goals as goal

pub returns : goal.returns
returns g c =
    let b = c.self.inside.branch in
    c.width.ensures ∙ sym (width-shown_marks c.self.inside.aim c.self.inside.depth b.label.evaluated b.below) ∙ ap (λ t. width t.below) c.self.view_is
