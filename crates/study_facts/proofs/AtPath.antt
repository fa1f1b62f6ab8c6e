-- What holds at a node or a move that a walk reaches holds at its path.
use Rattle.std.proofs.Common.{ℕ, List, length, subst}
use Rattle.study_board.specs.Position.{Position}
use Rattle.study_marks.specs.declared.mark_rules.Aim.{Aim}
use Rattle.study_marks.specs.declared.mark.Mark.{Mark}
use Rattle.study_marks.specs.Study.{Study, position_at}
use Rattle.study_marks.specs.Goals.{aim_of}
use Rattle.study_facts.specs.declared.study_node.StudyMove.{StudyMove}
use Rattle.study_facts.specs.declared.study_node.StudyNode.{StudyNode}
use Rattle.study_facts.specs.Line.{line_to}
use Rattle.study_facts.specs.Nodes.{parent_path}
use Rattle.study_facts.specs.StudyNode.{IsStudyNode, IsStudyMove}

pub as-made : (s : Study Mark) (x : StudyMove) → IsStudyMove s x → (P : Aim → ℕ → List Position → Position → Type 0)
    → P x.before.aim.now x.before.depth x.line.now x.before.position.now
    → P (aim_of s) (length (parent_path x.steps.now)) (line_to s (parent_path x.steps.now)) (position_at s (parent_path x.steps.now))
as-made s x h P k =
    let front = parent_path x.steps.now in
    let one = subst (λ (a : Aim). P a x.before.depth x.line.now x.before.position.now) h.step.before.aim k in
    let two = subst (λ d. P (aim_of s) d x.line.now x.before.position.now) h.step.before.depth one in
    let three = subst (λ (l : List Position). P (aim_of s) (length front) l x.before.position.now) h.step.line two in
    subst (λ (p : Position). P (aim_of s) (length front) (line_to s front) p) h.step.before.position three

pub as-placed : (s : Study Mark) (x : StudyNode) → IsStudyNode s x → (P : Aim → ℕ → Position → Type 0)
    → P x.node.aim.now x.node.depth x.node.position.now → P (aim_of s) (length x.steps.now) (position_at s x.steps.now)
as-placed s x h P k =
    let one = subst (λ (a : Aim). P a x.node.depth x.node.position.now) h.node.aim k in
    let two = subst (λ d. P (aim_of s) d x.node.position.now) h.node.depth one in
    subst (λ (p : Position). P (aim_of s) (length x.steps.now) p) h.node.position two
