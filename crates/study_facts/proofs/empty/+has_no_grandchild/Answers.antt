use Rattle.std.proofs.Common.{◌≡◌, ◌+◌, ◌<◌, ◌≤◌, ◌==◌, ◌&&◌, false, refl, sym, ap, ◌∙◌, arith}
use Rattle.study_tree.specs.Edits.{width}
use Rattle.study_marks.specs.BenchState.{marked_study}
use Rattle.study_marks.specs.FaultSums.{below_at, siblings_from}
use Rattle.study_marks.proofs.ChildFound.{skipped-end}
use Rattle.study_facts.specs.Order.{has_no_grandchild}
use Rattle.study_facts.proofs.NodesShown.{not-zero}
use Rattle.study_facts.proofs.WrittenOrder.{none-here}
use Rattle.study_facts.proofs.empty.+has_no_grandchild.Goals as goal

pub returns-then-place-count : goal.returns-then-place-count
returns-then-place-count g t c =
    let f = below_at (marked_study c.args.bench.now).tree.below c.args.steps.now in
    let few : width f ≤ c.args.place = omega (arith, c.requires.all, c.if-place-count.true) in
    sym (ap has_no_grandchild (skipped-end c.args.place f few))

pub returns-then-grandchild_count-eq0 : goal.returns-then-grandchild_count-eq0
returns-then-grandchild_count-eq0 g t c =
    let f = (marked_study c.args.bench.now).tree.below in
    let lt : c.args.place < width (below_at f c.args.steps.now) = omega (arith, c.requires.all, c.if-place-count.false) in
    ap (λ i. (i == 0) && c.has_no_grandchild.result) (sym c.if-grandchild_count-eq0.true)
    ∙ none-here f c.args.steps.now c.args.place (c.args.place + 1) c.grandchild_count.result c.has_no_grandchild.result lt c.grandchild_count.ensures refl c.has_no_grandchild.ensures

pub returns-else-grandchild_count-eq0 : goal.returns-else-grandchild_count-eq0
returns-else-grandchild_count-eq0 g t c =
    let f = (marked_study c.args.bench.now).tree.below in
    let lt : c.args.place < width (below_at f c.args.steps.now) = omega (arith, c.requires.all, c.if-place-count.false) in
    let rest = has_no_grandchild (siblings_from (c.args.place + 1) (below_at f c.args.steps.now)) in
    let some : (c.grandchild_count.result == 0) ≡ false = not-zero c.grandchild_count.result c.if-grandchild_count-eq0.false in
    some ∙ ap (λ b. b && rest) (sym some)
    ∙ none-here f c.args.steps.now c.args.place (c.args.place + 1) c.grandchild_count.result rest lt c.grandchild_count.ensures refl refl
