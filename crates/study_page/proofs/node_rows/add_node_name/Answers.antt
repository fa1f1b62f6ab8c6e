use Rattle.std.proofs.Common.{◌≡◌, ℕ, List, ◌++◌, Some, None, sym, ap, ◌∙◌}
use Rattle.std.proofs.lemmas.Result.{on_ok_weaker}
use Rattle.study_notation.specs.declared.start.Start.{Start}
use Rattle.study_tree.specs.Tree.{spot_at}
use Rattle.study_marks.specs.Bench.{played_by}
use Rattle.study_marks.specs.BenchState.{marked_study}
use Rattle.study_head.specs.Words.{label}
use Rattle.study_page.specs.PageNode.{IsMoveTo}
use Rattle.study_page.specs.Words.{label_to, where_words}
use Rattle.study_page.proofs.MadeRows.{label-made}
use Rattle.study_page.proofs.node_rows.add_node_name.Goals as goal

pub add_label-requires : goal.add_label-requires
add_label-requires g c =
    let s = marked_study c.args.bench.now in
    let by : IsMoveTo s c.args.node.now.here.steps.now (Some c.in-Some.step) = rw c.in-Some.is at c.requires.by in
    by.0.legal

pub returns-in-None : goal.returns-in-None
returns-in-None g c =
    let s = marked_study c.args.bench.now in
    let path = c.args.node.now.here.steps.now in
    let none : played_by (spot_at s.tree path) ≡ None = rw c.in-None.is at c.requires.by in
    on_ok_weaker c.add.result (λ h. h ∙ ap (λ o. c.args.text.now ++ label_to s path o) (sym none)) c.add.ensures

pub returns-in-Some : goal.returns-in-Some
returns-in-Some g c =
    let s = marked_study c.args.bench.now in
    let step = c.in-Some.step in
    let by : IsMoveTo s c.args.node.now.here.steps.now (Some step) = rw c.in-Some.is at c.requires.by in
    on_ok_weaker c.add_label.result
    (λ h. h ∙ ap (λ (x : Start). c.args.text.now ++ label x step.before.depth step.before.position.now step.played) c.start-first.ensures.value
    ∙ ap (λ (t : List ℕ). c.args.text.now ++ t) (label-made s step by.0 ∙ ap (where_words s) by.1))
    c.add_label.ensures
