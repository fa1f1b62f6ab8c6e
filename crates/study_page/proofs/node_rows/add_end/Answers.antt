use Rattle.std.proofs.Common.{sym, subst, arith, ◌∙◌}
use Rattle.std.proofs.lemmas.Result.{on_ok_weaker}
use Rattle.study_notation.specs.declared.start.Start.{Start}
use Rattle.study_tree.proofs.TreeDepth.{within-length}
use Rattle.study_marks.specs.BenchState.{marked_study}
use Rattle.study_facts.specs.Made.{Grew}
use Rattle.study_facts.specs.Nodes.{is_open_end}
use Rattle.study_facts.proofs.NodesShown.{not-there}
use Rattle.study_page.specs.Rows.{IsEnd}
use Rattle.study_page.proofs.MadeRows.{end-evaluated}
use Rattle.study_page.proofs.WholePage.{from-nothing}
use Rattle.study_page.proofs.node_rows.add_end.Goals as goal

pub returns-then-not-is_open_end-clause-text : goal.returns-then-not-is_open_end-clause-text
returns-then-not-is_open_end-clause-text g c h =
    let s = marked_study c.args.bench.now in
    not-there (is_open_end s c.args.node.now.here.steps.now) _ c.args.html.now
    (sym (c.is_open_end.ensures s c.requires.here) ∙ c.if-not-is_open_end.true)

pub add_continued-requires : goal.add_continued-requires
add_continued-requires g c =
    let few = within-length 256 (marked_study c.args.bench.now).tree.below c.args.node.now.here.steps.now c.start.ensures.study.shallow c.requires.here.there in
    let deep = c.requires.here.node.depth in
    omega (arith, few, deep)

pub returns-clause-text : goal.returns-clause-text
returns-clause-text g c h =
    let s = marked_study c.args.bench.now in
    let here = c.args.node.now.here in
    let name = c.as_slice.result.now in
    on_ok_weaker c.add_continued.result
    (λ grew. end-evaluated s here c.requires.here name c.args.html.now c.add_continued.new.html
    (sym (c.is_open_end.ensures s c.requires.here) ∙ c.if-not-is_open_end.false)
    (c.as_slice.ensures ∙ from-nothing _ _ _ c.new-name.ensures c.in_ok-add_node_name.ensures)
    (subst (λ (st : Start). Grew (IsEnd st here.node.depth name here.node.position.now here.value) c.args.html.now c.add_continued.new.html)
    c.start.ensures.value grew))
    (c.add_continued.ensures.text h)
