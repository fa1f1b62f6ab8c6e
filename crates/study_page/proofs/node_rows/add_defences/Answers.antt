use Rattle.std.proofs.Common.{◌≡◌, List, None, sym, subst, ◌∙◌}
use Rattle.study_tree.specs.Tree.{spot_at}
use Rattle.study_marks.specs.BenchState.{marked_study}
use Rattle.study_marks.specs.FaultSums.{below_at}
use Rattle.study_marks.proofs.PathRenewed.{no-spot}
use Rattle.study_facts.specs.declared.missing_defences.Defence.{Defence}
use Rattle.study_facts.specs.Defences.{AreDefences}
use Rattle.study_facts.specs.Line.{moves_of}
use Rattle.study_facts.specs.Nodes.{is_defended}
use Rattle.study_facts.proofs.NodesShown.{not-there}
use Rattle.study_page.proofs.MadeRows.{defences-evaluated}
use Rattle.study_page.proofs.node_rows.add_defences.Goals as goal

pub returns-then-not-is_defended-clause-text : goal.returns-then-not-is_defended-clause-text
returns-then-not-is_defended-clause-text g c h =
    let s = marked_study c.args.bench.now in
    not-there (is_defended s c.args.node.now.here.steps.now) _ c.args.html.now
    (sym (c.is_defended.ensures s c.requires.here) ∙ c.if-not-is_defended.true)

pub returns-in-None-clause-text : goal.returns-in-None-clause-text
returns-in-None-clause-text g c h =
    let tree = (marked_study c.args.bench.now).tree in
    let gone : spot_at tree c.args.node.now.here.steps.now ≡ None = rw c.in-None.is at c.in_ok-children_in.ensures in
    absurd (no-spot tree c.args.node.now.here.steps.now c.requires.here.there gone)

pub returns-clause-text : goal.returns-clause-text
returns-clause-text g c h =
    let s = marked_study c.args.bench.now in
    let here = c.args.node.now.here in
    let there : c.in-Some.there.items ≡ moves_of (below_at s.tree.below here.steps.now) = rw c.in-Some.is at c.in_ok-children_in.ensures in
    defences-evaluated s here c.requires.here c.args.node.now.known.now c.as_slice-moves.result.now c.as_slice.result.now c.args.html.now c.put_defences_at.new.html
    (sym (c.is_defended.ensures s c.requires.here) ∙ c.if-not-is_defended.false) (c.as_slice-moves.ensures.value ∙ there)
    (subst (λ (l : List Defence). AreDefences here.node.aim.now here.node.depth here.node.position.now c.as_slice-moves.result.now l)
    (sym c.as_slice.ensures.value) (c.in-Ok.ensures.game h))
    c.in_ok-put_defences_at-in-Ok.ensures
