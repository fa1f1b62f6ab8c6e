use Rattle.std.proofs.Common.{◌≡◌, ℕ, List, None, sym, ap, subst, ◌∙◌}
use Rattle.study_tree.specs.Tree.{spot_at}
use Rattle.study_marks.specs.Bench.{played_by}
use Rattle.study_marks.specs.BenchState.{marked_study}
use Rattle.study_marks.specs.FaultSums.{below_at}
use Rattle.study_facts.specs.declared.missing_defences.Defence.{Defence}
use Rattle.study_facts.specs.Defences.{AreDefences}
use Rattle.study_facts.specs.Line.{moves_of}
use Rattle.study_facts.proofs.NodesShown.{front-is}
use Rattle.study_head.specs.Solution.{with_missing}
use Rattle.study_head.proofs.FactsMade.{move-begins, defence-added}
use Rattle.study_head.proofs.solution_walk.add_beside.Goals as goal

pub returns-in-None-clause-added : goal.returns-in-None-clause-added
returns-in-None-clause-added g c h =
    let tree = (marked_study c.args.bench.now).tree in
    let gone : spot_at tree c.args.front.now ≡ None = rw c.in-None.is at c.in_ok-children_in.ensures in
    absurd (move-begins tree c.args.front.now c.requires.front.0 c.args.step.now.played gone
    (ap (λ (u : List ℕ). played_by (spot_at tree u)) (sym c.requires.front.1) ∙ c.requires.step.step.played))

pub returns-clause-added : goal.returns-clause-added
returns-clause-added g c h =
    let s = marked_study c.args.bench.now in
    let step = c.args.step.now in
    let there : c.in-Some.there.items ≡ moves_of (below_at s.tree.below c.args.front.now) = rw c.in-Some.is at c.in_ok-children_in.ensures in
    let front = front-is step.steps.now c.args.front.now c.requires.front.0 c.requires.front.1 in
    let known = c.args.findings.now.known.now in
    defence-added s known step c.requires.step c.as_slice.result.now c.as_slice-in-Ok.result.now c.args.findings.now.facts c.note_missing.new.self
    (c.as_slice.ensures.value ∙ there ∙ ap (λ (u : List ℕ). moves_of (below_at s.tree.below u)) front)
    (subst (λ (l : List Defence). AreDefences step.before.aim.now step.before.depth step.before.position.now c.as_slice.result.now l)
    (sym c.as_slice-in-Ok.ensures.value) (c.in-Ok.ensures.game h))
    (c.note_missing.ensures ∙ ap (with_missing c.args.findings.now.facts) c.missing_beside-missing.ensures)
