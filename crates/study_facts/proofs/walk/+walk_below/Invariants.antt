use Rattle.std.proofs.Common.{◌≡◌}
use Rattle.study_tree.specs.Forest.{nodes_in}
use Rattle.study_marks.specs.BenchState.{marked_study}
use Rattle.study_marks.specs.FaultSums.{below_at}
use Rattle.study_facts.specs.Asked.{AllEvaluated, within}
use Rattle.study_facts.proofs.EachAdded.{AddsOn}
use Rattle.study_facts.proofs.walk.+walk_below.Given as goal

-- fewer nodes are below a child
abbrev pub decreases-walk_below : goal.decreases-walk_below
decreases-walk_below g l = nodes_in (below_at (marked_study l.bench.now).tree.below l.trail.now.steps.items)

-- what the remaining nodes add is the rest of what all nodes add
abbrev pub invariant-loop-place : goal.invariant-loop-place
invariant-loop-place g l = record {
  adds : g.V.Values.source.is_honest l.fn.values → AddsOn (g.F.Findings.adds (marked_study l.bench)) l.fn.trail.steps.items
      (below_at (marked_study l.bench).tree.below l.fn.trail.steps.items) l.place l.fn.findings l.findings;
  steps : l.trail.steps.items ≡ l.fn.trail.steps.items;
  line : l.trail.line.items ≡ l.fn.trail.line.items;
  states : l.trail.states.items ≡ l.fn.trail.states.items;
  evaluated : AllEvaluated (within (marked_study l.bench).start.position g.V.Values.source)
      l.fn.values l.values;
}
