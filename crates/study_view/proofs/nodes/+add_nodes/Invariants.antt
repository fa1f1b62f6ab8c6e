use Rattle.std.proofs.Common.{◌≡◌}
use Rattle.study_tree.specs.Forest.{nodes_in}
use Rattle.study_marks.specs.BenchState.{marked_study}
use Rattle.study_marks.specs.FaultSums.{below_at}
use Rattle.study_facts.proofs.WrittenOrder.{GoesOn}
use Rattle.study_facts.specs.Asked.{AllEvaluated, within}
use Rattle.study_facts.specs.Zugzwang.{ZugzwangLines}
use Rattle.study_view.specs.Nodes.{IsNodeLine}
use Rattle.study_view.proofs.nodes.+add_nodes.Given as goal

-- fewer nodes are below a child
abbrev pub decreases-add_nodes : goal.decreases-add_nodes
decreases-add_nodes g l = nodes_in (below_at (marked_study l.bench.now).tree.below l.steps.now.items)

-- the text so far, followed by the lines of the nodes that are left, is the lines of all
abbrev pub invariant-loop-place : goal.invariant-loop-place
invariant-loop-place g l = record {
  nodes : GoesOn (IsNodeLine (marked_study l.bench)) l.fn.steps.items
      (below_at (marked_study l.bench).tree.below l.fn.steps.items) l.place l.initial.lines.nodes l.lines.nodes;
  zugzwangs : g.V.Values.source.is_honest l.fn.values → GoesOn (ZugzwangLines (marked_study l.bench)) l.fn.steps.items
      (below_at (marked_study l.bench).tree.below l.fn.steps.items) l.place l.initial.lines.zugzwangs l.lines.zugzwangs;
  back : l.steps.items ≡ l.fn.steps.items;
  evaluated : AllEvaluated (within (marked_study l.bench).start.position g.V.Values.source)
      l.fn.values l.values;
}
