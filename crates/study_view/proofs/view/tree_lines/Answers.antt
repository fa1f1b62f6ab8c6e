use Rattle.std.proofs.Common.{ap, ◌∙◌, ◌++◌, List, ℕ}
use Rattle.std.specs.List.{flat_map}
use Rattle.study_marks.specs.BenchState.{marked_study}
use Rattle.study_facts.specs.Order.{written_order}
use Rattle.study_view.specs.View.{node_line}
use Rattle.study_view.proofs.NodeLines.{all-lines, all-zugzwangs}
use Rattle.study_view.proofs.view.tree_lines.Goals as goal

pub returns-clause-nodes : goal.returns-clause-nodes
returns-clause-nodes g c =
    let s = marked_study c.args.bench.now in
    all-lines s c.new-steps.result.items c.new.result c.add_nodes.new.lines.nodes c.new-steps.ensures.items c.in_ok-add_nodes.ensures.nodes
    ∙ ap (λ (t : List ℕ). t ++ flat_map (node_line s) (written_order s)) c.new.ensures

pub returns-clause-zugzwangs : goal.returns-clause-zugzwangs
returns-clause-zugzwangs g c h =
    all-zugzwangs (marked_study c.args.bench.now) c.new-steps.result.items c.new-2.result c.add_nodes.new.lines.zugzwangs c.new-steps.ensures.items
    c.new-2.ensures
    (c.in_ok-add_nodes.ensures.zugzwangs h)
