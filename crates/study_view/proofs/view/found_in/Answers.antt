use Rattle.study_marks.specs.BenchState.{marked_study}
use Rattle.study_facts.specs.Asked.{within}
use Rattle.study_facts.proofs.Asking.{all-then}
use Rattle.study_view.proofs.AllAsked.{walks-then, walks-so}
use Rattle.study_view.proofs.view.found_in.Goals as goal

pub returns-in_err-lines-clause-asked : goal.returns-in_err-lines-clause-asked
returns-in_err-lines-clause-asked g c =
    walks-then (within (marked_study c.args.bench.now).start.position g.V.Values.source)
    c.args.values.now c.facts_of.new.values c.tree_lines.new.values c.from_residual-in_err-lines.result c.in_ok-facts.ensures.asked
    (walks-so (within (marked_study c.args.bench.now).start.position g.V.Values.source) (Unit {0})
    c.facts_of.new.values c.tree_lines.new.values c.from_residual-in_err-lines.result c.in_err-lines.field-0.0
    c.from_residual-in_err-lines.ensures.1 c.in_err-lines.ensures.asked)

pub returns-clause-asked : goal.returns-clause-asked
returns-clause-asked g c =
    all-then (within (marked_study c.args.bench.now).start.position g.V.Values.source)
    c.args.values.now c.facts_of.new.values c.tree_lines.new.values c.in_ok-facts.ensures.asked c.in_ok-lines.ensures.asked
