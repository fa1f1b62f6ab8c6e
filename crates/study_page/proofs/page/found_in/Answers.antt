use Rattle.study_marks.specs.BenchState.{marked_study}
use Rattle.study_facts.specs.Asked.{within}
use Rattle.study_facts.proofs.Asking.{all-then, asks-then, same-asks, re-asks}
use Rattle.study_page.proofs.page.found_in.Goals as goal

pub returns-in_err-parts-clause-asked : goal.returns-in_err-parts-clause-asked
returns-in_err-parts-clause-asked g c =
    let source = within (marked_study c.args.bench.now).start.position g.V.Values.source in
    let mid = c.solution_facts.new.values in
    let new = c.parts_of.new.values in
    let e = c.in_err-parts.field-0.0 in
    asks-then source c.args.values.now mid new c.from_residual-in_err-parts.result c.in_ok-facts.ensures.asked
    (same-asks source mid new c.from_residual-in_err-parts.result e c.from_residual-in_err-parts.ensures.1
    (re-asks source (Unit {0}) (Unit {0}) mid new e c.in_err-parts.ensures.asked))

pub returns-clause-asked : goal.returns-clause-asked
returns-clause-asked g c =
    all-then (within (marked_study c.args.bench.now).start.position g.V.Values.source)
    c.args.values.now c.solution_facts.new.values c.parts_of.new.values c.in_ok-facts.ensures.asked c.in_ok-parts.ensures.asked

pub returns-clause-text : goal.returns-clause-text
returns-clause-text g c h = c.in_ok-parts.ensures.text (c.in_ok-facts.ensures.asked.honest h)
