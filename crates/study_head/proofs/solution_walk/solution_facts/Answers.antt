use Rattle.std.proofs.Common.{◌≡◌, List, subst, ◌∙◌}
use Rattle.study_marks.specs.BenchState.{marked_study}
use Rattle.study_facts.specs.Asked.{within}
use Rattle.study_facts.proofs.Asking.{all-then, asks-then, same-asks}
use Rattle.study_facts.specs.Order.{written_order}
use Rattle.study_facts.specs.Walk.{AddsEach}
use Rattle.study_head.specs.declared.solution.SolutionFacts.{SolutionFacts}
use Rattle.study_head.specs.declared.reached.Reached.{Reached}
use Rattle.study_head.specs.Reached.{all_reached}
use Rattle.study_head.specs.Solution.{AddsNode, no_facts}
use Rattle.study_head.proofs.FactsMade.{facts-each, kept-each}
use Rattle.study_head.proofs.solution_walk.solution_facts.Goals as goal

pub returns-clause-facts : goal.returns-clause-facts
returns-clause-facts g c h =
    let s = marked_study c.args.bench.now in
    let known = c.as_slice.result in
    let new = c.walk_study.new.findings in
    let there : known.now ≡ all_reached s = c.as_slice.ensures.value ∙ c.in_ok-known.ensures.list h in
    subst (λ (l : List Reached). AddsEach (AddsNode s l) (written_order s) no_facts new.facts) there
    (subst (λ (x : SolutionFacts). AddsEach (AddsNode s known.now) (written_order s) x new.facts) c.none.ensures
    (facts-each (AddsNode s known.now) (λ t. t.facts) (written_order s)
    (record { alloc = c.args.alloc; known = known; facts = c.none.result }) new
    (kept-each (λ k path a b. AddsNode s k.now path a.facts b.facts) (λ t. t.known) (written_order s)
    (record { alloc = c.args.alloc; known = known; facts = c.none.result }) new
    (c.in_ok-walk_study.ensures.adds (c.in_ok-known.ensures.asked.honest h)))))

pub returns-in_err-walk_study-clause-asked : goal.returns-in_err-walk_study-clause-asked
returns-in_err-walk_study-clause-asked g c =
    let source = within (marked_study c.args.bench.now).start.position g.V.Values.source in
    let result = c.from_residual-in_err-walk_study.result in
    asks-then source c.args.values.now c.reached_in.new.values c.walk_study.new.values result c.in_ok-known.ensures.asked
    (same-asks source c.reached_in.new.values c.walk_study.new.values result c.in_err-walk_study.field-0.0
    c.from_residual-in_err-walk_study.ensures.1 c.in_err-walk_study.ensures.asked)

pub returns-clause-asked : goal.returns-clause-asked
returns-clause-asked g c =
    all-then (within (marked_study c.args.bench.now).start.position g.V.Values.source)
    c.args.values.now c.reached_in.new.values c.walk_study.new.values c.in_ok-known.ensures.asked c.in_ok-walk_study.ensures.asked
