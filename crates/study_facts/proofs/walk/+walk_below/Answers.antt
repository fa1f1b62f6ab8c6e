use Rattle.std.proofs.Common.{◌≡◌, ◌≤◌, ◌<◌, ℕ, List, [], ◌∷◌, ◌++◌, ap, arith, ◌∙◌}
use Rattle.std.specs.Prelude.{vec_len}
use Rattle.study_board.specs.Position.{Position}
use Rattle.study_tree.specs.Edits.{width}
use Rattle.study_marks.specs.BenchState.{marked_study}
use Rattle.study_marks.specs.FaultSums.{below_at}
use Rattle.study_facts.specs.Asked.{within}
use Rattle.study_facts.specs.declared.walk_state.WalkState.{WalkState}
use Rattle.study_facts.proofs.Asking.{all-then, asks-then, same-asks}
use Rattle.study_facts.proofs.EachAdded.{child-added, below-added}
use Rattle.study_facts.proofs.Trails.{at-some, at-last, taken-off}
use Rattle.study_facts.proofs.WrittenOrder.{fewer-child}
use Rattle.study_facts.proofs.walk.+walk_below.Goals as goal

pub last_state-requires : goal.last_state-requires
last_state-requires g t c = at-some (marked_study c.args.bench.now) c.args.trail.now.steps.items c.args.trail.now.states.items c.requires.states

pub descend-requires-clause-there : goal.descend-requires-clause-there
descend-requires-clause-there g t c =
    let tree = (marked_study c.args.bench.now).tree in
    let steps = c.args.trail.now.steps.items in
    let here = at-last (marked_study c.args.bench.now) steps c.args.trail.now.states.items c.requires.states c.last_state.result.now c.last_state.ensures in
    let same = ap (λ (u : List ℕ). width (below_at tree.below u)) c.loop-place.invariant.steps in
    omega (arith, c.loop-place-test.true, here.children, same)

pub returns-in_err-descend-clause-asked : goal.returns-in_err-descend-clause-asked
returns-in_err-descend-clause-asked g t c =
    asks-then (within (marked_study c.args.bench.now).start.position g.V.Values.source)
    c.args.values.now c.loop-place.values c.descend.new.values c.from_residual.result c.loop-place.invariant.evaluated
    (same-asks (within (marked_study c.args.bench.now).start.position g.V.Values.source)
    c.loop-place.values c.descend.new.values c.from_residual.result c.in_err-descend.field-0.0 c.from_residual.ensures.1 c.in_err-descend.ensures.asked)

pub walk_below-requires : goal.walk_below-requires
walk_below-requires g t c κs within =
    let tree = (marked_study c.args.bench.now).tree in
    let steps = c.args.trail.now.steps.items in
    let k = c.loop-place.place in
    let path : c.descend.new.trail.steps.items ≡ steps ++ k ∷ [] = c.in_ok-descend.ensures.steps
    ∙ ap (λ (st : List ℕ). st ++ k ∷ []) c.loop-place.invariant.steps in
    let here = at-last (marked_study c.args.bench.now) steps c.args.trail.now.states.items c.requires.states c.last_state.result.now c.last_state.ensures in
    let lt : k < width (below_at tree.below steps) = omega (arith, c.loop-place-test.true, here.children) in (
      omega (arith, fewer-child tree.below steps c.descend.new.trail.steps.items k path lt, c.decreases),
      (
        within.0,
        (
          within.1.0,
          (
            within.1.1.0,
            (
              within.1.1.1,
              (c.requires.aim, (c.in_ok-descend.ensures.line_to, (c.loop-place.trail.states.items, c.in_ok-descend.ensures.states))),
            ),
          ),
        ),
      ),
    )

pub returns-in_err-walk_below-clause-asked : goal.returns-in_err-walk_below-clause-asked
returns-in_err-walk_below-clause-asked g t c =
    asks-then (within (marked_study c.args.bench.now).start.position g.V.Values.source)
    c.args.values.now c.descend.new.values c.walk_below.new.values c.from_residual-in_err-walk_below.result
    (all-then (within (marked_study c.args.bench.now).start.position g.V.Values.source)
    c.args.values.now c.loop-place.values c.descend.new.values c.loop-place.invariant.evaluated c.in_ok-descend.ensures.asked)
    (same-asks (within (marked_study c.args.bench.now).start.position g.V.Values.source)
    c.descend.new.values c.walk_below.new.values c.from_residual-in_err-walk_below.result c.in_err-walk_below.field-0.0
    c.from_residual-in_err-walk_below.ensures.1 c.in_err-walk_below.ensures.asked)

pub loop-place-preserved : goal.loop-place-preserved
loop-place-preserved g t c =
    let tree = (marked_study c.args.bench.now).tree in
    let steps = c.args.trail.now.steps.items in
    let k = c.loop-place.place in
    let path : c.descend.new.trail.steps.items ≡ steps ++ k ∷ [] = c.in_ok-descend.ensures.steps
    ∙ ap (λ (st : List ℕ). st ++ k ∷ []) c.loop-place.invariant.steps in
    let here = at-last (marked_study c.args.bench.now) steps c.args.trail.now.states.items c.requires.states c.last_state.result.now c.last_state.ensures in
    let lt : k < width (below_at tree.below steps) = omega (arith, c.loop-place-test.true, here.children) in
    record {
      adds = λ h.
          child-added (g.F.Findings.adds (marked_study c.args.bench.now)) tree.below steps c.descend.new.trail.steps.items k c.args.findings.now
          c.loop-place.findings
          c.descend.new.findings c.walk_below.new.findings path lt
          (c.in_ok-descend.ensures.adds (c.loop-place.invariant.evaluated.honest h))
          (c.in_ok-walk_below.ensures.adds (c.in_ok-descend.ensures.asked.honest (c.loop-place.invariant.evaluated.honest h)))
          (c.loop-place.invariant.adds h);
      steps = taken-off steps c.walk_below.new.trail.steps.items c.leave.new.trail.steps.items k (vec_len c.walk_below.new.trail.steps)
          (c.in_ok-walk_below.ensures.steps ∙ path) (omega (arith, c.walk_below.new.trail.steps.ok.0)) c.leave.ensures.steps;
      line = taken-off c.args.trail.now.line.items c.walk_below.new.trail.line.items c.leave.new.trail.line.items c.in_ok-descend.ensures.line.0
          (vec_len c.walk_below.new.trail.line)
          (c.in_ok-walk_below.ensures.line ∙ c.in_ok-descend.ensures.line.1 ∙ ap (λ (l : List Position). l ++ c.in_ok-descend.ensures.line.0 ∷ [])
          c.loop-place.invariant.line)
          (omega (arith, c.walk_below.new.trail.line.ok.0)) c.leave.ensures.line;
      states = taken-off c.args.trail.now.states.items c.walk_below.new.trail.states.items c.leave.new.trail.states.items c.in_ok-descend.ensures.states.0
          (vec_len c.walk_below.new.trail.states)
          (c.in_ok-walk_below.ensures.states ∙ c.in_ok-descend.ensures.states.2 ∙ ap (λ (l : List WalkState). l ++ c.in_ok-descend.ensures.states.0 ∷ [])
          c.loop-place.invariant.states)
          (omega (arith, c.walk_below.new.trail.states.ok.0)) c.leave.ensures.states;
      evaluated = all-then (within (marked_study c.args.bench.now).start.position g.V.Values.source)
          c.args.values.now c.descend.new.values c.walk_below.new.values
          (all-then (within (marked_study c.args.bench.now).start.position g.V.Values.source)
          c.args.values.now c.loop-place.values c.descend.new.values c.loop-place.invariant.evaluated c.in_ok-descend.ensures.asked)
          c.in_ok-walk_below.ensures.asked;
    }

pub returns-clause-adds : goal.returns-clause-adds
returns-clause-adds g t c h =
    let tree = (marked_study c.args.bench.now).tree in
    let steps = c.args.trail.now.steps.items in
    let here = at-last (marked_study c.args.bench.now) steps c.args.trail.now.states.items c.requires.states c.last_state.result.now c.last_state.ensures in
    let few : width (below_at tree.below steps) ≤ c.loop-place.place = omega (arith, c.loop-place-test.false, here.children) in
    below-added (g.F.Findings.adds (marked_study c.args.bench.now)) tree.below steps c.loop-place.place c.args.findings.now c.loop-place.findings few
    (c.loop-place.invariant.adds h)
