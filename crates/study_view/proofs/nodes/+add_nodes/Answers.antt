use Rattle.std.proofs.Common.{◌≡◌, ◌≤◌, ◌<◌, ◌++◌, ◌∷◌, [], List, ℕ, refl, ◌∙◌, ap, subst, arith}
use Rattle.std.specs.Prelude.{vec_len}
use Rattle.study_tree.specs.Edits.{width}
use Rattle.study_marks.specs.FaultSums.{below_at}
use Rattle.study_marks.specs.BenchState.{marked_study}
use Rattle.study_pgn.proofs.ChildSteps.{popped}
use Rattle.study_facts.specs.Made.{Grew}
use Rattle.study_facts.specs.Asked.{within}
use Rattle.study_facts.specs.Zugzwang.{ZugzwangLines}
use Rattle.study_facts.proofs.Asking.{all-then}
use Rattle.study_view.proofs.AllAsked.{walks-then, walks-so}
use Rattle.study_facts.proofs.WrittenOrder.{there-child, fewer-child, none-yet, child-written, all-written}
use Rattle.study_view.specs.Nodes.{IsNodeLine}
use Rattle.study_view.specs.View.{start_to}
use Rattle.study_view.proofs.NodeLines.{own-grew}
use Rattle.study_view.proofs.StartsAt.{after-front}
use Rattle.study_view.proofs.nodes.+add_nodes.Goals as goal

pub loop-place-init : goal.loop-place-init
loop-place-init g t c =
    let path = c.args.steps.now.items in
    record {
      nodes = none-yet (IsNodeLine (marked_study c.args.bench.now)) path (below_at (marked_study c.args.bench.now).tree.below path) c.add_own.new.lines.nodes;
      zugzwangs = λ h. none-yet (ZugzwangLines (marked_study c.args.bench.now)) path (below_at (marked_study c.args.bench.now).tree.below path)
          c.add_own.new.lines.zugzwangs;
      back = refl;
      evaluated = c.in_ok-add_own.ensures.asked;
    }

pub start_from-next-requires-clause-found : goal.start_from-next-requires-clause-found
start_from-next-requires-clause-found g t c =
    let tree = (marked_study c.args.bench.now).tree in
    let steps = c.args.steps.now.items in
    let k = c.loop-place.place in
    let path : c.go_down.new.steps.items ≡ steps ++ k ∷ [] =
    c.in_ok-go_down.ensures ∙ ap (λ (st : List ℕ). st ++ k ∷ []) c.loop-place.invariant.back in
    let lt : k < width (below_at tree.below steps) =
    omega (arith, c.loop-place-test.true, c.child_count-count.ensures, ap (λ (st : List ℕ). width (below_at tree.below st)) c.as_slice-2.ensures.value) in
    there-child tree steps c.as_slice-in-loop-place.result.now k (c.as_slice-in-loop-place.ensures.value ∙ path) lt

pub start_from-next-requires-clause-before : goal.start_from-next-requires-clause-before
start_from-next-requires-clause-before g t c =
    let steps = c.args.steps.now.items in
    let k = c.loop-place.place in
    let path : c.go_down.new.steps.items ≡ steps ++ k ∷ [] =
    c.in_ok-go_down.ensures ∙ ap (λ (st : List ℕ). st ++ k ∷ []) c.loop-place.invariant.back in
    after-front (marked_study c.args.bench.now) c.as_slice-in-loop-place.result.now steps k c.args.here.now (c.as_slice-in-loop-place.ensures.value ∙ path)
    c.requires.here

pub add_nodes-requires : goal.add_nodes-requires
add_nodes-requires g t c κs within =
    let s = marked_study c.args.bench.now in
    let steps = c.args.steps.now.items in
    let k = c.loop-place.place in
    let path : c.go_down.new.steps.items ≡ steps ++ k ∷ [] =
    c.in_ok-go_down.ensures ∙ ap (λ (st : List ℕ). st ++ k ∷ []) c.loop-place.invariant.back in
    let lt : k < width (below_at s.tree.below steps) =
    omega (arith, c.loop-place-test.true, c.child_count-count.ensures, ap (λ (st : List ℕ). width (below_at s.tree.below st)) c.as_slice-2.ensures.value) in (
      omega (arith, fewer-child s.tree.below steps c.go_down.new.steps.items k path lt, c.decreases),
      (
        within.0,
        (
          within.1.0,
          (
            within.1.1,
            (
              there-child s.tree steps c.go_down.new.steps.items k path lt,
              (
                after-front s c.go_down.new.steps.items steps k c.args.here.now path c.requires.here,
                c.start_from-next.ensures ∙ ap (start_to s) c.as_slice-in-loop-place.ensures.value,
              ),
            ),
          ),
        ),
      ),
    )

pub loop-place-preserved : goal.loop-place-preserved
loop-place-preserved g t c =
    let tree = (marked_study c.args.bench.now).tree in
    let steps = c.args.steps.now.items in
    let k = c.loop-place.place in
    let path : c.go_down.new.steps.items ≡ steps ++ k ∷ [] =
    c.in_ok-go_down.ensures ∙ ap (λ (st : List ℕ). st ++ k ∷ []) c.loop-place.invariant.back in
    let lt : k < width (below_at tree.below steps) =
    omega (arith, c.loop-place-test.true, c.child_count-count.ensures, ap (λ (st : List ℕ). width (below_at tree.below st)) c.as_slice-2.ensures.value) in
    record {
      nodes = child-written (IsNodeLine (marked_study c.args.bench.now)) tree.below steps c.go_down.new.steps.items k c.add_own.new.lines.nodes
          c.loop-place.lines.nodes c.add_nodes.new.lines.nodes path lt c.in_ok-add_nodes.ensures.nodes c.loop-place.invariant.nodes;
      zugzwangs = λ h.
          child-written (ZugzwangLines (marked_study c.args.bench.now)) tree.below steps c.go_down.new.steps.items k c.add_own.new.lines.zugzwangs
          c.loop-place.lines.zugzwangs c.add_nodes.new.lines.zugzwangs path lt
          (c.in_ok-add_nodes.ensures.zugzwangs (c.loop-place.invariant.evaluated.honest h)) (c.loop-place.invariant.zugzwangs h);
      back = popped steps c.add_nodes.new.steps.items c.pop.new.self.items k (vec_len c.add_nodes.new.steps)
          (c.in_ok-add_nodes.ensures.path ∙ path) (omega (arith, c.add_nodes.new.steps.ok.0)) c.pop.ensures.rest;
      evaluated = all-then (within (marked_study c.args.bench.now).start.position g.V.Values.source)
          c.args.values.now c.loop-place.values c.add_nodes.new.values c.loop-place.invariant.evaluated c.in_ok-add_nodes.ensures.asked;
    }

pub returns-clause-nodes : goal.returns-clause-nodes
returns-clause-nodes g t c =
    let tree = (marked_study c.args.bench.now).tree in
    let steps = c.args.steps.now.items in
    let few : width (below_at tree.below steps) ≤ c.loop-place.place =
    omega (arith, c.loop-place-test.false, c.child_count-count.ensures, ap (λ (st : List ℕ). width (below_at tree.below st)) c.as_slice-2.ensures.value) in
    all-written (IsNodeLine (marked_study c.args.bench.now)) tree.below steps c.loop-place.place c.args.lines.now.nodes c.add_own.new.lines.nodes
    c.loop-place.lines.nodes few
    (own-grew (marked_study c.args.bench.now) c.as_slice.result.now steps c.args.lines.now.nodes c.add_own.new.lines.nodes c.as_slice.ensures.value
    c.in_ok-add_own.ensures.nodes)
    c.loop-place.invariant.nodes

pub returns-clause-zugzwangs : goal.returns-clause-zugzwangs
returns-clause-zugzwangs g t c h =
    let tree = (marked_study c.args.bench.now).tree in
    let steps = c.args.steps.now.items in
    let few : width (below_at tree.below steps) ≤ c.loop-place.place =
    omega (arith, c.loop-place-test.false, c.child_count-count.ensures, ap (λ (st : List ℕ). width (below_at tree.below st)) c.as_slice-2.ensures.value) in
    all-written (ZugzwangLines (marked_study c.args.bench.now)) tree.below steps c.loop-place.place c.args.lines.now.zugzwangs c.add_own.new.lines.zugzwangs
    c.loop-place.lines.zugzwangs few
    (subst (λ (st : List ℕ). Grew (ZugzwangLines (marked_study c.args.bench.now) st) c.args.lines.now.zugzwangs c.add_own.new.lines.zugzwangs)
    c.as_slice.ensures.value
    (c.in_ok-add_own.ensures.zugzwangs h)) (c.loop-place.invariant.zugzwangs h)

pub returns-in_err-add_nodes-clause-asked : goal.returns-in_err-add_nodes-clause-asked
returns-in_err-add_nodes-clause-asked g t c =
    walks-then (within (marked_study c.args.bench.now).start.position g.V.Values.source)
    c.args.values.now c.loop-place.values c.add_nodes.new.values c.from_residual-in_err-add_nodes.result c.loop-place.invariant.evaluated
    (walks-so (within (marked_study c.args.bench.now).start.position g.V.Values.source) (Unit {0})
    c.loop-place.values c.add_nodes.new.values c.from_residual-in_err-add_nodes.result c.in_err-add_nodes.field-0.0
    c.from_residual-in_err-add_nodes.ensures.1 c.in_err-add_nodes.ensures.asked)
