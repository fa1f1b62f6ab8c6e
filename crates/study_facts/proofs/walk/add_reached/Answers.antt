use Rattle.std.proofs.Common.{◌≡◌, ◌<◌, ℕ, List, [], ◌∷◌, ◌++◌, length, sym, ap, subst, ◌∙◌, arith, length-append}
use Rattle.study_tree.specs.Tree.{spot_at}
use Rattle.study_marks.specs.BenchState.{marked_study}
use Rattle.study_facts.specs.Line.{line_to}
use Rattle.study_facts.specs.Nodes.{parent_path}
use Rattle.study_facts.specs.WalkState.{arrival_of, IsStateAt}
use Rattle.study_facts.proofs.Trails.{at-some, at-front}
use Rattle.study_facts.proofs.walk.add_reached.Goals as goal

pub last_state-requires : goal.last_state-requires
last_state-requires g c =
    let at = c.requires.states in
    at-some (marked_study c.args.bench.now) at.front c.args.trail.now.states.items at.at

pub add_node-requires : goal.add_node-requires
add_node-requires g c =
    let at = c.requires.states in
    let s = marked_study c.args.bench.now in
    let path = c.as_slice.result.now in
    let is : path ≡ at.front ++ at.place ∷ [] = c.as_slice.ensures.value ∙ at.path_is in
    record {
      aim = c.requires.aim;
      some = (let n = length-append at.front (at.place ∷ []) in let e = ap length is in let z : 0 < length path = omega (arith, n, e) in z);
      line = c.as_slice-2.ensures.value ∙ c.requires.line ∙ ap (λ (u : List ℕ). line_to s (parent_path u)) (sym c.as_slice.ensures.value);
      before = at-front s at.front c.args.trail.now.states.items at.at c.last_state.result.now c.last_state.ensures path at.place is;
      here = subst (λ (u : List ℕ). IsStateAt s u c.args.reached.now.here) (sym c.as_slice.ensures.value) c.requires.here;
      by = ap (λ (u : List ℕ). arrival_of (spot_at s.tree u)) c.as_slice.ensures.value ∙ c.requires.by;
    }
