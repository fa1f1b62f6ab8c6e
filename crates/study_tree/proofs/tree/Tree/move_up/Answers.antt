use Rattle.std.proofs.Common.{◌∷◌, refl, sym, ◌∙◌, ap, arith}
use Rattle.study_tree.specs.Forest.{forest_of}
use Rattle.study_tree.specs.Tree.{plain_tree}
use Rattle.study_tree.proofs.ShownTrees.{found_in, size-raised}
use Rattle.study_tree.proofs.PathEnds.{last_place-read, move_up_refusal-first, move_up_refusal-none}
use Rattle.study_tree.proofs.TreeDepth.{within-raised}
use Rattle.study_tree.proofs.tree.Tree.move_up.Goals as goal

pub returns-then-last-eq0-clause-refusal : goal.returns-then-last-eq0-clause-refusal
returns-then-last-eq0-clause-refusal g c =
    let e = move_up_refusal-first (plain_tree c.args.self.now) c.args.steps.now c.in-Some-Some.first.now
    c.in-Some-Some.rest.now c.in-Some-Some.ensures.cases.0 (sym c.if-not-has.ensures)
    (last_place-read c.args.steps.now c.in-Some-Some.first.now c.in-Some-Some.rest.now c.in-Some-Some.last.now
    c.in-Some-Some.ensures.cases.0 c.in-Some-Some.ensures'.value ∙ c.if-last-eq0.true) in
    rw e refl

pub move_up_below-requires-clause-found : goal.move_up_below-requires-clause-found
move_up_below-requires-clause-found g c =
    let shown = ap (λ t. (plain_tree t).below) c.self.view_is in
    found_in (forest_of c.self.inside.children.items) (plain_tree c.args.self.now).below c.args.steps.now
    (c.in-Some-Some.first.now ∷ c.in-Some-Some.rest.now) shown c.in-Some-Some.ensures.cases.0
    (sym c.if-not-has.ensures)

pub move_up_below-requires-clause-not_first : goal.move_up_below-requires-clause-not_first
move_up_below-requires-clause-not_first g c =
    let last = last_place-read c.args.steps.now c.in-Some-Some.first.now c.in-Some-Some.rest.now
    c.in-Some-Some.last.now c.in-Some-Some.ensures.cases.0 c.in-Some-Some.ensures'.value in
    omega (arith, c.if-last-eq0.false)

pub invariant_of-self : goal.invariant_of-self
invariant_of-self g c = (
  size-raised (forest_of c.self.inside.children.items) (forest_of c.move_up_below.new.children.items)
      c.in-Some-Some.first.now c.in-Some-Some.rest.now c.self.inside.size c.move_up_below.ensures c.self.invariant.0,
  c.self.invariant.1,
  within-raised 256 (forest_of c.self.inside.children.items) (forest_of c.move_up_below.new.children.items)
      c.in-Some-Some.first.now c.in-Some-Some.rest.now c.move_up_below.ensures c.self.invariant.2,
)

pub returns-else-last-eq0-clause-refusal : goal.returns-else-last-eq0-clause-refusal
returns-else-last-eq0-clause-refusal g c =
    let last = last_place-read c.args.steps.now c.in-Some-Some.first.now c.in-Some-Some.rest.now
    c.in-Some-Some.last.now c.in-Some-Some.ensures.cases.0 c.in-Some-Some.ensures'.value in
    let e = move_up_refusal-none (plain_tree c.args.self.now) c.args.steps.now c.in-Some-Some.first.now
    c.in-Some-Some.rest.now c.in-Some-Some.ensures.cases.0 (sym c.if-not-has.ensures)
    (λ zero. c.if-last-eq0.false (sym last ∙ zero)) in
    rw e refl
