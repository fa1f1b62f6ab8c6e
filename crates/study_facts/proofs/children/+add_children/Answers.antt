use Rattle.std.proofs.Common.{◌≡◌, ◌+◌, sym, ◌∙◌, arith, suc, Some, None}
use Rattle.study_marks.specs.BenchState.{marked_study}
use Rattle.study_marks.specs.FaultSums.{below_at}
use Rattle.study_marks.proofs.ChildFound.{here}
use Rattle.study_facts.proofs.ChildMoves.{no-children, one-child}
use Rattle.study_facts.proofs.children.+add_children.Goals as goal

pub returns-then-place-count : goal.returns-then-place-count
returns-then-place-count g t c = no-children (marked_study c.args.bench.now).tree.below c.args.steps.now c.args.place c.args.count
    c.args.moves.now.items c.requires.all c.if-place-count.true

pub returns-in-None : goal.returns-in-None
returns-in-None g t c =
    let x = here (marked_study c.args.bench.now).tree c.args.steps.now c.args.place c.args.count c.child_move.result
    c.requires.all c.if-place-count.false c.child_move.ensures in
    let no : Some x.0 ≡ None = sym x.4 ∙ c.in-None.is in absurd cc

pub returns-in_ok-push_move-in-Some : goal.returns-in_ok-push_move-in-Some
returns-in_ok-push_move-in-Some g t c =
    one-child (below_at (marked_study c.args.bench.now).tree.below c.args.steps.now) c.args.place (c.args.place + 1) c.child_move.result c.in-Some.m
    c.args.moves.now.items c.push_move.new.moves.items c.add_children.new.moves.items c.add_children.result
    (here (marked_study c.args.bench.now).tree c.args.steps.now c.args.place c.args.count c.child_move.result c.requires.all
    c.if-place-count.false c.child_move.ensures) c.in-Some.is (let z : c.args.place + 1 ≡ suc c.args.place = omega arith in z)
    c.in_ok-push_move-in-Some.ensures c.add_children.ensures
