use Rattle.std.proofs.Common.{◌≡◌, ◌+◌, sym, ◌∙◌, arith, suc, Some, None}
use Rattle.study_tree.specs.Tree.{plain_tree}
use Rattle.study_marks.specs.FaultSums.{below_at}
use Rattle.study_marks.proofs.EqualMoves.{move_same}
use Rattle.study_marks.proofs.ChildFound.{here, find-none, find-here, find-later}
use Rattle.study_marks.proofs.child_by_move.+find_from.Goals as goal

pub returns-then-place-count : goal.returns-then-place-count
returns-then-place-count g t c = find-none (plain_tree c.args.tree.now) c.args.steps.now c.args.place c.args.count
    c.args.m.now c.requires.all c.if-place-count.true

pub returns-in-None : goal.returns-in-None
returns-in-None g t c =
    let x = here (plain_tree c.args.tree.now) c.args.steps.now c.args.place c.args.count c.child_move.result
    c.requires.all c.if-place-count.false c.child_move.ensures in
    let no : Some x.0 ≡ None = sym x.4 ∙ c.in-None.is in absurd cc

pub returns-then-eq : goal.returns-then-eq
returns-then-eq g t c =
    find-here c.args.place (below_at (plain_tree c.args.tree.now).below c.args.steps.now) c.child_move.result c.args.m.now c.in-Some.other
    (here (plain_tree c.args.tree.now) c.args.steps.now c.args.place c.args.count c.child_move.result c.requires.all
    c.if-place-count.false c.child_move.ensures) c.in-Some.is (sym (c.eq.ensures ∙ move_same c.args.m.now c.in-Some.other) ∙ c.if-eq.true)

pub returns-else-eq : goal.returns-else-eq
returns-else-eq g t c =
    find-later c.args.place (c.args.place + 1) (below_at (plain_tree c.args.tree.now).below c.args.steps.now)
    c.child_move.result c.args.m.now c.in-Some.other c.find_from.result
    (let z : c.args.place + 1 ≡ suc c.args.place = omega arith in z)
    (here (plain_tree c.args.tree.now) c.args.steps.now c.args.place c.args.count c.child_move.result c.requires.all
    c.if-place-count.false c.child_move.ensures) c.in-Some.is (sym (c.eq.ensures ∙ move_same c.args.m.now c.in-Some.other) ∙ c.if-eq.false)
    c.find_from.ensures
