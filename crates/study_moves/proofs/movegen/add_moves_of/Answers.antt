use Rattle.std.proofs.Common.{◌≡◌, ◌==◌, ◌∙◌, ◌+◌, ◌*◌, ℕ, not, sym, ap, arith, subst}
use Rattle.std.proofs.lemmas.Bool.{and_parts}
use Rattle.study_board.specs.Sets.{has}
use Rattle.study_board.proofs.SquareLists.{first-of, none-of-empty}
use Rattle.study_moves.specs.Order.{AreMovesBelow}
use Rattle.study_moves.proofs.TargetsLeft.{rest_begins, rest_more, next_below, up_to_first, none_left}
use Rattle.study_moves.proofs.FewMoves.{moves_below-next, moves_below-more, moves_below-most}
use Rattle.study_moves.proofs.movegen.add_moves_of.Goals as goal

pub loop-target-init : goal.loop-target-init
loop-target-init c =
    let a = c.args.man.now.at in
    let P : ℕ → Type 0 = λ n. AreMovesBelow c.args.p.now c.args.list.now.items n in
    let e : 512 * a ≡ 512 * a + 8 * 0 = omega arith in
    let is = c.into_iter-target-iterator.ensures.into_iter_gives in (
      0,
      record {
        listed = subst P e c.requires.before;
        few = omega arith;
        small = omega arith;
        rest = rest_begins c.args.p.now c.args.man.now c.into_iter-target-iterator.result
            (λ m lm legal. ap (λ (set : ℕ). has set m.target) is ∙ c.legal_targets-all.ensures.all m lm legal)
            (λ x lx e. c.legal_targets-all.ensures.going x lx (ap (λ (set : ℕ). has set x) (sym is) ∙ e));
        inside = λ x lx e. e;
      },
    )

pub add_target-requires-clause-before : goal.add_target-requires-clause-before
add_target-requires-clause-before c =
    let f = first-of _ _ _ c.in-Some.ensures.steps in
    let next = c.loop-target.invariant.0 in
    let i = c.loop-target.invariant.1 in
    up_to_first c.args.p.now c.args.man.now c.loop-target.target-iterator next c.in-Some.target
    c.loop-target.list.items c.requires.here i.rest f.inside f.least
    (next_below c.args.p.now c.args.man.now c.loop-target.target-iterator next c.in-Some.target i.rest f.inside f.there) i.listed

pub add_target-requires-clause-room : goal.add_target-requires-clause-room
add_target-requires-clause-room c =
    let f = first-of _ _ _ c.in-Some.ensures.steps in
    let next = c.loop-target.invariant.0 in
    let i = c.loop-target.invariant.1 in
    let m = c.args.man.now in
    let t = c.in-Some.target in
    let low = next_below c.args.p.now m c.loop-target.target-iterator next t i.rest f.inside f.there in
    let one = moves_below-next c.args.p.now.men c.args.p.now.passed m next t low (i.rest.going t f.inside f.there) in
    let up = moves_below-more m.side m.kind m.at (t + 1) 64 (omega (arith, f.inside)) in
    let most = moves_below-most m.side m.kind m.at c.number-origin.ensures.small in
    omega (arith, i.few, c.requires.room, one, up, most)

pub add_target-requires-clause-sure : goal.add_target-requires-clause-sure
add_target-requires-clause-sure c s =
    let f = first-of _ _ _ c.in-Some.ensures.steps in
    let t = c.in-Some.target in
    c.legal_targets-all.ensures.sure s t f.inside
    (ap (λ (set : ℕ). has set t) (sym c.into_iter-target-iterator.ensures.into_iter_gives) ∙ c.loop-target.invariant.1.inside t f.inside f.there)

pub loop-target-preserved : goal.loop-target-preserved
loop-target-preserved c =
    let f = first-of _ _ _ c.in-Some.ensures.steps in
    let next = c.loop-target.invariant.0 in
    let i = c.loop-target.invariant.1 in
    let m = c.args.man.now in
    let t = c.in-Some.target in
    let rest = c.loop-target.target-iterator in
    let low = next_below c.args.p.now m rest next t i.rest f.inside f.there in
    let one = moves_below-next c.args.p.now.men c.args.p.now.passed m next t low (i.rest.going t f.inside f.there) in
    let P : ℕ → Type 0 = λ k. AreMovesBelow c.args.p.now c.add_target.new.list.items k in
    let e : 512 * m.at + 8 * t + 8 ≡ 512 * m.at + 8 * (t + 1) = omega arith in (
      t + 1,
      record {
        listed = subst P e c.add_target.ensures.after;
        few = omega (arith, i.few, c.add_target.ensures.few, one);
        small = omega (arith, f.inside);
        rest = rest_more c.args.p.now m rest next t c.next.new.self i.rest f low;
        inside = λ x lx e. i.inside x lx (and_parts (has rest x) (not (t == x)) (sym (f.left x lx) ∙ e)).0;
      },
    )

pub returns-clause-after : goal.returns-clause-after
returns-clause-after c =
    let i = c.loop-target.invariant.1 in
    none_left c.args.p.now c.args.man.now c.loop-target.target-iterator c.loop-target.invariant.0 _ c.loop-target.list.items c.requires.here i.rest
    (none-of-empty _ c.in-None.ensures.steps.0) i.small (omega arith) i.listed

pub returns-clause-few : goal.returns-clause-few
returns-clause-few c =
    let i = c.loop-target.invariant.1 in
    let m = c.args.man.now in
    let up = moves_below-more m.side m.kind m.at c.loop-target.invariant.0 64 i.small in
    let most = moves_below-most m.side m.kind m.at c.number-origin.ensures.small in
    omega (arith, i.few, up, most)
