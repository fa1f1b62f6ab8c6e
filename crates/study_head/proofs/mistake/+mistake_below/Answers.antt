use Rattle.std.proofs.Common.{◌≡◌, ◌+◌, ◌-◌, refl, sym, ap, subst, ◌∙◌, arith}
use Rattle.study_board.specs.Position.{Position}
use Rattle.study_tree.specs.Edits.{IsWithin}
use Rattle.study_marks.specs.declared.mark.Mark.{Mark}
use Rattle.study_marks.specs.Study.{IsPlayable}
use Rattle.study_marks.proofs.FirstIllegalMove.{no-child}
use Rattle.study_marks.proofs.PathWalks.{fewer, playable_at}
use Rattle.study_head.specs.Mistake.{own_mistake, mistake_below}
use Rattle.study_head.proofs.FirstMistake.{within-child, none-at-all, own-is, below-is, hero-is, none-here}
use Rattle.study_head.proofs.mistake.+mistake_below.Goals as goal
use Rattle.study_head.proofs.mistake.+mistake_below.Goals.{then-is_some-2-via-then-is_some-2, then-is_some-2-via-else-is_some-2+then-hero_moves}

pub loop-place-init : goal.loop-place-init
loop-place-init g t c = refl

pub unreachable-requires : goal.unreachable-requires
unreachable-requires g t c =
    no-child c.args.node.now.below c.loop-place.place (omega (arith, c.loop-place-test.true, c.width-place-end.ensures)) c.in_default.ensures

pub own_mistake-own-requires : goal.own_mistake-own-requires
own_mistake-own-requires g t c =
    (playable_at c.args.here.now.position.now c.args.node.now.below c.loop-place.place _ c.requires.playable c.in-Some.ensures).0

pub returns-then-is_some-clause-first : goal.returns-then-is_some-clause-first
returns-then-is_some-clause-first g t c =
    own-is c.args.here.now.aim.now c.args.here.now.start.now c.args.here.now.depth c.args.here.now.position.now c.args.node.now.below c.loop-place.place _
    c.in-Some.ensures c.loop-place.invariant c.own_mistake-own.result
    (c.own_mistake-own.ensures.own
    ∙ ap (λ (x : Mark). own_mistake c.args.here.now.aim.now c.args.here.now.start.now c.args.here.now.depth c.args.here.now.position.now c.in-Some.child.played x.on_move)
    c.mark.ensures)
    (sym c.is_some.ensures ∙ c.if-is_some.true)

pub played-next-requires : goal.played-next-requires
played-next-requires g t c =
    (playable_at c.args.here.now.position.now c.args.node.now.below c.loop-place.place _ c.requires.playable c.in-Some.ensures).0

pub mistake_below-found-requires : goal.mistake_below-found-requires
mistake_below-found-requires g t c κs within =
    let f = c.args.node.now.below in
    let k = c.loop-place.place in
    let d = c.args.here.now.depth in
    let deep = within-child (256 - d) f k _ c.in-Some.ensures c.requires.shallow in (
      omega (arith, fewer f k _ c.in-Some.ensures, c.decreases),
      (
        within,
        (
          subst (λ n. IsWithin n c.in-Some.child.node.below) (let n : 256 - d - 1 ≡ 256 - (d + 1) = omega arith in n) deep.1,
          (
            omega (arith, deep.0, c.requires.deep),
            subst (λ (q : Position). IsPlayable q c.in-Some.child.node.below) (sym c.played-next.ensures.value)
                (playable_at c.args.here.now.position.now f k _ c.requires.playable c.in-Some.ensures).1,
          ),
        ),
      ),
    )

pub returns-then-is_some-2-clause-first : goal.returns-then-is_some-2-clause-first
returns-then-is_some-2-clause-first g t c =
    let f = c.args.node.now.below in
    let k = c.loop-place.place in
    let own = c.own_mistake-own.ensures.own
    ∙ ap (λ (x : Mark). own_mistake c.args.here.now.aim.now c.args.here.now.start.now c.args.here.now.depth c.args.here.now.position.now c.in-Some.child.played x.on_move)
    c.mark.ensures in
    let none = sym c.is_some.ensures ∙ c.if-is_some.false in
    let found = c.mistake_below-found.ensures.first
    ∙ ap (λ (q : Position). mistake_below c.args.here.now.aim.now c.args.here.now.start.now (c.args.here.now.depth + 1) q c.in-Some.child.node.below)
    c.played-next.ensures.value in
    elim c.then-is_some-2.branch [
      | then-is_some-2-via-then-is_some-2 w ↦
          below-is c.args.here.now.aim.now c.args.here.now.start.now c.args.here.now.depth c.args.here.now.position.now f k _
          c.in-Some.ensures c.loop-place.invariant c.own_mistake-own.result c.mistake_below-found.result own none found
          (sym c.is_some-in-loop-place.ensures ∙ w.if-is_some-2.true)
      | then-is_some-2-via-else-is_some-2+then-hero_moves w ↦
          hero-is c.args.here.now.aim.now c.args.here.now.start.now c.args.here.now.depth c.args.here.now.position.now f k _
          c.in-Some.ensures c.loop-place.invariant c.own_mistake-own.result c.mistake_below-found.result own none found
          (sym w.hero_moves.ensures ∙ w.if-hero_moves.true)
    ]

pub loop-place-preserved : goal.loop-place-preserved
loop-place-preserved g t c =
    let f = c.args.node.now.below in
    let k = c.loop-place.place in
    let own = c.own_mistake-own.ensures.own
    ∙ ap (λ (x : Mark). own_mistake c.args.here.now.aim.now c.args.here.now.start.now c.args.here.now.depth c.args.here.now.position.now c.in-Some.child.played x.on_move)
    c.mark.ensures in
    let none = sym c.is_some.ensures ∙ c.if-is_some.false in
    let found = c.mistake_below-found.ensures.first
    ∙ ap (λ (q : Position). mistake_below c.args.here.now.aim.now c.args.here.now.start.now (c.args.here.now.depth + 1) q c.in-Some.child.node.below)
    c.played-next.ensures.value in
    none-here c.args.here.now.aim.now c.args.here.now.start.now c.args.here.now.depth c.args.here.now.position.now f k _
    c.in-Some.ensures c.loop-place.invariant c.own_mistake-own.result c.mistake_below-found.result own none found
    (sym c.is_some-in-loop-place.ensures ∙ c.if-is_some-2.false) (sym c.hero_moves.ensures ∙ c.if-hero_moves.false)

pub returns-clause-first : goal.returns-clause-first
returns-clause-first g t c =
    sym (none-at-all c.args.here.now.aim.now c.args.here.now.start.now c.args.here.now.depth c.args.here.now.position.now c.args.node.now.below c.loop-place.place
    (omega (arith, c.loop-place-test.false, c.width-place-end.ensures)) c.loop-place.invariant)
