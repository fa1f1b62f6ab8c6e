use Rattle.std.proofs.Common.{ℕ, ◌∷◌, [], ◌++◌, List, length, refl, sym, ap, ◌∙◌, arith, subst, ◌-◌, ◌<◌, ◌≡◌}
use Rattle.study_tree.specs.Edits.{IsWithin}
use Rattle.study_marks.proofs.LabelsWritten.{back, length-further}
use Rattle.study_marks.proofs.FirstIllegalMove.{no-child, within-child, fewer-below, broken-here, broken-below, whole-next, whole-all, longer}
use Rattle.study_marks.proofs.relabel.+find_illegal_move.Goals as goal

pub unreachable-requires : goal.unreachable-requires
unreachable-requires g t c =
    no-child c.args.node.now.below c.loop-place.place (omega (arith, c.loop-place-test.true, c.width-count.ensures)) c.in_default.ensures

pub push-requires : goal.push-requires
push-requires g t c =
    let w = within-child (256 - length c.args.steps.now.items) c.args.node.now.below c.loop-place.place _ c.in-Some.ensures c.requires.shallow in
    let short : length c.loop-place.steps.items < 256 = omega (arith, w.0, ap (λ (xs : List ℕ). length xs) c.loop-place.invariant.1) in
    (omega arith, short)

pub returns-then-not-is_legal-clause-broken : goal.returns-then-not-is_legal-clause-broken
returns-then-not-is_legal-clause-broken g t c _ = (
  c.loop-place.place ∷ [],
  broken-here c.args.position.now c.args.node.now.below c.loop-place.place _ c.in-Some.ensures c.loop-place.invariant.0 (sym c.if-not-is_legal.ensures),
  c.push.ensures.items ∙ ap (λ (xs : List ℕ). xs ++ c.loop-place.place ∷ []) c.loop-place.invariant.1,
)

pub find_illegal_move-requires : goal.find_illegal_move-requires
find_illegal_move-requires g t c κs within =
    let w = within-child (256 - length c.args.steps.now.items) c.args.node.now.below c.loop-place.place _ c.in-Some.ensures c.requires.shallow in
    let path = c.push.ensures.items ∙ ap (λ (xs : List ℕ). xs ++ c.loop-place.place ∷ []) c.loop-place.invariant.1 in
    let one : 256 - length c.args.steps.now.items - 1 ≡ 256 - length c.push.new.self.items =
    omega (arith, ap (λ (xs : List ℕ). length xs) path, length-further c.args.steps.now.items c.loop-place.place) in (
      omega (arith, fewer-below c.args.node.now.below c.loop-place.place _ c.in-Some.ensures, c.decreases),
      (
        within,
        (
          omega (arith, w.0, ap (λ (xs : List ℕ). length xs) path, length-further c.args.steps.now.items c.loop-place.place),
          subst (λ n. IsWithin n c.in-Some.child.node.below) one w.1,
        ),
      ),
    )

pub returns-then-find_illegal_move-clause-broken : goal.returns-then-find_illegal_move-clause-broken
returns-then-find_illegal_move-clause-broken g t c _ =
    let path = c.push.ensures.items ∙ ap (λ (xs : List ℕ). xs ++ c.loop-place.place ∷ []) c.loop-place.invariant.1 in
    let x = c.if-find_illegal_move.ensures.broken refl in (
      c.loop-place.place ∷ x.0,
      broken-below c.args.position.now c.args.node.now.below c.loop-place.place _ c.in-Some.ensures c.loop-place.invariant.0
          c.played-next.result x.0 (sym c.if-not-is_legal.ensures) c.played-next.ensures.value x.1,
      longer c.args.steps.now.items c.push.new.self.items x.0 c.find_illegal_move.new.steps.items c.loop-place.place path x.2,
    )

pub loop-place-preserved : goal.loop-place-preserved
loop-place-preserved g t c =
    let path = c.push.ensures.items ∙ ap (λ (xs : List ℕ). xs ++ c.loop-place.place ∷ []) c.loop-place.invariant.1 in
    let x = c.if-find_illegal_move.ensures.whole refl in (
      whole-next c.args.position.now c.args.node.now.below c.loop-place.place _ c.in-Some.ensures c.loop-place.invariant.0
          c.played-next.result (sym c.if-not-is_legal.ensures) c.played-next.ensures.value x.0,
      c.pop-place.ensures.rest ∙ back c.args.steps.now.items c.find_illegal_move.new.steps.items c.loop-place.place (x.1 ∙ path),
      omega (arith, c.loop-place-test.true),
    )

pub returns-clause-whole : goal.returns-clause-whole
returns-clause-whole g t c _ = (
  whole-all c.args.position.now c.args.node.now.below c.loop-place.place (omega (arith, c.loop-place-test.false, c.width-count.ensures))
      c.loop-place.invariant.0,
  c.loop-place.invariant.1,
)
