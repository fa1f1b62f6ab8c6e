use Rattle.std.proofs.Common.{◌≡◌, suc, true, List, take, drop, take_all, subst, sym, ◌∙◌, arith}
use Rattle.std.specs.List.{AllByRecursion}
use Rattle.study_material.specs.declared.class.Class.{Class}
use Rattle.study_material.specs.declared.class.Class.TheVariants.{KK}
use Rattle.study_listing.specs.Pieces.{AreLookedAt}
use Rattle.study_listing.proofs.HeldClasses.{next-held, parted-at, looked-at-needed}
use Rattle.study_listing.proofs.piece.need_tables.Goals as goal

pub loop-class-init : goal.loop-class-init
loop-class-init g c = tt

pub returns-then-not-holds-clause-missing : goal.returns-then-not-holds-clause-missing
returns-then-not-holds-clause-missing g c =
    let items = c.as_slice-class-items.result.now in
    let k = c.loop-class.class-index in (
      take k items,
      drop (suc k) items,
      subst (λ (l : List Class). AreLookedAt c.args.request.now l) (sym c.as_slice-class-items.ensures.value ∙ parted-at items k KK c.loop-class-test.true)
          c.classes_for-classes.ensures,
      c.loop-class.invariant,
      sym c.holds.ensures ∙ c.if-not-holds.true,
    )

pub loop-class-preserved : goal.loop-class-preserved
loop-class-preserved g c =
    next-held (λ (x : Class). g.V.Values.source.held c.args.values.now x ≡ true) c.as_slice-class-items.result.now c.loop-class.class-index KK
    c.loop-class-test.true c.loop-class.invariant (sym c.holds.ensures ∙ c.if-not-holds.false)

pub returns-clause-held : goal.returns-clause-held
returns-clause-held g c =
    let items = c.as_slice-class-items.result.now in (
      c.classes_for-classes.result.items,
      c.classes_for-classes.ensures,
      subst (AllByRecursion (λ (x : Class). g.V.Values.source.held c.args.values.now x ≡ true))
          (take_all c.loop-class.class-index items (omega (arith, c.loop-class-test.false)) ∙ c.as_slice-class-items.ensures.value) c.loop-class.invariant,
    )

pub returns-then-not-holds-clause-faults : goal.returns-then-not-holds-clause-faults
returns-then-not-holds-clause-faults g c = (
  sym c.holds.ensures ∙ c.if-not-holds.true,
  looked-at-needed c.args.request.now c.as_slice-class-items.result.now c.loop-class.class-index KK
      (subst (λ (l : List Class). AreLookedAt c.args.request.now l) (sym c.as_slice-class-items.ensures.value) c.classes_for-classes.ensures)
      c.loop-class-test.true,
)
