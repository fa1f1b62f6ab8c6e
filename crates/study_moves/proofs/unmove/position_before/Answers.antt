use Rattle.std.proofs.Common.{◌≡◌, ◌∙◌, sym, refl, subst, arith}
use Rattle.study_moves.specs.declared.moves.Move.{Move}
use Rattle.study_moves.specs.Unmoves.{LeadsQuietly, position_before}
use Rattle.study_moves.proofs.MenFound.{is_occupied-from_man_at}
use Rattle.study_moves.proofs.QuietBack.{mover_there, taken_from, men_before_is, IsValid-before, LeadsQuietly-before}
use Rattle.study_moves.proofs.unmove.position_before.Goals as goal

pub unreachable-requires : goal.unreachable-requires
unreachable-requires c =
    let h = mover_there c.args.q.now c.args.m c.requires.from c.men-now.ensures.valid c.requires.leads in
    let none = sym h.1 ∙ sym c.man_at.ensures ∙ c.in-None.is in
    cc none

pub men_with_moved-men-requires : goal.men_with_moved-men-requires
men_with_moved-men-requires c = (
  omega arith,
  (
    c.men-now.ensures.few,
    (
      rw c.men-now.ensures.value (is_occupied-from_man_at _ _ _ (sym c.man_at.ensures ∙ c.in-Some.is)),
      rw c.men-now.ensures.value c.men-now.ensures.valid.ordered,
    ),
  ),
)

pub of-requires : goal.of-requires
of-requires c =
    let q = c.args.q.now in
    let t = taken_from q c.args.m c.requires.from c.in-Some.man c.men-now.ensures.valid (sym c.man_at.ensures ∙ c.in-Some.is) c.requires.leads in
    rw (
      c.men_with_moved-men.ensures,
      c.other.ensures,
      c.to_move.ensures,
      c.men-now.ensures.value,
      c.man_on_origin.ensures,
      men_before_is q.men c.in-Some.man c.args.m.origin,
    )
    (IsValid-before q c.men-now.ensures.valid c.in-Some.man c.args.m.origin t.came)

pub returns-clause-before : goal.returns-clause-before
returns-clause-before c =
    let q = c.args.q.now in
    let m = c.args.m in
    let t = taken_from q m c.requires.from c.in-Some.man c.men-now.ensures.valid (sym c.man_at.ensures ∙ c.in-Some.is) c.requires.leads in
    let is : c.of.result ≡ position_before q c.in-Some.man m.origin =
    c.of.ensures.value
    ∙ rw (
      c.men_with_moved-men.ensures,
      c.other.ensures,
      c.to_move.ensures,
      c.men-now.ensures.value,
      c.man_on_origin.ensures,
      men_before_is q.men c.in-Some.man m.origin,
    ) refl in
    let L : Move → Type 0 = λ n. LeadsQuietly (position_before q c.in-Some.man m.origin) n q in
    rw is (subst L (sym t.by) (LeadsQuietly-before q c.men-now.ensures.valid c.in-Some.man m.origin t.came))

pub returns-clause-only : goal.returns-clause-only
returns-clause-only c p e =
    let q = c.args.q.now in
    let m = c.args.m in
    let t = taken_from q m p c.in-Some.man c.men-now.ensures.valid (sym c.man_at.ensures ∙ c.in-Some.is) e in
    c.of.ensures.value
    ∙ rw (
      c.men_with_moved-men.ensures,
      c.other.ensures,
      c.to_move.ensures,
      c.men-now.ensures.value,
      c.man_on_origin.ensures,
      men_before_is q.men c.in-Some.man m.origin,
    ) (sym t.is)
