use Rattle.std.proofs.Common.{◌≡◌, false, ◌∙◌, ◌==◌, ◌<◌, ◌-◌, ℕ, List, length, sym, arith, get_or, subst, refl}
use Rattle.std.proofs.lemmas.Bool.{false≢true, iff_false}
use Rattle.std.proofs.lemmas.Bool.Decides.{nat_tests}
use Rattle.std.specs.List.{Contains}
use Rattle.study_moves.specs.declared.moves.Move.{Move}
use Rattle.study_board.specs.Position.{Position}
use Rattle.study_moves.specs.Rules.{after}
use Rattle.study_moves.specs.Game.{MatesWithin}
use Rattle.study_moves.proofs.Mates.{IsMatedWithin-zero, IsMatedWithin-each, IsMatedWithin-not}
use Rattle.study_moves.proofs.forced_mate.+mate.Goals as goal

some : (xs : List Move) → (length xs == 0) ≡ false → 0 < length xs
some xs e = grind (arith, nat_tests)

found : (xs ys : List Move) (i : ℕ) (m : Move) → ys ≡ xs → i < length ys → m ≡ get_or ys i m → Contains xs m
found xs ys i m e lt is = rw (← e) (i, lt, sym is)

pub is_mated_within-returns-then-n-eq0 : goal.is_mated_within-returns-then-n-eq0
is_mated_within-returns-then-n-eq0 t c =
    let xs = c.legal_moves-moves.result.items in
    let none = IsMatedWithin-zero c.args.p.now xs c.legal_moves-moves.ensures.legal c.args.n c.if-n-eq0.true
    (some xs (sym c.is_empty.ensures ∙ c.if-is_empty.false)) in
    (λ e. absurd (false≢true e), λ h. absurd (none h))

pub is_mated_within-returns-then-not-mates_within : goal.is_mated_within-returns-then-not-mates_within
is_mated_within-returns-then-not-mates_within t c =
    let p = c.args.p.now in
    let m = c.m-item.result in
    let legal = (c.legal_moves-moves.ensures.legal m).0 (found _ _ _ m c.as_slice-m-items.ensures.value c.loop-m-test.true c.m-item.is) in
    let there = iff_false c.mates_within.ensures c.if-not-mates_within.true in
    let none =
    IsMatedWithin-not p c.args.n m (omega arith) legal
    (λ h. there (subst (λ (q : Position). MatesWithin (c.args.n - 1) q) (sym c.played-next.ensures.value) h)) in
    (λ e. absurd (false≢true e), λ h. absurd (none h))

pub is_mated_within-returns : goal.is_mated_within-returns
is_mated_within-returns t c =
    let p = c.args.p.now in
    let xs = c.legal_moves-moves.result.items in
    let each =
    subst (λ (xs : List Move). (k : ℕ) (d : Move) → k < length xs
    → MatesWithin (c.args.n - 1) (after p (get_or xs k d))) c.as_slice-m-items.ensures.value
    (λ k d lt. c.loop-m.invariant k d (omega arith)) in (
      λ e. IsMatedWithin-each p xs c.legal_moves-moves.ensures.legal c.args.n (omega arith)
          (some xs (sym c.is_empty.ensures ∙ c.if-is_empty.false)) each,
      λ h. refl,
    )
