-- Mutual zugzwangs by the points that both sides score.
use Rattle.std.proofs.Common.{◌≡◌, ◌==◌, ℕ, ◌+◌, ◌<◌, Bool, true, false, Option, Some, None, refl, sym, ap, subst, ◌∙◌, arith}
use Rattle.std.specs.Prelude.{if◌then◌else◌}
use Rattle.std.proofs.lemmas.Bool.{eqb-true, eqb-false, false≢true}
use Rattle.study_board.specs.declared.men.Side.{Side}
use Rattle.study_board.specs.declared.men.Side.TheVariants.{White, Black}
use Rattle.study_board.specs.Men.{same_side, other_side}
use Rattle.study_board.specs.Position.{Position, IsValid}
use Rattle.study_moves.specs.EnPassant.{has_legal_en_passant}
use Rattle.study_moves.specs.Laws.{EachHasAtMostOneValue}
use Rattle.study_zugzwang.specs.Zugzwang.{IsZugzwang, EitherCanMove, Scores, handed_on}
use Rattle.study_zugzwang.proofs.Zugzwangs.{one-score}
use Rattle.study_facts.specs.declared.zugzwang.Zugzwang.{Zugzwang}
use Rattle.study_facts.specs.declared.zugzwang.Zugzwang.TheVariants.{Full, Half}
use Rattle.study_facts.specs.Zugzwang.{turned_to, IsZugzwangOf, kind_of}
use Rattle.study_facts.specs.Asked.{IsReached}
use Rattle.study_facts.proofs.Within.{LeadsTo, leads-nowhere}

-- ---- the class of the position with the other side to move

-- a position leads to the same men with the other side to move
pub leads-across : (p q : Position) → q ≡ handed_on p → IsValid q → LeadsTo p q
leads-across p q e valid = record {
  valid = λ v. valid;
  reached = subst (λ (r : Position). IsReached p r) (sym e) (leads-nowhere p).reached;
}

-- ---- the kind

turned-own : (p : Position) (side : Side) → p.to_move ≡ side → turned_to side p ≡ p
turned-own p White e = ap (λ s. if same_side s White then p else handed_on p) e
turned-own p Black e = ap (λ s. if same_side s Black then p else handed_on p) e

turned-other : (p : Position) (side : Side) → p.to_move ≡ side → turned_to (other_side side) p ≡ handed_on p
turned-other p White e = ap (λ s. if same_side s Black then p else handed_on p) e
turned-other p Black e = ap (λ s. if same_side s White then p else handed_on p) e

other-twice : (s : Side) → other_side (other_side s) ≡ s
other-twice White = refl
other-twice Black = refl

module _ (law : EachHasAtMostOneValue) (p : Position) (passed : has_legal_en_passant p ≡ false) (either : EitherCanMove p)
    (i j : ℕ) (here : Scores p i) (there : Scores (handed_on p) j) where
  is-zugzwang : i + j < 2 → IsZugzwang p
  is-zugzwang few = record { none_passed = passed; either = either; less = (i, j, here, there, few) }

  no-zugzwang : (i + j < 2 → ⊥) → ¬ (IsZugzwang p)
  no-zugzwang many z =
      let less = z.less in
      let a : less.0 ≡ i = one-score law p less.0 i less.2 here in
      let b : less.1 ≡ j = one-score law (handed_on p) less.1 j less.3 there in
      let few = less.4 in
      many (omega (arith, a, b, few))

  half-here : i ≡ 1 → j ≡ 0 → IsZugzwangOf p (Some (Half p.to_move))
  half-here a b = (
    is-zugzwang (omega (arith, a, b)),
    subst (λ (q : Position). Scores q 1) (sym (turned-own p p.to_move refl)) (subst (λ k. Scores p k) a here),
    subst (λ (q : Position). Scores q 0) (sym (turned-other p p.to_move refl)) (subst (λ k. Scores (handed_on p) k) b there),
  )

  half-there : i ≡ 0 → j ≡ 1 → IsZugzwangOf p (Some (Half (other_side p.to_move)))
  half-there a b = (
    is-zugzwang (omega (arith, a, b)),
    subst (λ (q : Position). Scores q 1) (sym (turned-other p p.to_move refl)) (subst (λ k. Scores (handed_on p) k) b there),
    subst (λ (q : Position). Scores q 0) (sym (ap (λ s. turned_to s p) (other-twice p.to_move) ∙ turned-own p p.to_move refl)) (subst (λ k. Scores p k) a here),
  )

  half-of : i + j ≡ 1 → (b : Bool) → (i == 1) ≡ b → IsZugzwangOf p (Some (Half (if b then p.to_move else other_side p.to_move)))
  half-of one true e =
      let a : i ≡ 1 = eqb-true i 1 e in
      half-here a (omega (arith, one, a))
  half-of one false e =
      let n : (i ≡ 1 → ⊥) = eqb-false i 1 e in
      let a : i ≡ 0 = omega (arith, one, n) in
      half-there a (omega (arith, one, a))

  rest-of : (i + j ≡ 0 → ⊥) → (b : Bool) → (i + j == 1) ≡ b
      → IsZugzwangOf p (if b then Some (Half (if i == 1 then p.to_move else other_side p.to_move)) else None)
  rest-of some true e = half-of (eqb-true (i + j) 1 e) (i == 1) refl
  rest-of some false e =
      let n : (i + j ≡ 1 → ⊥) = eqb-false (i + j) 1 e in
      no-zugzwang (λ few. omega (arith, few, some, n))

  kind-from : (b : Bool) → (i + j == 0) ≡ b
      → IsZugzwangOf p (if b then Some Full else (if i + j == 1 then Some (Half (if i == 1 then p.to_move else other_side p.to_move)) else None))
  kind-from true e =
      let z : i + j ≡ 0 = eqb-true (i + j) 0 e in
      let a : i ≡ 0 = omega (arith, z) in
      let b : j ≡ 0 = omega (arith, z) in
      (is-zugzwang (omega (arith, z)), subst (λ k. Scores p k) a here, subst (λ k. Scores (handed_on p) k) b there)
  kind-from false e = rest-of (eqb-false (i + j) 0 e) (i + j == 1) refl

  -- it is of the kind that the points give
  pub kind-evaluated : IsZugzwangOf p (kind_of p.to_move i j)
  kind-evaluated = kind-from (i + j == 0) refl

pub kind-by : EachHasAtMostOneValue → (p q : Position) (side : Side) (i j : ℕ) → has_legal_en_passant p ≡ false → q ≡ handed_on p → EitherCanMove p
    → side ≡ p.to_move → Scores p i → Scores q j → IsZugzwangOf p (kind_of side i j)
kind-by law p q side i j passed e either s here there =
    subst (λ x. IsZugzwangOf p (kind_of x i j)) (sym s)
    (kind-evaluated law p passed either i j here (subst (λ (r : Position). Scores r j) e there))

pub none-passing : (p : Position) → has_legal_en_passant p ≡ true → IsZugzwangOf p None
none-passing p e z = false≢true (sym z.none_passed ∙ e)

pub none-other : (p : Position) → ¬ (EitherCanMove p) → IsZugzwangOf p None
none-other p n z = n z.either

-- ---- a position has exactly one kind

zero-one : EachHasAtMostOneValue → (q : Position) → Scores q 0 → Scores q 1 → ⊥
zero-one law q a b = let e : ◌≡◌ {A = ℕ} 0 1 = one-score law q 0 1 a b in absurd (omega (arith, e))

-- no side scores half a point if both score nothing
full-half : EachHasAtMostOneValue → (p : Position) (side : Side) → Scores p 0 → Scores (handed_on p) 0 → Scores (turned_to side p) 1 → ⊥
full-half law p side a b c = go (same_side p.to_move side) c
  where
    go : (t : Bool) → Scores (if t then p else handed_on p) 1 → ⊥
    go true d = zero-one law p a d
    go false d = zero-one law (handed_on p) b d

half-half : EachHasAtMostOneValue → (p : Position) (a b : Side) → Scores (turned_to a p) 1 → Scores (turned_to (other_side b) p) 0 → a ≡ b
half-half law p White White x y = refl
half-half law p Black Black x y = refl
half-half law p White Black x y = absurd (zero-one law (turned_to White p) y x)
half-half law p Black White x y = absurd (zero-one law (turned_to Black p) y x)

pub one-kind : EachHasAtMostOneValue → (p : Position) (y z : Option Zugzwang) → IsZugzwangOf p y → IsZugzwangOf p z → y ≡ z
one-kind law p None None h j = refl
one-kind law p None (Some Full) h j = absurd (h j.0)
one-kind law p None (Some (Half b)) h j = absurd (h j.0)
one-kind law p (Some Full) None h j = absurd (j h.0)
one-kind law p (Some Full) (Some Full) h j = refl
one-kind law p (Some Full) (Some (Half b)) h j = absurd (full-half law p b h.1 h.2 j.1)
one-kind law p (Some (Half a)) None h j = absurd (j h.0)
one-kind law p (Some (Half a)) (Some Full) h j = absurd (full-half law p a j.1 j.2 h.1)
one-kind law p (Some (Half a)) (Some (Half b)) h j = ap (λ s. Some (Half s)) (half-half law p a b h.1 j.2)
