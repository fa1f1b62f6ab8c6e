-- The longest mate of the numbers so far.
use Rattle.std.proofs.Common.{◌≡◌, ℕ, ◌+◌, ◌<◌, ◌≤◌, Bool, true, false, cond, Option, Some, None, Result, Ok, Err, IfOk, MatchOption, ◌↔◌, arith}
use Rattle.std.proofs.Common.{refl, sym, ap, ◌∙◌, subst}
use Rattle.std.specs.Prelude.{nat_lt}
use Rattle.std.proofs.lemmas.Bool.{false≢true, ltb-true, ltb-false}
use Rattle.study_board.specs.declared.men.Side.{Side}
use Rattle.study_board.specs.Position.{Position}
use Rattle.study_moves.specs.Game.{IsWon}
use Rattle.study_moves.specs.Laws.{EachHasAtMostOneValue}
use Rattle.study_material.specs.declared.class.Class.{Class}
use Rattle.study_values.specs.Number.{cells_of}
use Rattle.study_index.specs.Computed.{position_numbered}
use Rattle.study_index.proofs.ClassLaws.{below}
use Rattle.study_index.proofs.ComputedIndex.{decoded_of_numbered}
use Rattle.study_values.specs.declared.value.Value.{Value}
use Rattle.study_values.specs.declared.value.Value.TheVariants.{Win, Loss, Draw}
use Rattle.study_values.specs.Game.{IsValueOf}
use Rattle.study_board.specs.Men.{same_side}
use Rattle.study_search.specs.Longest.{option_max, mate_by, MatesIn, MatesAt, IsLongest}

-- as IsLongest, of the numbers below n
abbrev pub IsLongestBelow : (ℕ → ℕ → Type 0) → ℕ → Option ℕ → Type 0
IsLongestBelow W n longest = MatchOption longest
    ((i k : ℕ) → i < n → ¬ (W i k))
    (λ most. ((i : ℕ) × W i most) × ((i k : ℕ) → i < n → W i k → k ≤ most))

same-some : (m k : ℕ) → Some m ≡ Some k → m ≡ k
same-some m k e = cc

none-is-some : (k : ℕ) → None ≡ Some k → ⊥
none-is-some k e = cc

module _ (W : ℕ → ℕ → Type 0) (n : ℕ) where
  -- a number below n + 1 is below n, or n
  earlier : {X : Type 0} (i : ℕ) → i < n + 1 → (i < n → X) → (i ≡ n → X) → X
  earlier {X = X} i l f g = go (nat_lt i n) refl
    where
      go : (b : Bool) → nat_lt i n ≡ b → X
      go true e = f (ltb-true i n e)
      go false e = let le : n ≤ i = ltb-false i n e in g (omega (arith, l, le))

  pub longest-more : (longest mate : Option ℕ) → IsLongestBelow W n longest → ((k : ℕ) → (mate ≡ Some k) ↔ W n k)
      → IsLongestBelow W (n + 1) (option_max longest mate)
  longest-more None None h t = λ i k l w. earlier i l (λ x. h i k x w) (λ e. none-is-some k ((t k).1 (subst (λ j. W j k) e w)))
  longest-more None (Some y) h t = (
    (n, (t y).0 refl),
    λ i k l w.
        earlier i l (λ x. absurd (h i k x w)) (λ e.
        let same : y ≡ k = same-some y k ((t k).1 (subst (λ j. W j k) e w)) in
        omega (arith, same)),
  )
  longest-more (Some x) None h t = (
    h.0,
    λ i k l w. earlier i l (λ j. h.1 i k j w) (λ e. absurd (none-is-some k ((t k).1 (subst (λ j. W j k) e w)))),
  )
  longest-more (Some x) (Some y) h t = go (nat_lt x y) refl
    where
      at-n : (i k : ℕ) → i ≡ n → W i k → y ≡ k
      at-n i k e w = same-some y k ((t k).1 (subst (λ j. W j k) e w))

      go : (b : Bool) → nat_lt x y ≡ b → IsLongestBelow W (n + 1) (cond b (Some y) (Some x))
      go true e =
          let less : x < y = ltb-true x y e in (
            (n, (t y).0 refl),
            λ i k l w.
                earlier i l (λ j. let low : k ≤ x = h.1 i k j w in omega (arith, low, less))
                (λ f. let same : y ≡ k = at-n i k f w in omega (arith, same)),
          )
      go false e =
          let less : y ≤ x = ltb-false x y e in (
            h.0,
            λ i k l w. earlier i l (λ j. h.1 i k j w) (λ f. let same : y ≡ k = at-n i k f w in omega (arith, same, less)),
          )

pub longest-all : (c : Class) (side : Side) (end : ℕ) (longest : Option ℕ) → cells_of c ≤ end → IsLongestBelow (MatesAt c side) end longest
    → IsLongest c side longest
longest-all c side end None le h = λ n k w. let low = below c n w.0 (decoded_of_numbered c n w.0 w.1) in h n k (omega (arith, le, low)) w
longest-all c side end (Some most) le h = (h.0, λ n k w. let low = below c n w.0 (decoded_of_numbered c n w.0 w.1) in h.1 n k (omega (arith, le, low)) w)

-- the mate by the value
pub mate-by : EachHasAtMostOneValue → (p : Position) (v : Value) → IsValueOf p v → (k : ℕ) → (mate_by v ≡ Some k) ↔ IsWon p k
mate-by law p (Win n) h k = (
  (λ e. subst (λ i. IsWon p i) (same-some n k e) h),
  (λ w. ap (λ i. Some i) ((law p).won_once n k h w)),
)
mate-by law p (Loss n) h k = ((λ e. absurd (none-is-some k e)), (λ w. absurd ((law p).won_not_lost k n w h)))
mate-by law p Draw h k = ((λ e. absurd (none-is-some k e)), (λ w. absurd ((law p).won_not_drawn k w h)))

-- whether it is in so many plies
pub in-so-many : (p : Position) (mate : Option ℕ) (k n : ℕ) → ((i : ℕ) → (mate ≡ Some i) ↔ IsWon p i) → mate ≡ Some k → (b : Bool) → ((b ≡ true) ↔ (k ≡ n))
    → (b ≡ true) ↔ IsWon p n
in-so-many p mate k n t e b same = (
  (λ x. subst (λ i. IsWon p i) (same.0 x) ((t k).0 e)),
  (λ w. same.1 (same-some k n (sym e ∙ (t n).1 w))),
)

pub in-none : (p : Position) (mate : Option ℕ) (n : ℕ) → ((i : ℕ) → (mate ≡ Some i) ↔ IsWon p i) → mate ≡ None → (false ≡ true) ↔ IsWon p n
in-none p mate n t e = ((λ f. absurd (false≢true f)), (λ w. absurd (none-is-some n (sym e ∙ (t n).1 w))))

-- for a side
pub for-side : {E : Type 0} (side : Side) (p : Position) (r : Result (Option ℕ) E) → same_side p.to_move side ≡ true
    → IfOk r (λ mate. (k : ℕ) → (mate ≡ Some k) ↔ IsWon p k) → IfOk r (λ mate. (k : ℕ) → (mate ≡ Some k) ↔ MatesIn side k p)
for-side side p (Ok mate) e h = λ k. ((λ x. (e, (h k).0 x)), (λ m. (h k).1 m.1))
for-side side p (Err fault) e h = tt

pub other-side : (side : Side) (p : Position) → same_side p.to_move side ≡ false → (k : ℕ) → (None ≡ Some k) ↔ MatesIn side k p
other-side side p e k = ((λ x. absurd (none-is-some k x)), (λ m. absurd (false≢true (sym e ∙ m.0))))

-- for a number
same-position : (p q : Position) → Some p ≡ Some q → p ≡ q
same-position p q e = cc

pub for-number : {E : Type 0} (c : Class) (side : Side) (n : ℕ) (p : Position) (r : Result (Option ℕ) E) → Some p ≡ position_numbered c n
    → IfOk r (λ mate. (k : ℕ) → (mate ≡ Some k) ↔ MatesIn side k p) → IfOk r (λ mate. (k : ℕ) → (mate ≡ Some k) ↔ MatesAt c side n k)
for-number c side n p (Ok mate) e h = λ k. (
  (λ x. (p, sym e, (h k).0 x)),
  (λ m. (h k).1 (subst (λ (q : Position). MatesIn side k q) (sym (same-position p m.0 (e ∙ m.1))) m.2)),
)
for-number c side n p (Err fault) e h = tt

pub no-number : (c : Class) (side : Side) (n : ℕ) → None ≡ position_numbered c n → (k : ℕ) → (None ≡ Some k) ↔ MatesAt c side n k
no-number c side n e k = ((λ x. absurd (none-is-some k x)), (λ m. absurd (none-is-position m.0 (e ∙ m.1))))
  where
    none-is-position : (q : Position) → None ≡ Some q → ⊥
    none-is-position q f = cc
