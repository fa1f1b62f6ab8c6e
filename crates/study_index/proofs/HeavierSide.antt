-- The side whose men weigh more comes first.
use Rattle.std.proofs.Common.{◌≡◌, ℕ, ◌+◌, ◌*◌, ◌≤◌, Bool, true, false, cond, ◌&&◌, List, [], ◌∷◌, length, refl, ◌∙◌, nat_lt, arith, filter}
use Rattle.std.proofs.lemmas.Bool.Decides.{nat_tests}
use Rattle.study_board.specs.declared.men.Side.{Side}
use Rattle.study_board.specs.declared.men.Side.TheVariants.{White, Black}
use Rattle.study_board.specs.declared.men.Kind.{Kind}
use Rattle.study_board.specs.declared.men.Kind.TheVariants.{King, Queen, Rook, Bishop, Knight, Pawn}
use Rattle.study_board.specs.declared.men.Man.{Man}
use Rattle.study_board.specs.Men.{same_side}
use Rattle.study_material.specs.Lists.{kind_place, put_kind, is_other_than_king, kinds_of, comes_before, is_swapped}
use Rattle.study_index.specs.Weights.{weight, signed_weight, balance, balance_of}

weights : List Kind → ℕ
weights [] = 0
weights (k ∷ ks) = weight k + weights ks

weights-put : (k : Kind) (xs : List Kind) → weights (put_kind k xs) ≡ weight k + weights xs
unfolding weights
weights-put k [] = refl
weights-put k (x ∷ xs) =
    elim (nat_lt (kind_place x) (kind_place k)) as (λ b. weights (cond b (x ∷ put_kind k xs) (k ∷ x ∷ xs)) ≡ weight k + weights (x ∷ xs)) [
      | true ↦ omega (arith, weights-put k xs)
      | false ↦ refl
    ]

length-put : (k : Kind) (xs : List Kind) → length (put_kind k xs) ≡ 1 + length xs
length-put k [] = refl
length-put k (x ∷ xs) =
    elim (nat_lt (kind_place x) (kind_place k)) as (λ b. length (cond b (x ∷ put_kind k xs) (k ∷ x ∷ xs)) ≡ 1 + length (x ∷ xs)) [
      | true ↦ omega (arith, length-put k xs)
      | false ↦ omega arith
    ]

weight_small : (k : Kind) → weight k ≤ 10
weight_small King = omega arith
weight_small Queen = omega arith
weight_small Rook = omega arith
weight_small Bishop = omega arith
weight_small Knight = omega arith
weight_small Pawn = omega arith

-- the total weight of the men
abbrev IsWeighed : ℕ → ℕ → ℕ → ℕ → Type 0
IsWeighed balance white len black = balance + white ≡ 10 * len + black

weighed : (men : List Man) → IsWeighed (balance_of men) (weights (kinds_of White men)) (length men) (weights (kinds_of Black men))
unfolding weights
weighed [] = refl
weighed (m ∷ ms) = by_side m.side (is_other_than_king m) (weighed ms)
  where
    by_side : (s : Side) (b : Bool) → IsWeighed (balance_of ms) (weights (kinds_of White ms)) (length ms) (weights (kinds_of Black ms))
        → IsWeighed (cond b (signed_weight s (weight m.kind)) 10 + balance_of ms)
        (weights (cond (same_side s White && b) (put_kind m.kind (kinds_of White ms)) (kinds_of White ms)))
        (length (m ∷ ms)) (weights (cond (same_side s Black && b) (put_kind m.kind (kinds_of Black ms)) (kinds_of Black ms)))
    by_side White true h = omega (arith, h, weights-put m.kind (kinds_of White ms), weight_small m.kind)
    by_side White false h = omega (arith, h)
    by_side Black true h = omega (arith, h, weights-put m.kind (kinds_of Black ms))
    by_side Black false h = omega (arith, h)

counted : (men : List Man) → length (kinds_of White men) + length (kinds_of Black men) ≡ length (filter is_other_than_king men)
counted [] = refl
counted (m ∷ ms) = by_side m.side (is_other_than_king m) (counted ms)
  where
    by_side : (s : Side) (b : Bool) → length (kinds_of White ms) + length (kinds_of Black ms) ≡ length (filter is_other_than_king ms)
        → length (cond (same_side s White && b) (put_kind m.kind (kinds_of White ms)) (kinds_of White ms))
        + length (cond (same_side s Black && b) (put_kind m.kind (kinds_of Black ms)) (kinds_of Black ms))
        ≡ length (cond b (m ∷ filter is_other_than_king ms) (filter is_other_than_king ms))
    by_side White true h = omega (arith, h, length-put m.kind (kinds_of White ms))
    by_side White false h = h
    by_side Black true h = omega (arith, h, length-put m.kind (kinds_of Black ms))
    by_side Black false h = h

one_each : (x y : Kind) → nat_lt (weight x + 0) (weight y + 0) ≡ comes_before (y ∷ []) (x ∷ [])
one_each Queen Queen = refl
one_each Queen Rook = refl
one_each Queen Bishop = refl
one_each Queen Knight = refl
one_each Queen Pawn = refl
one_each Rook Queen = refl
one_each Rook Rook = refl
one_each Rook Bishop = refl
one_each Rook Knight = refl
one_each Rook Pawn = refl
one_each Bishop Queen = refl
one_each Bishop Rook = refl
one_each Bishop Bishop = refl
one_each Bishop Knight = refl
one_each Bishop Pawn = refl
one_each Knight Queen = refl
one_each Knight Rook = refl
one_each Knight Bishop = refl
one_each Knight Knight = refl
one_each Knight Pawn = refl
one_each Pawn Queen = refl
one_each Pawn Rook = refl
one_each Pawn Bishop = refl
one_each Pawn Knight = refl
one_each Pawn Pawn = refl
one_each King King = refl
one_each King Queen = refl
one_each King Rook = refl
one_each King Bishop = refl
one_each King Knight = refl
one_each King Pawn = refl
one_each Queen King = refl
one_each Rook King = refl
one_each Bishop King = refl
one_each Knight King = refl
one_each Pawn King = refl

weight_some : (k : Kind) → 1 ≤ weight k
weight_some King = omega arith
weight_some Queen = omega arith
weight_some Rook = omega arith
weight_some Bishop = omega arith
weight_some Knight = omega arith
weight_some Pawn = omega arith

some : (n : ℕ) → 1 ≤ n → nat_lt 0 n ≡ true
some n l = grind (arith, nat_tests)

none : (n : ℕ) → nat_lt n 0 ≡ false
none n = grind (arith, nat_tests)

-- at most two men: the heavier list comes first
heavier : (white black : List Kind) → length white + length black ≤ 2 → nat_lt (weights white) (weights black) ≡ comes_before black white
unfolding weights
heavier [] [] l = refl
heavier [] (x ∷ []) l = some (weight x + 0) (omega (arith, weight_some x))
heavier [] (x ∷ y ∷ []) l = some (weight x + (weight y + 0)) (omega (arith, weight_some x))
heavier (x ∷ []) [] l = none (weight x + 0)
heavier (x ∷ y ∷ []) [] l = none (weight x + (weight y + 0))
heavier (x ∷ []) (y ∷ []) l = one_each x y
heavier [] (x ∷ y ∷ z ∷ zs) l = absurd (omega arith)
heavier (x ∷ []) (y ∷ z ∷ zs) l = absurd (omega arith)
heavier (x ∷ y ∷ []) (z ∷ zs) l = absurd (omega arith)
heavier (x ∷ y ∷ z ∷ zs) bs l = absurd (omega arith)

heavier_side : (n len white black : ℕ) → n + white ≡ 10 * len + black → nat_lt (10 * len) n ≡ nat_lt white black
heavier_side n len white black e = grind (arith, nat_tests)

pub swapped_by_weights : (men : List Man) → length (filter is_other_than_king men) ≤ 2 → nat_lt (10 * length men) (balance_of men) ≡ is_swapped men
swapped_by_weights men l =
    heavier_side (balance_of men) (length men) (weights (kinds_of White men)) (weights (kinds_of Black men)) (weighed men)
    ∙ heavier (kinds_of White men) (kinds_of Black men) (omega (arith, counted men, l))
