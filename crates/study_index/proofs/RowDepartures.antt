-- The numbers of a row after one of its men, not the last, has moved: each changes by as much as the first.
use Rattle.std.proofs.Common.{◌≡◌, ℕ, zero, suc, ◌+◌, ◌-◌, ◌*◌, ◌/◌, ◌%◌, ◌^◌, ◌<◌, ◌≤◌, Bool, true, false, cond, not, ◌&&◌, ◌||◌, nat_lt}
use Rattle.std.proofs.Common.{List, [], ◌∷◌, length, slice_index_or, refl, sym, ◌∙◌, subst, ap, arith}
use Rattle.std.proofs.lemmas.Bool.{lt-ltb, le-ltb}
use Rattle.std.proofs.lemmas.Bool.Decides.{nat_tests}
use borrow.Author.Tests.{ltb-true}
use Rattle.study_board.specs.declared.men.Man.{Man}
use Rattle.study_board.specs.Men.{other_side}
use Rattle.study_material.specs.declared.class.Class.{Class}
use Rattle.study_material.specs.declared.class.Class.TheVariants.{KK, KQK, KRK, KBK, KNK, KPK, KQQK, KQRK, KQBK}
use Rattle.study_material.specs.declared.class.Class.TheVariants.{KQNK, KQPK, KRRK, KRBK, KRNK, KRPK, KBBK, KBNK, KBPK}
use Rattle.study_material.specs.declared.class.Class.TheVariants.{KNNK, KNPK, KPPK, KQKQ, KQKR, KQKB, KQKN, KQKP, KRKR}
use Rattle.study_material.specs.declared.class.Class.TheVariants.{KRKB, KRKN, KRKP, KBKB, KBKN, KBKP, KNKN, KNKP, KPKP}
use Rattle.study_index.specs.declared.decoding.Slot.{Slot}
use Rattle.study_index.specs.declared.row_index_rule.RowIndexTerms.{RowIndexTerms}
use Rattle.study_index.specs.declared.row_index_rule.RowIndexRule.TheVariants.{Sum, LeastImage, King}
use Rattle.study_values.specs.Number.{king_places, side_number, without_bit, numbers_of, cells_of}
use Rattle.study_index.specs.Decoded.{slots_of, slots_have_pawn, AreSlots, head, side_numbered, decoded_men, decoded_side}
use Rattle.study_index.specs.Stepped.{are_like_slots, square_weight, square_of_slot, IsStepped}
use Rattle.study_index.specs.Departure.{is_canonical_as_is, StandsOn}
use Rattle.study_index.specs.LeastImage.{turned_by, least_image, is_on_diagonal, with_head}
use Rattle.study_index.specs.RowDeparture.{row_with, IsRowSum, IsLeastOfRowSum, IsRowSumOfKing, IsRowOfLast, IsKingInRow, IsRowFoundBy}
use Rattle.study_index.proofs.ClassSlots.{AreSlots-class, is_cell-below, number_below}
use Rattle.study_index.proofs.AddedNumbers.{IsStepped-moved}
use Rattle.study_index.proofs.KingNumbers.{king_index}
use Rattle.study_index.proofs.ListedKings.{listed_number}
use Rattle.study_index.proofs.SteppedNumbers.{added_sum, added_image, decoded_within, image_kept}

-- ---- the common part of the numbers of a row

pub bit_in_row : (r y : ℕ) → y < 64 → without_bit (64 * r + y) ≡ 64 * (without_bit (64 * r) / 64) + y
bit_in_row r y l = omega (arith, l)

pub first_in_row : (r : ℕ) → without_bit (64 * r) ≡ 64 * (without_bit (64 * r) / 64)
first_in_row r = omega arith

left_of : (m y : ℕ) → y < 64 → (64 * m + y) / 64 ≡ 64 * m / 64
left_of m y l = omega (arith, l)

pub head_in_row : (slots : List Slot) (m y : ℕ) → AreSlots slots → y < 64 → head slots (64 * m + y) ≡ head slots (64 * m)
head_in_row (k ∷ b ∷ []) m y s l = left_of m y l
head_in_row (k ∷ b ∷ x ∷ []) m y s l = ap (λ (n : ℕ). n / 64) (left_of m y l)
head_in_row (k ∷ b ∷ x ∷ z ∷ []) m y s l = ap (λ (n : ℕ). n / 64 / 64) (left_of m y l)
head_in_row [] m y s l = absurd s
head_in_row (k ∷ []) m y s l = absurd s
head_in_row (k ∷ b ∷ x ∷ z ∷ w ∷ fs) m y s l = absurd s

-- the man of a slot before the last
pub man_in_row : (slots : List Slot) (m y i : ℕ) (d : Man) → AreSlots slots → y < 64 → i + 1 < length slots
    → slice_index_or (decoded_men slots (64 * m + y)) i d ≡ slice_index_or (decoded_men slots (64 * m)) i d
man_in_row (k ∷ b ∷ []) m y zero d s l b' = rw (left_of m y l) refl
man_in_row (k ∷ b ∷ []) m y (suc i) d s l b' = absurd (omega (arith, b'))
man_in_row (k ∷ b ∷ x ∷ []) m y zero d s l b' = rw (left_of m y l) refl
man_in_row (k ∷ b ∷ x ∷ []) m y (suc zero) d s l b' = rw (left_of m y l) refl
man_in_row (k ∷ b ∷ x ∷ []) m y (suc (suc i)) d s l b' = absurd (omega (arith, b'))
man_in_row (k ∷ b ∷ x ∷ z ∷ []) m y zero d s l b' = rw (left_of m y l) refl
man_in_row (k ∷ b ∷ x ∷ z ∷ []) m y (suc zero) d s l b' = rw (left_of m y l) refl
man_in_row (k ∷ b ∷ x ∷ z ∷ []) m y (suc (suc zero)) d s l b' = rw (left_of m y l) refl
man_in_row (k ∷ b ∷ x ∷ z ∷ []) m y (suc (suc (suc i))) d s l b' = absurd (omega (arith, b'))
man_in_row [] m y i d s l b' = absurd s
man_in_row (k ∷ []) m y i d s l b' = absurd s
man_in_row (k ∷ b ∷ x ∷ z ∷ w ∷ fs) m y i d s l b' = absurd s

-- ---- the sum

-- the sum with a man that counts 64 times w for each square
joined : (t u s v w y a : ℕ) → y < 64 → t % 64 ≡ 0 → u ≡ t + y → v ≡ s → s * (64 * w) ≤ t
    → u - v * (64 * w) + a * (64 * w) ≡ 64 * ((t - s * (64 * w)) / 64 + a * w) + y
joined t u s v w y a l e f d b =
    let q : t ≡ 64 * (t / 64) = omega (arith, e) in
    let h : s * (64 * w) ≡ 64 * (s * w) = omega arith in
    let k : a * (64 * w) ≡ 64 * (a * w) = omega arith in
    rw (f, d, h, k) (as_multiples (t / 64) t (s * w) (a * w) q (subst (λ (z : ℕ). z ≤ t) h b))
  where
    as_multiples : (p t v z : ℕ) → t ≡ 64 * p → 64 * v ≤ t → t + y - 64 * v + 64 * z ≡ 64 * ((t - 64 * v) / 64 + z) + y
    as_multiples p t v z q b = omega (arith, q, b)

-- the weight of the side to move is a multiple of 64
record IsTurnedInRow (k m y : ℕ) : Type 0 where
  pub grows : cond (nat_lt (64 * m + y) (64 * k)) (64 * m + y + 64 * k) (64 * m + y - 64 * k)
      ≡ cond (nat_lt (64 * m) (64 * k)) (64 * m + 64 * k) (64 * m - 64 * k) + y
  pub whole : cond (nat_lt (64 * m) (64 * k)) (64 * m + 64 * k) (64 * m - 64 * k) % 64 ≡ 0

turned_in_row : (k m y : ℕ) → y < 64 → IsTurnedInRow k m y
turned_in_row k m y l = by_test (nat_lt (64 * m) (64 * k)) refl
  where
    by_test : (b : Bool) → nat_lt (64 * m) (64 * k) ≡ b → IsTurnedInRow k m y
    by_test true t =
        let g = ltb-true (64 * m) (64 * k) t in
        record {
          grows = rw (t, lt-ltb (64 * m + y) (64 * k) (omega (arith, g, l))) (omega arith);
          whole = rw t (omega arith);
        }
    by_test false t =
        let g : 64 * k ≤ 64 * m = grind (arith, nat_tests) in
        record {
          grows = rw (t, le-ltb (64 * m + y) (64 * k) (omega (arith, g))) (omega (arith, g));
          whole = rw t (omega (arith, g));
        }

-- the sum for each number of a row
abbrev IsSumInRow : ℕ → ℕ → ℕ → ℕ → ℕ → ℕ → Type 0
IsSumInRow places count m i y a =
    turned_by places count (64 * m + y) - square_of_slot count i (64 * m + y) * square_weight count i + a * square_weight count i
    ≡ 64 * ((turned_by places count (64 * m) - square_of_slot count i (64 * m) * square_weight count i) / 64 + a * (square_weight count i / 64)) + y

sum_of_three : (pawns : Bool) (m y a : ℕ) → y < 64 → square_of_slot 3 1 (64 * m) * 64 ≤ turned_by (king_places pawns) 3 (64 * m)
    → IsSumInRow (king_places pawns) 3 m 1 y a
sum_of_three true m y a l b = let t = turned_in_row 2048 m y l in joined _ _ _ _ 1 y a l t.whole t.grows (ap (λ (n : ℕ). n % 64) (left_of m y l)) b
sum_of_three false m y a l b = let t = turned_in_row 640 m y l in joined _ _ _ _ 1 y a l t.whole t.grows (ap (λ (n : ℕ). n % 64) (left_of m y l)) b

second_of_four : (pawns : Bool) (m y a : ℕ) → y < 64 → square_of_slot 4 1 (64 * m) * 4096 ≤ turned_by (king_places pawns) 4 (64 * m)
    → IsSumInRow (king_places pawns) 4 m 1 y a
second_of_four true m y a l b = let t = turned_in_row 131072 m y l in joined _ _ _ _ 64 y a l t.whole t.grows (omega (arith, l)) b
second_of_four false m y a l b = let t = turned_in_row 40960 m y l in joined _ _ _ _ 64 y a l t.whole t.grows (omega (arith, l)) b

third_of_four : (pawns : Bool) (m y a : ℕ) → y < 64 → square_of_slot 4 2 (64 * m) * 64 ≤ turned_by (king_places pawns) 4 (64 * m)
    → IsSumInRow (king_places pawns) 4 m 2 y a
third_of_four true m y a l b = let t = turned_in_row 131072 m y l in joined _ _ _ _ 1 y a l t.whole t.grows (omega (arith, l)) b
third_of_four false m y a l b = let t = turned_in_row 40960 m y l in joined _ _ _ _ 1 y a l t.whole t.grows (omega (arith, l)) b

sum_in_row : (pawns : Bool) (slots : List Slot) (m i y a : ℕ) → AreSlots slots → nat_lt (head slots (64 * m) / king_places pawns) 2 ≡ true
    → 1 ≤ i → i + 1 < length slots → y < 64 → IsSumInRow (king_places pawns) (length slots) m i y a
sum_in_row pawns (k ∷ b ∷ []) m zero y a s c one few l = absurd (omega (arith, one))
sum_in_row pawns (k ∷ b ∷ []) m (suc i) y a s c one few l = absurd (omega (arith, few))
sum_in_row pawns (k ∷ b ∷ x ∷ []) m zero y a s c one few l = absurd (omega (arith, one))
sum_in_row pawns (k ∷ b ∷ x ∷ []) m (suc zero) y a s c one few l =
    sum_of_three pawns m y a l (decoded_within pawns (k ∷ b ∷ x ∷ []) (64 * m) 1 s c one (omega arith))
sum_in_row pawns (k ∷ b ∷ x ∷ []) m (suc (suc i)) y a s c one few l = absurd (omega (arith, few))
sum_in_row pawns (k ∷ b ∷ x ∷ z ∷ []) m zero y a s c one few l = absurd (omega (arith, one))
sum_in_row pawns (k ∷ b ∷ x ∷ z ∷ []) m (suc zero) y a s c one few l =
    second_of_four pawns m y a l (decoded_within pawns (k ∷ b ∷ x ∷ z ∷ []) (64 * m) 1 s c one (omega arith))
sum_in_row pawns (k ∷ b ∷ x ∷ z ∷ []) m (suc (suc zero)) y a s c one few l =
    third_of_four pawns m y a l (decoded_within pawns (k ∷ b ∷ x ∷ z ∷ []) (64 * m) 2 s c one (omega arith))
sum_in_row pawns (k ∷ b ∷ x ∷ z ∷ []) m (suc (suc (suc i))) y a s c one few l = absurd (omega (arith, few))
sum_in_row pawns [] m i y a s c one few l = absurd s
sum_in_row pawns (k ∷ []) m i y a s c one few l = absurd s
sum_in_row pawns (k ∷ b ∷ x ∷ z ∷ w ∷ fs) m i y a s c one few l = absurd s

-- ---- the last man

-- each number of a row encodes its place there as the last man's square
last_in_row : (slots : List Slot) (m y : ℕ) (d : Man) → AreSlots slots → y < 64
    → (slice_index_or (decoded_men slots (64 * m + y)) (length slots - 1) d).at ≡ y
last_in_row (k ∷ b ∷ []) m y d s l = omega (arith, l)
last_in_row (k ∷ b ∷ x ∷ []) m y d s l = omega (arith, l)
last_in_row (k ∷ b ∷ x ∷ z ∷ []) m y d s l = omega (arith, l)
last_in_row [] m y d s l = absurd s
last_in_row (k ∷ []) m y d s l = absurd s
last_in_row (k ∷ b ∷ x ∷ z ∷ w ∷ fs) m y d s l = absurd s

-- the sum with the last man on another square
abbrev IsSumOfLast : ℕ → ℕ → ℕ → ℕ → ℕ → Type 0
IsSumOfLast places count m y a =
    turned_by places count (64 * m + y) - square_of_slot count (count - 1) (64 * m + y) * square_weight count (count - 1)
    + a * square_weight count (count - 1) ≡ 64 * (turned_by places count (64 * m) / 64) + a

last_joined : (t u v y a : ℕ) → t % 64 ≡ 0 → u ≡ t + y → v ≡ y → u - v * 1 + a * 1 ≡ 64 * (t / 64) + a
last_joined t u v y a e f d = omega (arith, e, f, d)

sum_of_last : (pawns : Bool) (slots : List Slot) (m y a : ℕ) → AreSlots slots → y < 64 → IsSumOfLast (king_places pawns) (length slots) m y a
sum_of_last true (k ∷ b ∷ []) m y a s l = let t = turned_in_row 32 m y l in last_joined _ _ _ y a t.whole t.grows (omega (arith, l))
sum_of_last false (k ∷ b ∷ []) m y a s l = let t = turned_in_row 10 m y l in last_joined _ _ _ y a t.whole t.grows (omega (arith, l))
sum_of_last true (k ∷ b ∷ x ∷ []) m y a s l = let t = turned_in_row 2048 m y l in last_joined _ _ _ y a t.whole t.grows (omega (arith, l))
sum_of_last false (k ∷ b ∷ x ∷ []) m y a s l = let t = turned_in_row 640 m y l in last_joined _ _ _ y a t.whole t.grows (omega (arith, l))
sum_of_last true (k ∷ b ∷ x ∷ z ∷ []) m y a s l = let t = turned_in_row 131072 m y l in last_joined _ _ _ y a t.whole t.grows (omega (arith, l))
sum_of_last false (k ∷ b ∷ x ∷ z ∷ []) m y a s l = let t = turned_in_row 40960 m y l in last_joined _ _ _ y a t.whole t.grows (omega (arith, l))
sum_of_last pawns [] m y a s l = absurd s
sum_of_last pawns (k ∷ []) m y a s l = absurd s
sum_of_last pawns (k ∷ b ∷ x ∷ z ∷ w ∷ fs) m y a s l = absurd s

last_after_first : (slots : List Slot) → AreSlots slots → (1 ≤ length slots - 1) × (length slots - 1 < length slots)
last_after_first (k ∷ b ∷ []) s = (omega arith, omega arith)
last_after_first (k ∷ b ∷ x ∷ []) s = (omega arith, omega arith)
last_after_first (k ∷ b ∷ x ∷ z ∷ []) s = (omega arith, omega arith)
last_after_first [] s = absurd s
last_after_first (k ∷ []) s = absurd s
last_after_first (k ∷ b ∷ x ∷ z ∷ w ∷ fs) s = absurd s

-- ---- the white king

king_in_row : (slots : List Slot) (m z q y : ℕ) → AreSlots slots → y < 64
    → with_head slots (z + q) (64 * m + y) ≡ 64 * (z * 64 ^ (length slots - 2) + m % 64 ^ (length slots - 2) + q * 64 ^ (length slots - 2)) + y
unfolding with_head
king_in_row (k ∷ b ∷ []) m z q y s l = omega (arith, l)
king_in_row (k ∷ b ∷ x ∷ []) m z q y s l = omega (arith, l)
king_in_row (k ∷ b ∷ x ∷ w ∷ []) m z q y s l = omega (arith, l)
king_in_row [] m z q y s l = absurd s
king_in_row (k ∷ []) m z q y s l = absurd s
king_in_row (k ∷ b ∷ x ∷ w ∷ v ∷ fs) m z q y s l = absurd s

head_put : (slots : List Slot) (h n : ℕ) → AreSlots slots → head slots (with_head slots h n) ≡ h
unfolding with_head
head_put (k ∷ b ∷ []) h n s = omega arith
head_put (k ∷ b ∷ x ∷ []) h n s = omega arith
head_put (k ∷ b ∷ x ∷ w ∷ []) h n s = omega arith
head_put [] h n s = absurd s
head_put (k ∷ []) h n s = absurd s
head_put (k ∷ b ∷ x ∷ w ∷ v ∷ fs) h n s = absurd s

-- with the king off the diagonal, or with pawns, no other image has a lesser number
king_kept : (pawns like : Bool) (slots : List Slot) (side q n : ℕ) → AreSlots slots → like ≡ false → q < king_places pawns
    → (pawns || not (is_on_diagonal q)) ≡ true
    → least_image pawns like slots (with_head slots (side * king_places pawns + q) n) ≡ with_head slots (side * king_places pawns + q) n
king_kept true false slots side q n s e l o = image_kept true false _ slots _ refl refl
king_kept false false slots side q n s e l o =
    image_kept false false (is_on_diagonal q) slots _ o
    (ap (λ (h : ℕ). is_on_diagonal (h % 10)) (head_put slots (side * 10 + q) n s)
    ∙ ap (λ (z : ℕ). is_on_diagonal z) (let g : (side * 10 + q) % 10 ≡ q = omega (arith, l) in g))
king_kept pawns true slots side q n s e l o = absurd cc

-- ---- the rows of a class

-- a row is in the table as a whole or not at all
pub row_below : (c : Class) (r y : ℕ) → 64 * r < cells_of c → y < 64 → 64 * r + y < cells_of c
row_below KK r y l m = omega (arith, l, m)
row_below KQK r y l m = omega (arith, l, m)
row_below KRK r y l m = omega (arith, l, m)
row_below KBK r y l m = omega (arith, l, m)
row_below KNK r y l m = omega (arith, l, m)
row_below KPK r y l m = omega (arith, l, m)
row_below KQQK r y l m = omega (arith, l, m)
row_below KQRK r y l m = omega (arith, l, m)
row_below KQBK r y l m = omega (arith, l, m)
row_below KQNK r y l m = omega (arith, l, m)
row_below KQPK r y l m = omega (arith, l, m)
row_below KRRK r y l m = omega (arith, l, m)
row_below KRBK r y l m = omega (arith, l, m)
row_below KRNK r y l m = omega (arith, l, m)
row_below KRPK r y l m = omega (arith, l, m)
row_below KBBK r y l m = omega (arith, l, m)
row_below KBNK r y l m = omega (arith, l, m)
row_below KBPK r y l m = omega (arith, l, m)
row_below KNNK r y l m = omega (arith, l, m)
row_below KNPK r y l m = omega (arith, l, m)
row_below KPPK r y l m = omega (arith, l, m)
row_below KQKQ r y l m = omega (arith, l, m)
row_below KQKR r y l m = omega (arith, l, m)
row_below KQKB r y l m = omega (arith, l, m)
row_below KQKN r y l m = omega (arith, l, m)
row_below KQKP r y l m = omega (arith, l, m)
row_below KRKR r y l m = omega (arith, l, m)
row_below KRKB r y l m = omega (arith, l, m)
row_below KRKN r y l m = omega (arith, l, m)
row_below KRKP r y l m = omega (arith, l, m)
row_below KBKB r y l m = omega (arith, l, m)
row_below KBKN r y l m = omega (arith, l, m)
row_below KBKP r y l m = omega (arith, l, m)
row_below KNKN r y l m = omega (arith, l, m)
row_below KNKP r y l m = omega (arith, l, m)
row_below KPKP r y l m = omega (arith, l, m)

module _ (c : Class) (r : ℕ) where
  -- the man of a slot before the last stands on the square on which the first number of the row puts it
  pub stands_in_row : (i x y : ℕ) → y < 64 → i + 1 < length (slots_of c)
      → ((d : Man) → (slice_index_or (decoded_men (slots_of c) (without_bit (64 * r))) i d).at ≡ x) → StandsOn c (64 * r + y) i x
  stands_in_row i x y l few h d =
      let slots = slots_of c in
      let m = without_bit (64 * r) / 64 in
      let same : slice_index_or (decoded_men slots (without_bit (64 * r + y))) i d ≡ slice_index_or (decoded_men slots (without_bit (64 * r))) i d =
      ap (λ (n : ℕ). slice_index_or (decoded_men slots n) i d) (bit_in_row r y l) ∙ man_in_row slots m y i d (AreSlots-class c) l few
      ∙ ap (λ (n : ℕ). slice_index_or (decoded_men slots n) i d) (sym (first_in_row r)) in
      ap (λ (z : Man). z.at) same ∙ h d

  pub heads_in_row : (y : ℕ) → y < 64 → head (slots_of c) (without_bit (64 * r + y)) ≡ head (slots_of c) (without_bit (64 * r))
  heads_in_row y l =
      let slots = slots_of c in
      ap (λ (n : ℕ). head slots n) (bit_in_row r y l) ∙ head_in_row slots (without_bit (64 * r) / 64) y (AreSlots-class c) l
      ∙ ap (λ (n : ℕ). head slots n) (sym (first_in_row r))

  -- no number of the row is mirrored, if the first is not
  keeps_in_row : (y : ℕ) → y < 64 → is_canonical_as_is (slots_of c) (without_bit (64 * r)) ≡ true
      → is_canonical_as_is (slots_of c) (without_bit (64 * r + y)) ≡ true
  keeps_in_row y l keeps =
      ap (λ (h : ℕ). not (are_like_slots (slots_of c)) && (slots_have_pawn (slots_of c) || not (is_on_diagonal (h % 10)))) (heads_in_row y l) ∙ keeps

  -- the terms of a man of a slot after the first and before the last
  abbrev pub AreTermsOf : ℕ → RowIndexTerms → Type 0
  AreTermsOf i t =
      (t.rest ≡ (turned_by (king_places (slots_have_pawn (slots_of c))) (length (slots_of c)) (without_bit (64 * r))
      - square_of_slot (length (slots_of c)) i (without_bit (64 * r)) * square_weight (length (slots_of c)) i) / 64)
      × (t.weight ≡ square_weight (length (slots_of c)) i / 64)

  sum_of_row : (i y a : ℕ) (t : RowIndexTerms) → 64 * r < cells_of c → 1 ≤ i → i + 1 < length (slots_of c) → y < 64 → AreTermsOf i t
      → turned_by (king_places (slots_have_pawn (slots_of c))) (length (slots_of c)) (without_bit (64 * r + y))
      - square_of_slot (length (slots_of c)) i (without_bit (64 * r + y)) * square_weight (length (slots_of c)) i
      + a * square_weight (length (slots_of c)) i ≡ 64 * row_with t a + y
  sum_of_row i y a t below one few l is =
      let slots = slots_of c in
      let pawns = slots_have_pawn slots in
      let m = without_bit (64 * r) / 64 in
      let cell : nat_lt (head slots (64 * m) / king_places pawns) 2 ≡ true =
      ap (λ (k : ℕ). nat_lt (head slots k / king_places pawns) 2) (sym (first_in_row r))
      ∙ is_cell-below c (without_bit (64 * r)) ∙ below_test (without_bit (64 * r)) (numbers_of c) (number_below c (64 * r) below) in
      let sums : ℕ → ℕ = λ k. turned_by (king_places pawns) (length slots) k - square_of_slot (length slots) i k * square_weight (length slots) i in
      ap (λ (k : ℕ). sums k + a * square_weight (length slots) i) (bit_in_row r y l)
      ∙ sum_in_row pawns slots m i y a (AreSlots-class c) cell one few l
      ∙ ap (λ (k : ℕ). 64 * (sums k / 64 + a * (square_weight (length slots) i / 64)) + y) (sym (first_in_row r))
      ∙ sym (as_terms _ _ _ _ is.0 is.1)
    where
      below_test : (m k : ℕ) → m < k → nat_lt m k ≡ true
      below_test m k l = grind (arith, nat_tests)

      as_terms : (u v w z : ℕ) → u ≡ w → v ≡ z → 64 * (u + a * v) + y ≡ 64 * (w + a * z) + y
      as_terms u v w z e f = rw (e, f) refl

  -- if no number of the row is mirrored
  pub IsRowSum-terms : (i x : ℕ) (t : RowIndexTerms) → 64 * r < cells_of c → 1 ≤ i → i + 1 < length (slots_of c)
      → is_canonical_as_is (slots_of c) (without_bit (64 * r)) ≡ true
      → ((d : Man) → (slice_index_or (decoded_men (slots_of c) (without_bit (64 * r))) i d).at ≡ x) → AreTermsOf i t → IsRowSum c r x t
  IsRowSum-terms i x t below one few keeps stands is a on y p l moved =
      let n = 64 * r + y in
      let short : i < length (slots_of c) = omega (arith, few) in
      added_sum c n i a p (row_below c r y below l) one short on (keeps_in_row y l keeps)
      (IsStepped-moved c n i x a p short (stands_in_row i x y l few stands) moved)
      ∙ sum_of_row i y a t below one few l is

  -- and if some may be
  pub IsLeastOfRowSum-terms : (i x : ℕ) (t : RowIndexTerms) → 64 * r < cells_of c → 1 ≤ i → i + 1 < length (slots_of c)
      → ((d : Man) → (slice_index_or (decoded_men (slots_of c) (without_bit (64 * r))) i d).at ≡ x) → AreTermsOf i t → IsLeastOfRowSum c r x t
  IsLeastOfRowSum-terms i x t below one few stands is a y p on l moved =
      let slots = slots_of c in
      let n = 64 * r + y in
      let short : i < length slots = omega (arith, few) in
      added_image c n i a p (row_below c r y below l) one short
      (IsStepped-moved c n i x a p short (stands_in_row i x y l few stands) moved)
      ∙ ap (λ (k : ℕ). least_image (slots_have_pawn slots) (are_like_slots slots) slots k) (sum_of_row i y a t below one few l is)

  -- the last man
  pub IsRowOfLast-turned : is_canonical_as_is (slots_of c) (without_bit (64 * r)) ≡ true → 64 * r < cells_of c
      → IsRowOfLast c r (turned_by (king_places (slots_have_pawn (slots_of c))) (length (slots_of c)) (without_bit (64 * r)) / 64)
  IsRowOfLast-turned keeps below y a p l on moved =
      let slots = slots_of c in
      let places = king_places (slots_have_pawn slots) in
      let count = length slots in
      let n = 64 * r + y in
      let m = without_bit (64 * r) / 64 in
      let i = length slots - 1 in
      let s = AreSlots-class c in
      let few = last_after_first slots s in
      let stands : StandsOn c n i y =
      λ d. ap (λ (k : ℕ). (slice_index_or (decoded_men slots k) i d).at) (bit_in_row r y l) ∙ last_in_row slots m y d s l in
      added_sum c n i a p (row_below c r y below l) few.0 few.1 on (keeps_in_row y l keeps) (IsStepped-moved c n i y a p few.1 stands moved)
      ∙ ap (λ (k : ℕ). turned_by places count k - square_of_slot count i k * square_weight count i + a * square_weight count i) (bit_in_row r y l)
      ∙ sum_of_last (slots_have_pawn slots) slots m y a s l
      ∙ ap (λ (k : ℕ). 64 * (turned_by places count k / 64) + a) (sym (first_in_row r))

  -- the terms of the white king
  pub IsRowSumOfKing-terms : (x : ℕ) (t : RowIndexTerms) → 1 < length (slots_of c) → are_like_slots (slots_of c) ≡ false
      → ((d : Man) → (slice_index_or (decoded_men (slots_of c) (without_bit (64 * r))) 0 d).at ≡ x)
      → t.rest
      ≡ side_number (other_side (decoded_side (slots_of c) (without_bit (64 * r)))) * king_places (slots_have_pawn (slots_of c)) * 64 ^
      (length (slots_of c) - 2)
      + without_bit (64 * r) / 64 % 64 ^ (length (slots_of c) - 2)
      → t.weight ≡ 64 ^ (length (slots_of c) - 2) → IsRowSumOfKing c r x t
  IsRowSumOfKing-terms x t few unlike stands e f a k on at y p l moved =
      let slots = slots_of c in
      let pawns = slots_have_pawn slots in
      let n = 64 * r + y in
      let m = without_bit (64 * r) / 64 in
      let q = at.0 in
      let z : ℕ → ℕ = λ h. side_number (other_side (side_numbered (h / king_places pawns))) * king_places pawns in
      let step : IsStepped c n 0 a p = IsStepped-moved c n 0 x a p (omega (arith, few)) (stands_in_row 0 x y l few stands) moved in
      king_index c n a p (with_head slots (z (head slots (without_bit n)) + q) (without_bit n)) step
      (sym (listed_number pawns slots (other_side (decoded_side slots (without_bit n))) (without_bit n) a q (AreSlots-class c) on at.1))
      ∙ king_kept pawns (are_like_slots slots) slots (side_number (other_side (decoded_side slots (without_bit n)))) q (without_bit n)
      (AreSlots-class c) unlike at.2 at.3
      ∙ ap (λ (h : ℕ). with_head slots (z h + q) (without_bit n)) (heads_in_row y l)
      ∙ ap (λ (b : ℕ). with_head slots (z (head slots (without_bit (64 * r))) + q) b) (bit_in_row r y l)
      ∙ king_in_row slots m (z (head slots (without_bit (64 * r)))) q y (AreSlots-class c) l
      ∙ sym (ap (λ (b : ℕ). 64 * b + y) at.4 ∙ as_terms _ _ _ _ e f)
    where
      as_terms : (u v w z : ℕ) → u ≡ w → v ≡ z → 64 * (u + at.0 * v) + y ≡ 64 * (w + at.0 * z) + y
      as_terms u v w z e f = rw (e, f) refl

  pub found_row_sum : (x : ℕ) (t : RowIndexTerms) → IsRowSum c r x t → IsRowFoundBy c r x (Sum t)
  found_row_sum x t h = record {
    sum = λ u e. subst (λ (v : RowIndexTerms). IsRowSum c r x v) (let g : t ≡ u = cc in g) h;
    image = λ u e. absurd cc;
    king = λ u e. absurd cc;
    stands = λ u e. absurd cc;
  }

  pub found_row_image : (x : ℕ) (t : RowIndexTerms) → IsLeastOfRowSum c r x t → IsRowFoundBy c r x (LeastImage t)
  found_row_image x t h = record {
    sum = λ u e. absurd cc;
    image = λ u e. subst (λ (v : RowIndexTerms). IsLeastOfRowSum c r x v) (let g : t ≡ u = cc in g) h;
    king = λ u e. absurd cc;
    stands = λ u e. absurd cc;
  }

  pub found_row_king : (x : ℕ) (t : RowIndexTerms) → (are_like_slots (slots_of c) ≡ false → IsRowSumOfKing c r x t) → IsKingInRow c r x
      → IsRowFoundBy c r x (King t)
  found_row_king x t h stands = record {
    sum = λ u e. absurd cc;
    image = λ u e. absurd cc;
    king = λ u e unlike. subst (λ (v : RowIndexTerms). IsRowSumOfKing c r x v) (let g : t ≡ u = cc in g) (h unlike);
    stands = λ u e. stands;
  }
