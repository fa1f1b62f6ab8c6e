-- The number of the men that another number encodes, one of which has moved: one square is replaced, and the least image taken.
use Rattle.std.proofs.Common.{◌≡◌, ℕ, ◌+◌, ◌-◌, ◌*◌, ◌/◌, ◌%◌, ◌<◌, ◌≤◌, ◌==◌, Bool, true, false, cond, not, ◌&&◌, ◌||◌, nat_lt, List, [], ◌∷◌, map, length}
use Rattle.std.proofs.Common.{Some, refl, sym, ◌∙◌, subst, ap, arith, ◌⊎◌, inl, inr}
use Rattle.std.specs.List.{All}
use Rattle.std.proofs.lemmas.Bool.{false≢true, lt-ltb, le-ltb}
use Rattle.std.proofs.lemmas.Bool.Decides.{nat_tests}
use Rattle.std.proofs.lemmas.List.Sorted.{All-permutation}
use borrow.Author.Tests.{ltb-true}
use Rattle.study_board.specs.declared.men.Side.{Side}
use Rattle.study_board.specs.declared.men.Man.{Man}
use Rattle.study_board.specs.Men.{other_side}
use Rattle.study_board.specs.Position.{Position}
use Rattle.study_material.specs.declared.class.Class.{Class}
use Rattle.study_index.specs.declared.decoding.Slot.{Slot}
use Rattle.study_values.specs.Slots.{man_slot_number, NoneBefore, IsInSlots}
use Rattle.study_values.specs.Number.{number, side_number, king_places, without_bit, numbers_of, cells_of}
use Rattle.study_index.specs.Decoded.{slot_filled, slots_of, slots_have_pawn, AreSlots, men_of, head, side_numbered, decoded_men, decoded_side}
use Rattle.study_values.specs.Canonical.{canonical_number}
use Rattle.study_values.specs.Index.{index_of}
use Rattle.study_index.specs.Stepped.{moved_to, number_after_step, are_like_slots, IsStepped, NumbersStep, square_weight, square_of_slot}
use Rattle.study_index.specs.Departure.{is_canonical_as_is}
use Rattle.study_index.specs.LeastImage.{turned_by, stepped_by, least_image, ascending_if, is_on_diagonal}
use Rattle.study_index.proofs.NumbersReadOff.{place-king, IsRead-number, filled-men_of, IsInSlots-men_of}
use Rattle.study_index.proofs.ClassSlots.{AreSlots-class, is_cell-below, number_below}
use Rattle.study_index.proofs.LeastImages.{least_decoded}
use Rattle.study_index.proofs.MovedNumbers.{least_index}

-- ---- the number of men, one of which has moved

-- the side and the king's place, with the other side to move
abbrev IsTurned : ℕ → ℕ → ℕ → Type 0
IsTurned places h x = ((h < places) × (x ≡ h + places)) ⊎ ((places ≤ h) × (x + places ≡ h))

head_turned : (pawns : Bool) (h : ℕ) → nat_lt (h / king_places pawns) 2 ≡ true
    → IsTurned (king_places pawns) h (side_number (other_side (side_numbered (h / king_places pawns))) * king_places pawns + h % king_places pawns)
head_turned true h e = by_test (nat_lt h 32) refl
  where
    by_test : (b : Bool) → nat_lt h 32 ≡ b → IsTurned 32 h (side_number (other_side (side_numbered (h / 32))) * 32 + h % 32)
    by_test true t = let l = ltb-true h 32 t in let z : h / 32 ≡ 0 = omega (arith, l) in inl (l, rw z (omega (arith, l)))
    by_test false t =
        let l : 32 ≤ h = grind (arith, nat_tests) in
        let m = ltb-true (h / 32) 2 e in
        let z : h / 32 ≡ 1 = omega (arith, l, m) in
        inr (l, rw z (omega (arith, l, z)))
head_turned false h e = by_test (nat_lt h 10) refl
  where
    by_test : (b : Bool) → nat_lt h 10 ≡ b → IsTurned 10 h (side_number (other_side (side_numbered (h / 10))) * 10 + h % 10)
    by_test true t = let l = ltb-true h 10 t in let z : h / 10 ≡ 0 = omega (arith, l) in inl (l, rw z (omega (arith, l)))
    by_test false t =
        let l : 10 ≤ h = grind (arith, nat_tests) in
        let m = ltb-true (h / 10) 2 e in
        let z : h / 10 ≡ 1 = omega (arith, l, m) in
        inr (l, rw z (omega (arith, l, z)))

turned_two : (places n x : ℕ) → IsTurned places (n / 64) x → x * 64 + n % 64 ≡ turned_by places 2 n
turned_two places n x (inl h) = rw (lt-ltb n (places * 64) (omega (arith, h.0))) (omega (arith, h.1))
turned_two places n x (inr h) = rw (le-ltb n (places * 64) (omega (arith, h.0))) (omega (arith, h.0, h.1))

turned_three : (places n x : ℕ) → IsTurned places (n / 64 / 64) x → (x * 64 + n / 64 % 64) * 64 + n % 64 ≡ turned_by places 3 n
turned_three places n x (inl h) = rw (lt-ltb n (places * 4096) (omega (arith, h.0))) (omega (arith, h.1))
turned_three places n x (inr h) = rw (le-ltb n (places * 4096) (omega (arith, h.0))) (omega (arith, h.0, h.1))

turned_four : (places n x : ℕ) → IsTurned places (n / 64 / 64 / 64) x
    → ((x * 64 + n / 64 / 64 % 64) * 64 + n / 64 % 64) * 64 + n % 64 ≡ turned_by places 4 n
turned_four places n x (inl h) = rw (lt-ltb n (places * 262144) (omega (arith, h.0))) (omega (arith, h.1))
turned_four places n x (inr h) = rw (le-ltb n (places * 262144) (omega (arith, h.0))) (omega (arith, h.0, h.1))

one_or : (i j : ℕ) → j ≤ i → (j ≡ i) ⊎ (j + 1 ≤ i)
one_or i j l = by_test (nat_lt j i) refl
  where
    by_test : (b : Bool) → nat_lt j i ≡ b → (j ≡ i) ⊎ (j + 1 ≤ i)
    by_test true t = inr (let g = ltb-true j i t in omega (arith, g))
    by_test false t = inl (let g : i ≤ j = grind (arith, nat_tests) in omega (arith, g, l))

-- the weight of a square is part of the number with the other side to move
within_two : (places n x : ℕ) → IsTurned places (n / 64) x → square_of_slot 2 1 n * square_weight 2 1 ≤ turned_by places 2 n
within_two places n x h = let t = turned_two places n x h in omega (arith, t)

within_three : (places n x : ℕ) → IsTurned places (n / 64 / 64) x
    → (square_of_slot 3 1 n * square_weight 3 1 ≤ turned_by places 3 n) × (square_of_slot 3 2 n * square_weight 3 2 ≤ turned_by places 3 n)
within_three places n x h = let t = turned_three places n x h in (omega (arith, t), omega (arith, t))

within_four : (places n x : ℕ) → IsTurned places (n / 64 / 64 / 64) x
    → (square_of_slot 4 1 n * square_weight 4 1 ≤ turned_by places 4 n) × (square_of_slot 4 2 n * square_weight 4 2 ≤ turned_by places 4 n)
    × (square_of_slot 4 3 n * square_weight 4 3 ≤ turned_by places 4 n)
within_four places n x h = let t = turned_four places n x h in (omega (arith, t), omega (arith, t), omega (arith, t))

pub decoded_within : (pawns : Bool) (slots : List Slot) (n i : ℕ) → AreSlots slots → nat_lt (head slots n / king_places pawns) 2 ≡ true → 1 ≤ i
    → i < length slots
    → square_of_slot (length slots) i n * square_weight (length slots) i ≤ turned_by (king_places pawns) (length slots) n
decoded_within pawns (k ∷ b ∷ []) n i s c l m =
    let e : 1 ≡ i = omega arith in
    subst (λ (j : ℕ). square_of_slot 2 j n * square_weight 2 j ≤ turned_by (king_places pawns) 2 n) e
    (within_two (king_places pawns) n _ (head_turned pawns (n / 64) c))
decoded_within pawns (k ∷ b ∷ x ∷ []) n i s c l m =
    let t = within_three (king_places pawns) n _ (head_turned pawns (n / 64 / 64) c) in
    let P : ℕ → Type 0 = λ j. square_of_slot 3 j n * square_weight 3 j ≤ turned_by (king_places pawns) 3 n in
    elim (one_or i 1 l) [
      | inl e ↦ subst P e t.0
      | inr g ↦ (let e : 2 ≡ i = omega arith in subst P e t.1)
    ]
decoded_within pawns (k ∷ b ∷ x ∷ y ∷ []) n i s c l m =
    let t = within_four (king_places pawns) n _ (head_turned pawns (n / 64 / 64 / 64) c) in
    let P : ℕ → Type 0 = λ j. square_of_slot 4 j n * square_weight 4 j ≤ turned_by (king_places pawns) 4 n in
    elim (one_or i 1 l) [
      | inl e ↦ subst P e t.0
      | inr g ↦ elim (one_or i 2 g) [
        | inl e ↦ subst P e t.1
        | inr h ↦ (let e : 3 ≡ i = omega arith in subst P e t.2)
      ]
    ]
decoded_within pawns [] n i s c l m = absurd s
decoded_within pawns (k ∷ []) n i s c l m = absurd s
decoded_within pawns (k ∷ b ∷ x ∷ y ∷ z ∷ fs) n i s c l m = absurd s

-- one square replaced in a number whose head is x
replaced_two : (places n x a : ℕ) → IsTurned places (n / 64) x → x * 64 + a ≡ stepped_by places 2 n 1 a
unfolding stepped_by
replaced_two places n x a h = let t = turned_two places n x h in omega (arith, t)

replaced_in_three : (places n x a : ℕ) → IsTurned places (n / 64 / 64) x
    → ((x * 64 + a) * 64 + n % 64 ≡ stepped_by places 3 n 1 a) × ((x * 64 + n / 64 % 64) * 64 + a ≡ stepped_by places 3 n 2 a)
unfolding stepped_by
replaced_in_three places n x a h = let t = turned_three places n x h in (omega (arith, t), omega (arith, t))

replaced_in_four : (places n x a : ℕ) → IsTurned places (n / 64 / 64 / 64) x
    → (((x * 64 + a) * 64 + n / 64 % 64) * 64 + n % 64 ≡ stepped_by places 4 n 1 a)
    × (((x * 64 + n / 64 / 64 % 64) * 64 + a) * 64 + n % 64 ≡ stepped_by places 4 n 2 a)
    × (((x * 64 + n / 64 / 64 % 64) * 64 + n / 64 % 64) * 64 + a ≡ stepped_by places 4 n 3 a)
unfolding stepped_by
replaced_in_four places n x a h = let t = turned_four places n x h in (omega (arith, t), omega (arith, t), omega (arith, t))

-- the number of the men that a number encodes, one of which has moved
stepped_number : (pawns : Bool) (slots : List Slot) (n i a : ℕ) → AreSlots slots → nat_lt (head slots n / king_places pawns) 2 ≡ true → 1 ≤ i → i < length slots
    → number pawns (other_side (side_numbered (head slots n / king_places pawns))) (moved_to i a (men_of pawns slots n))
    ≡ Some (stepped_by (king_places pawns) (length slots) n i a)
unfolding number
stepped_number pawns (k ∷ b ∷ []) n i a s c l m =
    let e : 1 ≡ i = omega arith in
    subst (λ (j : ℕ). number pawns (other_side (side_numbered (n / 64 / king_places pawns))) (moved_to j a (men_of pawns (k ∷ b ∷ []) n))
    ≡ Some (stepped_by (king_places pawns) 2 n j a)) e
    (rw (place-king pawns (n / 64)) (ap (λ x. Some x) (replaced_two (king_places pawns) n _ a (head_turned pawns (n / 64) c))))
stepped_number pawns (k ∷ b ∷ x ∷ []) n i a s c l m =
    let t = replaced_in_three (king_places pawns) n _ a (head_turned pawns (n / 64 / 64) c) in
    let P : ℕ → Type 0 =
    λ j. number pawns (other_side (side_numbered (n / 64 / 64 / king_places pawns))) (moved_to j a (men_of pawns (k ∷ b ∷ x ∷ []) n))
    ≡ Some (stepped_by (king_places pawns) 3 n j a) in
    elim (one_or i 1 l) [
      | inl e ↦ subst P e (rw (place-king pawns (n / 64 / 64)) (ap (λ x. Some x) t.0))
      | inr g ↦ (let e : 2 ≡ i = omega arith in subst P e (rw (place-king pawns (n / 64 / 64)) (ap (λ x. Some x) t.1)))
    ]
stepped_number pawns (k ∷ b ∷ x ∷ y ∷ []) n i a s c l m =
    let t = replaced_in_four (king_places pawns) n _ a (head_turned pawns (n / 64 / 64 / 64) c) in
    let P : ℕ → Type 0 =
    λ j. number pawns (other_side (side_numbered (n / 64 / 64 / 64 / king_places pawns))) (moved_to j a (men_of pawns (k ∷ b ∷ x ∷ y ∷ []) n))
    ≡ Some (stepped_by (king_places pawns) 4 n j a) in
    elim (one_or i 1 l) [
      | inl e ↦ subst P e (rw (place-king pawns (n / 64 / 64 / 64)) (ap (λ x. Some x) t.0))
      | inr g ↦ elim (one_or i 2 g) [
        | inl e ↦ subst P e (rw (place-king pawns (n / 64 / 64 / 64)) (ap (λ x. Some x) t.1))
        | inr h ↦ (let e : 3 ≡ i = omega arith in subst P e (rw (place-king pawns (n / 64 / 64 / 64)) (ap (λ x. Some x) t.2)))
      ]
    ]
stepped_number pawns [] n i a s c l m = absurd s
stepped_number pawns (k ∷ []) n i a s c l m = absurd s
stepped_number pawns (k ∷ b ∷ x ∷ y ∷ z ∷ fs) n i a s c l m = absurd s

-- ---- the men that stay when one man moves

pub filled_moved : (i a : ℕ) (ms : List Man) → map slot_filled (moved_to i a ms) ≡ map slot_filled ms
filled_moved i a [] = refl
filled_moved i a (m ∷ ms) = by_test (i == 0) (filled_moved (i - 1) a ms)
  where
    by_test : (b : Bool) → map slot_filled (moved_to (i - 1) a ms) ≡ map slot_filled ms
        → map slot_filled (cond b ((let r : Man = record { side = m.side; kind = m.kind; at = a } in r) ∷ ms) (m ∷ moved_to (i - 1) a ms))
        ≡ slot_filled m ∷ map slot_filled ms
    by_test true e = refl
    by_test false e = ap (λ xs. slot_filled m ∷ xs) e

NoneBefore-moved : (n i a : ℕ) (ms : List Man) → NoneBefore false n ms → NoneBefore false n (moved_to i a ms)
unfolding man_slot_number
NoneBefore-moved n i a [] h = h
NoneBefore-moved n i a (m ∷ ms) h = by_test (i == 0) (NoneBefore-moved n (i - 1) a ms h.1)
  where
    by_test : (b : Bool) → NoneBefore false n (moved_to (i - 1) a ms)
        → NoneBefore false n (cond b ((let r : Man = record { side = m.side; kind = m.kind; at = a } in r) ∷ ms) (m ∷ moved_to (i - 1) a ms))
    by_test true r = h
    by_test false r = (h.0, r)

pub IsInSlots-moved : (i a : ℕ) (ms : List Man) → IsInSlots false ms → IsInSlots false (moved_to i a ms)
unfolding man_slot_number
IsInSlots-moved i a [] h = h
IsInSlots-moved i a (m ∷ ms) h = by_test (i == 0) (NoneBefore-moved (man_slot_number false m) (i - 1) a ms h.0) (IsInSlots-moved (i - 1) a ms h.1)
  where
    by_test : (b : Bool) → NoneBefore false (man_slot_number false m) (moved_to (i - 1) a ms) → IsInSlots false (moved_to (i - 1) a ms)
        → IsInSlots false (cond b ((let r : Man = record { side = m.side; kind = m.kind; at = a } in r) ∷ ms) (m ∷ moved_to (i - 1) a ms))
    by_test true q r = h
    by_test false q r = (q, r)

-- ---- the index

-- the least number of men in the order of their slots that have this number
pub read_least : (c : Class) (men : List Man) (side : Side) (m : ℕ) → map slot_filled men ≡ slots_of c → All (λ x. x.at < 64) men
    → number (slots_have_pawn (slots_of c)) side men ≡ Some m
    → Some (least_image (slots_have_pawn (slots_of c)) (are_like_slots (slots_of c)) (slots_of c) m)
    ≡ canonical_number (slots_have_pawn (slots_of c)) side false men
read_least c men side m filled on is =
    let slots = slots_of c in
    let pawns = slots_have_pawn slots in
    let s = AreSlots-class c in
    let read = IsRead-number pawns side men m (subst (λ (ss : List Slot). AreSlots ss) (sym filled) s) on is in
    let there : nat_lt (head slots m / king_places pawns) 2 ≡ true =
    subst (λ (ss : List Slot). nat_lt (head ss m / king_places pawns) 2 ≡ true) filled read.cell in
    let same : men ≡ men_of pawns slots m = subst (λ (ss : List Slot). men ≡ men_of pawns ss m) filled read.men in
    let turned : side ≡ side_numbered (head slots m / king_places pawns) =
    subst (λ (ss : List Slot). side ≡ side_numbered (head ss m / king_places pawns)) filled read.side_is in
    sym (least_decoded pawns slots m s there) ∙ sym (as_read pawns side _ men _ turned same)
  where
    as_read : (w : Bool) (x y : Side) (xs ys : List Man) → x ≡ y → xs ≡ ys → canonical_number w x false xs ≡ canonical_number w y false ys
    as_read w x y xs ys e f = rw (e, f) refl

-- the index of the position of n, with one man moved and the other side to move
pub stepped_index : (c : Class) (n i a : ℕ) (p : Position) → n < cells_of c → 1 ≤ i → i < length (slots_of c) → IsStepped c n i a p
    → index_of p ≡ least_image (slots_have_pawn (slots_of c)) (are_like_slots (slots_of c)) (slots_of c)
    (stepped_by (king_places (slots_have_pawn (slots_of c))) (length (slots_of c)) (without_bit n) i a)
stepped_index c n i a p below one few t =
    let slots = slots_of c in
    let pawns = slots_have_pawn slots in
    let b = without_bit n in
    let decoded_as = decoded_men slots b in
    let men = moved_to i a decoded_as in
    let s = AreSlots-class c in
    let side : Side = other_side (decoded_side slots b) in
    let m = stepped_by (king_places pawns) (length slots) b i a in
    let filled : map slot_filled men ≡ slots = filled_moved i a decoded_as ∙ filled-men_of pawns slots b s in
    let cell : nat_lt (head slots b / king_places pawns) 2 ≡ true = is_cell-below c b ∙ below_test b (numbers_of c) (number_below c n below) in
    let is : number pawns side men ≡ Some m = stepped_number pawns slots b i a s cell one few in
    let on : All (λ x. x.at < 64) men = All-permutation (λ x. x.at < 64) p.men men t.men t.valid.on_board in
    sym (the_same _ _
    (least_index c p men side _ t.valid t.men filled (IsInSlots-moved i a decoded_as (IsInSlots-men_of pawns slots b s)) t.to_move t.dead
    (read_least c men side m filled on is)))
  where
    below_test : (m k : ℕ) → m < k → nat_lt m k ≡ true
    below_test m k l = grind (arith, nat_tests)

    the_same : (m n : ℕ) → Some m ≡ Some n → m ≡ n
    the_same m n e = cc

-- ---- if the number is the least of its images

same_place : (h x : ℕ) → IsTurned 10 h x → x % 10 ≡ h % 10
same_place h x (inl t) = let e = t.1 in omega (arith, e)
same_place h x (inr t) = let e = t.1 in omega (arith, e)

two_left : (x a : ℕ) → a < 64 → (x * 64 + a) / 64 ≡ x
two_left x a l = omega (arith, l)

three_left : (x a b : ℕ) → a < 64 → b < 64 → ((x * 64 + a) * 64 + b) / 64 / 64 ≡ x
three_left x a b l m = omega (arith, l, m)

four_left : (x a b d : ℕ) → a < 64 → b < 64 → d < 64 → (((x * 64 + a) * 64 + b) * 64 + d) / 64 / 64 / 64 ≡ x
four_left x a b d l m o = omega (arith, l, m, o)

below_64 : (n : ℕ) → n % 64 < 64
below_64 n = omega arith

-- the white king's place stays
place_kept : (slots : List Slot) (n i a : ℕ) → AreSlots slots → nat_lt (head slots n / 10) 2 ≡ true → a < 64 → 1 ≤ i → i < length slots
    → head slots (stepped_by 10 (length slots) n i a) % 10 ≡ head slots n % 10
place_kept (k ∷ b ∷ []) n i a s c on l m =
    let e : 1 ≡ i = omega arith in
    let h = head_turned false (n / 64) c in
    subst (λ (j : ℕ). stepped_by 10 2 n j a / 64 % 10 ≡ n / 64 % 10) e
    (subst (λ (z : ℕ). z / 64 % 10 ≡ n / 64 % 10) (replaced_two 10 n _ a h)
    (ap (λ (z : ℕ). z % 10) (two_left _ a on) ∙ same_place (n / 64) _ h))
place_kept (k ∷ b ∷ x ∷ []) n i a s c on l m =
    let h = head_turned false (n / 64 / 64) c in
    let t = replaced_in_three 10 n _ a h in
    let P : ℕ → Type 0 = λ j. stepped_by 10 3 n j a / 64 / 64 % 10 ≡ n / 64 / 64 % 10 in
    let Q : ℕ → Type 0 = λ z. z / 64 / 64 % 10 ≡ n / 64 / 64 % 10 in
    let p = same_place (n / 64 / 64) _ h in
    elim (one_or i 1 l) [
      | inl e ↦ subst P e (subst Q t.0 (ap (λ (z : ℕ). z % 10) (three_left _ a (n % 64) on (below_64 n)) ∙ p))
      | inr g ↦ (let e : 2 ≡ i = omega arith in
          subst P e (subst Q t.1 (ap (λ (z : ℕ). z % 10) (three_left _ (n / 64 % 64) a (below_64 (n / 64)) on) ∙ p)))
    ]
place_kept (k ∷ b ∷ x ∷ y ∷ []) n i a s c on l m =
    let h = head_turned false (n / 64 / 64 / 64) c in
    let t = replaced_in_four 10 n _ a h in
    let P : ℕ → Type 0 = λ j. stepped_by 10 4 n j a / 64 / 64 / 64 % 10 ≡ n / 64 / 64 / 64 % 10 in
    let Q : ℕ → Type 0 = λ z. z / 64 / 64 / 64 % 10 ≡ n / 64 / 64 / 64 % 10 in
    let p = same_place (n / 64 / 64 / 64) _ h in
    let b' = below_64 (n / 64 / 64) in let x' = below_64 (n / 64) in let y' = below_64 n in
    elim (one_or i 1 l) [
      | inl e ↦ subst P e (subst Q t.0 (ap (λ (z : ℕ). z % 10) (four_left _ a (n / 64 % 64) (n % 64) on x' y') ∙ p))
      | inr g ↦ elim (one_or i 2 g) [
        | inl e ↦ subst P e (subst Q t.1 (ap (λ (z : ℕ). z % 10) (four_left _ (n / 64 / 64 % 64) a (n % 64) b' on y') ∙ p))
        | inr o ↦ (let e : 3 ≡ i = omega arith in
            subst P e (subst Q t.2 (ap (λ (z : ℕ). z % 10) (four_left _ (n / 64 / 64 % 64) (n / 64 % 64) a b' x' on) ∙ p)))
      ]
    ]
place_kept [] n i a s c on l m = absurd s
place_kept (k ∷ []) n i a s c on l m = absurd s
place_kept (k ∷ b ∷ x ∷ y ∷ z ∷ fs) n i a s c on l m = absurd s

pub image_kept : (w l d : Bool) (slots : List Slot) (m : ℕ) → (not l && (w || not d)) ≡ true → is_on_diagonal (head slots m % 10) ≡ d
    → least_image w l slots m ≡ m
unfolding least_image ascending_if
image_kept true false d slots m e f = refl
image_kept false false false slots m e f = rw f refl
image_kept false false true slots m e f = absurd (false≢true e)
image_kept w true d slots m e f = absurd (false≢true e)

-- the number after the man of a slot has moved is the sum
added_index : (c : Class) (n i a : ℕ) (p : Position) → n < cells_of c → 1 ≤ i → i < length (slots_of c) → a < 64
    → is_canonical_as_is (slots_of c) (without_bit n) ≡ true → IsStepped c n i a p
    → index_of p ≡ stepped_by (king_places (slots_have_pawn (slots_of c))) (length (slots_of c)) (without_bit n) i a
added_index c n i a p below one few on keeps t =
    stepped_index c n i a p below one few t ∙ by_pawn (slots_have_pawn (slots_of c)) keeps (is_cell-below c (without_bit n)
    ∙ below_test (without_bit n) (numbers_of c) (number_below c n below))
  where
    below_test : (m k : ℕ) → m < k → nat_lt m k ≡ true
    below_test m k l = grind (arith, nat_tests)

    by_pawn : (w : Bool) → (not (are_like_slots (slots_of c)) && (w || not (is_on_diagonal (head (slots_of c) (without_bit n) % 10)))) ≡ true
        → nat_lt (head (slots_of c) (without_bit n) / king_places w) 2 ≡ true
        → least_image w (are_like_slots (slots_of c)) (slots_of c) (stepped_by (king_places w) (length (slots_of c)) (without_bit n) i a)
        ≡ stepped_by (king_places w) (length (slots_of c)) (without_bit n) i a
    by_pawn true k cell = image_kept true (are_like_slots (slots_of c)) _ (slots_of c) _ k refl
    by_pawn false k cell =
        image_kept false (are_like_slots (slots_of c)) (is_on_diagonal (head (slots_of c) (without_bit n) % 10)) (slots_of c) _ k
        (ap (λ (q : ℕ). is_on_diagonal q) (place_kept (slots_of c) (without_bit n) i a (AreSlots-class c) cell on one few))

-- the weight of the old square is subtracted before that of the new one is added
taken_first : (c : Class) (n i a : ℕ) → n < cells_of c → 1 ≤ i → i < length (slots_of c)
    → stepped_by (king_places (slots_have_pawn (slots_of c))) (length (slots_of c)) (without_bit n) i a
    ≡ turned_by (king_places (slots_have_pawn (slots_of c))) (length (slots_of c)) (without_bit n)
    - square_of_slot (length (slots_of c)) i (without_bit n) * square_weight (length (slots_of c)) i + a * square_weight (length (slots_of c)) i
unfolding stepped_by
taken_first c n i a below one few =
    as_sum _ _ _ (decoded_within (slots_have_pawn (slots_of c)) (slots_of c) (without_bit n) i (AreSlots-class c)
    (is_cell-below c (without_bit n) ∙ below_test (without_bit n) (numbers_of c) (number_below c n below)) one few)
  where
    below_test : (m k : ℕ) → m < k → nat_lt m k ≡ true
    below_test m k l = grind (arith, nat_tests)

    as_sum : (t m s : ℕ) → s ≤ t → t + m - s ≡ t - s + m
    as_sum t m s l = omega arith

pub added_sum : (c : Class) (n i a : ℕ) (p : Position) → n < cells_of c → 1 ≤ i → i < length (slots_of c) → a < 64
    → is_canonical_as_is (slots_of c) (without_bit n) ≡ true → IsStepped c n i a p
    → index_of p ≡ turned_by (king_places (slots_have_pawn (slots_of c))) (length (slots_of c)) (without_bit n)
    - square_of_slot (length (slots_of c)) i (without_bit n) * square_weight (length (slots_of c)) i + a * square_weight (length (slots_of c)) i
added_sum c n i a p below one few on keeps t = added_index c n i a p below one few on keeps t ∙ taken_first c n i a below one few

pub added_image : (c : Class) (n i a : ℕ) (p : Position) → n < cells_of c → 1 ≤ i → i < length (slots_of c) → IsStepped c n i a p
    → index_of p ≡ least_image (slots_have_pawn (slots_of c)) (are_like_slots (slots_of c)) (slots_of c)
    (turned_by (king_places (slots_have_pawn (slots_of c))) (length (slots_of c)) (without_bit n)
    - square_of_slot (length (slots_of c)) i (without_bit n) * square_weight (length (slots_of c)) i + a * square_weight (length (slots_of c)) i)
added_image c n i a p below one few t =
    stepped_index c n i a p below one few t
    ∙ ap (λ (m : ℕ). least_image (slots_have_pawn (slots_of c)) (are_like_slots (slots_of c)) (slots_of c) m) (taken_first c n i a below one few)

pub numbers-step : NumbersStep
unfolding least_image ascending_if number_after_step stepped_by
numbers-step c n i a p pawn unlike below one few t =
    stepped_index c n i a p below one few t
    ∙ as_added _ _ (slots_of c) (without_bit n) pawn unlike
  where
    as_added : (w l : Bool) (slots : List Slot) (b : ℕ) → w ≡ true → l ≡ false
        → least_image w l slots (stepped_by (king_places w) (length slots) b i a) ≡ number_after_step (length slots) b i a
    as_added w l slots b e f = rw (e, f) refl
