-- The numbers of the same men with either side to move: with Black to move the number is higher by a constant.
use Rattle.std.proofs.Common.{◌≡◌, ℕ, ◌+◌, ◌-◌, ◌*◌, ◌/◌, ◌<◌, ◌≤◌, ◌==◌, nat_lt, Bool, true, false, cond, List, [], ◌∷◌, map, length}
use Rattle.std.proofs.Common.{Option, Some, None, inl, inr, refl, sym, ◌∙◌, ap, subst, arith}
use Rattle.std.specs.Prelude.{◌^◌}
use Rattle.std.specs.Option.{option_map}
use Rattle.std.specs.List.Sorted.{IsPermutation}
use Rattle.std.proofs.Math.ListN.{length-map}
use Rattle.std.proofs.lemmas.Bool.{cases_lt, lt-ltb, le-ltb, ltb-true}
use Rattle.std.proofs.lemmas.Bool.Decides.{nat_tests}
use Rattle.std.proofs.lemmas.List.Sorted.{IsPermutation-sym}
use Rattle.study_board.specs.declared.men.Side.{Side}
use Rattle.study_board.specs.declared.men.Side.TheVariants.{White, Black}
use Rattle.study_board.specs.declared.men.Man.{Man}
use Rattle.study_board.specs.declared.symmetry.Symmetry.{Symmetry}
use Rattle.study_board.specs.Men.{other_side}
use Rattle.study_board.specs.Symmetry.{turned_man}
use Rattle.study_board.specs.Position.{Position, IsValid}
use Rattle.study_moves.specs.EnPassant.{has_legal_en_passant}
use Rattle.study_material.specs.declared.class.Class.{Class}
use Rattle.study_values.specs.Number.{place, number, king_places, side_number, append_squares, has_bit, without_bit, numbers_of, has_both_pawns}
use Rattle.study_values.specs.Canonical.{turned_number, are_like, descends, option_min, least_by, canonical_number, canonical_symmetry}
use Rattle.study_values.specs.Index.{index_of}
use Rattle.study_values.specs.Size.{pages_of}
use Rattle.study_material.specs.Class.{lists_of}
use Rattle.study_index.specs.declared.decoding.Slot.{Slot}
use Rattle.study_index.specs.Decoded.{slot_filled, slots_of, slots_have_pawn, AreSlots, head, side_numbered, decoded_men, decoded_side, passed_behind}
use Rattle.study_index.specs.Decoded.{is_cell, IsPlaced, IsDecoded}
use Rattle.study_index.proofs.NumbersReadOff.{filled-men_of, IsInSlots-men_of}
use Rattle.study_index.proofs.ClassSlots.{AreSlots-class, is_cell-below}
use Rattle.study_index.proofs.MovedNumbers.{least_index}
use Rattle.study_index.proofs.DecodedNumbers.{encoded_by}
use Rattle.study_index.proofs.WithBit.{HasParts-from}
use Rattle.study_index.proofs.ComputedIndex.{index_of-only}
use Rattle.study_prober.proofs.Cells.{page_of_cell}
use Rattle.study_zugzwang.specs.Zugzwang.{handed_on}
use Rattle.study_search.specs.ByCells.{side_step}

abbrev raised : ℕ → Option ℕ → Option ℕ
raised d o = option_map (λ m. m + d) o

-- ---- one number

none_with_pawn : (q : ℕ) → 1 * 32 + q ≡ 0 * 32 + q + 32
none_with_pawn q = omega arith

one_with_pawn : (q a : ℕ) → (1 * 32 + q) * 64 + a ≡ (0 * 32 + q) * 64 + a + 2048
one_with_pawn q a = omega arith

two_with_pawn : (q a b : ℕ) → ((1 * 32 + q) * 64 + a) * 64 + b ≡ ((0 * 32 + q) * 64 + a) * 64 + b + 131072
two_with_pawn q a b = omega arith

three_with_pawn : (q a b c : ℕ) → (((1 * 32 + q) * 64 + a) * 64 + b) * 64 + c ≡ (((0 * 32 + q) * 64 + a) * 64 + b) * 64 + c + 8388608
three_with_pawn q a b c = omega arith

none_without : (q : ℕ) → 1 * 10 + q ≡ 0 * 10 + q + 10
none_without q = omega arith

one_without : (q a : ℕ) → (1 * 10 + q) * 64 + a ≡ (0 * 10 + q) * 64 + a + 640
one_without q a = omega arith

two_without : (q a b : ℕ) → ((1 * 10 + q) * 64 + a) * 64 + b ≡ ((0 * 10 + q) * 64 + a) * 64 + b + 40960
two_without q a b = omega arith

three_without : (q a b c : ℕ) → (((1 * 10 + q) * 64 + a) * 64 + b) * 64 + c ≡ (((0 * 10 + q) * 64 + a) * 64 + b) * 64 + c + 2621440
three_without q a b c = omega arith

appended : (pawns : Bool) (q : ℕ) (rest : List Man) → length rest ≤ 3
    → append_squares (side_number Black * king_places pawns + q) rest
    ≡ append_squares (side_number White * king_places pawns + q) rest + king_places pawns * 64 ^ length rest
appended true q [] few = none_with_pawn q
appended true q (a ∷ []) few = one_with_pawn q a.at
appended true q (a ∷ b ∷ []) few = two_with_pawn q a.at b.at
appended true q (a ∷ b ∷ c ∷ []) few = three_with_pawn q a.at b.at c.at
appended false q [] few = none_without q
appended false q (a ∷ []) few = one_without q a.at
appended false q (a ∷ b ∷ []) few = two_without q a.at b.at
appended false q (a ∷ b ∷ c ∷ []) few = three_without q a.at b.at c.at
appended pawns q (a ∷ b ∷ c ∷ d ∷ xs) few = absurd (omega (arith, few))

number-raised : (pawns : Bool) (k : Man) (rest : List Man) → length rest ≤ 3
    → number pawns Black (k ∷ rest) ≡ raised (king_places pawns * 64 ^ length rest) (number pawns White (k ∷ rest))
unfolding number
number-raised pawns k rest few = by_place (place pawns k.at)
  where
    by_place : (o : Option ℕ) → option_map (λ q. append_squares (side_number Black * king_places pawns + q) rest) o
        ≡ raised (king_places pawns * 64 ^ length rest) (option_map (λ q. append_squares (side_number White * king_places pawns + q) rest) o)
    by_place None = refl
    by_place (Some q) = ap (λ (m : ℕ). Some m) (appended pawns q rest few)

-- ---- the least number

either-raised : (d : ℕ) (a b : Bool) (x y z w : Option ℕ) → z ≡ raised d x → w ≡ raised d y → cond a (cond b z w) w ≡ raised d (cond a (cond b x y) y)
either-raised d true true x y z w e f = e
either-raised d true false x y z w e f = f
either-raised d false b x y z w e f = f

by-raised : (pawns : Bool) (t : Symmetry) (xs : List Man) → length xs ≤ 4
    → least_by pawns Black t xs ≡ raised (king_places pawns * 64 ^ (length xs - 1)) (least_by pawns White t xs)
unfolding least_by turned_number number
by-raised pawns t [] few = refl
by-raised pawns t (k ∷ []) few = number-raised pawns (turned_man t k) [] (omega arith)
by-raised pawns t (k ∷ a ∷ []) few = number-raised pawns (turned_man t k) (turned_man t a ∷ []) (omega arith)
by-raised pawns t (k ∷ a ∷ b ∷ []) few = number-raised pawns (turned_man t k) (turned_man t a ∷ turned_man t b ∷ []) (omega arith)
by-raised pawns t (k ∷ a ∷ b ∷ c ∷ []) few =
    let plain = number-raised pawns (turned_man t k) (turned_man t a ∷ turned_man t b ∷ turned_man t c ∷ []) (omega arith) in
    let exchanged = number-raised pawns (turned_man t k) (turned_man t a ∷ turned_man t c ∷ turned_man t b ∷ []) (omega arith) in
    either-raised _ (are_like t.colours (k ∷ a ∷ b ∷ c ∷ [])) (descends t (k ∷ a ∷ b ∷ c ∷ [])) _ _ _ _ exchanged plain
by-raised pawns t (k ∷ a ∷ b ∷ c ∷ d ∷ xs) few = absurd (omega (arith, few))

shifted : (n m d : ℕ) → nat_lt (n + d) (m + d) ≡ nat_lt n m
shifted n m d = elim (cases_lt n m) [
  | inl l ↦ lt-ltb (n + d) (m + d) (omega (arith, l)) ∙ sym (lt-ltb n m l)
  | inr g ↦ le-ltb (n + d) (m + d) (omega (arith, g)) ∙ sym (le-ltb n m g)
]

option_min-raised : (d : ℕ) (x y : Option ℕ) → option_min (raised d x) (raised d y) ≡ raised d (option_min x y)
option_min-raised d None y = refl
option_min-raised d (Some m) None = refl
option_min-raised d (Some m) (Some n) = by_less (nat_lt n m) (nat_lt (n + d) (m + d)) (shifted n m d)
  where
    by_less : (a b : Bool) → b ≡ a → cond b (Some (n + d)) (Some (m + d)) ≡ raised d (cond a (Some n) (Some m))
    by_less true b e = rw e refl
    by_less false b e = rw e refl

option_min-both : (x y z w : Option ℕ) → x ≡ z → y ≡ w → option_min x y ≡ option_min z w
option_min-both x y z w e f = rw (e, f) refl

of-raised : (pawns : Bool) (xs : List Man) → length xs ≤ 4
    → canonical_number pawns Black false xs ≡ raised (king_places pawns * 64 ^ (length xs - 1)) (canonical_number pawns White false xs)
unfolding canonical_number
of-raised pawns [] few = refl
of-raised true (k ∷ rest) few = by-raised true (canonical_symmetry true false false k.at) (k ∷ rest) few
of-raised false (k ∷ rest) few =
    option_min-both _ _ _ _ (by-raised false (canonical_symmetry false false false k.at) (k ∷ rest) few)
    (by-raised false (canonical_symmetry false true false k.at) (k ∷ rest) few)
    ∙ option_min-raised (king_places false * 64 ^ (length (k ∷ rest) - 1)) (least_by false White (canonical_symmetry false false false k.at) (k ∷ rest))
    (least_by false White (canonical_symmetry false true false k.at) (k ∷ rest))

-- ---- the side to move of a number

few-slots : (slots : List Slot) → AreSlots slots → length slots ≤ 4
few-slots (k ∷ b ∷ []) s = omega arith
few-slots (k ∷ b ∷ x ∷ []) s = omega arith
few-slots (k ∷ b ∷ x ∷ y ∷ []) s = omega arith
few-slots [] s = absurd s
few-slots (k ∷ []) s = absurd s
few-slots (k ∷ b ∷ x ∷ y ∷ z ∷ fs) s = absurd s

abbrev step_of : Bool → List Slot → ℕ
step_of pawns slots = king_places pawns * 64 ^ (length slots - 1)

step-low : (pawns : Bool) (slots : List Slot) → AreSlots slots → step_of pawns slots ≤ 8388608
step-low true (k ∷ b ∷ []) s = (let l : 2048 ≤ 8388608 = omega arith in l)
step-low true (k ∷ b ∷ x ∷ []) s = (let l : 131072 ≤ 8388608 = omega arith in l)
step-low true (k ∷ b ∷ x ∷ y ∷ []) s = (let l : 8388608 ≤ 8388608 = omega arith in l)
step-low false (k ∷ b ∷ []) s = (let l : 640 ≤ 8388608 = omega arith in l)
step-low false (k ∷ b ∷ x ∷ []) s = (let l : 40960 ≤ 8388608 = omega arith in l)
step-low false (k ∷ b ∷ x ∷ y ∷ []) s = (let l : 2621440 ≤ 8388608 = omega arith in l)
step-low pawns [] s = absurd s
step-low pawns (k ∷ []) s = absurd s
step-low pawns (k ∷ b ∷ x ∷ y ∷ z ∷ fs) s = absurd s

pub step-small : (c : Class) → side_step c ≤ 8388608
unfolding side_step
step-small c = step-low (slots_have_pawn (slots_of c)) (slots_of c) (AreSlots-class c)

is-white : (m : ℕ) → m ≡ 0 → side_numbered m ≡ White
is-white m e = ap (λ (k : ℕ). side_numbered k) e

is-black : (m : ℕ) → 1 ≤ m → side_numbered m ≡ Black
is-black m l = let e : (m == 0) ≡ false = grind (arith, nat_tests) in ap (λ (b : Bool). cond b White Black) e

white-below : (pawns : Bool) (slots : List Slot) (n : ℕ) → AreSlots slots → n < step_of pawns slots → side_numbered (head slots n / king_places pawns) ≡ White
white-below true (k ∷ b ∷ []) n s l = (let m : n < 2048 = l in is-white (n / 64 / 32) (omega (arith, m)))
white-below true (k ∷ b ∷ x ∷ []) n s l = (let m : n < 131072 = l in is-white (n / 64 / 64 / 32) (omega (arith, m)))
white-below true (k ∷ b ∷ x ∷ y ∷ []) n s l = (let m : n < 8388608 = l in is-white (n / 64 / 64 / 64 / 32) (omega (arith, m)))
white-below false (k ∷ b ∷ []) n s l = (let m : n < 640 = l in is-white (n / 64 / 10) (omega (arith, m)))
white-below false (k ∷ b ∷ x ∷ []) n s l = (let m : n < 40960 = l in is-white (n / 64 / 64 / 10) (omega (arith, m)))
white-below false (k ∷ b ∷ x ∷ y ∷ []) n s l = (let m : n < 2621440 = l in is-white (n / 64 / 64 / 64 / 10) (omega (arith, m)))
white-below pawns [] n s l = absurd s
white-below pawns (k ∷ []) n s l = absurd s
white-below pawns (k ∷ b ∷ x ∷ y ∷ z ∷ fs) n s l = absurd s

black-above : (pawns : Bool) (slots : List Slot) (n : ℕ) → AreSlots slots → step_of pawns slots ≤ n → side_numbered (head slots n / king_places pawns) ≡ Black
black-above true (k ∷ b ∷ []) n s l = (let m : 2048 ≤ n = l in is-black (n / 64 / 32) (omega (arith, m)))
black-above true (k ∷ b ∷ x ∷ []) n s l = (let m : 131072 ≤ n = l in is-black (n / 64 / 64 / 32) (omega (arith, m)))
black-above true (k ∷ b ∷ x ∷ y ∷ []) n s l = (let m : 8388608 ≤ n = l in is-black (n / 64 / 64 / 64 / 32) (omega (arith, m)))
black-above false (k ∷ b ∷ []) n s l = (let m : 640 ≤ n = l in is-black (n / 64 / 10) (omega (arith, m)))
black-above false (k ∷ b ∷ x ∷ []) n s l = (let m : 40960 ≤ n = l in is-black (n / 64 / 64 / 10) (omega (arith, m)))
black-above false (k ∷ b ∷ x ∷ y ∷ []) n s l = (let m : 2621440 ≤ n = l in is-black (n / 64 / 64 / 64 / 10) (omega (arith, m)))
black-above pawns [] n s l = absurd s
black-above pawns (k ∷ []) n s l = absurd s
black-above pawns (k ∷ b ∷ x ∷ y ∷ z ∷ fs) n s l = absurd s

pub white-decoded : (c : Class) (n : ℕ) → n < side_step c → decoded_side (slots_of c) n ≡ White
unfolding side_step
white-decoded c n l = white-below (slots_have_pawn (slots_of c)) (slots_of c) n (AreSlots-class c) l

pub black-decoded : (c : Class) (n : ℕ) → side_step c ≤ n → decoded_side (slots_of c) n ≡ Black
unfolding side_step
black-decoded c n l = black-above (slots_have_pawn (slots_of c)) (slots_of c) n (AreSlots-class c) l

-- ---- the numbers of a class are twice as many

cell-below : (pawns : Bool) (slots : List Slot) (n : ℕ) → AreSlots slots → nat_lt (head slots n / king_places pawns) 2 ≡ true → n < 2 * step_of pawns slots
cell-below true (k ∷ b ∷ []) n s e = (let l = ltb-true (n / 64 / 32) 2 e in let m : n < 4096 = omega (arith, l) in m)
cell-below true (k ∷ b ∷ x ∷ []) n s e = (let l = ltb-true (n / 64 / 64 / 32) 2 e in let m : n < 262144 = omega (arith, l) in m)
cell-below true (k ∷ b ∷ x ∷ y ∷ []) n s e = (let l = ltb-true (n / 64 / 64 / 64 / 32) 2 e in let m : n < 16777216 = omega (arith, l) in m)
cell-below false (k ∷ b ∷ []) n s e = (let l = ltb-true (n / 64 / 10) 2 e in let m : n < 1280 = omega (arith, l) in m)
cell-below false (k ∷ b ∷ x ∷ []) n s e = (let l = ltb-true (n / 64 / 64 / 10) 2 e in let m : n < 81920 = omega (arith, l) in m)
cell-below false (k ∷ b ∷ x ∷ y ∷ []) n s e = (let l = ltb-true (n / 64 / 64 / 64 / 10) 2 e in let m : n < 5242880 = omega (arith, l) in m)
cell-below pawns [] n s e = absurd s
cell-below pawns (k ∷ []) n s e = absurd s
cell-below pawns (k ∷ b ∷ x ∷ y ∷ z ∷ fs) n s e = absurd s

pub reported-below : (c : Class) (n : ℕ) → is_cell (slots_of c) n ≡ true → n < 2 * side_step c
unfolding side_step
reported-below c n e = cell-below (slots_have_pawn (slots_of c)) (slots_of c) n (AreSlots-class c) e

cell-there : (pawns : Bool) (slots : List Slot) (n : ℕ) → AreSlots slots → n < 2 * step_of pawns slots → nat_lt (head slots n / king_places pawns) 2 ≡ true
cell-there true (k ∷ b ∷ []) n s l = (let m : n < 4096 = l in lt-ltb (n / 64 / 32) 2 (omega (arith, m)))
cell-there true (k ∷ b ∷ x ∷ []) n s l = (let m : n < 262144 = l in lt-ltb (n / 64 / 64 / 32) 2 (omega (arith, m)))
cell-there true (k ∷ b ∷ x ∷ y ∷ []) n s l = (let m : n < 16777216 = l in lt-ltb (n / 64 / 64 / 64 / 32) 2 (omega (arith, m)))
cell-there false (k ∷ b ∷ []) n s l = (let m : n < 1280 = l in lt-ltb (n / 64 / 10) 2 (omega (arith, m)))
cell-there false (k ∷ b ∷ x ∷ []) n s l = (let m : n < 81920 = l in lt-ltb (n / 64 / 64 / 10) 2 (omega (arith, m)))
cell-there false (k ∷ b ∷ x ∷ y ∷ []) n s l = (let m : n < 5242880 = l in lt-ltb (n / 64 / 64 / 64 / 10) 2 (omega (arith, m)))
cell-there pawns [] n s l = absurd s
cell-there pawns (k ∷ []) n s l = absurd s
cell-there pawns (k ∷ b ∷ x ∷ y ∷ z ∷ fs) n s l = absurd s

-- a page of these numbers is one of the class
pub page-there : (c : Class) (page : ℕ) → 4096 * page < 2 * side_step c → page < pages_of c
unfolding side_step
page-there c page l =
    let n = 4096 * page in
    let test : nat_lt n (numbers_of c) ≡ true = sym (is_cell-below c n) ∙ cell-there (slots_have_pawn (slots_of c)) (slots_of c) n (AreSlots-class c) l in
    let there = page_of_cell c n (more (has_both_pawns (lists_of c)) (numbers_of c) n (ltb-true n (numbers_of c) test)) in
    let whole : 4096 * page / 4096 ≡ page = omega arith in
    subst (λ (m : ℕ). m < pages_of c) whole there
  where
    more : (b : Bool) (m n : ℕ) → n < m → n < cond b (2 * m) m
    more true m n l = omega (arith, l)
    more false m n l = l

-- ---- positions

the_same : (m n : ℕ) → Some m ≡ Some n → m ≡ n
the_same m n e = cc

by-side : (f : Side → Option ℕ) (side : Side) (a b d : ℕ) → f Black ≡ raised d (f White) → f side ≡ Some a → f (other_side side) ≡ Some b
    → (side ≡ White → b ≡ a + d) × (side ≡ Black → b + d ≡ a)
by-side f White a b d h own other = (
  (λ e. the_same b (a + d) (sym other ∙ h ∙ ap (λ o. raised d o) own)),
  (λ e. absurd (let no : ⊥ = cc in no)),
)
by-side f Black a b d h own other = (
  (λ e. absurd (let no : ⊥ = cc in no)),
  (λ e. sym (the_same a (b + d) (sym own ∙ h ∙ ap (λ o. raised d o) other))),
)

no-bit : (n : ℕ) → n < 16777216 → has_bit n ≡ false
no-bit n l = grind (arith, nat_tests)

plain : (n : ℕ) → n < 16777216 → without_bit n ≡ n
plain n l = omega (arith, l)

pub quiet : (c : Class) (n : ℕ) (p : Position) → IsDecoded c n p → n < 16777216 → has_legal_en_passant p ≡ false
quiet c n p d small = sym (HasParts-from p n d.valid d.index).bit ∙ no-bit n small

-- the number of the same men with the other side to move
pub other-number : (c : Class) (n : ℕ) (p : Position) → IsDecoded c n p → n < 16777216 → IsValid (handed_on p)
    → (decoded_side (slots_of c) n ≡ White → index_of (handed_on p) ≡ n + side_step c)
    × (decoded_side (slots_of c) n ≡ Black → index_of (handed_on p) + side_step c ≡ n)
unfolding side_step
other-number c n p d small valid =
    let slots = slots_of c in
    let pawns = slots_have_pawn slots in
    let men = decoded_men slots n in
    let side = decoded_side slots n in
    let s = AreSlots-class c in
    let t : IsPlaced men side (passed_behind (has_bit n) side men) p =
    subst (λ (m : ℕ). IsPlaced (decoded_men slots m) (decoded_side slots m) (passed_behind (has_bit n) (decoded_side slots m) (decoded_men slots m)) p)
    (plain n small) (encoded_by c n p d) in
    let back : IsPermutation p.men men = IsPermutation-sym men p.men t.same_men in
    let filled : map slot_filled men ≡ slots = filled-men_of pawns slots n s in
    let in_slots = IsInSlots-men_of pawns slots n s in
    let own = least_index c p men side (canonical_number pawns side false men) d.valid back filled in_slots t.same_side (quiet c n p d small) refl in
    let other = least_index c (handed_on p) men (other_side side) (canonical_number pawns (other_side side) false men) valid back filled in_slots
    (ap (λ x. other_side x) t.same_side) refl refl in
    let long : length men ≡ length slots = sym (length-map men slot_filled) ∙ ap (λ (xs : List Slot). length xs) filled in
    let few : length men ≤ 4 = subst (λ (m : ℕ). m ≤ 4) (sym long) (few-slots slots s) in
    let higher : canonical_number pawns Black false men ≡ raised (side_step c) (canonical_number pawns White false men) =
    subst (λ (m : ℕ). canonical_number pawns Black false men ≡ raised (king_places pawns * 64 ^ (m - 1)) (canonical_number pawns White false men)) long
    (of-raised pawns men few) in
    let both = by-side (λ x. canonical_number pawns x false men) side (index_of p) (index_of (handed_on p)) (side_step c) higher own other in
    let index : index_of p ≡ n = sym (index_of-only p n d.valid d.index) in (
      (λ e. both.0 e ∙ ap (λ (m : ℕ). m + side_step c) index),
      (λ e. both.1 e ∙ index),
    )
