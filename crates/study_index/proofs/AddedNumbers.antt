-- A man that moves from a square, by the slot of the man there.
use Rattle.std.proofs.Common.{◌≡◌, ℕ, zero, suc, ◌+◌, ◌-◌, ◌<◌, ◌≤◌, ◌==◌, eqb, Bool, true, false, cond, List, [], ◌∷◌, map, length, slice_index_or}
use Rattle.std.proofs.Common.{refl, sym, ◌∙◌, ap, subst, arith}
use Rattle.std.specs.Prelude.{count_by}
use Rattle.std.specs.List.Sorted.{IsPermutation}
use Rattle.std.proofs.lemmas.Bool.Decides.{nat_tests}
use Rattle.std.proofs.lemmas.List.Sorted.{sum_by-IsPermutation}
use Rattle.study_board.specs.declared.men.Man.{Man}
use Rattle.study_board.specs.Position.{Position}
use Rattle.study_board.proofs.Lists.{count_by-cons}
use Rattle.study_material.specs.declared.class.Class.{Class}
use Rattle.study_values.specs.Number.{without_bit}
use Rattle.study_index.specs.Decoded.{slots_of, slots_have_pawn, slot_filled, decoded_men}
use Rattle.study_index.specs.Stepped.{moved_to, IsStepped}
use Rattle.study_board.specs.Men.{moved_if}
use Rattle.study_index.specs.Moved.{IsMoved}
use Rattle.study_index.proofs.Fillings.{AreApart-ascending}
use Rattle.study_index.proofs.ClassSlots.{AreSlots-class}
use Rattle.study_index.proofs.NumbersReadOff.{filled-men_of}

pub moves_there : (x a : ℕ) (m : Man) → eqb m.at x ≡ true → moved_if x a m ≡ record { side = m.side; kind = m.kind; at = a }
moves_there x a m e = rw e refl

pub none_moves : (x a : ℕ) (ms : List Man) → count_by (λ y. y.at == x) ms ≡ 0 → map (moved_if x a) ms ≡ ms
none_moves x a [] e = refl
none_moves x a (y ∷ ys) e =
    let c = count_by-cons (λ z. z.at == x) y ys in
    by_test (y.at == x) refl (none_moves x a ys (omega (arith, e, c)))
  where
    by_test : (b : Bool) → (y.at == x) ≡ b → map (moved_if x a) ys ≡ ys
        → cond b (let r : Man = record { side = y.side; kind = y.kind; at = a } in r) y ∷ map (moved_if x a) ys ≡ y ∷ ys
    by_test true t r =
        absurd (let c : count_by (λ z. z.at == x) (y ∷ ys) ≡ 1 + count_by (λ z. z.at == x) ys = count_by-cons (λ z. z.at == x) y ys ∙ rw t refl in
        omega (arith, e, c))
    by_test false t r = ap (λ (zs : List Man). y ∷ zs) r

-- the square of a man of the list
at_origin : (x : ℕ) (ms : List Man) (i : ℕ) → i < length ms → ((d : Man) → (slice_index_or ms i d).at ≡ x) → 1 ≤ count_by (λ y. y.at == x) ms
at_origin x [] i l e = absurd (omega (arith, l))
at_origin x (y ∷ ys) i l e = by_index (λ j. at_origin x ys j) i l e
  where
    by_index : ((j : ℕ) → j < length ys → ((d : Man) → (slice_index_or ys j d).at ≡ x) → 1 ≤ count_by (λ z. z.at == x) ys)
        → (i : ℕ) → i < length (y ∷ ys) → ((d : Man) → (slice_index_or (y ∷ ys) i d).at ≡ x) → 1 ≤ count_by (λ z. z.at == x) (y ∷ ys)
    by_index f zero b e =
        let at : y.at ≡ x = e y in
        let same : eqb y.at x ≡ true = grind (arith, nat_tests) in
        let c : count_by (λ z. z.at == x) (y ∷ ys) ≡ 1 + count_by (λ z. z.at == x) ys = count_by-cons (λ z. z.at == x) y ys ∙ rw same refl in
        omega (arith, c)
    by_index f (suc i) b e = let c = count_by-cons (λ z. z.at == x) y ys in let r = f i (omega (arith, b)) e in omega (arith, c, r)

stays_there : (x a : ℕ) (m : Man) → eqb m.at x ≡ false → moved_if x a m ≡ m
stays_there x a m e = rw e refl

-- the man at one place put on another square
pub one_moves : (x a : ℕ) (ms : List Man) (i : ℕ) → i < length ms → ((d : Man) → (slice_index_or ms i d).at ≡ x)
    → count_by (λ y. y.at == x) ms ≤ 1 → map (moved_if x a) ms ≡ moved_to i a ms
one_moves x a [] i l e o = absurd (omega (arith, l))
one_moves x a (y ∷ ys) i l e o = by_index (λ j. one_moves x a ys j) i l e
  where
    by_index : ((j : ℕ) → j < length ys → ((d : Man) → (slice_index_or ys j d).at ≡ x) → count_by (λ z. z.at == x) ys ≤ 1
        → map (moved_if x a) ys ≡ moved_to j a ys)
        → (i : ℕ) → i < length (y ∷ ys) → ((d : Man) → (slice_index_or (y ∷ ys) i d).at ≡ x)
        → map (moved_if x a) (y ∷ ys) ≡ moved_to i a (y ∷ ys)
    by_index f zero b e =
        let at : y.at ≡ x = e y in
        let same : eqb y.at x ≡ true = grind (arith, nat_tests) in
        let c : count_by (λ z. z.at == x) (y ∷ ys) ≡ 1 + count_by (λ z. z.at == x) ys = count_by-cons (λ z. z.at == x) y ys ∙ rw same refl in
        ap (λ (z : Man). z ∷ map (moved_if x a) ys) (moves_there x a y same)
        ∙ ap (λ (zs : List Man). (let r : Man = record { side = y.side; kind = y.kind; at = a } in r) ∷ zs) (none_moves x a ys (omega (arith, o, c)))
    by_index f (suc i) b e =
        let c = count_by-cons (λ z. z.at == x) y ys in
        let there = at_origin x ys i (omega (arith, b)) e in
        let other : eqb y.at x ≡ false = by_test (eqb y.at x) refl there in
        let n : eqb (suc i) 0 ≡ false = grind (arith, nat_tests) in
        let s : suc i - 1 ≡ i = omega arith in
        rw (n, s)
        (ap (λ (z : Man). z ∷ map (moved_if x a) ys) (stays_there x a y other)
        ∙ ap (λ (zs : List Man). y ∷ zs) (f i (omega (arith, b)) e (omega (arith, o, c))))
      where
        by_test : (t : Bool) → eqb y.at x ≡ t → 1 ≤ count_by (λ z. z.at == x) ys → t ≡ false
        by_test false h k = refl
        by_test true h k = absurd (
            let c : count_by (λ z. z.at == x) (y ∷ ys) ≡ 1 + count_by (λ z. z.at == x) ys = count_by-cons (λ z. z.at == x) y ys ∙ rw h refl in
            omega (arith, o, c, k))

-- no fewer men stand on a square to which the men of another are moved
grown : (a : ℕ) (y : Man) (ys : List Man) → count_by (λ z. z.at == a) ys ≤ count_by (λ z. z.at == a) (y ∷ ys)
grown a y ys = by_test (y.at == a) refl
  where
    by_test : (b : Bool) → (y.at == a) ≡ b → count_by (λ z. z.at == a) ys ≤ count_by (λ z. z.at == a) (y ∷ ys)
    by_test true t =
        let c : count_by (λ z. z.at == a) (y ∷ ys) ≡ 1 + count_by (λ z. z.at == a) ys = count_by-cons (λ z. z.at == a) y ys ∙ rw t refl in
        omega (arith, c)
    by_test false t =
        let c : count_by (λ z. z.at == a) (y ∷ ys) ≡ 0 + count_by (λ z. z.at == a) ys = count_by-cons (λ z. z.at == a) y ys ∙ rw t refl in
        omega (arith, c)

all_there : (x a : ℕ) (ms : List Man) → count_by (λ y. y.at == x) ms ≤ count_by (λ y. y.at == a) (map (moved_if x a) ms)
all_there x a [] = omega arith
all_there x a (m ∷ ms) = by_test (m.at == x) refl (all_there x a ms)
  where
    by_test : (b : Bool) → (m.at == x) ≡ b → count_by (λ y. y.at == x) ms ≤ count_by (λ y. y.at == a) (map (moved_if x a) ms)
        → count_by (λ y. y.at == x) (m ∷ ms) ≤ count_by (λ y. y.at == a) (moved_if x a m ∷ map (moved_if x a) ms)
    by_test true t r =
        let c : count_by (λ z. z.at == x) (m ∷ ms) ≡ 1 + count_by (λ z. z.at == x) ms = count_by-cons (λ z. z.at == x) m ms ∙ rw t refl in
        let at : (moved_if x a m).at ≡ a = ap (λ (z : Man). z.at) (moves_there x a m t) in
        let same : eqb (moved_if x a m).at a ≡ true = subst (λ (k : ℕ). eqb k a ≡ true) (sym at) (let e : eqb a a ≡ true = grind (arith, nat_tests) in e) in
        let d : count_by (λ z. z.at == a) (moved_if x a m ∷ map (moved_if x a) ms) ≡ 1 + count_by (λ z. z.at == a) (map (moved_if x a) ms) =
        count_by-cons (λ z. z.at == a) (moved_if x a m) (map (moved_if x a) ms)
        ∙ ap (λ (b : Bool). cond b 1 0 + count_by (λ z. z.at == a) (map (moved_if x a) ms)) same in
        omega (arith, c, d, r)
    by_test false t r =
        let c : count_by (λ z. z.at == x) (m ∷ ms) ≡ 0 + count_by (λ z. z.at == x) ms = count_by-cons (λ z. z.at == x) m ms ∙ rw t refl in
        let g = grown a (moved_if x a m) (map (moved_if x a) ms) in
        omega (arith, c, r, g)

as_long : (ms : List Man) → length (map slot_filled ms) ≡ length ms
as_long [] = refl
as_long (m ∷ ms) = let e = as_long ms in omega (arith, e)

-- the man on x is the man of slot i
pub IsStepped-moved : (c : Class) (n i x a : ℕ) (p : Position) → i < length (slots_of c)
    → ((d : Man) → (slice_index_or (decoded_men (slots_of c) (without_bit n)) i d).at ≡ x) → IsMoved c n x a p → IsStepped c n i a p
IsStepped-moved c n i x a p few stands t =
    let decoded_as = decoded_men (slots_of c) (without_bit n) in
    let f = moved_if x a in
    let apart = AreApart-ascending p.men t.valid.ordered a in
    let count = sum_by-IsPermutation (λ (y : Man). cond (y.at == a) 1 0) p.men (map f decoded_as) t.men in
    let there = all_there x a decoded_as in
    let filled = filled-men_of (slots_have_pawn (slots_of c)) (slots_of c) (without_bit n) (AreSlots-class c) in
    let long : length decoded_as ≡ length (slots_of c) = sym (as_long decoded_as) ∙ ap (λ ss. length ss) filled in
    let is : map f decoded_as ≡ moved_to i a decoded_as = one_moves x a decoded_as i (omega (arith, few, long)) stands (omega (arith, apart, count, there)) in
    record {
      valid = t.valid;
      men = subst (λ (zs : List Man). IsPermutation p.men zs) is t.men;
      to_move = t.to_move;
      dead = t.dead;
    }
