-- The men of a position fill the slots in one way, or in two if the last two are alike.
use Rattle.std.proofs.Common.{◌≡◌, ℕ, ◌+◌, ◌≤◌, ◌<◌, ◌==◌, ◌⊎◌, zero, suc, zero-add, Bool, true, false, cond}
use Rattle.std.proofs.Common.{◌&&◌, eqb, List, [], ◌∷◌, length, refl, ap, sym, ◌∙◌, subst, arith, inl, inr}
use Rattle.std.specs.List.{Contains, count_by}
use Rattle.std.specs.List.Sorted.{IsPermutation}
use Rattle.std.proofs.lemmas.Bool.Decides.{nat_tests}
use borrow.Author.Tests.{ltb-false}
use Rattle.std.proofs.lemmas.List.Sorted.{IsPermutation-cons, IsPermutation-append_comm}
use Rattle.std.proofs.lemmas.List.Sorted.{Contains-permutation, sum_by-IsPermutation}
use Rattle.std.proofs.lemmas.List.Sorted.{length_permutation, IsPermutation-sym, IsPermutation-trans}
use Rattle.study_board.specs.declared.men.Side.{Side}
use Rattle.study_board.specs.declared.men.Side.TheVariants.{White, Black}
use Rattle.study_board.specs.declared.men.Kind.{Kind}
use Rattle.study_board.specs.declared.men.Kind.TheVariants.{King, Queen, Rook, Bishop, Knight, Pawn}
use Rattle.study_board.specs.declared.men.Man.{Man}
use Rattle.study_board.specs.Men.{is_man, same_side, same_kind}
use Rattle.study_board.specs.Position.{Position, IsValid, AllAbove, IsAscending, has_one_king}
use Rattle.study_board.proofs.Lists.{count_by-cons}
use Rattle.study_board.proofs.Valid.{IsFaultless-from_first}
use Rattle.study_values.specs.Slots.{slot_number, man_slot_number, NoneBefore, IsInSlots, IsFilling}
use Rattle.study_board.specs.Symmetry.{turned_side}
use Rattle.study_values.specs.Canonical.{last_two_exchanged, are_like}

-- an element, by recursion
abbrev pub In : Man → List Man → Type 0
In z [] = ⊥
In z (x ∷ xs) = (z ≡ x) ⊎ In z xs

pub In-from_Contains : (xs : List Man) (z : Man) → Contains xs z → In z xs
In-from_Contains [] z c = absurd (omega arith)
In-from_Contains (x ∷ xs) z (zero, l, e) = inl (sym e)
In-from_Contains (x ∷ xs) z (suc k, l, e) = inr (In-from_Contains xs z (k, omega arith, e))

pub Contains-from_In : (xs : List Man) (z : Man) → In z xs → Contains xs z
Contains-from_In [] z i = absurd i
Contains-from_In (x ∷ xs) z (inl e) = (0, omega arith, sym e)
Contains-from_In (x ∷ xs) z (inr i) = let r = Contains-from_In xs z i in (suc r.0, (let l = r.1 in omega arith), r.2)

-- no two men share a square
abbrev pub AreApart : List Man → Type 0
AreApart xs = (s : ℕ) → count_by (λ y. y.at == s) xs ≤ 1

pub AreApart-tail : (x : Man) (xs : List Man) → AreApart (x ∷ xs) → AreApart xs
AreApart-tail x xs h s = omega (arith, h s, count_by-cons (λ y. y.at == s) x xs)

count-In : (z : Man) (xs : List Man) → In z xs → 1 ≤ count_by (λ y. y.at == z.at) xs
count-In z [] i = absurd i
count-In z (x ∷ xs) (inl e) =
    let same : eqb x.at z.at ≡ true = rw e (let t : eqb x.at x.at ≡ true = grind (arith, nat_tests) in t) in
    let c : count_by (λ y. y.at == z.at) (x ∷ xs) ≡ 1 + count_by (λ y. y.at == z.at) xs = count_by-cons (λ y. y.at == z.at) x xs ∙ rw same in
    omega (arith, c)
count-In z (x ∷ xs) (inr i) = omega (arith, count_by-cons (λ y. y.at == z.at) x xs, count-In z xs i)

pub not_again : (x : Man) (xs : List Man) → AreApart (x ∷ xs) → In x xs → ⊥
not_again x xs h i =
    let same : eqb x.at x.at ≡ true = grind (arith, nat_tests) in
    let c : count_by (λ y. y.at == x.at) (x ∷ xs) ≡ 1 + count_by (λ y. y.at == x.at) xs = count_by-cons (λ y. y.at == x.at) x xs ∙ rw same in
    omega (arith, c, h x.at, count-In x xs i)

count-above : (n s : ℕ) (xs : List Man) → AllAbove n xs → s ≤ n → count_by (λ y. y.at == s) xs ≡ 0
count-above n s [] h le = refl
count-above n s (x ∷ xs) h le =
    let other : eqb x.at s ≡ false = (let a = h.0 in grind (arith, nat_tests)) in
    count_by-cons (λ y. y.at == s) x xs ∙ rw (other, zero-add) (count-above n s xs h.1 le)

pub AreApart-ascending : (xs : List Man) → IsAscending xs → AreApart xs
AreApart-ascending [] h s = omega arith
AreApart-ascending (x ∷ xs) h s =
    let c = count_by-cons (λ y. y.at == s) x xs in
    let go : (b : Bool) → eqb x.at s ≡ b → cond b 1 0 + count_by (λ y. y.at == s) xs ≤ 1 =
    λ b. elim b as (λ v. eqb x.at s ≡ v → cond v 1 0 + count_by (λ y. y.at == s) xs ≤ 1) [
      | true ↦ λ e. (let z : s ≤ x.at = grind (arith, nat_tests) in omega (arith, count-above x.at s xs h.0 z))
      | false ↦ λ _. omega (arith, AreApart-ascending xs h.1 s)
    ]
    in omega (arith, c, go (eqb x.at s) refl)

-- the number of men of a slot
abbrev pub in_slot : Bool → ℕ → List Man → ℕ
in_slot c k xs = count_by (λ m. man_slot_number c m == k) xs

module _ (c : Bool) where
  none_in : (n k : ℕ) (xs : List Man) → NoneBefore c n xs → k < n → in_slot c k xs ≡ 0
  none_in n k [] h l = refl
  none_in n k (x ∷ xs) h l =
      let other : eqb (man_slot_number c x) k ≡ false = (let a = h.0 in grind (arith, nat_tests)) in
      count_by-cons (λ m. man_slot_number c m == k) x xs ∙ rw (other, zero-add) (none_in n k xs h.1 l)

  pub NoneBefore-less : (a b : ℕ) (xs : List Man) → a ≤ b → NoneBefore c b xs → NoneBefore c a xs
  NoneBefore-less a b [] le h = tt
  NoneBefore-less a b (x ∷ xs) le h = (omega (arith, h.0), NoneBefore-less a b xs le h.1)

  none_more : (k : ℕ) (xs : List Man) → NoneBefore c k xs → in_slot c k xs ≡ 0 → NoneBefore c (k + 1) xs
  none_more k [] h e = tt
  none_more k (x ∷ xs) h e =
      let d = sym (count_by-cons (λ m. man_slot_number c m == k) x xs) ∙ e in
      let go : (b : Bool) → eqb (man_slot_number c x) k ≡ b → cond b 1 0 + in_slot c k xs ≡ 0 → (k + 1 ≤ man_slot_number c x) × (in_slot c k xs ≡ 0) =
      λ b. elim b as (λ v. eqb (man_slot_number c x) k ≡ v → cond v 1 0 + in_slot c k xs ≡ 0 → (k + 1 ≤ man_slot_number c x) × (in_slot c k xs ≡ 0))
      [ true ↦ λ _ z. absurd (omega arith) | false ↦ λ t z. ((let a = h.0 in grind (arith, nat_tests)), omega arith) ] in
      let r = go (eqb (man_slot_number c x) k) refl d in
      (r.0, none_more k xs h.1 r.1)

  -- the first man, if just one man is of the first slot
  pub first_is : (k : ℕ) (x : Man) (xs : List Man) → IsInSlots c (x ∷ xs) → NoneBefore c k (x ∷ xs)
      → in_slot c k (x ∷ xs) ≡ 1 → (man_slot_number c x ≡ k) × NoneBefore c (k + 1) xs
  first_is k x xs h n e =
      let d = sym (count_by-cons (λ m. man_slot_number c m == k) x xs) ∙ e in
      let go : (b : Bool) → eqb (man_slot_number c x) k ≡ b → cond b 1 0 + in_slot c k xs ≡ 1 → (man_slot_number c x ≡ k) × NoneBefore c (k + 1) xs =
      λ b. elim b as (λ v. eqb (man_slot_number c x) k ≡ v → cond v 1 0 + in_slot c k xs ≡ 1 → (man_slot_number c x ≡ k) × NoneBefore c (k + 1) xs) [
        | true ↦ λ t z. ((grind (arith, nat_tests)), none_more k xs n.1 (omega arith))
        | false ↦ λ t z.
            let above : k < man_slot_number c x = (let a = n.0 in grind (arith, nat_tests)) in
            absurd (omega (arith, none_in (man_slot_number c x) k xs h.0 above))
      ]
      in go (eqb (man_slot_number c x) k) refl d

  In-NoneBefore : (n : ℕ) (z : Man) (xs : List Man) → NoneBefore c n xs → In z xs → n ≤ man_slot_number c z
  In-NoneBefore n z [] h i = absurd i
  In-NoneBefore n z (x ∷ xs) h (inl e) = rw e h.0
  In-NoneBefore n z (x ∷ xs) h (inr i) = In-NoneBefore n z xs h.1 i

-- two lists of the same men, on squares of their own
pub record IsSame (xs ys : List Man) : Type 0 where
  pub to : (z : Man) → In z xs → In z ys
  pub from : (z : Man) → In z ys → In z xs
  pub apart : AreApart xs
  pub apart' : AreApart ys
  pub len : length xs ≡ length ys

either : (z x : Man) (xs : List Man) → In z (x ∷ xs) → (z ≡ x → ⊥) → In z xs
either z x xs (inl e) n = absurd (n e)
either z x xs (inr i) n = i

-- the same first man can be left out
pub IsSame-tail : (x : Man) (xs ys : List Man) → IsSame (x ∷ xs) (x ∷ ys) → IsSame xs ys
IsSame-tail x xs ys h = record {
  to = λ z i. either z x ys (h.to z (inr i)) (λ e. not_again x xs h.apart (subst (λ w. In w xs) e i));
  from = λ z i. either z x xs (h.from z (inr i)) (λ e. not_again x ys h.apart' (subst (λ w. In w ys) e i));
  apart = AreApart-tail x xs h.apart;
  apart' = AreApart-tail x ys h.apart';
  len = (let l = h.len in omega arith);
}

-- both begin with the only man of the first slot
pub same_first : (c : Bool) (k : ℕ) (x y : Man) (xs ys : List Man) → man_slot_number c x ≡ k
    → man_slot_number c y ≡ k → NoneBefore c (k + 1) ys → IsSame (x ∷ xs) (y ∷ ys) → x ≡ y
same_first c k x y xs ys e d n h =
    elim (h.to x (inl refl)) [ inl s ↦ s | inr i ↦ absurd (let b = In-NoneBefore c (k + 1) x ys n i in omega arith) ]

IsSame-from_filling : (xs ys : List Man) → IsPermutation xs ys → AreApart xs → AreApart ys
IsSame-from_filling xs ys p h s = omega (arith, h s, sum_by-IsPermutation (λ y. cond (y.at == s) 1 0) xs ys p)

pub IsSame-from_permutations : (men xs ys : List Man) → AreApart men → IsPermutation men xs → IsPermutation men ys → IsSame xs ys
IsSame-from_permutations men xs ys h p q =
    let to : IsPermutation xs ys = IsPermutation-trans xs men ys (IsPermutation-sym men xs p) q in
    let from : IsPermutation ys xs = IsPermutation-sym xs ys to in
    record {
      to = λ z i. In-from_Contains ys z (Contains-permutation xs ys z to (Contains-from_In xs z i));
      from = λ z i. In-from_Contains xs z (Contains-permutation ys xs z from (Contains-from_In ys z i));
      apart = IsSame-from_filling men xs p h;
      apart' = IsSame-from_filling men ys q h;
      len = sym (length_permutation xs ys to);
    }

-- two lists of at most two men
pub same_rest : (xs ys : List Man) → length xs ≤ 2 → IsSame xs ys → (ys ≡ xs) ⊎ ((a : Man) × (b : Man) × (xs ≡ a ∷ b ∷ []) × (ys ≡ b ∷ a ∷ []))
same_rest [] [] l h = inl refl
same_rest [] (y ∷ ys) l h = absurd (let e = h.len in omega arith)
same_rest (x ∷ xs) [] l h = absurd (let e = h.len in omega arith)
same_rest (x ∷ []) (y ∷ []) l h = elim (h.from y (inl refl)) [ inl e ↦ inl (rw e refl) | inr i ↦ absurd i ]
same_rest (x ∷ []) (y ∷ z ∷ ys) l h = absurd (let e = h.len in omega arith)
same_rest (x ∷ w ∷ []) (y ∷ []) l h = absurd (let e = h.len in omega arith)
same_rest (x ∷ w ∷ []) (y ∷ z ∷ []) l h =
    elim (h.to x (inl refl)) [
      | inl e ↦ (elim (h.to w (inr (inl refl))) [
        | inl d ↦ absurd (not_again x (w ∷ []) h.apart (inl (e ∙ sym d)))
        | inr (inl d) ↦ inl (rw (e, d) refl)
        | inr (inr i) ↦ absurd i
      ])
      | inr (inl e) ↦ (elim (h.to w (inr (inl refl))) [
        | inl d ↦ inr (x, w, refl, rw (e, d) refl)
        | inr (inl d) ↦ absurd (not_again x (w ∷ []) h.apart (inl (e ∙ sym d)))
        | inr (inr i) ↦ absurd i
      ])
      | inr (inr i) ↦ absurd i
    ]
same_rest (x ∷ w ∷ []) (y ∷ z ∷ v ∷ ys) l h = absurd (let e = h.len in omega arith)
same_rest (x ∷ w ∷ v ∷ xs) ys l h = absurd (omega arith)

-- one king of each side, and at most four men, on squares of their own
pub record IsMaterial (c : Bool) (men : List Man) : Type 0 where
  pub few : length men ≤ 4
  pub apart : AreApart men
  pub first : in_slot c 0 men ≡ 1
  pub second : in_slot c 1 men ≡ 1

in_slot-permutation : (c : Bool) (k : ℕ) (xs ys : List Man) → IsPermutation xs ys → in_slot c k ys ≡ in_slot c k xs
in_slot-permutation c k xs ys p = sum_by-IsPermutation (λ m. cond (man_slot_number c m == k) 1 0) xs ys p

NoneBefore-zero : (c : Bool) (xs : List Man) → NoneBefore c 0 xs
NoneBefore-zero c [] = tt
NoneBefore-zero c (x ∷ xs) = (omega arith, NoneBefore-zero c xs)

-- a filling begins with the kings
pub record HasKings (c : Bool) (xs : List Man) : Type 0 where
  pub white : Man
  pub black : Man
  pub rest : List Man
  pub is : xs ≡ white ∷ black ∷ rest
  pub white_slot : man_slot_number c white ≡ 0
  pub black_slot : man_slot_number c black ≡ 1
  pub after_white : NoneBefore c 1 (black ∷ rest)
  pub after_black : NoneBefore c 2 rest
  pub in_slots : IsInSlots c rest

kings_of : (c : Bool) (xs : List Man) → IsInSlots c xs → in_slot c 0 xs ≡ 1 → in_slot c 1 xs ≡ 1 → HasKings c xs
kings_of c [] h f s = absurd (omega arith)
kings_of c (a ∷ xs) h f s =
    let one = first_is c 0 a xs h (NoneBefore-zero c (a ∷ xs)) f in
    let other : eqb (man_slot_number c a) 1 ≡ false = (let e = one.0 in grind (arith, nat_tests)) in
    let split : in_slot c 1 (a ∷ xs) ≡ in_slot c 1 xs = count_by-cons (λ m. man_slot_number c m == 1) a xs ∙ rw (other, zero-add) refl in
    let left : in_slot c 1 xs ≡ 1 = sym split ∙ s in
    kings_rest c a xs h one.0 one.1 left
  where
    kings_rest : (c : Bool) (a : Man) (xs : List Man) → IsInSlots c (a ∷ xs) → man_slot_number c a ≡ 0
        → NoneBefore c 1 xs → in_slot c 1 xs ≡ 1 → HasKings c (a ∷ xs)
    kings_rest c a [] h e n s = absurd (omega arith)
    kings_rest c a (b ∷ xs) h e n s =
        let two = first_is c 1 b xs h.1 n s in
        record { white = a; black = b; rest = xs; is = refl; white_slot = e; black_slot = two.0; after_white = n; after_black = two.1; in_slots = h.1.1 }

pub HasKings-from_filling : (c : Bool) (men xs : List Man) → IsMaterial c men → IsFilling c men xs → HasKings c xs
HasKings-from_filling c men xs m f =
    kings_of c xs f.in_slots (in_slot-permutation c 0 men xs f.each_once ∙ m.first) (in_slot-permutation c 1 men xs f.each_once ∙ m.second)

pub fillings_of : (c : Bool) (men xs ys : List Man) → IsMaterial c men → IsFilling c men xs → IsFilling c men ys
    → (ys ≡ xs) ⊎ ((are_like c xs ≡ true) × (ys ≡ last_two_exchanged xs))
fillings_of c men xs ys m f g =
    let k = HasKings-from_filling c men xs m f in
    let l = HasKings-from_filling c men ys m g in
    let same : IsSame (k.white ∷ k.black ∷ k.rest) (l.white ∷ l.black ∷ l.rest) =
    subst (λ zs. IsSame zs (l.white ∷ l.black ∷ l.rest)) k.is
    (subst (λ zs. IsSame xs zs) l.is (IsSame-from_permutations men xs ys m.apart f.each_once g.each_once)) in
    let e : k.white ≡ l.white = same_first c 0 k.white l.white (k.black ∷ k.rest) (l.black ∷ l.rest) k.white_slot l.white_slot l.after_white same in
    let same' : IsSame (k.black ∷ k.rest) (l.black ∷ l.rest) =
    IsSame-tail l.white (k.black ∷ k.rest) (l.black ∷ l.rest)
    (subst (λ z. IsSame (z ∷ k.black ∷ k.rest) (l.white ∷ l.black ∷ l.rest)) e same) in
    let d : k.black ≡ l.black = same_first c 1 k.black l.black k.rest l.rest k.black_slot l.black_slot l.after_black same' in
    let same'' : IsSame k.rest l.rest = IsSame-tail l.black k.rest l.rest (subst (λ z. IsSame (z ∷ k.rest) (l.black ∷ l.rest)) d same') in
    let short : length k.rest ≤ 2 = omega (arith, m.few, length_permutation men xs f.each_once, ap length k.is) in
    elim (same_rest k.rest l.rest short same'') [
      | inl r ↦ inl (l.is ∙ rw (← e, ← d, r) (sym k.is))
      | inr (a, b, r, r') ↦
          let sorted : IsInSlots c (a ∷ b ∷ []) = subst (λ zs. IsInSlots c zs) r k.in_slots in
          let sorted' : IsInSlots c (b ∷ a ∷ []) = subst (λ zs. IsInSlots c zs) r' l.in_slots in
          let alike : eqb (man_slot_number c a) (man_slot_number c b) ≡ true = (let p = sorted.0.0 in let q = sorted'.0.0 in grind (arith, nat_tests)) in
          let whole : xs ≡ k.white ∷ k.black ∷ a ∷ b ∷ [] = k.is ∙ rw r refl in
          let whole' : ys ≡ k.white ∷ k.black ∷ b ∷ a ∷ [] = l.is ∙ rw (← e, ← d, r') refl in
          inr (rw whole alike, rw whole whole')
    ]

count_by-same : (p q : Man → Bool) → ((m : Man) → p m ≡ q m) → (xs : List Man) → count_by p xs ≡ count_by q xs
count_by-same p q h [] = refl
count_by-same p q h (x ∷ xs) =
    count_by-cons p x xs ∙ rw (h x, count_by-same p q h xs) (sym (count_by-cons q x xs))

first_slot : (c : Bool) (side : Side) (kind : Kind) → eqb (slot_number (turned_side c side) kind) 0
    ≡ (same_side side (turned_side c White) && same_kind kind King)
first_slot true White King = refl
first_slot true White Queen = refl
first_slot true White Rook = refl
first_slot true White Bishop = refl
first_slot true White Knight = refl
first_slot true White Pawn = refl
first_slot true Black King = refl
first_slot true Black Queen = refl
first_slot true Black Rook = refl
first_slot true Black Bishop = refl
first_slot true Black Knight = refl
first_slot true Black Pawn = refl
first_slot false White King = refl
first_slot false White Queen = refl
first_slot false White Rook = refl
first_slot false White Bishop = refl
first_slot false White Knight = refl
first_slot false White Pawn = refl
first_slot false Black King = refl
first_slot false Black Queen = refl
first_slot false Black Rook = refl
first_slot false Black Bishop = refl
first_slot false Black Knight = refl
first_slot false Black Pawn = refl

second_slot : (c : Bool) (side : Side) (kind : Kind) → eqb (slot_number (turned_side c side) kind) 1
    ≡ (same_side side (turned_side c Black) && same_kind kind King)
second_slot true White King = refl
second_slot true White Queen = refl
second_slot true White Rook = refl
second_slot true White Bishop = refl
second_slot true White Knight = refl
second_slot true White Pawn = refl
second_slot true Black King = refl
second_slot true Black Queen = refl
second_slot true Black Rook = refl
second_slot true Black Bishop = refl
second_slot true Black Knight = refl
second_slot true Black Pawn = refl
second_slot false White King = refl
second_slot false White Queen = refl
second_slot false White Rook = refl
second_slot false White Bishop = refl
second_slot false White Knight = refl
second_slot false White Pawn = refl
second_slot false Black King = refl
second_slot false Black Queen = refl
second_slot false Black Rook = refl
second_slot false Black Bishop = refl
second_slot false Black Knight = refl
second_slot false Black Pawn = refl

one_king : (men : List Man) (side : Side) → has_one_king men side ≡ true → count_by (is_man side King) men ≡ 1
unfolding has_one_king
one_king men side e = grind (arith, nat_tests)

both : (x y : Bool) → (x && y) ≡ true → (x ≡ true) × (y ≡ true)
both true y e = (refl, e)
both false y e = absurd (let no : false ≡ true = e in cc)

some_king : (men : List Man) → (has_one_king men White && has_one_king men Black) ≡ true → (side : Side) → has_one_king men side ≡ true
some_king men e White = (both _ _ e).0
some_king men e Black = (both _ _ e).1

-- the men of a valid position
pub IsMaterial-from_valid : (c : Bool) (p : Position) → IsValid p → IsMaterial c p.men
unfolding man_slot_number
IsMaterial-from_valid c p v =
    let f = IsFaultless-from_first p.men p.to_move p.passed v.faultless in
    record {
      few = omega (arith, ltb-false _ _ f.few);
      apart = AreApart-ascending p.men v.ordered;
      first = count_by-same (λ m. man_slot_number c m == 0) (is_man (turned_side c White) King)
          (λ m. first_slot c m.side m.kind) p.men ∙ one_king p.men (turned_side c White)
          (some_king p.men f.kings (turned_side c White));
      second = count_by-same (λ m. man_slot_number c m == 1) (is_man (turned_side c Black) King)
          (λ m. second_slot c m.side m.kind) p.men ∙ one_king p.men (turned_side c Black)
          (some_king p.men f.kings (turned_side c Black));
    }

-- like men exchanged fill the same slots
swap_tail : (x y : Man) → IsPermutation (x ∷ y ∷ []) (y ∷ x ∷ [])
swap_tail x y = IsPermutation-append_comm (x ∷ []) (y ∷ [])

pub exchanged-fills : (c : Bool) (men xs : List Man) → are_like c xs ≡ true → IsFilling c men xs → IsFilling c men (last_two_exchanged xs)
exchanged-fills c men (a ∷ b ∷ x ∷ y ∷ []) e f =
    let d : man_slot_number c x ≡ man_slot_number c y = grind (arith, nat_tests) in
    let s = f.in_slots in
    record {
      each_once = IsPermutation-trans men (a ∷ b ∷ x ∷ y ∷ []) (a ∷ b ∷ y ∷ x ∷ []) f.each_once
          (IsPermutation-cons a _ _ (IsPermutation-cons b _ _ (swap_tail x y)));
      in_slots = ((s.0.0, (s.0.1.1.0, (s.0.1.0, tt))), ((s.1.0.1.0, (s.1.0.0, tt)), ((omega arith, tt), (tt, tt))));
    }
exchanged-fills c men [] e f = f
exchanged-fills c men (a ∷ []) e f = f
exchanged-fills c men (a ∷ b ∷ []) e f = f
exchanged-fills c men (a ∷ b ∷ x ∷ []) e f = f
exchanged-fills c men (a ∷ b ∷ x ∷ y ∷ z ∷ rest) e f = f
