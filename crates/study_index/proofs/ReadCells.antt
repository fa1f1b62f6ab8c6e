-- The position read off a cell of a class, with the bit and without.
use Rattle.std.proofs.Common.{◌≡◌, ℕ, ◌+◌, ◌-◌, ◌<◌, ◌≤◌, ◌⊎◌, inl, inr, Bool, true, false, ◌&&◌, ◌==◌, nat_lt}
use Rattle.std.proofs.Common.{List, Option, Some, None, IfSome, IfNone, refl, sym, ◌∙◌, ap, subst, arith}
use Rattle.std.proofs.lemmas.Bool.{false≢true, and_parts, eqb-true}
use Rattle.std.proofs.lemmas.Bool.Decides.{nat_tests}
use Rattle.std.specs.Prelude.{◌↔◌, IsSome, is_some}
use Rattle.study_board.specs.declared.men.Man.{Man}
use Rattle.study_board.specs.declared.men.Side.{Side}
use Rattle.study_board.specs.declared.men.Side.TheVariants.{White, Black}
use Rattle.study_board.specs.declared.men.Kind.TheVariants.{Pawn}
use Rattle.study_board.specs.declared.fault.PositionFault.{PositionFault}
use Rattle.study_board.specs.Geometry.{rank_of}
use Rattle.study_board.specs.Position.{Position, is_empty, has_man, could_be_passed, passed_possible, first_fault}
use Rattle.study_board.proofs.Valid.{IsFaultless-from_first}
use Rattle.study_moves.specs.EnPassant.{has_legal_en_passant, is_capturable_en_passant}
use Rattle.study_material.specs.declared.class.Class.{Class}
use Rattle.study_index.specs.declared.decoding.Slot.{Slot}
use Rattle.study_values.specs.Number.{numbers_of, cells_of, with_bit, has_bit, without_bit}
use Rattle.study_index.specs.Decoded.{slots_of, slots_have_pawn, decoded_men, decoded_side, passed_behind, is_cell, IsDecoded, IsPlaced, IsFaulty, HasLeast}
use Rattle.study_index.proofs.ClassSlots.{AreSlots-class, is_cell-below, number_below, few_cells}
use Rattle.study_index.proofs.DecodedNumbers.{IsEncodedBy, IsLeastDecoded, read_decoded, not_least, not_passing}
use Rattle.study_index.proofs.NumbersReadOff.{no_position}

abbrev pub Read : List Slot → ℕ → Bool → Position → Type 0
Read s n b q = IsPlaced (decoded_men s n) (decoded_side s n) (passed_behind b (decoded_side s n) (decoded_men s n)) q
    × HasLeast (slots_have_pawn s) (decoded_side s n) n (decoded_men s n)

abbrev pub Unread : List Slot → ℕ → Bool → Type 0
Unread s n b = IsFaulty (decoded_men s n) (decoded_side s n) (passed_behind b (decoded_side s n) (decoded_men s n))
    ⊎ (HasLeast (slots_have_pawn s) (decoded_side s n) n (decoded_men s n) → ⊥)

pub a_cell : (c : Class) (n : ℕ) → n < cells_of c → is_cell (slots_of c) (without_bit n) ≡ true
a_cell c n l = is_cell-below c (without_bit n) ∙ test (without_bit n) (numbers_of c) (number_below c n l)
  where
    test : (m k : ℕ) → m < k → nat_lt m k ≡ true
    test m k l = grind (arith, nat_tests)

plain : (n : ℕ) → n < 16777216 → (n ≡ without_bit n) × (false ≡ has_bit n)
plain n l = (omega arith, (let h : has_bit n ≡ false = grind (arith, nat_tests) in sym h))

passing : (c : Class) (n : ℕ) → n < cells_of c → 16777216 ≤ n → (n - 16777216 ≡ without_bit n) × (true ≡ has_bit n)
passing c n l m =
    (let f = few_cells c n l in omega (arith, f), (let h : has_bit n ≡ true = grind (arith, nat_tests) in sym h))

-- the position read off the parts of a number
with_parts : (c : Class) (n m : ℕ) (b : Bool) (s : List Slot) (q : Position) → s ≡ slots_of c → m ≡ without_bit n
    → b ≡ has_bit n → Read s m b q → IsEncodedBy c n q × IsLeastDecoded c n
with_parts c n m b s q e f g h = subst (λ d. Read (slots_of c) (without_bit n) d q) g (subst (λ k. Read (slots_of c) k b q) f (subst (λ t. Read t m b q) e h))

not_parts : (c : Class) (n m : ℕ) (b : Bool) (s : List Slot) → s ≡ slots_of c → m ≡ without_bit n → b ≡ has_bit n
    → Unread s m b → (q : Position) → IsDecoded c n q → ⊥
not_parts c n m b s e f g h =
    elim (subst (λ d. Unread (slots_of c) (without_bit n) d) g (subst (λ k. Unread (slots_of c) k b) f (subst (λ t. Unread t m b) e h)))
    [ inl faulty ↦ no_position (slots_of c) n (AreSlots-class c) faulty | inr other ↦ not_least c n other ]

dead_without : (p : Position) → p.passed ≡ None → has_legal_en_passant p ≡ false
dead_without p e = ap (is_capturable_en_passant p) e

pub some_plain : (c : Class) (n : ℕ) (s : List Slot) (o : Option Position) → n < cells_of c → n < 16777216
    → s ≡ slots_of c → IfSome o (Read s n false) → IfSome o (IsDecoded c n)
some_plain c n s None l k e h = tt
some_plain c n s (Some q) l k e h =
    let p = plain n k in
    let r = with_parts c n n false s q e p.0 p.1 h in
    read_decoded c n q (a_cell c n l) r.0 r.1 (p.0 ∙ ap (λ b. with_bit b (without_bit n)) (sym (dead_without q h.0.same_passed)))

pub none_plain : (c : Class) (n : ℕ) (s : List Slot) (o : Option Position) → n < 16777216 → s ≡ slots_of c
    → IfNone o (Unread s n false) → IfNone o ((q : Position) → IsDecoded c n q → ⊥)
none_plain c n s (Some q) k e h = tt
none_plain c n s None k e h = let p = plain n k in not_parts c n n false s e p.0 p.1 h

pub some_passing : (c : Class) (n : ℕ) (s : List Slot) (q : Position) → n < cells_of c → 16777216 ≤ n
    → s ≡ slots_of c → Read s (n - 16777216) true q → has_legal_en_passant q ≡ true → IsDecoded c n q
some_passing c n s q l k e h live =
    let p = passing c n l k in
    let r = with_parts c n (n - 16777216) true s q e p.0 p.1 h in
    read_decoded c n q (a_cell c n l) r.0 r.1
    ((let w = p.0 in let h : n ≡ 16777216 + without_bit n = omega (arith, w) in h)
    ∙ ap (λ b. with_bit b (without_bit n)) (sym live))

pub none_passing : (c : Class) (n : ℕ) (s : List Slot) → n < cells_of c → 16777216 ≤ n → s ≡ slots_of c
    → Unread s (n - 16777216) true → (q : Position) → IsDecoded c n q → ⊥
none_passing c n s l k e h = let p = passing c n l k in not_parts c n (n - 16777216) true s e p.0 p.1 h

pub dead_passing : (c : Class) (n : ℕ) (s : List Slot) (p : Position) → n < cells_of c → 16777216 ≤ n
    → s ≡ slots_of c → Read s (n - 16777216) true p → has_legal_en_passant p ≡ false → (q : Position) → IsDecoded c n q → ⊥
dead_passing c n s p l k e h dead =
    let w = passing c n l k in
    not_passing c n p (with_parts c n (n - 16777216) true s p e w.0 w.1 h).0 (sym w.1) dead

-- no square off the board is passed
pub far_behind : (men : List Man) (to_move : Side) (x : ℕ) (o : Option ℕ) (s : Option ℕ) → o ≡ Some x → s ≡ None
    → (IsSome s ↔ (x < 64)) → IsFaulty men to_move o
unfolding could_be_passed
far_behind men to_move x o s e none known = by_fault (first_fault men to_move o) refl
  where
    far : x < 64 → ⊥
    far l = false≢true (sym (ap (λ (t : Option ℕ). is_some t) none) ∙ (known.1 l))

    not_passed : (side : Side) → could_be_passed men side x ≡ true → ⊥
    not_passed White p =
        let front = (rank_of x == 5) && is_empty men x && is_empty men (x + 8) in
        let parts = and_parts front (has_man men Black Pawn (x - 8)) p in
        let rank : rank_of x ≡ 5 =
        eqb-true (rank_of x) 5
        (and_parts (rank_of x == 5) (is_empty men x)
        (and_parts (rank_of x == 5 && is_empty men x) (is_empty men (x + 8)) parts.0).0).0 in
        far (omega (arith, rank))
    not_passed Black p =
        let front = (rank_of x == 2) && is_empty men x && is_empty men (x - 8) in
        let parts = and_parts front (has_man men White Pawn (x + 8)) p in
        let rank : rank_of x ≡ 2 =
        eqb-true (rank_of x) 2
        (and_parts (rank_of x == 2) (is_empty men x)
        (and_parts (rank_of x == 2 && is_empty men x) (is_empty men (x - 8)) parts.0).0).0 in
        far (omega (arith, rank))

    by_fault : (f : Option PositionFault) → first_fault men to_move o ≡ f → IsFaulty men to_move o
    by_fault (Some f) h = record { fault = f; is = h }
    by_fault None h = absurd (not_passed to_move (subst (λ q. passed_possible men to_move q ≡ true) e (IsFaultless-from_first men to_move o h).possible))
