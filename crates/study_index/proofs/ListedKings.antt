-- A white king on a listed square: the other men stay in place, so only its place changes the number.
use Rattle.std.proofs.Common.{◌≡◌, ℕ, ◌+◌, ◌*◌, ◌/◌, ◌%◌, ◌<◌, Bool, true, false, not, ◌&&◌, ◌||◌, List, [], ◌∷◌, Option, Some, None, refl, sym, ap, arith}
use Rattle.std.specs.Prelude.{is_some}
use Rattle.std.specs.Option.{option_map}
use Rattle.std.proofs.lemmas.Bool.{false≢true, and_parts}
use Rattle.study_board.specs.declared.men.Side.{Side}
use Rattle.study_board.specs.declared.symmetry.Symmetry.{Symmetry}
use Rattle.study_board.specs.Symmetry.{turned_square}
use Rattle.study_index.specs.declared.decoding.Slot.{Slot}
use Rattle.study_values.specs.Number.{place, king_places, side_number}
use Rattle.study_index.specs.Decoded.{AreSlots, decoded_men}
use Rattle.study_index.specs.Squares.{number_at}
use Rattle.study_index.specs.Stepped.{moved_to}
use Rattle.study_index.specs.LeastImage.{king_symmetry, squares, with_head}
use Rattle.study_index.proofs.Symmetries.{all_below, at_below}

abbrev is_straight : Symmetry → Bool
is_straight t = not t.files && (not t.ranks && not t.diagonal)

stays_test : (pawns : Bool) → all_below 64 (λ s. not (is_some (place pawns s)) || is_straight (king_symmetry pawns s)) ≡ true
unfolding king_symmetry place
stays_test true = refl
stays_test false = refl

negated : (b : Bool) → not b ≡ true → b ≡ false
negated false e = refl
negated true e = absurd (false≢true e)

straight_stays : (t : Symmetry) → t.colours ≡ false → is_straight t ≡ true → (x : ℕ) → turned_square t x ≡ x
unfolding turned_square
straight_stays t c e x =
    let p = and_parts (not t.files) (not t.ranks && not t.diagonal) e in
    let q = and_parts (not t.ranks) (not t.diagonal) p.1 in
    rw (c, negated t.files p.0, negated t.ranks q.0, negated t.diagonal q.1) (omega arith)

-- if the king's square is listed no square is turned
pub listed_stays : (pawns : Bool) (a q : ℕ) → a < 64 → Some q ≡ place pawns a → (x : ℕ) → turned_square (king_symmetry pawns a) x ≡ x
unfolding king_symmetry
listed_stays pawns a q on e =
    straight_stays (king_symmetry pawns a) refl
    (by_place (place pawns a) (is_straight (king_symmetry pawns a)) e (at_below 64 (λ s. not (is_some (place pawns s)) || is_straight (king_symmetry pawns s))
    (stays_test pawns) a on))
  where
    by_place : (o : Option ℕ) (b : Bool) → Some q ≡ o → (not (is_some o) || b) ≡ true → b ≡ true
    by_place None b e h = absurd cc
    by_place (Some r) b e h = h

head_of : (side : ℕ) (f : ℕ → ℕ) (o : Option ℕ) (q : ℕ) → Some q ≡ o → option_map f o ≡ Some (f q)
head_of side f o q e = rw (sym e) refl

-- the number of the men with the king on a listed square
pub listed_number : (pawns : Bool) (slots : List Slot) (side : Side) (n a q : ℕ) → AreSlots slots → a < 64 → Some q ≡ place pawns a
    → number_at pawns side (turned_square (king_symmetry pawns a)) (squares (moved_to 0 a (decoded_men slots n)))
    ≡ Some (with_head slots (side_number side * king_places pawns + q) n)
unfolding number_at with_head
listed_number pawns (k ∷ b ∷ []) side n a q s on e =
    let t = listed_stays pawns a q on e in
    rw (t a, t (n % 64), sym e) (ap (λ (m : ℕ). Some m) (omega arith))
listed_number pawns (k ∷ b ∷ x ∷ []) side n a q s on e =
    let t = listed_stays pawns a q on e in
    rw (t a, t (n / 64 % 64), t (n % 64), sym e) (ap (λ (m : ℕ). Some m) (omega arith))
listed_number pawns (k ∷ b ∷ x ∷ y ∷ []) side n a q s on e =
    let t = listed_stays pawns a q on e in
    rw (t a, t (n / 64 / 64 % 64), t (n / 64 % 64), t (n % 64), sym e) (ap (λ (m : ℕ). Some m) (omega arith))
listed_number pawns [] side n a q s on e = absurd s
listed_number pawns (k ∷ []) side n a q s on e = absurd s
listed_number pawns (k ∷ b ∷ x ∷ y ∷ z ∷ fs) side n a q s on e = absurd s
