-- The least number of the men that a number encodes.
use Rattle.std.proofs.Common.{◌≡◌, ℕ, ◌+◌, ◌*◌, ◌/◌, ◌%◌, ◌<◌, ◌==◌, Bool, true, false, cond, not, ◌&&◌, nat_lt, List, [], ◌∷◌, map}
use Rattle.std.proofs.Common.{Option, Some, None, refl, sym, ◌∙◌, ap, arith}
use Rattle.std.specs.Option.{option_map}
use Rattle.std.proofs.lemmas.Bool.{false≢true, and_parts, not-true, eqb-true}
use borrow.Author.Tests.{ltb-true}
use Rattle.study_board.specs.declared.men.Side.{Side}
use Rattle.study_board.specs.declared.men.Man.{Man}
use Rattle.study_board.specs.declared.symmetry.Symmetry.{Symmetry}
use Rattle.study_board.specs.Geometry.{file_of, rank_of}
use Rattle.study_board.specs.Symmetry.{turned_square}
use Rattle.study_index.specs.declared.decoding.Slot.{Slot}
use Rattle.study_values.specs.Slots.{man_slot_number}
use Rattle.study_values.specs.Number.{place, king_places}
use Rattle.study_values.specs.Canonical.{are_like, option_min, canonical_number}
use Rattle.study_index.specs.Squares.{square_symmetry, number_at, exchanged_at, least_turned, least_at}
use Rattle.study_index.specs.Decoded.{slot_filled, AreSlots, listed_square, men_of, head, side_numbered}
use Rattle.study_index.specs.Stepped.{are_like_slots}
use Rattle.study_index.specs.LeastImage.{with_squares_transposed, exchange_last_two, ascending_if, lesser_of, is_on_diagonal, least_image, squares}
use Rattle.study_index.proofs.Symmetries.{all_below, at_below}
use Rattle.study_index.proofs.NumbersReadOff.{place-king, head_back, filled-men_of}
use Rattle.study_index.proofs.BySquares.{AreOnBoard, least_of_squares}

abbrev straight : Symmetry
straight = record { files = false; ranks = false; diagonal = false; colours = false }

abbrev diagonal : Symmetry
diagonal = record { files = false; ranks = false; diagonal = true; colours = false }

straight_is : (x : ℕ) → turned_square straight x ≡ x
unfolding turned_square
straight_is x = omega arith

-- ---- properties of a listed square

abbrev small_tests : ℕ → Bool
small_tests x = not (nat_lt 3 (file_of x)) && not (nat_lt 3 (rank_of x))

left_test : all_below 32 (λ q. not (nat_lt 3 (file_of (listed_square true q))) && nat_lt (listed_square true q) 64) ≡ true
unfolding listed_square
left_test = refl

corner_test : all_below 10 (λ q. small_tests (listed_square false q) && nat_lt (listed_square false q) 64) ≡ true
unfolding listed_square
corner_test = refl

abbrev place_across : ℕ → Option ℕ → Bool
place_across q None = not (is_on_diagonal q)
place_across q (Some r) = is_on_diagonal q && (r == q)

across_test : all_below 10 (λ q. place_across q (place false (turned_square diagonal (listed_square false q)))) ≡ true
unfolding listed_square place turned_square
across_test = refl

both : (x y : Bool) → (x && y) ≡ true → (x ≡ true) × (y ≡ true)
both x y e = and_parts x y e

-- a listed square needs no turn
record IsHome (pawns : Bool) (s : ℕ) : Type 0 where
  pub symmetry : (across : Bool) → square_symmetry pawns (not pawns && across) false s ≡ record {
    files = false;
    ranks = false;
    diagonal = not pawns
        && across;
    colours = false;
  }
  pub on_board : s < 64

home : (pawns : Bool) (q : ℕ) → q < king_places pawns → IsHome pawns (listed_square pawns q)
unfolding square_symmetry
home true q l =
    let s = listed_square true q in
    let t = both (not (nat_lt 3 (file_of s))) (nat_lt s 64)
    (at_below 32 (λ q. not (nat_lt 3 (file_of (listed_square true q))) && nat_lt (listed_square true q) 64) left_test q l) in
    record { symmetry = λ a. rw (not-true (nat_lt 3 (file_of s)) t.0) refl; on_board = ltb-true s 64 t.1 }
home false q l =
    let s = listed_square false q in
    let t = both (small_tests s) (nat_lt s 64) (at_below 10 (λ q. small_tests (listed_square false q) && nat_lt (listed_square false q) 64) corner_test q l) in
    let u = both (not (nat_lt 3 (file_of s))) (not (nat_lt 3 (rank_of s))) t.0 in
    record {
      symmetry = λ a. rw (not-true (nat_lt 3 (file_of s)) u.0, not-true (nat_lt 3 (rank_of s)) u.1) refl;
      on_board = ltb-true s 64 t.1;
    }

placed_across : (q : ℕ) → q < 10 → place false (turned_square diagonal (listed_square false q)) ≡ cond (is_on_diagonal q) (Some q) None
placed_across q l =
    by_place (place false (turned_square diagonal (listed_square false q))) (is_on_diagonal q) refl
    (at_below 10 (λ q. place_across q (place false (turned_square diagonal (listed_square false q)))) across_test q l)
  where
    by_place : (o : Option ℕ) (b : Bool) → is_on_diagonal q ≡ b → place_across q o ≡ true → o ≡ cond b (Some q) None
    by_place None true e h = absurd (false≢true (sym (ap not e) ∙ h))
    by_place None false e h = refl
    by_place (Some r) true e h =
        let t = both (is_on_diagonal q) (r == q) h in
        ap (λ x. Some x) (eqb-true r q t.1)
    by_place (Some r) false e h = let t = both (is_on_diagonal q) (r == q) h in absurd (false≢true (sym e ∙ t.0))

-- ---- the numbers of the squares that a number encodes

few_places : (pawns : Bool) (h : ℕ) → h % king_places pawns < king_places pawns
few_places true h = omega arith
few_places false h = omega arith

on_board : (pawns : Bool) (slots : List Slot) (n : ℕ) → AreSlots slots → AreOnBoard (men_of pawns slots n)
on_board pawns (k ∷ b ∷ []) n a = ((home pawns _ (few_places pawns (n / 64))).on_board, (omega arith, tt))
on_board pawns (k ∷ b ∷ x ∷ []) n a = ((home pawns _ (few_places pawns (n / 64 / 64))).on_board, (omega arith, (omega arith, tt)))
on_board pawns (k ∷ b ∷ x ∷ y ∷ []) n a = ((home pawns _ (few_places pawns (n / 64 / 64 / 64))).on_board, (omega arith, (omega arith, (omega arith, tt))))
on_board pawns [] n a = absurd a
on_board pawns (k ∷ []) n a = absurd a
on_board pawns (k ∷ b ∷ x ∷ y ∷ z ∷ fs) n a = absurd a

module _ (pawns : Bool) where
  abbrev side_of : List Slot → ℕ → Side
  side_of slots n = side_numbered (head slots n / king_places pawns)

  straight_number : (slots : List Slot) (n : ℕ) → AreSlots slots → nat_lt (head slots n / king_places pawns) 2 ≡ true
      → number_at pawns (side_of slots n) (turned_square straight) (squares (men_of pawns slots n)) ≡ Some n
  unfolding number_at
  straight_number (k ∷ b ∷ []) n a c =
      rw (straight_is (listed_square pawns (n / 64 % king_places pawns)), straight_is (n % 64), place-king pawns (n / 64))
      (ap (λ x. Some x) (let h = head_back pawns (n / 64) c in omega (arith, h)))
  straight_number (k ∷ b ∷ x ∷ []) n a c =
      rw (
        straight_is (listed_square pawns (n / 64 / 64 % king_places pawns)),
        straight_is (n / 64 % 64),
        straight_is (n % 64),
        place-king pawns (n / 64 / 64),
      )
      (ap (λ x. Some x) (let h = head_back pawns (n / 64 / 64) c in omega (arith, h)))
  straight_number (k ∷ b ∷ x ∷ y ∷ []) n a c =
      rw (
        straight_is (listed_square pawns (n / 64 / 64 / 64 % king_places pawns)),
        straight_is (n / 64 / 64 % 64),
        straight_is (n / 64 % 64),
        straight_is (n % 64),
        place-king pawns (n / 64 / 64 / 64),
      )
      (ap (λ x. Some x) (let h = head_back pawns (n / 64 / 64 / 64) c in omega (arith, h)))
  straight_number [] n a c = absurd a
  straight_number (k ∷ []) n a c = absurd a
  straight_number (k ∷ b ∷ x ∷ y ∷ z ∷ fs) n a c = absurd a

  straight_exchanged : (k b x y : Slot) (n : ℕ) → nat_lt (n / 64 / 64 / 64 / king_places pawns) 2 ≡ true
      → number_at pawns (side_numbered (n / 64 / 64 / 64 / king_places pawns)) (turned_square straight)
      (exchanged_at (squares (men_of pawns (k ∷ b ∷ x ∷ y ∷ []) n)))
      ≡ Some (exchange_last_two n)
  unfolding number_at exchange_last_two
  straight_exchanged k b x y n c =
      rw (
        straight_is (listed_square pawns (n / 64 / 64 / 64 % king_places pawns)),
        straight_is (n / 64 / 64 % 64),
        straight_is (n / 64 % 64),
        straight_is (n % 64),
        place-king pawns (n / 64 / 64 / 64),
      )
      (ap (λ x. Some x) (let h = head_back pawns (n / 64 / 64 / 64) c in omega (arith, h)))

  least_straight : (slots : List Slot) (n : ℕ) → AreSlots slots → nat_lt (head slots n / king_places pawns) 2 ≡ true
      → least_turned pawns (side_of slots n) (turned_square straight) (are_like_slots slots) (squares (men_of pawns slots n))
      ≡ Some (ascending_if (are_like_slots slots) n)
  unfolding least_turned ascending_if
  least_straight (k ∷ b ∷ []) n a c = straight_number (k ∷ b ∷ []) n a c
  least_straight (k ∷ b ∷ x ∷ []) n a c = straight_number (k ∷ b ∷ x ∷ []) n a c
  least_straight (k ∷ b ∷ x ∷ y ∷ []) n a c =
      chosen (are_like_slots (k ∷ b ∷ x ∷ y ∷ [])) _ _ _ _ (exchange_last_two n) n (lower _ _ _ _ (straight_is (n % 64)) (straight_is (n / 64 % 64)))
      (straight_exchanged k b x y n c) (straight_number (k ∷ b ∷ x ∷ y ∷ []) n a c)
    where
      lower : (i j k l : ℕ) → i ≡ j → k ≡ l → nat_lt i k ≡ nat_lt j l
      lower i j k l e f = rw (e, f) refl

      chosen : (like d t : Bool) (E N : Option ℕ) (e m : ℕ) → d ≡ t → E ≡ Some e → N ≡ Some m
          → cond like (cond d E N) N ≡ Some (cond (like && t) e m)
      chosen true true true E N e m r f g = f
      chosen true false false E N e m r f g = g
      chosen true true false E N e m r f g = absurd (false≢true (sym r))
      chosen true false true E N e m r f g = absurd (false≢true r)
      chosen false d t E N e m r f g = g
  least_straight [] n a c = absurd a
  least_straight (k ∷ []) n a c = absurd a
  least_straight (k ∷ b ∷ x ∷ y ∷ z ∷ fs) n a c = absurd a

across_is : (x : ℕ) → turned_square diagonal x ≡ 8 * (x % 8) + x / 8
unfolding turned_square
across_is x = refl

-- a number with these squares, by whether the king's place is on the diagonal
by_diagonal : (t : Bool) (f : ℕ → ℕ) (q m : ℕ) → f q ≡ m → option_map f (cond t (Some q) None) ≡ cond t (Some m) None
by_diagonal true f q m e = ap (λ x. Some x) e
by_diagonal false f q m e = refl

across_number : (slots : List Slot) (n : ℕ) → AreSlots slots → nat_lt (head slots n / 10) 2 ≡ true
    → number_at false (side_numbered (head slots n / 10)) (turned_square diagonal) (squares (men_of false slots n))
    ≡ cond (is_on_diagonal (head slots n % 10)) (Some (with_squares_transposed slots n)) None
unfolding number_at with_squares_transposed
across_number (k ∷ b ∷ []) n a c =
    rw (placed_across (n / 64 % 10) (few_places false (n / 64)), across_is (n % 64))
    (by_diagonal (is_on_diagonal (n / 64 % 10)) _ (n / 64 % 10) _
    (let h = head_back false (n / 64) c in ap (λ (x : ℕ). x * 64 + (8 * (n % 64 % 8) + n % 64 / 8)) h))
across_number (k ∷ b ∷ x ∷ []) n a c =
    rw (placed_across (n / 64 / 64 % 10) (few_places false (n / 64 / 64)), across_is (n / 64 % 64), across_is (n % 64))
    (by_diagonal (is_on_diagonal (n / 64 / 64 % 10)) _ (n / 64 / 64 % 10) _
    (let h = head_back false (n / 64 / 64) c in
    ap (λ (x : ℕ). (x * 64 + (8 * (n / 64 % 64 % 8) + n / 64 % 64 / 8)) * 64 + (8 * (n % 64 % 8) + n % 64 / 8)) h))
across_number (k ∷ b ∷ x ∷ y ∷ []) n a c =
    rw (placed_across (n / 64 / 64 / 64 % 10) (few_places false (n / 64 / 64 / 64)), across_is (n / 64 / 64 % 64), across_is (n / 64 % 64), across_is (n % 64))
    (by_diagonal (is_on_diagonal (n / 64 / 64 / 64 % 10)) _ (n / 64 / 64 / 64 % 10) _
    (let h = head_back false (n / 64 / 64 / 64) c in
    ap (λ (x : ℕ). ((x * 64 + (8 * (n / 64 / 64 % 64 % 8) + n / 64 / 64 % 64 / 8)) * 64 + (8 * (n / 64 % 64 % 8) + n / 64 % 64 / 8)) * 64
    + (8 * (n % 64 % 8) + n % 64 / 8)) h))
across_number [] n a c = absurd a
across_number (k ∷ []) n a c = absurd a
across_number (k ∷ b ∷ x ∷ y ∷ z ∷ fs) n a c = absurd a

across_exchanged : (k b x y : Slot) (n : ℕ) → nat_lt (n / 64 / 64 / 64 / 10) 2 ≡ true
    → number_at false (side_numbered (n / 64 / 64 / 64 / 10)) (turned_square diagonal)
    (exchanged_at (squares (men_of false (k ∷ b ∷ x ∷ y ∷ []) n)))
    ≡ cond (is_on_diagonal (n / 64 / 64 / 64 % 10)) (Some (exchange_last_two (with_squares_transposed (k ∷ b ∷ x ∷ y ∷ []) n))) None
unfolding number_at with_squares_transposed exchange_last_two
across_exchanged k b x y n c =
    rw (placed_across (n / 64 / 64 / 64 % 10) (few_places false (n / 64 / 64 / 64)), across_is (n / 64 / 64 % 64), across_is (n / 64 % 64), across_is (n % 64))
    (by_diagonal (is_on_diagonal (n / 64 / 64 / 64 % 10)) _ (n / 64 / 64 / 64 % 10) _
    (let h = head_back false (n / 64 / 64 / 64) c in
    let u : 8 * (n / 64 % 64 % 8) + n / 64 % 64 / 8 < 64 = omega arith in
    let v : 8 * (n % 64 % 8) + n % 64 / 8 < 64 = omega arith in
    ap (λ (x : ℕ). ((x * 64 + (8 * (n / 64 / 64 % 64 % 8) + n / 64 / 64 % 64 / 8)) * 64 + (8 * (n % 64 % 8) + n % 64 / 8)) * 64
    + (8 * (n / 64 % 64 % 8) + n / 64 % 64 / 8)) h
    ∙ swapped (n / 64 / 64 / 64 * 64 + (8 * (n / 64 / 64 % 64 % 8) + n / 64 / 64 % 64 / 8)) (8 * (n / 64 % 64 % 8) + n / 64 % 64 / 8)
    (8 * (n % 64 % 8) + n % 64 / 8) u v))
  where
    swapped : (h i j : ℕ) → i < 64 → j < 64
        → (h * 64 + j) * 64 + i ≡ (((h * 64 + i) * 64 + j) / 64 / 64 * 64 + ((h * 64 + i) * 64 + j) % 64) * 64 + ((h * 64 + i) * 64 + j) / 64 % 64
    swapped h i j l m = omega arith

least_across : (slots : List Slot) (n : ℕ) → AreSlots slots → nat_lt (head slots n / 10) 2 ≡ true
    → least_turned false (side_numbered (head slots n / 10)) (turned_square diagonal) (are_like_slots slots) (squares (men_of false slots n))
    ≡ cond (is_on_diagonal (head slots n % 10)) (Some (ascending_if (are_like_slots slots) (with_squares_transposed slots n))) None
unfolding least_turned ascending_if with_squares_transposed turned_square
least_across (k ∷ b ∷ []) n a c = across_number (k ∷ b ∷ []) n a c
least_across (k ∷ b ∷ x ∷ []) n a c = across_number (k ∷ b ∷ x ∷ []) n a c
least_across (k ∷ b ∷ x ∷ y ∷ []) n a c =
    chosen (are_like_slots (k ∷ b ∷ x ∷ y ∷ [])) _ _ (is_on_diagonal (n / 64 / 64 / 64 % 10)) _ _
    (exchange_last_two (with_squares_transposed (k ∷ b ∷ x ∷ y ∷ []) n)) (with_squares_transposed (k ∷ b ∷ x ∷ y ∷ []) n)
    (lower k b x y) (across_exchanged k b x y n c) (across_number (k ∷ b ∷ x ∷ y ∷ []) n a c)
  where
    last : (h i j : ℕ) → i < 64 → j < 64 → (((h * 64 + i) * 64 + j) % 64 ≡ j) × (((h * 64 + i) * 64 + j) / 64 % 64 ≡ i)
    last h i j l m = (omega arith, omega arith)

    lower : (k b x y : Slot) → nat_lt (turned_square diagonal (n % 64)) (turned_square diagonal (n / 64 % 64))
        ≡ nat_lt (with_squares_transposed (k ∷ b ∷ x ∷ y ∷ []) n % 64) (with_squares_transposed (k ∷ b ∷ x ∷ y ∷ []) n / 64 % 64)
    lower k b x y =
        let e = last (n / 64 / 64 / 64 * 64 + (8 * (n / 64 / 64 % 64 % 8) + n / 64 / 64 % 64 / 8)) (8 * (n / 64 % 64 % 8) + n / 64 % 64 / 8)
        (8 * (n % 64 % 8) + n % 64 / 8) (omega arith) (omega arith) in
        rw (e.0, e.1) refl

    chosen : (like d t g : Bool) (E N : Option ℕ) (e m : ℕ) → d ≡ t → E ≡ cond g (Some e) None → N ≡ cond g (Some m) None
        → cond like (cond d E N) N ≡ cond g (Some (cond (like && t) e m)) None
    chosen true true true g E N e m r f h = f
    chosen true false false g E N e m r f h = h
    chosen true true false g E N e m r f h = absurd (false≢true (sym r))
    chosen true false true g E N e m r f h = absurd (false≢true r)
    chosen false d t g E N e m r f h = h
least_across [] n a c = absurd a
least_across (k ∷ []) n a c = absurd a
least_across (k ∷ b ∷ x ∷ y ∷ z ∷ fs) n a c = absurd a

-- ---- the least of both

are_like-slots : (ms : List Man) → are_like false ms ≡ are_like_slots (map slot_filled ms)
unfolding man_slot_number
are_like-slots [] = refl
are_like-slots (k ∷ []) = refl
are_like-slots (k ∷ b ∷ []) = refl
are_like-slots (k ∷ b ∷ x ∷ []) = refl
are_like-slots (k ∷ b ∷ x ∷ y ∷ []) = refl
are_like-slots (k ∷ b ∷ x ∷ y ∷ z ∷ ms) = refl

two_least : (x y v w : Option ℕ) → x ≡ v → y ≡ w → option_min x y ≡ option_min v w
two_least x y v w e f = rw (e, f) refl

lesser_if : (g : Bool) (x y : ℕ) → option_min (Some x) (cond g (Some y) None) ≡ Some (cond g (lesser_of x y) x)
lesser_if false x y = refl
lesser_if true x y = by_test (nat_lt y x)
  where
    by_test : (b : Bool) → cond b (Some y) (Some x) ≡ Some (cond b y x)
    by_test true = refl
    by_test false = refl

least_home : (pawns : Bool) (slots : List Slot) (n : ℕ) (rest : List ℕ) → AreSlots slots → nat_lt (head slots n / king_places pawns) 2 ≡ true
    → squares (men_of pawns slots n) ≡ listed_square pawns (head slots n % king_places pawns) ∷ rest
    → least_at pawns (side_numbered (head slots n / king_places pawns)) false (are_like_slots slots) (squares (men_of pawns slots n))
    ≡ Some (least_image pawns (are_like_slots slots) slots n)
unfolding least_at least_image
least_home true slots n rest a c e =
    let side = side_numbered (head slots n / 32) in
    let like = are_like_slots slots in
    let k = listed_square true (head slots n % 32) in
    ap (λ (xs : List ℕ). least_at true side false like xs) e
    ∙ ap (λ t. least_turned true side (turned_square t) like (k ∷ rest)) ((home true (head slots n % 32) (few_places true (head slots n))).symmetry false)
    ∙ ap (λ (xs : List ℕ). least_turned true side (turned_square straight) like xs) (sym e)
    ∙ least_straight true slots n a c
least_home false slots n rest a c e =
    let side = side_numbered (head slots n / 10) in
    let like = are_like_slots slots in
    let k = listed_square false (head slots n % 10) in
    let h = home false (head slots n % 10) (few_places false (head slots n)) in
    ap (λ (xs : List ℕ). least_at false side false like xs) e
    ∙ two_least _ _ _ _
    (ap (λ t. least_turned false side (turned_square t) like (k ∷ rest)) (h.symmetry false)
    ∙ ap (λ (xs : List ℕ). least_turned false side (turned_square straight) like xs) (sym e) ∙ least_straight false slots n a c)
    (ap (λ t. least_turned false side (turned_square t) like (k ∷ rest)) (h.symmetry true)
    ∙ ap (λ (xs : List ℕ). least_turned false side (turned_square diagonal) like xs) (sym e) ∙ least_across slots n a c)
    ∙ lesser_if (is_on_diagonal (head slots n % 10)) (ascending_if like n) (ascending_if like (with_squares_transposed slots n))

least_squares : (pawns : Bool) (slots : List Slot) (n : ℕ) → AreSlots slots → nat_lt (head slots n / king_places pawns) 2 ≡ true
    → least_at pawns (side_numbered (head slots n / king_places pawns)) false (are_like_slots slots) (squares (men_of pawns slots n))
    ≡ Some (least_image pawns (are_like_slots slots) slots n)
least_squares pawns (k ∷ b ∷ []) n a c = least_home pawns (k ∷ b ∷ []) n (n % 64 ∷ []) a c refl
least_squares pawns (k ∷ b ∷ x ∷ []) n a c = least_home pawns (k ∷ b ∷ x ∷ []) n (n / 64 % 64 ∷ n % 64 ∷ []) a c refl
least_squares pawns (k ∷ b ∷ x ∷ y ∷ []) n a c =
    least_home pawns (k ∷ b ∷ x ∷ y ∷ []) n (n / 64 / 64 % 64 ∷ n / 64 % 64 ∷ n % 64 ∷ []) a c refl
least_squares pawns [] n a c = absurd a
least_squares pawns (k ∷ []) n a c = absurd a
least_squares pawns (k ∷ b ∷ x ∷ y ∷ z ∷ fs) n a c = absurd a

-- the least number of the men that a number of the class encodes
pub least_decoded : (pawns : Bool) (slots : List Slot) (n : ℕ) → AreSlots slots → nat_lt (head slots n / king_places pawns) 2 ≡ true
    → canonical_number pawns (side_numbered (head slots n / king_places pawns)) false (men_of pawns slots n)
    ≡ Some (least_image pawns (are_like_slots slots) slots n)
least_decoded pawns slots n a c =
    let men = men_of pawns slots n in
    let side = side_numbered (head slots n / king_places pawns) in
    let like : are_like false men ≡ are_like_slots slots = are_like-slots men ∙ ap (λ ss. are_like_slots ss) (filled-men_of pawns slots n a) in
    sym (least_of_squares pawns side false men (on_board pawns slots n a))
    ∙ ap (λ l. least_at pawns side false l (squares men)) like
    ∙ least_squares pawns slots n a c
