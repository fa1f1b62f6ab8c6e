-- The least number of men is that of their squares, the men sorted by their slots.
use Rattle.std.proofs.Common.{◌≡◌, ℕ, ◌+◌, ◌-◌, ◌*◌, ◌<◌, ◌==◌, Bool, true, false, cond, nat_lt}
use Rattle.std.proofs.Common.{nat_le, List, [], ◌∷◌, map, Option, Some, None, refl, sym, ◌∙◌, ap, arith}
use Rattle.std.specs.Option.{option_map}
use Rattle.study_board.specs.declared.men.Side.{Side}
use Rattle.study_board.specs.declared.men.Man.{Man}
use Rattle.study_board.specs.declared.symmetry.Symmetry.{Symmetry}
use Rattle.study_board.specs.Geometry.{file_of, rank_of}
use Rattle.study_board.specs.Images.{differ}
use Rattle.study_board.specs.Symmetry.{turned_square, turned_man, mirror_if}
use Rattle.study_index.specs.declared.slot_order.PlacedMan.{PlacedMan}
use Rattle.study_values.specs.Slots.{man_slot_number}
use Rattle.study_values.specs.Index.{insert_by_slot, sort_by_slot}
use Rattle.study_values.specs.Number.{place, king_places, side_number, append_squares, number}
use Rattle.study_values.specs.Canonical.{canonical_symmetry, last_two_exchanged, are_like, descends, turned_number, option_min, least_by, canonical_number}
use Rattle.study_index.specs.Squares.{placed_man, put_placed, squares_placed, square_symmetry, counted_at, number_at, exchanged_at, descends_at}
use Rattle.study_index.specs.Squares.{least_turned, least_at}

abbrev pub AreOnBoard : List Man → Type 0
AreOnBoard [] = Unit {0}
AreOnBoard (m ∷ ms) = (m.at < 64) × AreOnBoard ms

abbrev pub square : Man → ℕ
square m = m.at

-- two symmetries with the same images of squares
abbrev pub TakeSame : Symmetry → Symmetry → Type 0
TakeSame t u = (x : ℕ) → x < 64 → turned_square t x ≡ turned_square u x

twice : (n : ℕ) → n < 8 → 7 - (7 - n) ≡ n
twice n l = omega arith

with_pawns : (right c : Bool) → TakeSame (record { files = right; ranks = c; diagonal = false; colours = false })
    (record { files = right; ranks = false; diagonal = false; colours = c })
unfolding turned_square
with_pawns right true x l = refl
with_pawns right false x l = refl

straight : (right top c : Bool)
    → TakeSame (record { files = right; ranks = top; diagonal = false; colours = false })
    (record { files = right; ranks = differ c top; diagonal = false; colours = c })
unfolding turned_square
straight right top false x l = refl
straight right true true x l = refl
straight right false true x l =
    let e : rank_of x ≡ 7 - (7 - rank_of x) = sym (twice (rank_of x) (omega arith)) in
    ap (λ r. 8 * r + mirror_if right (file_of x)) e

file_and_rank_swapped : (right top c : Bool)
    → TakeSame (record { files = right; ranks = top; diagonal = true; colours = false })
    (record { files = differ c right; ranks = top; diagonal = true; colours = c })
unfolding turned_square
file_and_rank_swapped right top false x l = refl
file_and_rank_swapped true top true x l = refl
file_and_rank_swapped false top true x l =
    let e : file_of x ≡ 7 - (7 - file_of x) = sym (twice (file_of x) (omega arith)) in
    ap (λ f. 8 * f + mirror_if top (rank_of x)) e

brought_so : (pawns diagonal c : Bool) (k : ℕ) → TakeSame (square_symmetry pawns diagonal c k) (canonical_symmetry pawns diagonal c k)
unfolding square_symmetry canonical_symmetry
brought_so true diagonal c k = with_pawns (nat_lt 3 (file_of k)) c
brought_so false false c k = straight (nat_lt 3 (file_of k)) (nat_lt 3 (rank_of k)) c
brought_so false true c k = file_and_rank_swapped (nat_lt 3 (file_of k)) (nat_lt 3 (rank_of k)) c

module _ (pawns : Bool) (to_move : Side) (t u : Symmetry) (same : TakeSame t u) where
  counted_men : (n : ℕ) (ms : List Man) → AreOnBoard ms → counted_at (turned_square t) n (map square ms) ≡ append_squares n (map (turned_man u) ms)
  counted_men n [] h = refl
  counted_men n (m ∷ ms) h =
      ap (λ x. counted_at (turned_square t) (n * 64 + x) (map square ms)) (same m.at h.0) ∙ counted_men (n * 64 + turned_square u m.at) ms h.1

  pub number_men : (ms : List Man) → AreOnBoard ms → number_at pawns to_move (turned_square t) (map square ms) ≡ turned_number pawns to_move u ms
  unfolding number_at turned_number number
  number_men [] h = refl
  number_men (k ∷ ms) h =
      ap (λ x. option_map (λ q. counted_at (turned_square t) (side_number to_move * king_places pawns + q) (map square ms)) (place pawns x)) (same k.at h.0)
      ∙ by_place (place pawns (turned_square u k.at))
    where
      by_place : (o : Option ℕ)
          → option_map (λ q. counted_at (turned_square t) (side_number to_move * king_places pawns + q) (map square ms)) o
          ≡ option_map (λ q. append_squares (side_number to_move * king_places pawns + q) (map (turned_man u) ms)) o
      by_place None = refl
      by_place (Some q) = ap (λ n. Some n) (counted_men (side_number to_move * king_places pawns + q) ms h.1)

  falls_men : (ms : List Man) → AreOnBoard ms → descends_at (turned_square t) (map square ms) ≡ descends u ms
  falls_men [] h = refl
  falls_men (a ∷ []) h = refl
  falls_men (a ∷ b ∷ []) h = refl
  falls_men (a ∷ b ∷ x ∷ []) h = refl
  falls_men (a ∷ b ∷ x ∷ y ∷ []) h = lesser _ _ _ _ (same y.at h.1.1.1.0) (same x.at h.1.1.0)
    where
      lesser : (i j k l : ℕ) → i ≡ j → k ≡ l → nat_lt i k ≡ nat_lt j l
      lesser i j k l e f = rw (e, f) refl
  falls_men (a ∷ b ∷ x ∷ y ∷ z ∷ ms) h = refl

exchanged_men : (ms : List Man) → exchanged_at (map square ms) ≡ map square (last_two_exchanged ms)
exchanged_men [] = refl
exchanged_men (a ∷ []) = refl
exchanged_men (a ∷ b ∷ []) = refl
exchanged_men (a ∷ b ∷ x ∷ []) = refl
exchanged_men (a ∷ b ∷ x ∷ y ∷ []) = refl
exchanged_men (a ∷ b ∷ x ∷ y ∷ z ∷ ms) = refl

AreOnBoard-exchanged : (ms : List Man) → AreOnBoard ms → AreOnBoard (last_two_exchanged ms)
AreOnBoard-exchanged [] h = h
AreOnBoard-exchanged (a ∷ []) h = h
AreOnBoard-exchanged (a ∷ b ∷ []) h = h
AreOnBoard-exchanged (a ∷ b ∷ x ∷ []) h = h
AreOnBoard-exchanged (a ∷ b ∷ x ∷ y ∷ []) h = (h.0, (h.1.0, (h.1.1.1.0, (h.1.1.0, tt))))
AreOnBoard-exchanged (a ∷ b ∷ x ∷ y ∷ z ∷ ms) h = h

one_of_three : (b c : Bool) (x y v w : Option ℕ) → x ≡ v → y ≡ w → cond b (cond c x y) y ≡ cond b (cond c v w) w
one_of_three b c x y v w e f = rw (e, f) refl

least_by_squares : (pawns : Bool) (to_move : Side) (t u : Symmetry) → TakeSame t u → (ms : List Man) → AreOnBoard ms
    → least_turned pawns to_move (turned_square t) (are_like u.colours ms) (map square ms) ≡ least_by pawns to_move u ms
unfolding least_turned least_by
least_by_squares pawns to_move t u same ms h =
    let n = number_men pawns to_move t u same ms h in
    let e = ap (λ xs. number_at pawns to_move (turned_square t) xs) (exchanged_men ms) ∙ number_men pawns to_move t
    u same (last_two_exchanged ms) (AreOnBoard-exchanged ms h) in
    ap
    (λ f. cond (are_like u.colours ms)
    (cond f (number_at pawns to_move (turned_square t) (exchanged_at (map square ms)))
    (number_at pawns to_move (turned_square t) (map square ms)))
    (number_at pawns to_move (turned_square t) (map square ms)))
    (falls_men pawns to_move t u same ms h)
    ∙ one_of_three (are_like u.colours ms) (descends u ms) _ _ _ _ e n

two_least : (x y v w : Option ℕ) → x ≡ v → y ≡ w → option_min x y ≡ option_min v w
two_least x y v w e f = rw (e, f) refl

-- the least number of men by their squares
pub least_of_squares : (pawns : Bool) (to_move : Side) (c : Bool) (ms : List Man) → AreOnBoard ms
    → least_at pawns to_move c (are_like c ms) (map square ms) ≡ canonical_number pawns to_move c ms
unfolding least_at canonical_number canonical_symmetry
least_of_squares pawns to_move c [] h = refl
least_of_squares true to_move c (k ∷ ms) h =
    least_by_squares true to_move (square_symmetry true false c k.at) (canonical_symmetry true false c k.at) (brought_so true false c k.at) (k ∷ ms) h
least_of_squares false to_move c (k ∷ ms) h =
    two_least _ _ _ _ (least_by_squares false to_move (square_symmetry false false c k.at) (canonical_symmetry false false c k.at)
    (brought_so false false c k.at) (k ∷ ms) h)
    (least_by_squares false to_move (square_symmetry false true c k.at) (canonical_symmetry false true c k.at) (brought_so false true c k.at) (k ∷ ms) h)

AreOnBoard-insert_by_slot : (c : Bool) (m : Man) (xs : List Man) → m.at < 64 → AreOnBoard xs → AreOnBoard (insert_by_slot c m xs)
unfolding insert_by_slot
AreOnBoard-insert_by_slot c m [] l h = (l, tt)
AreOnBoard-insert_by_slot c m (x ∷ xs) l h =
    elim (nat_le (man_slot_number c x) (man_slot_number c m)) as (λ b. AreOnBoard (cond b (x ∷ insert_by_slot c m xs) (m ∷ x ∷ xs)))
    [ true ↦ (h.0, AreOnBoard-insert_by_slot c m xs l h.1) | false ↦ (l, h) ]

AreOnBoard-sort_by_slot : (c : Bool) (ms : List Man) → AreOnBoard ms → AreOnBoard (sort_by_slot c ms)
AreOnBoard-sort_by_slot c [] h = tt
AreOnBoard-sort_by_slot c (m ∷ ms) h = AreOnBoard-insert_by_slot c m (sort_by_slot c ms) h.0 (AreOnBoard-sort_by_slot c ms h.1)

placed-insert_by_slot : (c : Bool) (m : Man) (xs : List Man) → put_placed (placed_man c m) (map (placed_man c) xs) ≡ map (placed_man c) (insert_by_slot c m xs)
unfolding insert_by_slot put_placed
placed-insert_by_slot c m [] = refl
placed-insert_by_slot c m (x ∷ xs) =
    elim (nat_le (man_slot_number c x) (man_slot_number c m))
    as (λ b. cond b (placed_man c x ∷ put_placed (placed_man c m) (map (placed_man c) xs)) (placed_man c m ∷ placed_man c x ∷ map (placed_man c) xs) ≡ map
    (placed_man c) (cond b (x ∷ insert_by_slot c m xs) (m ∷ x ∷ xs))) [
      | true ↦ ap (λ ks. placed_man c x ∷ ks) (placed-insert_by_slot c m xs)
      | false ↦ refl
    ]

pub one_placed : (c : Bool) (m : Man) (k : PlacedMan) → k ≡ placed_man c m → k ∷ [] ≡ map (placed_man c) (sort_by_slot c (m ∷ []))
unfolding insert_by_slot
one_placed c m k e = ap (λ n. n ∷ []) e

-- one more man is inserted among the others
pub more_placed : (c : Bool) (m : Man) (ms : List Man) (k : PlacedMan) (ks xs : List PlacedMan) → k ≡ placed_man c m
    → ks ≡ put_placed k xs → xs ≡ map (placed_man c) (sort_by_slot c ms) → ks ≡ map (placed_man c) (sort_by_slot c (m ∷ ms))
more_placed c m ms k ks xs d e f = e ∙ ap (λ n. put_placed n xs) d ∙ ap (λ z. put_placed (placed_man c m) z) f ∙ placed-insert_by_slot c m (sort_by_slot c ms)

squares-placed : (c : Bool) (ms : List Man) → squares_placed (map (placed_man c) ms) ≡ map square ms
squares-placed c [] = refl
squares-placed c (m ∷ ms) = ap (λ xs. m.at ∷ xs) (squares-placed c ms)

-- the last two of four have the same slot
abbrev pub like_placed : List PlacedMan → Bool
like_placed (a ∷ b ∷ x ∷ y ∷ []) = x.slot == y.slot
like_placed ks = false

like-placed : (c : Bool) (ms : List Man) → like_placed (map (placed_man c) ms) ≡ are_like c ms
like-placed c [] = refl
like-placed c (a ∷ []) = refl
like-placed c (a ∷ b ∷ []) = refl
like-placed c (a ∷ b ∷ x ∷ []) = refl
like-placed c (a ∷ b ∷ x ∷ y ∷ []) = refl
like-placed c (a ∷ b ∷ x ∷ y ∷ z ∷ ms) = refl

-- the least number of men by their slots and squares, sorted
pub least_of_placed : (pawns : Bool) (to_move : Side) (c : Bool) (ms : List Man) (ks : List PlacedMan) → AreOnBoard ms → ks
    ≡ map (placed_man c) (sort_by_slot c ms)
    → least_at pawns to_move c (like_placed ks) (squares_placed ks) ≡ canonical_number pawns to_move c (sort_by_slot c ms)
least_of_placed pawns to_move c ms ks h e =
    let on = AreOnBoard-sort_by_slot c ms h in
    ap (λ xs. least_at pawns to_move c (like_placed xs) (squares_placed xs)) e
    ∙ both _ _ _ _ (like-placed c (sort_by_slot c ms)) (squares-placed c (sort_by_slot c ms))
    ∙ least_of_squares pawns to_move c (sort_by_slot c ms) on
  where
    both : (b d : Bool) (xs ys : List ℕ) → b ≡ d → xs ≡ ys → least_at pawns to_move c b xs ≡ least_at pawns to_move c d ys
    both b d xs ys e f = rw (e, f) refl
