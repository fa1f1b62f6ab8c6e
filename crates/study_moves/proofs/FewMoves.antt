-- A side has at most 62 moves: those of a king and two queens.
use Rattle.std.proofs.Common.{◌≡◌, ℕ, ◌+◌, ◌*◌, ◌<◌, ◌≤◌, ◌==◌, suc, zero, nat_le, Bool, true, false, not, cond, ◌&&◌, ◌||◌, inl, inr}
use Rattle.std.proofs.Common.{List, [], ◌∷◌, length, get_or, drop, Option, refl, sym, ap, ◌∙◌, arith}
use Rattle.std.specs.List.{count_by, sum_by}
use Rattle.std.proofs.lemmas.List.Sums.{sum_by-cons, sum_by-drop_more}
use Rattle.std.proofs.lemmas.Bool.{and_parts, agree_below, agree_below_at, eqb-true, cases_lt}
use borrow.Author.Tests.{leb-true, ltb-false}
use Rattle.study_board.specs.Geometry.{rank_of, on_rook_line, on_bishop_line, knight_jump, king_step}
use Rattle.study_board.specs.Men.{same_side, same_kind, other_side, is_man, pawn_captures, reaches}
use Rattle.study_board.specs.declared.men.Side.{Side}
use Rattle.study_board.specs.declared.men.Side.TheVariants.{White, Black}
use Rattle.study_board.specs.declared.men.Kind.{Kind}
use Rattle.study_board.specs.declared.men.Kind.TheVariants.{King, Queen, Rook, Bishop, Knight, Pawn}
use Rattle.study_board.specs.declared.men.Man.{Man}
use Rattle.study_board.specs.Position.{Position, IsValid, is_empty, has_one_king}
use Rattle.study_board.proofs.Lists.{count_by-cons}
use Rattle.study_board.proofs.Valid.{IsFaultless-from_first}
use Rattle.study_moves.specs.Rules.{reaches_target, reaches_last_rank, has_side, is_square, half_way, is_ahead, starting_rank, pawn_steps}
use Rattle.study_moves.specs.Rules.{pawn_double_steps, pawn_takes}
use Rattle.study_moves.specs.MoveCount.{most_moves}

-- on some board the man can go to x, by the moves of its kind
can_reach : Side → Kind → ℕ → ℕ → Bool
can_reach side King a x = not (a == x) && king_step a x
can_reach side Queen a x = not (a == x) && (on_rook_line a x || on_bishop_line a x)
can_reach side Rook a x = not (a == x) && on_rook_line a x
can_reach side Bishop a x = not (a == x) && on_bishop_line a x
can_reach side Knight a x = not (a == x) && knight_jump a x
can_reach side Pawn a x = (is_ahead side 1 a x || ((rank_of a == starting_rank side) && is_ahead side 2 a x)) || pawn_captures side a x

lines : (s b c : Bool) → (not s && (b && c)) ≡ true → (not s && b) ≡ true
lines true b c e = e
lines false true c e = refl
lines false false c e = e

steps_or_takes : (s t b c d e f g : Bool) → (((s && b) || (((t && c) && d) && e)) || (f && g)) ≡ true → ((s || (t && c)) || f) ≡ true
steps_or_takes true t b c d e f g k = refl
steps_or_takes false true b true d e f g k = refl
steps_or_takes false true b false d e true g k = refl
steps_or_takes false true b false d e false g k = k
steps_or_takes false false b c d e true g k = refl
steps_or_takes false false b c d e false g k = k

can_reach-of_kind : (men : List Man) (q : Option ℕ) (side : Side) (k : Kind) (a x : ℕ)
    → cond (same_kind k Pawn) ((pawn_steps men side a x || pawn_double_steps men side a x) || pawn_takes men q side a x) (not (a == x)
    && reaches men side k a x) ≡ true
    → can_reach side k a x ≡ true
unfolding reaches can_reach pawn_steps pawn_double_steps pawn_takes
can_reach-of_kind men q side King a x e = e
can_reach-of_kind men q side Queen a x e = lines (a == x) _ _ e
can_reach-of_kind men q side Rook a x e = lines (a == x) _ _ e
can_reach-of_kind men q side Bishop a x e = lines (a == x) _ _ e
can_reach-of_kind men q side Knight a x e = e
can_reach-of_kind men q side Pawn a x e =
    steps_or_takes (is_ahead side 1 a x) (rank_of a == starting_rank side) (is_empty men x) (is_ahead side 2 a x) (is_empty men (half_way a x)) (is_empty men x)
    (pawn_captures side a x) (has_side men (other_side side) x || is_square q x) e

can_reach-from : (men : List Man) (q : Option ℕ) (m : Man) (x : ℕ) → reaches_target men q m x ≡ true → can_reach m.side m.kind m.at x ≡ true
unfolding reaches_target
can_reach-from men q m x e = can_reach-of_kind men q m.side m.kind m.at x e

-- the largest number of moves of a man to one square
moves_at : Side → Kind → ℕ → ℕ → ℕ
moves_at side k a x = cond (can_reach side k a x) (cond (reaches_last_rank (record { side = side; kind = k; at = a }) x) 4 1) 0

-- and to the squares below the nth
pub moves_below : Side → Kind → ℕ → ℕ → ℕ
moves_below side k a zero = 0
moves_below side k a (suc n) = moves_below side k a n + moves_at side k a n

abbrev is_few : Side → Kind → ℕ → Bool
is_few side k a = nat_le (moves_below side k a 64) (most_moves k)

kings_few : (side : Side) → agree_below (is_few side King) (λ _. true) 64 ≡ true
unfolding moves_below moves_at can_reach king_step
kings_few side = refl

queens_few : (side : Side) → agree_below (is_few side Queen) (λ _. true) 64 ≡ true
unfolding moves_below moves_at can_reach on_rook_line on_bishop_line
queens_few side = refl

rooks_few : (side : Side) → agree_below (is_few side Rook) (λ _. true) 64 ≡ true
unfolding moves_below moves_at can_reach on_rook_line
rooks_few side = refl

bishops_few : (side : Side) → agree_below (is_few side Bishop) (λ _. true) 64 ≡ true
unfolding moves_below moves_at can_reach on_bishop_line
bishops_few side = refl

knights_few : (side : Side) → agree_below (is_few side Knight) (λ _. true) 64 ≡ true
unfolding moves_below moves_at can_reach knight_jump
knights_few side = refl

pawns_few : (side : Side) → agree_below (is_few side Pawn) (λ _. true) 64 ≡ true
unfolding moves_below moves_at can_reach pawn_captures
pawns_few White = refl
pawns_few Black = refl

all_few : (side : Side) (k : Kind) → agree_below (is_few side k) (λ _. true) 64 ≡ true
all_few side King = kings_few side
all_few side Queen = queens_few side
all_few side Rook = rooks_few side
all_few side Bishop = bishops_few side
all_few side Knight = knights_few side
all_few side Pawn = pawns_few side

-- a man has at most as many moves as the best of its kind
pub moves_below-most : (side : Side) (k : Kind) (a : ℕ) → a < 64 → moves_below side k a 64 ≤ most_moves k
moves_below-most side k a la = leb-true _ _ (agree_below_at (is_few side k) (λ _. true) 64 a (all_few side k) la)

pub moves_below-more : (side : Side) (k : Kind) (a m n : ℕ) → m ≤ n → moves_below side k a m ≤ moves_below side k a n
unfolding moves_below
moves_below-more side k a m zero le = rw (zero_from m le) (omega arith)
  where
    zero_from : (m : ℕ) → m ≤ 0 → m ≡ 0
    zero_from m le = omega arith
moves_below-more side k a m (suc n) le = elim (cases_lt n m) [
  | inl lt ↦ let e : m ≡ suc n = omega arith in rw e (omega arith)
  | inr ge ↦ let h = moves_below-more side k a m n ge in omega (arith, h)
]

-- the moves to one more square
pub moves_below-next : (men : List Man) (q : Option ℕ) (m : Man) (next t : ℕ) → next ≤ t → reaches_target men q m t ≡ true
    → moves_below m.side m.kind m.at next + cond (reaches_last_rank m t) 4 1 ≤ moves_below m.side m.kind m.at (t + 1)
unfolding moves_below moves_at
moves_below-next men q m next t le e =
    let r = can_reach-from men q m t e in
    let h = moves_below-more m.side m.kind m.at next t le in
    let one : moves_at m.side m.kind m.at t ≡ cond (reaches_last_rank m t) 4 1 = rw r in
    let step : moves_below m.side m.kind m.at (suc t) ≡ moves_below m.side m.kind m.at t + moves_at m.side m.kind m.at t = refl in
    let up : t + 1 ≡ suc t = omega arith in
    let same : moves_below m.side m.kind m.at (t + 1) ≡ moves_below m.side m.kind m.at (suc t) = ap (λ z. moves_below m.side m.kind m.at z) up in
    omega (arith, h, one, step, same)

-- the largest number of moves of a man, if it is of the side
pub most_if : Side → Man → ℕ
most_if side m = cond (same_side m.side side) (most_moves m.kind) 0

pub most_of : Side → List Man → ℕ
most_of side men = sum_by (most_if side) men

pub most_of-mine : (side : Side) (men : List Man) (i : ℕ) (d m : Man) → i < length men → m ≡ get_or men i d → same_side m.side side ≡ true
    → most_of side (drop i men) ≡ most_moves m.kind + most_of side (drop (i + 1) men)
unfolding most_of most_if
most_of-mine side men i d m lt is e =
    let w' : most_if side m ≡ most_moves m.kind = rw e in
    let w : most_if side (get_or men i d) ≡ most_moves m.kind = ap (λ (x : Man). most_if side x) (sym is) ∙ w' in
    sum_by-drop_more (most_if side) men i d lt ∙ ap (λ n. n + most_of side (drop (i + 1) men)) w

pub most_of-next : (side : Side) (men : List Man) (i : ℕ) (d : Man) → i < length men → most_of side (drop (i + 1) men) ≤ most_of side (drop i men)
unfolding most_of
most_of-next side men i d lt = let e = sum_by-drop_more (most_if side) men i d lt in omega (arith, e)

abbrev is_of : Side → Man → Bool
is_of side m = same_side m.side side

-- a king has 19 moves less than a queen, and no man more than a queen
like_queens : (side : Side) (xs : List Man) → most_of side xs + 19 * count_by (is_man side King) xs ≤ 27 * count_by (is_of side) xs
unfolding most_of most_if
like_queens side [] = omega arith
like_queens side (x ∷ xs) =
    let a = sum_by-cons (most_if side) x xs in
    let b = count_by-cons (is_man side King) x xs in
    let c = count_by-cons (is_of side) x xs in
    let h = like_queens side xs in
    let one = at_most_27 (same_side x.side side) x.kind in
    omega (arith, a, b, c, h, one)
  where
    at_most_27 : (s : Bool) (k : Kind) → cond s (most_moves k) 0 + 19 * cond (s && same_kind k King) 1 0 ≤ 27 * cond s 1 0
    at_most_27 false k = omega arith
    at_most_27 true King = omega arith
    at_most_27 true Queen = omega arith
    at_most_27 true Rook = omega arith
    at_most_27 true Bishop = omega arith
    at_most_27 true Knight = omega arith
    at_most_27 true Pawn = omega arith

-- the other side's king does not belong to the side
beside_king : (side : Side) (xs : List Man) → count_by (is_of side) xs + count_by (is_man (other_side side) King) xs ≤ length xs
beside_king side [] = omega arith
beside_king side (x ∷ xs) =
    let b = count_by-cons (is_of side) x xs in
    let c = count_by-cons (is_man (other_side side) King) x xs in
    let h = beside_king side xs in
    let one = at_most_1 side x.side (same_kind x.kind King) in
    omega (arith, b, c, h, one)
  where
    at_most_1 : (s t : Side) (k : Bool) → cond (same_side t s) 1 0 + cond (same_side t (other_side s) && k) 1 0 ≤ 1
    at_most_1 White White k = omega arith
    at_most_1 Black Black k = omega arith
    at_most_1 White Black true = omega arith
    at_most_1 White Black false = omega arith
    at_most_1 Black White true = omega arith
    at_most_1 Black White false = omega arith

-- a position has at most 62 moves
pub most_of-valid : (p : Position) → IsValid p → most_of p.to_move p.men ≤ 62
unfolding has_one_king
most_of-valid p v =
    let f = IsFaultless-from_first p.men p.to_move p.passed v.faultless in
    let few = ltb-false _ _ f.few in
    let kings = and_parts _ _ f.kings in
    let one : (side : Side) → count_by (is_man side King) p.men ≡ 1 =
    λ side. elim side as (λ s. count_by (is_man s King) p.men ≡ 1) [ White ↦ eqb-true _ _ kings.0 | Black ↦ eqb-true _ _ kings.1 ] in
    let a = one p.to_move in
    let b = one (other_side p.to_move) in
    let q = like_queens p.to_move p.men in
    let k = beside_king p.to_move p.men in
    omega (arith, few, a, b, q, k)
