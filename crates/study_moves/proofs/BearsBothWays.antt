-- A man bears on a square from another exactly if a man of its kind, of the other side, bears back from there.
use Rattle.std.proofs.Common.{◌≡◌, ℕ, ◌+◌, ◌<◌, ◌==◌, nat_lt, Bool, true, false, not, ◌&&◌, ◌||◌, ◌⊎◌, inl, inr, List, refl, sym, arith}
use Rattle.std.proofs.lemmas.Bool.{false≢true, and_parts, and_from, or_cases, or_right, eqb-true, eq-eqb, lt-ltb}
use borrow.Author.Tests.{ltb-true}
use Rattle.study_board.specs.declared.men.Man.{Man}
use Rattle.study_board.specs.declared.men.Side.{Side}
use Rattle.study_board.specs.declared.men.Side.TheVariants.{White, Black}
use Rattle.study_board.specs.declared.men.Kind.{Kind}
use Rattle.study_board.specs.declared.men.Kind.TheVariants.{King, Queen, Rook, Bishop, Knight, Pawn}
use Rattle.study_board.specs.Geometry.{file_of, rank_of, distance_between, on_rook_line, on_bishop_line, knight_jump, king_step, is_between, strictly_between}
use Rattle.study_board.specs.Men.{other_side, pawn_captures, is_blocked}
use Rattle.study_board.specs.Sets.{reaches_if, is_blocked_past, bears_past}
use Rattle.study_board.proofs.Faults.{list_any_same}

-- two tests that follow from each other are the same
pub same_test : (b c : Bool) → (b ≡ true → c ≡ true) → (c ≡ true → b ≡ true) → b ≡ c
same_test true true f g = refl
same_test false false f g = refl
same_test true false f g = absurd (false≢true (f refl))
same_test false true f g = absurd (false≢true (g refl))

pub distance_between-both : (a b : ℕ) → distance_between a b ≡ distance_between b a
distance_between-both a b = omega arith

pub eqb-both : (a b : ℕ) → (a == b) ≡ (b == a)
eqb-both a b = same_test (a == b) (b == a) (λ e. eq-eqb b a (sym (eqb-true a b e))) (λ e. eq-eqb a b (sym (eqb-true b a e)))

or_left : (b c : Bool) → b ≡ true → (b || c) ≡ true
or_left true c e = refl
or_left false c e = absurd (false≢true e)

-- strictly between, as numbers
abbrev pub IsInside : ℕ → ℕ → ℕ → Type 0
IsInside i j k = ((i < j) × (j < k)) ⊎ ((k < j) × (j < i))

inside-from : (i j k : ℕ) → is_between i j k ≡ true → IsInside i j k
inside-from i j k e =
    elim (or_cases (nat_lt i j && nat_lt j k) (nat_lt k j && nat_lt j i) e) [
      | inl h ↦ let p = and_parts (nat_lt i j) (nat_lt j k) h in inl (ltb-true i j p.0, ltb-true j k p.1)
      | inr h ↦ let p = and_parts (nat_lt k j) (nat_lt j i) h in inr (ltb-true k j p.0, ltb-true j i p.1)
    ]

inside-to : (i j k : ℕ) → IsInside i j k → is_between k j i ≡ true
inside-to i j k (inl h) = or_right (nat_lt k j && nat_lt j i) (nat_lt i j && nat_lt j k) (and_from _ _ (lt-ltb i j h.0) (lt-ltb j k h.1))
inside-to i j k (inr h) = or_left (nat_lt k j && nat_lt j i) (nat_lt i j && nat_lt j k) (and_from _ _ (lt-ltb k j h.0) (lt-ltb j i h.1))

turned_round : (i j k : ℕ) → is_between i j k ≡ true → is_between k j i ≡ true
turned_round i j k e = inside-to i j k (inside-from i j k e)

-- on one file, or one rank
straight : (u v w i j k : ℕ) → ((distance_between u v == 0) && (distance_between u w == 0) && is_between i j k) ≡ true
    → ((distance_between w v == 0) && (distance_between w u == 0) && is_between k j i) ≡ true
straight u v w i j k e =
    let a = and_parts ((distance_between u v == 0) && (distance_between u w == 0)) (is_between i j k) e in
    let b = and_parts (distance_between u v == 0) (distance_between u w == 0) a.0 in
    let c = eqb-true (distance_between u v) 0 b.0 in
    let d = eqb-true (distance_between u w) 0 b.1 in
    let f : distance_between w v ≡ 0 = omega arith in
    let g : distance_between w u ≡ 0 = omega arith in
    and_from _ _ (and_from _ _ (eq-eqb _ _ f) (eq-eqb _ _ g)) (turned_round i j k a.1)

steps_left : (u v w i j k : ℕ) → distance_between u v ≡ distance_between i j → distance_between u w ≡ distance_between i k → IsInside u v w
    → IsInside i j k → distance_between w v ≡ distance_between k j
steps_left u v w i j k c d (inl g) (inl h) = omega arith
steps_left u v w i j k c d (inl g) (inr h) = omega arith
steps_left u v w i j k c d (inr g) (inl h) = omega arith
steps_left u v w i j k c d (inr g) (inr h) = omega arith

askew : (u v w i j k : ℕ) → ((distance_between u v == distance_between i j) &&
    (distance_between u w == distance_between i k) && is_between u v w && is_between i j k) ≡ true
    → ((distance_between w v == distance_between k j) && (distance_between w u == distance_between k i) && is_between w v u && is_between k j i) ≡ true
askew u v w i j k e =
    let a = and_parts ((distance_between u v == distance_between i j) && (distance_between u w == distance_between i k) && is_between u v w)
    (is_between i j k) e in
    let b = and_parts ((distance_between u v == distance_between i j) && (distance_between u w == distance_between i k)) (is_between u v w) a.0 in
    let c = and_parts (distance_between u v == distance_between i j) (distance_between u w == distance_between i k) b.0 in
    let l = eqb-true (distance_between u v) (distance_between i j) c.0 in
    let m = eqb-true (distance_between u w) (distance_between i k) c.1 in
    let one = steps_left u v w i j k l m (inside-from u v w b.1) (inside-from i j k a.1) in
    let two : distance_between w u ≡ distance_between k i = omega arith in
    and_from _ _ (and_from _ _ (and_from _ _ (eq-eqb _ _ one) (eq-eqb _ _ two)) (turned_round u v w b.1)) (turned_round i j k a.1)

three : (b c d b' c' d' : Bool) → (b ≡ true → b' ≡ true) → (c ≡ true → c' ≡ true) → (d ≡ true → d' ≡ true) → ((b || c) || d) ≡ true → ((b' || c') || d') ≡ true
three b c d b' c' d' f g h e =
    elim (or_cases (b || c) d e) [
      | inl k ↦ elim (or_cases b c k) [ inl l ↦ or_left (b' || c') d' (or_left b' c' (f l)) | inr l ↦ or_left (b' || c') d' (or_right b' c' (g l)) ]
      | inr k ↦ or_right (b' || c') d' (h k)
    ]

between_back : (a y x : ℕ) → strictly_between a y x ≡ true → strictly_between x y a ≡ true
unfolding strictly_between on_bishop_line
between_back a y x e =
    three _ _ _ _ _ _
    (straight (file_of a) (file_of y) (file_of x) (rank_of a) (rank_of y) (rank_of x))
    (straight (rank_of a) (rank_of y) (rank_of x) (file_of a) (file_of y) (file_of x))
    (askew (file_of a) (file_of y) (file_of x) (rank_of a) (rank_of y) (rank_of x)) e

pub between-both : (a y x : ℕ) → strictly_between a y x ≡ strictly_between x y a
between-both a y x = same_test (strictly_between a y x) (strictly_between x y a) (between_back a y x) (between_back x y a)

rook-both : (a x : ℕ) → on_rook_line a x ≡ on_rook_line x a
unfolding on_rook_line
rook-both a x = rw (distance_between-both (file_of a) (file_of x), distance_between-both (rank_of a) (rank_of x)) refl

bishop-both : (a x : ℕ) → on_bishop_line a x ≡ on_bishop_line x a
unfolding on_bishop_line
bishop-both a x = rw (distance_between-both (file_of a) (file_of x), distance_between-both (rank_of a) (rank_of x)) refl

knight-both : (a x : ℕ) → knight_jump a x ≡ knight_jump x a
unfolding knight_jump
knight-both a x = rw (distance_between-both (file_of a) (file_of x), distance_between-both (rank_of a) (rank_of x)) refl

king-both : (a x : ℕ) → king_step a x ≡ king_step x a
unfolding king_step
king-both a x = rw (distance_between-both (file_of a) (file_of x), distance_between-both (rank_of a) (rank_of x)) refl

captures-both : (side : Side) (a x : ℕ) → pawn_captures (other_side side) x a ≡ pawn_captures side a x
unfolding pawn_captures
captures-both White a x = rw (distance_between-both (file_of a) (file_of x), eqb-both (rank_of x) (rank_of a + 1)) refl
captures-both Black a x = rw (distance_between-both (file_of a) (file_of x), eqb-both (rank_of x + 1) (rank_of a)) refl

pub reaches-both : (b : Bool) (side : Side) (kind : Kind) (a x : ℕ) → reaches_if b (other_side side) kind x a ≡ reaches_if b side kind a x
unfolding reaches_if
reaches-both b side King a x = king-both x a
reaches-both b side Queen a x = rw (rook-both a x, bishop-both a x) refl
reaches-both b side Rook a x = rw (rook-both a x) refl
reaches-both b side Bishop a x = rw (bishop-both a x) refl
reaches-both b side Knight a x = knight-both x a
reaches-both b side Pawn a x = captures-both side a x

pub blocked-both : (men : List Man) (a x : ℕ) → is_blocked men a x ≡ is_blocked men x a
unfolding is_blocked
blocked-both men a x = list_any_same (λ m. strictly_between a m.at x) (λ m. strictly_between x m.at a) (λ m. between-both a m.at x) men

blocked_past-both : (men : List Man) (lifted a x : ℕ) → is_blocked_past men lifted a x ≡ is_blocked_past men lifted x a
unfolding is_blocked_past
blocked_past-both men lifted a x =
    list_any_same (λ m. not (m.at == lifted) && strictly_between a m.at x)
    (λ m. not (m.at == lifted) && strictly_between x m.at a) (λ m. rw (between-both a m.at x) refl) men

pub bears_past-both : (men : List Man) (lifted : ℕ) (m n : Man) → n.side ≡ other_side m.side → n.kind ≡ m.kind
    → bears_past men lifted n m.at ≡ bears_past men lifted m n.at
bears_past-both men lifted m n s k =
    rw (s, k, eqb-both n.at m.at, blocked_past-both men lifted n.at m.at, reaches-both (is_blocked_past men lifted m.at n.at) m.side m.kind m.at n.at) refl
