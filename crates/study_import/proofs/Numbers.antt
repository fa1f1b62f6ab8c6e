-- The numbers of moves.
use Rattle.std.proofs.Common.{◌≡◌, ℕ, ◌+◌, ◌%◌, ◌<◌, ◌≤◌, Bool, true, false, not, List, [], ◌∷◌, ◌++◌, length, Option, Some, None}
use Rattle.std.proofs.Common.{refl, sym, ap, subst, ◌∙◌, ◌⊎◌, inl, inr, arith}
use Rattle.std.specs.Prelude.{◌&&◌, ◌||◌, nat_le, decimal}
use Rattle.std.specs.List.{list_all}
use Rattle.std.specs.Char.{digit_value}
use Rattle.std.specs.Str.Parse.{AllDigits}
use Rattle.std.proofs.lemmas.Bool.{eqb-true, eqb-false, eq-eqb, ne_eqb, le-leb, lt-leb, lt-ltb, cases_lt, and_from}
use Rattle.std.proofs.lemmas.Bool.Decides.{nat_tests}
use Rattle.std.proofs.lemmas.Fmt.{decimal_is_IsNumeral, decimal_nonempty, length-decimal-le}
use Rattle.study_board.specs.declared.men.Side.{Side}
use Rattle.study_board.specs.declared.men.Side.TheVariants.{White, Black}
use Rattle.study_board.specs.Men.{other_side}
use Rattle.study_board.specs.Position.{Position}
use Rattle.study_moves.specs.declared.moves.Move.{Move}
use Rattle.study_moves.specs.Rules.{is_legal, after}
use Rattle.study_moves.proofs.NoMoveBetween.{HasMover-from_is_legal}
use Rattle.study_notation.specs.declared.start.Start.{Start}
use Rattle.study_notation.specs.Fen.{is_digit, digits_parsed}
use Rattle.study_notation.specs.StartAfter.{number_after, start_after}
use Rattle.study_pgn.specs.Moves.{move_dots}
use Rattle.study_games.specs.Bytes.{is_blank, begins_symbol}
use Rattle.study_reading.specs.declared.numbering.MoveNumber.{MoveNumber}
use Rattle.study_reading.specs.declared.numbering.Numbering.{Numbering}
use Rattle.study_games.proofs.Lexing.{no_ellipsis}
use Rattle.study_reading.specs.Numbering.{has_dot, has_dots, black_moves, is_black_to_move, numbers_fit, with_number, digits_numbered}
use Rattle.study_import.proofs.Blanks.{IsGap}

-- ---- digits

digit_from : (c : ℕ) → digit_value c < 10 → is_digit c ≡ true
digit_from c lt = grind (arith, nat_tests)

digits_from : (ds : List ℕ) → AllDigits 10 ds → list_all is_digit ds ≡ true
digits_from [] h = refl
digits_from (c ∷ ds) h = and_from (is_digit c) (list_all is_digit ds) (digit_from c h.0) (digits_from ds h.1)

reported_again : (n : ℕ) → n ≤ 99999 → digits_parsed 9 (decimal n) ≡ Some n
reported_again n le =
    let is = decimal_is_IsNumeral n (omega arith) in
    let long : nat_le 1 (length (decimal n)) ≡ true = le-leb 1 (length (decimal n)) (decimal_nonempty n (omega arith)) in
    let few = length-decimal-le 5 n (omega arith) (omega arith) (omega arith) in
    let short : nat_le (length (decimal n)) 9 ≡ true = le-leb (length (decimal n)) 9 (omega (arith, few)) in
    rw (long, short, digits_from (decimal n) is.0.1, is.1) refl

-- ---- Black's moves

abbrev pub is_black : Side → Bool
is_black White = false
is_black Black = true

parity : (d : ℕ) → (d % 2 ≡ 0) ⊎ (d % 2 ≡ 1)
parity d = elim (cases_lt (d % 2) 1) [ inl less ↦ inl (omega (arith, less)) | inr g ↦ inr (omega (arith, g)) ]

turn_by : (side turn : Side) (d : ℕ) → (d % 2 ≡ 0) ⊎ (d % 2 ≡ 1) → is_black_to_move side d ≡ is_black turn
    → is_black_to_move side (d + 1) ≡ is_black (other_side turn)
turn_by White White d (inl e) h = eq-eqb ((d + 1) % 2) 1 (omega (arith, e))
turn_by White White d (inr e) h = absurd (eqb-false (d % 2) 1 h e)
turn_by White Black d (inl e) h = absurd (omega (arith, e, eqb-true (d % 2) 1 h))
turn_by White Black d (inr e) h = ne_eqb ((d + 1) % 2) 1 (λ z. omega (arith, e, z))
turn_by Black White d (inl e) h = absurd (eqb-false (d % 2) 0 h e)
turn_by Black White d (inr e) h = eq-eqb ((d + 1) % 2) 0 (omega (arith, e))
turn_by Black Black d (inl e) h = ne_eqb ((d + 1) % 2) 0 (λ z. omega (arith, e, z))
turn_by Black Black d (inr e) h = absurd (omega (arith, e, eqb-true (d % 2) 0 h))

number_by : (side turn : Side) (d n m : ℕ) → (d % 2 ≡ 0) ⊎ (d % 2 ≡ 1) → is_black_to_move side d ≡ is_black turn → n ≡ m + black_moves side d → n < 65535
    → number_after turn n ≡ m + black_moves side (d + 1)
number_by White White d n m (inl e) h is lt = omega (arith, e, is)
number_by White White d n m (inr e) h is lt = absurd (eqb-false (d % 2) 1 h e)
number_by White Black d n m (inl e) h is lt = absurd (omega (arith, e, eqb-true (d % 2) 1 h))
number_by White Black d n m (inr e) h is lt = rw (lt-ltb n 65535 lt) (omega (arith, e, is))
number_by Black White d n m (inl e) h is lt = absurd (eqb-false (d % 2) 0 h e)
number_by Black White d n m (inr e) h is lt = omega (arith, e, is)
number_by Black Black d n m (inl e) h is lt = rw (lt-ltb n 65535 lt) (omega (arith, e, is))
number_by Black Black d n m (inr e) h is lt = absurd (omega (arith, e, eqb-true (d % 2) 0 h))

black_le : (side : Side) (d : ℕ) → black_moves side d ≤ d
black_le White d = omega arith
black_le Black d = omega arith

-- the start after d half moves from this start
pub record Counted (start : Start) (d : ℕ) (st : Start) : Type 0 where
  pub number : st.number ≡ start.number + black_moves start.position.to_move d
  pub turn : is_black_to_move start.position.to_move d ≡ is_black st.position.to_move
  pub few : start.number ≤ 9999

no_moves : (side : Side) → (black_moves side 0 ≡ 0) × (is_black_to_move side 0 ≡ is_black side)
no_moves White = (refl, refl)
no_moves Black = (refl, refl)

pub counted_start : (start : Start) → start.number ≤ 9999 → Counted start 0 start
counted_start start few =
    let none = no_moves start.position.to_move in
    let zeros = none.0 in
    record { number = omega (arith, zeros); turn = none.1; few = few }

other_after : (p : Position) (m : Move) → is_legal p m ≡ true → (after p m).to_move ≡ other_side p.to_move
unfolding after
other_after p m legal = let h = HasMover-from_is_legal p m legal in rw h.here refl

pub counted_on : (start : Start) (d : ℕ) (st : Start) (m : Move) → Counted start d st → is_legal st.position m ≡ true → d < 256
    → Counted start (d + 1) (start_after st m)
unfolding start_after
counted_on start d st m c legal lt =
    let side = start.position.to_move in
    let is = c.number in
    let few = c.few in
    let le = black_le side d in
    record {
      number = number_by side st.position.to_move d st.number start.number (parity d) c.turn is (omega (arith, is, few, le, lt));
      turn = turn_by side st.position.to_move d (parity d) c.turn ∙ ap is_black (sym (other_after st.position m legal));
      few = few;
    }

-- ---- dots

dot_is : (rest : List ℕ) → has_dot (46 ∷ rest) ≡ true
unfolding has_dot
dot_is rest = refl

one_dot : (rest : List ℕ) → has_dot rest ≡ false → has_dots (46 ∷ rest) ≡ false
unfolding has_dots
one_dot rest h = rw (no_ellipsis 46 rest (λ e. omega arith), h) refl

three_dots : (rest : List ℕ) → has_dots (46 ∷ 46 ∷ 46 ∷ rest) ≡ true
unfolding has_dots has_dot
three_dots rest = refl

has_move_dots : (turn : Side) (rest : List ℕ) → has_dot (move_dots turn ++ rest) ≡ true
has_move_dots White rest = dot_is rest
has_move_dots Black rest = dot_is (46 ∷ 46 ∷ rest)

dots_mark : (side turn : Side) (d : ℕ) (rest : List ℕ) → is_black_to_move side d ≡ is_black turn → has_dot rest ≡ false
    → (is_black_to_move side d || not (has_dots (move_dots turn ++ rest))) ≡ true
dots_mark side White d rest h dotless = rw (h, one_dot rest dotless) refl
dots_mark side Black d rest h dotless = rw h refl

inked : (c : ℕ) → 32 < c → is_blank c ≡ false
inked c low = rw (ne_eqb c 32 (λ e. omega arith), le-leb 9 c (omega arith), lt-leb c 13 (omega arith)) refl

not_dot : (c : ℕ) → begins_symbol c ≡ true → c ≡ 46 → ⊥
not_dot c begins e = let bad : begins_symbol 46 ≡ true = ap begins_symbol (sym e) ∙ begins in absurd cc

space_no_dot : (c : ℕ) (bs : List ℕ) → begins_symbol c ≡ true → 32 < c → c ≤ 126 → has_dot (32 ∷ c ∷ bs) ≡ false
unfolding has_dot
space_no_dot c bs begins low high = rw (inked c low, no_ellipsis c bs (λ e. omega arith), ne_eqb c 46 (not_dot c begins)) refl

feed_no_dot : (c : ℕ) (bs : List ℕ) → begins_symbol c ≡ true → 32 < c → c ≤ 126 → has_dot (10 ∷ c ∷ bs) ≡ false
unfolding has_dot
feed_no_dot c bs begins low high = rw (inked c low, no_ellipsis c bs (λ e. omega arith), ne_eqb c 46 (not_dot c begins)) refl

-- a gap and a symbol
pub no_dot : (b c : ℕ) (bs : List ℕ) → IsGap b → begins_symbol c ≡ true → 32 < c → c ≤ 126 → has_dot (b ∷ c ∷ bs) ≡ false
no_dot b c bs (inl e) begins low high = subst (λ (x : ℕ). has_dot (x ∷ c ∷ bs) ≡ false) (sym e) (space_no_dot c bs begins low high)
no_dot b c bs (inr e) begins low high = subst (λ (x : ℕ). has_dot (x ∷ c ∷ bs) ≡ false) (sym e) (feed_no_dot c bs begins low high)

-- ---- the written numbers

-- the first number of a game is that of its start and of Black's moves
abbrev IsOwn : Start → Option MoveNumber → Type 0
IsOwn start None = Unit {0}
IsOwn start (Some first) = first.number ≡ start.number + black_moves start.position.to_move first.depth

-- and no pairs are counted
abbrev pub IsFirst : Start → Numbering → Type 0
IsFirst start s = IsOwn start s.first × (s.pairs ≡ false)

abbrev pub Fits : Start → ℕ → Numbering → List ℕ → List ℕ → Type 0
Fits start d s digits rest = (next : Numbering) × (digits_numbered start.position.to_move d s digits rest ≡ Some next) × IsFirst start next

fit_again : (start : Start) (first n : MoveNumber) → first.number ≡ start.number + black_moves start.position.to_move first.depth
    → n.number ≡ start.number + black_moves start.position.to_move n.depth → numbers_fit start.position.to_move false first n ≡ true
fit_again start first n h k =
    let side = start.position.to_move in
    rw (eq-eqb (first.number + black_moves side n.depth) (n.number + black_moves side first.depth) (omega (arith, h, k))) refl

numbered_again : (start : Start) (o : Option MoveNumber) (dots : Bool) (n : MoveNumber) → IsOwn start o
    → n.number ≡ start.number + black_moves start.position.to_move n.depth → (is_black_to_move start.position.to_move n.depth || not dots) ≡ true
    → (is_black_to_move start.position.to_move n.depth && not dots) ≡ false
    → (next : Numbering) × (with_number start.position.to_move (record { first = o; pairs = false }) dots n ≡ Some next) × IsFirst start next
numbered_again start None dots n h k marked single = (record { first = Some n; pairs = false }, rw (marked, single) refl, (k, refl))
numbered_again start (Some first) dots n h k marked single =
    (record { first = Some first; pairs = false }, rw (marked, fit_again start first n h k) refl, (h, refl))

-- a move of Black is written with three dots
no_pairs : (side turn : Side) (d : ℕ) (rest : List ℕ) → is_black_to_move side d ≡ is_black turn → has_dot rest ≡ false
    → (is_black_to_move side d && not (has_dots (move_dots turn ++ rest))) ≡ false
no_pairs side White d rest h dotless = rw h refl
no_pairs side Black d rest h dotless = rw (h, three_dots rest) refl

pub number_fits : (start : Start) (d : ℕ) (st : Start) (s : Numbering) (rest : List ℕ) → Counted start d st → d < 256 → IsFirst start s
    → has_dot rest ≡ false
    → Fits start d s (decimal st.number) (move_dots st.position.to_move ++ rest)
unfolding digits_numbered
number_fits start d st s rest c lt first dotless =
    let side = start.position.to_move in
    let turn = st.position.to_move in
    let is = c.number in
    let few = c.few in
    let le = black_le side d in
    let a = numbered_again start s.first (has_dots (move_dots turn ++ rest)) (record { number = st.number; depth = d }) first.0 is
    (dots_mark side turn d rest c.turn dotless) (no_pairs side turn d rest c.turn dotless) in
    let same : s ≡ record { first = s.first; pairs = false } = ap (λ (b : Bool). record { first = s.first; pairs = b }) first.1 in (
      a.0,
      rw (has_move_dots turn rest, reported_again st.number (omega (arith, is, few, le, lt)))
          (ap (λ (x : Numbering). with_number side x (has_dots (move_dots turn ++ rest)) (record { number = st.number; depth = d })) same ∙ a.1),
      a.2,
    )
