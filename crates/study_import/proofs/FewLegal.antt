-- A position has at most 62 legal moves.
use Rattle.std.proofs.Common.{◌≡◌, ℕ, zero, suc, ◌+◌, ◌<◌, ◌≤◌, Bool, true, false, cond, eqb, List, [], ◌∷◌, ◌++◌, length, get_or, drop, Option, Some}
use Rattle.std.proofs.Common.{None, refl, sym, ap, ◌∙◌, subst, inl, inr, arith, add-zero}
use Rattle.std.specs.Prelude.{filter}
use Rattle.std.specs.List.{All, flat_map, range_with_len}
use Rattle.std.specs.Option.{option_map_or}
use Rattle.std.proofs.lemmas.Bool.{cases_Bool, false≢true, eqb-true, ne_eqb}
use Rattle.std.proofs.lemmas.List.{drop_more, drop_all}
use Rattle.study_board.specs.declared.men.Side.{Side}
use Rattle.study_board.specs.declared.men.Side.TheVariants.{White}
use Rattle.study_board.specs.declared.men.Kind.{Kind}
use Rattle.study_board.specs.declared.men.Kind.TheVariants.{King, Queen, Rook, Bishop, Knight}
use Rattle.study_board.specs.declared.men.Man.{Man}
use Rattle.study_board.specs.Men.{same_side}
use Rattle.study_board.specs.Position.{Position, IsValid, man_at}
use Rattle.study_moves.specs.declared.moves.Move.{Move}
use Rattle.study_moves.specs.Rules.{is_legal, is_promotion_choice, reaches_last_rank, reaches_target}
use Rattle.study_moves.specs.LegalList.{moves_between, moves_from, all_moves, legal_list}
use Rattle.study_moves.specs.MoveCount.{most_moves}
use Rattle.study_moves.proofs.NoMoveBetween.{IsMoveOf, HasMover-from_is_legal, IsMoveOf-at}
use Rattle.study_moves.proofs.MenOfList.{found_among, All-among}
use Rattle.study_moves.proofs.FewMoves.{moves_below, moves_below-most, moves_below-more, moves_below-next, most_of, most_of-mine, most_of-next, most_of-valid}

-- how many of a list pass
abbrev bit : Bool → ℕ
bit b = cond b 1 0

abbrev passing : {X : Type 0} → (X → Bool) → List X → ℕ
passing q [] = 0
passing q (x ∷ xs) = bit (q x) + passing q xs

length-filter : {X : Type 0} (q : X → Bool) (xs : List X) → length (filter q xs) ≡ passing q xs
length-filter q [] = refl
length-filter q (x ∷ xs) = elim (cases_Bool (q x)) [
  | inl hit ↦ rw hit (omega (arith, length-filter q xs))
  | inr miss ↦ rw miss (omega (arith, length-filter q xs))
]

passing-append : {X : Type 0} (q : X → Bool) (xs ys : List X) → passing q (xs ++ ys) ≡ passing q xs + passing q ys
passing-append q [] ys = omega arith
passing-append q (x ∷ xs) ys = omega (arith, passing-append q xs ys)

bit-le : (b c : Bool) → (b ≡ true → c ≡ true) → bit b ≤ bit c
bit-le false c h = omega arith
bit-le true c h = rw (h refl) (omega arith)

bit-none : (b : Bool) → (b ≡ true → ⊥) → bit b ≡ 0
bit-none false h = refl
bit-none true h = absurd (h refl)

sum_le : (a b c d : ℕ) → a ≤ c → b + c ≤ d → a + b ≤ d
sum_le a b c d h i = omega arith

none_le : (a b d : ℕ) → a ≡ 0 → b ≤ d → a + b ≤ d
none_le a b d h i = omega arith

zero_le : (a b : ℕ) → a ≡ 0 → a ≤ b
zero_le a b h = omega arith

within : (a b c d : ℕ) → a + b ≤ c → c ≤ d → a ≤ d
within a b c d h i = omega arith

-- ---- moves that pass a test

module _ (q : Move → Bool) where
  abbrev one : ℕ → ℕ → Option Kind → ℕ
  one a x k = bit (q (record { origin = a; target = x; promoted = k }))

  between_le : (a x b c d e f m : ℕ) → one a x None ≤ b → one a x (Some Queen) ≤ c → one a x (Some Rook) ≤ d → one a x (Some Bishop) ≤ e
      → one a x (Some Knight) ≤ f → b + (c + (d + (e + f))) ≤ m → passing q (moves_between a x) ≤ m
  between_le a x b c d e f m h i j k l n = omega arith

  between_none : (a x : ℕ) → ((k : Option Kind) → one a x k ≡ 0) → passing q (moves_between a x) ≡ 0
  between_none a x h = omega (arith, h None, h (Some Queen), h (Some Rook), h (Some Bishop), h (Some Knight))

  row_le : (a : ℕ) (f : ℕ → ℕ) → ((x : ℕ) → passing q (moves_between a x) + f x ≤ f (x + 1)) → (x n : ℕ)
      → passing q (flat_map (moves_between a) (range_with_len x n)) + f x ≤ f (x + n)
  row_le a f h x zero = rw (add-zero x) (omega arith)
  row_le a f h x (suc n) =
      let up : x + suc n ≡ x + 1 + n = omega arith in
      rw up
      (omega (arith, passing-append q (moves_between a x) (flat_map (moves_between a) (range_with_len (x + 1) n)), h x, row_le a f h (x + 1) n))

  row_none : (a : ℕ) → ((x : ℕ) → passing q (moves_between a x) ≡ 0) → (x n : ℕ)
      → passing q (flat_map (moves_between a) (range_with_len x n)) ≡ 0
  row_none a h x zero = refl
  row_none a h x (suc n) =
      omega (arith, passing-append q (moves_between a x) (flat_map (moves_between a) (range_with_len (x + 1) n)), h x, row_none a h (x + 1) n)

module _ (p : Position) (man : Man) (here : man_at p.men man.at ≡ Some man) where
  abbrev made : ℕ → Option Kind → Move
  made x q = record { origin = man.at; target = x; promoted = q }

  legal_is : (x : ℕ) (q : Option Kind) → is_legal p (made x q) ≡ true → IsMoveOf p man (made x q)
  legal_is x q e = IsMoveOf-at p man (made x q) here refl e

  chosen : (x : ℕ) (q : Option Kind) → bit (is_legal p (made x q)) ≤ bit (is_promotion_choice (reaches_last_rank man x) q)
  chosen x q = bit-le (is_legal p (made x q)) (is_promotion_choice (reaches_last_rank man x) q) (λ e. (legal_is x q e).choice)

  unreached : (x : ℕ) → reaches_target p.men p.passed man x ≡ false → (q : Option Kind) → bit (is_legal p (made x q)) ≡ 0
  unreached x none q = bit-none (is_legal p (made x q)) (λ e. false≢true (sym none ∙ (legal_is x q e).going))

  not_mine : (x : ℕ) → same_side man.side p.to_move ≡ false → (q : Option Kind) → bit (is_legal p (made x q)) ≡ 0
  not_mine x none q = bit-none (is_legal p (made x q)) (λ e. false≢true (sym none ∙ (legal_is x q e).mine))

  by_choice : (last : Bool) → bit (is_promotion_choice last None) + (bit (is_promotion_choice last (Some Queen)) + (bit (is_promotion_choice last (Some Rook))
      + (bit (is_promotion_choice last (Some Bishop)) + bit (is_promotion_choice last (Some Knight))))) ≤ cond last 4 1
  by_choice true = omega arith
  by_choice false = omega arith

  square_few : (x : ℕ) → passing (is_legal p) (moves_between man.at x) ≤ cond (reaches_last_rank man x) 4 1
  square_few x =
      between_le (is_legal p) man.at x _ _ _ _ _ _ (chosen x None) (chosen x (Some Queen)) (chosen x (Some Rook)) (chosen x (Some Bishop))
      (chosen x (Some Knight))
      (by_choice (reaches_last_rank man x))

  square_more : (x : ℕ) → passing (is_legal p) (moves_between man.at x) + moves_below man.side man.kind man.at x ≤ moves_below man.side man.kind man.at (x + 1)
  square_more x = elim (cases_Bool (reaches_target p.men p.passed man x)) [
    | inl going ↦ sum_le _ _ _ _ (square_few x) (moves_below-next p.men p.passed man x x (omega arith) going)
    | inr none ↦ none_le _ _ _ (between_none (is_legal p) man.at x (unreached x none)) (moves_below-more man.side man.kind man.at x (x + 1) (omega arith))
  ]

  man_few : man.at < 64 → passing (is_legal p) (moves_from man.at) ≤ most_moves man.kind
  man_few on =
      within _ _ _ _ (row_le (is_legal p) man.at (moves_below man.side man.kind man.at) square_more 0 64) (moves_below-most man.side man.kind man.at on)

  man_other : same_side man.side p.to_move ≡ false → passing (is_legal p) (moves_from man.at) ≡ 0
  man_other e = row_none (is_legal p) man.at (λ x. between_none (is_legal p) man.at x (not_mine x e)) 0 64

-- ---- all squares

abbrev pub mass : Side → Man → ℕ
mass side m = cond (same_side m.side side) (most_moves m.kind) 0

abbrev pub masses : Side → List Man → ℕ
masses side [] = 0
masses side (m ∷ men) = mass side m + masses side men

abbrev weight : Side → List Man → ℕ → ℕ
weight side men a = option_map_or (mass side) (man_at men a) 0

abbrev weights : Side → List Man → ℕ → ℕ → ℕ
weights side men a zero = 0
weights side men a (suc n) = weight side men a + weights side men (a + 1) n

weights-none : (side : Side) (a n : ℕ) → weights side [] a n ≡ 0
weights-none side a zero = refl
weights-none side a (suc n) = omega (arith, weights-none side (a + 1) n)

weights-skip : (side : Side) (m : Man) (men : List Man) (a n : ℕ) → m.at < a → weights side (m ∷ men) a n ≡ weights side men a n
weights-skip side m men a zero lt = refl
weights-skip side m men a (suc n) lt =
    let miss : eqb m.at a ≡ false = ne_eqb m.at a (λ e. omega arith) in
    let up : m.at < a + 1 = omega arith in
    rw miss (omega (arith, weights-skip side m men (a + 1) n up))

weights-cons : (side : Side) (m : Man) (men : List Man) (a n : ℕ) → weights side (m ∷ men) a n ≤ mass side m + weights side men a n
weights-cons side m men a zero = omega arith
weights-cons side m men a (suc n) = elim (cases_Bool (eqb m.at a)) [
  | inl hit ↦
      let here = eqb-true m.at a hit in
      let up : m.at < a + 1 = omega arith in
      rw hit (omega (arith, weights-skip side m men (a + 1) n up))
  | inr miss ↦ rw miss (omega (arith, weights-cons side m men (a + 1) n))
]

weights-le : (side : Side) (men : List Man) (a n : ℕ) → weights side men a n ≤ masses side men
weights-le side [] a n = omega (arith, weights-none side a n)
weights-le side (m ∷ men) a n = omega (arith, weights-cons side m men a n, weights-le side men a n)

module _ (q : Move → Bool) (side : Side) (men : List Man) (few : (a : ℕ) → passing q (moves_from a) ≤ weight side men a) where
  squares_le : (a n : ℕ) → passing q (flat_map moves_from (range_with_len a n)) ≤ weights side men a n
  squares_le a zero = omega arith
  squares_le a (suc n) = omega (arith, passing-append q (moves_from a) (flat_map moves_from (range_with_len (a + 1) n)), few a, squares_le (a + 1) n)

any_man : Man
any_man = record { side = White; kind = King; at = 0 }

masses-le : (side : Side) (men : List Man) (n i : ℕ) → i + n ≡ length men → masses side (drop i men) ≤ most_of side (drop i men)
masses-le side men zero i e = rw (drop_all i men (omega arith)) (omega arith)
masses-le side men (suc n) i e =
    let lt : i < length men = omega arith in
    let next = masses-le side men n (i + 1) (omega arith) in
    let cut = drop_more men i any_man lt in
    elim (cases_Bool (same_side (get_or men i any_man).side side)) [
      | inl mine ↦
          let w : mass side (get_or men i any_man) ≡ most_moves (get_or men i any_man).kind = rw mine refl in
          let g = most_of-mine side men i any_man (get_or men i any_man) lt refl mine in
          let whole : masses side (drop i men) ≡ mass side (get_or men i any_man) + masses side (drop (i + 1) men) = ap (masses side) cut in
          omega (arith, w, g, whole, next)
      | inr other ↦
          let w : mass side (get_or men i any_man) ≡ 0 = rw other refl in
          let g = most_of-next side men i any_man lt in
          let whole : masses side (drop i men) ≡ mass side (get_or men i any_man) + masses side (drop (i + 1) men) = ap (masses side) cut in
          omega (arith, w, g, whole, next)
    ]

three : (a b c d : ℕ) → a ≡ b → b ≤ c → c ≤ d → a ≤ d
three a b c d h i j = omega arith

-- on a board, whatever else holds: as many as the men of the side to move can have at most
module _ (p : Position) (on_board : All (λ m. m.at < 64) p.men) where
  no_man : (a x : ℕ) (q : Option Kind) → man_at p.men a ≡ None → bit (is_legal p (record { origin = a; target = x; promoted = q })) ≡ 0
  no_man a x q none =
      bit-none (is_legal p (record { origin = a; target = x; promoted = q }))
      (λ e. let h = HasMover-from_is_legal p (record { origin = a; target = x; promoted = q }) e in
      let both : None ≡ Some h.man = sym none ∙ h.here in absurd cc)

  none_from : (a : ℕ) → man_at p.men a ≡ None → passing (is_legal p) (moves_from a) ≡ 0
  none_from a e = row_none (is_legal p) a (λ x. between_none (is_legal p) a x (λ q. no_man a x q e)) 0 64

  some_from : (a : ℕ) (man : Man) → man_at p.men a ≡ Some man → passing (is_legal p) (moves_from a) ≤ mass p.to_move man
  some_from a man e =
      let f = found_among p.men a man e in
      let on : man.at < 64 = All-among (λ m. m.at < 64) p.men man on_board f.0 in
      let here : man_at p.men man.at ≡ Some man = subst (λ (x : ℕ). man_at p.men x ≡ Some man) (sym f.1) e in
      subst (λ (x : ℕ). passing (is_legal p) (moves_from x) ≤ mass p.to_move man) f.1
      (elim (cases_Bool (same_side man.side p.to_move)) [
        | inl mine ↦ rw mine (man_few p man here on)
        | inr other ↦ zero_le _ _ (man_other p man here other)
      ])

  square_from : (a : ℕ) (o : Option Man) → man_at p.men a ≡ o → passing (is_legal p) (moves_from a) ≤ option_map_or (mass p.to_move) o 0
  square_from a None e = zero_le _ _ (none_from a e)
  square_from a (Some man) e = some_from a man e

  all_from : (a n : ℕ) → passing (is_legal p) (flat_map moves_from (range_with_len a n)) ≤ weights p.to_move p.men a n
  all_from = squares_le (is_legal p) p.to_move p.men (λ a. square_from a (man_at p.men a) refl)

  all_few : passing (is_legal p) all_moves ≤ weights p.to_move p.men 0 64
  unfolding all_moves
  all_few = all_from 0 64

  pub legal_few : length (legal_list p) ≤ masses p.to_move p.men
  unfolding legal_list
  legal_few =
      three (length (filter (is_legal p) all_moves)) (passing (is_legal p) all_moves) (weights p.to_move p.men 0 64) (masses p.to_move p.men)
      (length-filter (is_legal p) all_moves) all_few (weights-le p.to_move p.men 0 64)

chained : (a b c : ℕ) → a ≤ b → b ≤ c → c ≤ 62 → a ≤ 62
chained a b c h i j = omega arith

pub few_legal : (p : Position) → IsValid p → length (legal_list p) ≤ 62
few_legal p valid =
    chained (length (legal_list p)) (masses p.to_move p.men) (most_of p.to_move p.men) (legal_few p valid.on_board)
    (masses-le p.to_move p.men (length p.men) 0 (omega arith)) (most_of-valid p valid)
