-- Written fields are read back, with any number of men.
use Rattle.std.proofs.Common.{◌≡◌, ℕ, zero, suc, ◌+◌, ◌*◌, ◌-◌, ◌/◌, ◌%◌, ◌<◌, ◌≤◌, Bool, true, false, ◌&&◌, eqb}
use Rattle.std.proofs.Common.{leb, List, [], ◌∷◌, ◌++◌, length, map, reverse, replicate, Option, Some, None}
use Rattle.std.proofs.Common.{refl, sym, ap, subst, ◌∙◌, inl, inr, arith, length-append, append_assoc}
use Rattle.std.specs.Prelude.{IfSome, decimal}
use Rattle.std.proofs.lemmas.List.{append-nil, replicate_more}
use Rattle.std.proofs.lemmas.Bool.{and_parts, ne_eqb, eq-eqb, eqb-true, eqb-false, le-leb, and_from, cases_Bool}
use Rattle.std.proofs.lemmas.Bool.Decides.{nat_tests}
use Rattle.std.proofs.lemmas.List.Folds.{list_all-append}
use Rattle.std.proofs.lemmas.List.Concat.{flat_map-append}
use Rattle.std.proofs.lemmas.Fmt.{decimal_is_IsNumeral, decimal_nonempty, length-decimal-le}
use Rattle.std.specs.List.{slice_split, onto_first, list_all, flat_map, filter, join_with_byte}
use Rattle.std.specs.Char.{digit_value}
use Rattle.std.specs.Str.Parse.{AllDigits}
use Rattle.study_board.specs.declared.men.Side.{Side}
use Rattle.study_board.specs.declared.men.Side.TheVariants.{White, Black}
use Rattle.study_board.specs.declared.men.Kind.{Kind}
use Rattle.study_board.specs.declared.men.Kind.TheVariants.{King, Queen, Rook, Bishop, Knight, Pawn}
use Rattle.study_notation.specs.declared.placement.Piece.{Piece}
use Rattle.study_board.specs.declared.men.Man.{Man}
use Rattle.study_notation.specs.Fen.{is_run, is_placement_byte, is_rank}
use Rattle.study_notation.specs.Fen.{is_digit, squares, squares_of, men_from, placement}
use Rattle.study_notation.specs.Fen.{side_of, passed_of, count_of}
use Rattle.study_notation.specs.FenSpelling.{man_letter, piece_on, row, run, squares_text, rank_field, ranks_text, placement_text, side_text, passed_text}
use Rattle.std.specs.List.{All}
use Rattle.std.proofs.lemmas.List.Elements.{All-head, All-tail}
use Rattle.study_board.specs.Position.{AllAbove, IsAscending, could_be_passed, passed_possible}
use Rattle.study_text.specs.Words.{is_space, words}
use Rattle.study_text.proofs.FirstWord.{is_word, words_cons}
use Rattle.study_notation.proofs.PlacementParts.{is_stroke}

-- ---- cutting a text at a byte

abbrev pub Lacks : (ℕ → Bool) → List ℕ → Type 0
Lacks p [] = Unit {0}
Lacks p (b ∷ bs) = (p b ≡ false) × Lacks p bs

split_on : (p : ℕ → Bool) (raw ys part : List ℕ) (parts : List (List ℕ)) → Lacks p raw
    → slice_split p ys ≡ part ∷ parts → slice_split p (raw ++ ys) ≡ (raw ++ part) ∷ parts
split_on p [] ys part parts h e = e
split_on p (x ∷ raw) ys part parts h e = rw h.0 (ap (onto_first x) (split_on p raw ys part parts h.1 e))

split_whole : (p : ℕ → Bool) (raw : List ℕ) → Lacks p raw → slice_split p raw ≡ raw ∷ []
split_whole p raw h = ap (slice_split p) (sym (append-nil raw)) ∙ split_on p raw [] [] [] h refl ∙ ap (λ (r : List ℕ). r ∷ []) (append-nil raw)

split_cut : (p : ℕ → Bool) (raw : List ℕ) (c : ℕ) (ys : List ℕ) → Lacks p raw → p c ≡ true → slice_split p (raw ++ (c ∷ ys)) ≡ raw ∷ slice_split p ys
split_cut p raw c ys h at = split_on p raw (c ∷ ys) [] (slice_split p ys) h (rw at refl) ∙ ap (λ (r : List ℕ). r ∷ slice_split p ys) (append-nil raw)

abbrev pub Above : ℕ → List ℕ → Type 0
Above n [] = Unit {0}
Above n (b ∷ bs) = (n < b) × Above n bs

Above-append : (n : ℕ) (xs ys : List ℕ) → Above n xs → Above n ys → Above n (xs ++ ys)
Above-append n [] ys h k = k
Above-append n (x ∷ xs) ys h k = (h.0, Above-append n xs ys h.1 k)

Above-weaker : (m n : ℕ) (xs : List ℕ) → m ≤ n → Above n xs → Above m xs
Above-weaker m n [] le h = tt
Above-weaker m n (x ∷ xs) le h = let lt = h.0 in (omega arith, Above-weaker m n xs le h.1)

Lacks-above : (n : ℕ) (xs : List ℕ) → Above n xs → Lacks (λ b. eqb b n) xs
Lacks-above n [] h = tt
Lacks-above n (x ∷ xs) h = let lt = h.0 in (ne_eqb x n (λ e. omega arith), Lacks-above n xs h.1)

-- ---- the text of a rank

letter-above : (s : Side) (k : Kind) → 47 < man_letter s k
letter-above White King = omega arith
letter-above White Queen = omega arith
letter-above White Rook = omega arith
letter-above White Bishop = omega arith
letter-above White Knight = omega arith
letter-above White Pawn = omega arith
letter-above Black King = omega arith
letter-above Black Queen = omega arith
letter-above Black Rook = omega arith
letter-above Black Bishop = omega arith
letter-above Black Knight = omega arith
letter-above Black Pawn = omega arith

letter_again : (s : Side) (k : Kind) → (squares_of (man_letter s k) ≡ Some (record { side = s; kind = k }) ∷ []) × (is_placement_byte (man_letter s k) ≡ true)
unfolding squares_of
letter_again White King = (refl, refl)
letter_again White Queen = (refl, refl)
letter_again White Rook = (refl, refl)
letter_again White Bishop = (refl, refl)
letter_again White Knight = (refl, refl)
letter_again White Pawn = (refl, refl)
letter_again Black King = (refl, refl)
letter_again Black Queen = (refl, refl)
letter_again Black Rook = (refl, refl)
letter_again Black Bishop = (refl, refl)
letter_again Black Knight = (refl, refl)
letter_again Black Pawn = (refl, refl)

digit_run : (n : ℕ) → (n ≡ 0 → ⊥) → n ≤ 8 → is_run (48 + n) ≡ true
digit_run n ne le = and_from (leb 49 (48 + n)) (leb (48 + n) 56) (le-leb 49 (48 + n) (omega arith)) (le-leb (48 + n) 56 (omega arith))

run-above : (n : ℕ) → Above 47 (run n)
run-above n = elim (cases_Bool (eqb n 0)) [ inl hit ↦ rw hit tt | inr miss ↦ rw miss (omega arith, tt) ]

squares-run : (n : ℕ) → n ≤ 8 → squares (run n) ≡ replicate n None
unfolding squares_of
squares-run n le =
    elim (cases_Bool (eqb n 0)) [
      | inl hit ↦ rw hit (ap (λ k. replicate k None) (sym (eqb-true n 0 hit)))
      | inr miss ↦
          let e : 48 + n - 48 ≡ n = omega arith in
          rw (miss, digit_run n (eqb-false n 0 miss) le, e) (append-nil (replicate n None))
    ]

known-run : (n : ℕ) → n ≤ 8 → list_all is_placement_byte (run n) ≡ true
known-run n le =
    elim (cases_Bool (eqb n 0)) [
      | inl hit ↦ rw hit refl
      | inr miss ↦ rw (miss, digit_run n (eqb-false n 0 miss) le) refl
    ]

squares_text-above : (n : ℕ) (cells : List (Option Piece)) → Above 47 (squares_text n cells)
squares_text-above n [] = run-above n
squares_text-above n (None ∷ cells) = squares_text-above (n + 1) cells
squares_text-above n (Some p ∷ cells) =
    Above-append 47 (run n) (man_letter p.side p.kind ∷ squares_text 0 cells) (run-above n)
    (letter-above p.side p.kind, squares_text-above 0 cells)

squares-squares_text : (n : ℕ) (cells : List (Option Piece)) → n + length cells ≤ 8 → squares (squares_text n cells) ≡ replicate n None ++ cells
squares-squares_text n [] le = squares-run n (omega arith) ∙ sym (append-nil (replicate n None))
squares-squares_text n (None ∷ cells) le =
    squares-squares_text (n + 1) cells (omega arith) ∙ ap (λ (xs : List (Option Piece)). xs ++ cells)
    (sym (replicate_more n None)) ∙ append_assoc (replicate n None) (None ∷ []) cells
squares-squares_text n (Some p ∷ cells) le =
    let l = man_letter p.side p.kind in
    flat_map-append squares_of (run n) (l ∷ squares_text 0 cells)
    ∙ ap (λ (xs : List (Option Piece)). xs ++ squares (l ∷ squares_text 0 cells)) (squares-run n (omega arith))
    ∙ ap (λ (xs : List (Option Piece)). replicate n None ++ (xs ++ squares (squares_text 0 cells))) ((letter_again p.side p.kind).0)
    ∙ ap (λ (xs : List (Option Piece)). replicate n None ++ (Some p ∷ xs)) (squares-squares_text 0 cells (omega arith))

known-squares_text : (n : ℕ) (cells : List (Option Piece)) → n + length cells ≤ 8 → list_all is_placement_byte (squares_text n cells) ≡ true
known-squares_text n [] le = known-run n (omega arith)
known-squares_text n (None ∷ cells) le = known-squares_text (n + 1) cells (omega arith)
known-squares_text n (Some p ∷ cells) le =
    let l = man_letter p.side p.kind in
    list_all-append is_placement_byte (run n) (l ∷ squares_text 0 cells) ∙ and_from (list_all is_placement_byte (run n))
    (is_placement_byte l && list_all is_placement_byte (squares_text 0 cells)) (known-run n (omega arith))
    (and_from (is_placement_byte l) (list_all is_placement_byte (squares_text 0 cells)) ((letter_again p.side p.kind).1)
    (known-squares_text 0 cells (omega arith)))

rank_squares : (men : List Man) (rank : ℕ) → squares (rank_field men rank) ≡ row men (8 * rank) 8
unfolding rank_field
rank_squares men rank = squares-squares_text 0 (row men (8 * rank) 8) (omega arith)

rank_is : (men : List Man) (rank : ℕ) → is_rank (rank_field men rank) ≡ true
unfolding is_rank rank_field
rank_is men rank = and_from (list_all is_placement_byte (rank_field men rank)) (eqb (length (squares (rank_field men rank))) 8)
    (known-squares_text 0 (row men (8 * rank) 8) (omega arith))
    (eq-eqb (length (squares (rank_field men rank))) 8 (ap length (rank_squares men rank)))

rank_above : (men : List Man) (rank : ℕ) → Above 47 (rank_field men rank)
unfolding rank_field
rank_above men rank = squares_text-above 0 (row men (8 * rank) 8)

-- ---- the placement

abbrev pub parts : List Man → ℕ → List (List ℕ)
parts men zero = rank_field men 0 ∷ []
parts men (suc k) = rank_field men (suc k) ∷ parts men k

ranks_split : (men : List Man) (k : ℕ) → slice_split is_stroke (ranks_text men k) ≡ parts men k
unfolding ranks_text
ranks_split men zero = split_whole is_stroke (rank_field men 0) (Lacks-above 47 (rank_field men 0) (rank_above men 0))
ranks_split men (suc k) =
    split_cut is_stroke (rank_field men (suc k)) 47 (ranks_text men k)
    (Lacks-above 47 (rank_field men (suc k)) (rank_above men (suc k))) refl
    ∙ ap (λ (ps : List (List ℕ)). rank_field men (suc k) ∷ ps) (ranks_split men k)

ranks_above : (men : List Man) (k : ℕ) → Above 32 (ranks_text men k)
unfolding ranks_text
ranks_above men zero = Above-weaker 32 47 (rank_field men 0) (omega arith) (rank_above men 0)
ranks_above men (suc k) =
    Above-append 32 (rank_field men (suc k)) (47 ∷ ranks_text men k)
    (Above-weaker 32 47 (rank_field men (suc k)) (omega arith) (rank_above men (suc k)))
    (omega arith, ranks_above men k)

all_ranks : (men : List Man) (k : ℕ) → list_all is_rank (parts men k) ≡ true
all_ranks men zero = rw (rank_is men 0) refl
all_ranks men (suc k) = and_from (is_rank (rank_field men (suc k))) (list_all is_rank (parts men k)) (rank_is men (suc k)) (all_ranks men k)

rows_of : (men : List Man) (rs : List ℕ) → flat_map squares (map (rank_field men) rs) ≡ flat_map (λ r. row men (8 * r) 8) rs
rows_of men [] = refl
rows_of men (r ∷ rs) = ap (λ (xs : List (Option Piece)). xs ++ flat_map squares (map (rank_field men) rs))
    (rank_squares men r) ∙ ap (λ (xs : List (Option Piece)). row men (8 * r) 8 ++ xs) (rows_of men rs)

all_rows : (men : List Man) → flat_map squares (reverse (parts men 7)) ≡ row men 0 64
all_rows men = rows_of men (0 ∷ 1 ∷ 2 ∷ 3 ∷ 4 ∷ 5 ∷ 6 ∷ 7 ∷ [])

-- ---- the men

-- on ascending squares, from one on and below another
abbrev pub Ascending : ℕ → ℕ → List Man → Type 0
Ascending from end [] = Unit {0}
Ascending from end (m ∷ men) = (from ≤ m.at) × (m.at < end) × Ascending (m.at + 1) end men

piece_none : (men : List Man) (at from end : ℕ) → Ascending from end men → at < from → piece_on men at ≡ None
piece_none [] at from end h lt = refl
piece_none (m ∷ men) at from end h lt =
    let le = h.0 in
    rw (ne_eqb m.at at (λ e. omega arith)) (piece_none men at (m.at + 1) end h.2 (omega arith))

row_skip : (m : Man) (men : List Man) (at n : ℕ) → m.at < at → row (m ∷ men) at n ≡ row men at n
row_skip m men at zero lt = refl
row_skip m men at (suc n) lt =
    rw (ne_eqb m.at at (λ e. omega arith))
    (ap (λ (xs : List (Option Piece)). piece_on men at ∷ xs) (row_skip m men (at + 1) n (omega arith)))

men_again : (n at : ℕ) (men : List Man) → Ascending at (at + n) men → men_from at (row men at n) ≡ men
men_again zero at [] h = refl
men_again zero at (m ∷ men) h = let low = h.0 in let high = h.1 in absurd (omega arith)
men_again (suc n) at [] h = men_again n (at + 1) [] tt
men_again (suc n) at (m ∷ men) h =
    let low = h.0 in
    let high = h.1 in
    let end : at + suc n ≡ at + 1 + n = omega arith in
    elim (cases_Bool (eqb m.at at)) [
      | inl hit ↦
          let here = eqb-true m.at at hit in
          let others : Ascending (at + 1) (at + 1 + n) men =
          subst (λ k. Ascending (k + 1) (at + 1 + n) men) here
          (subst (λ e. Ascending (m.at + 1) e men) end h.2) in
          rw hit
          (ap (λ (cells : List (Option Piece)). record { side = m.side; kind = m.kind; at = at } ∷ men_from
          (at + 1) cells) (row_skip m men (at + 1) n (omega arith))
          ∙ ap (λ (ms : List Man). record { side = m.side; kind = m.kind; at = at } ∷ ms)
          (men_again n (at + 1) men others) ∙ ap (λ k. record { side = m.side; kind = m.kind; at = k } ∷ men)
          (sym here))
      | inr miss ↦
          let ne = eqb-false m.at at miss in
          let above : at + 1 ≤ m.at = omega arith in
          let rest : Ascending (at + 1) (at + 1 + n) (m ∷ men) = subst (λ e. Ascending (at + 1) e (m ∷ men)) end (above, high, h.2) in
          rw (miss, piece_none men at (m.at + 1) (at + suc n) h.2 (omega arith)) (men_again n (at + 1) (m ∷ men) rest)
    ]

pub placement_again : (men : List Man) → Ascending 0 64 men → placement (placement_text men) ≡ Some men
unfolding placement placement_text
placement_again men h =
    rw (ranks_split men 7, all_ranks men 7, all_rows men) (ap (λ (ms : List Man). Some ms) (men_again 64 0 men h))

-- ---- the other fields

pub side_again : (s : Side) → side_of (side_text s) ≡ Some s
side_again White = refl
side_again Black = refl

pub passed_again : (p : Option ℕ) → IfSome p (λ at. at < 64) → passed_of (passed_text p) ≡ Some p
passed_again None h = refl
passed_again (Some at) h =
    let f : (leb 97 (97 + at % 8) && leb (97 + at % 8) 104) ≡ true =
    and_from _ _ (le-leb 97 (97 + at % 8) (omega arith)) (le-leb (97 + at % 8) 104 (omega arith)) in
    let r : (leb 49 (49 + at / 8) && leb (49 + at / 8) 56) ≡ true =
    and_from _ _ (le-leb 49 (49 + at / 8) (omega arith)) (le-leb (49 + at / 8) 56 (omega arith)) in
    let e : 8 * (49 + at / 8 - 49) + (97 + at % 8 - 97) ≡ at = omega arith in
    rw (f, r, e) refl

digit_from : (c : ℕ) → digit_value c < 10 → is_digit c ≡ true
digit_from c lt = grind (arith, nat_tests)

digits_from : (ds : List ℕ) → AllDigits 10 ds → list_all is_digit ds ≡ true
digits_from [] h = refl
digits_from (c ∷ ds) h = and_from (is_digit c) (list_all is_digit ds) (digit_from c h.0) (digits_from ds h.1)

pub count_again : (n : ℕ) → n ≤ 9999 → count_of (decimal n) ≡ Some n
unfolding count_of
count_again n le =
    let is = decimal_is_IsNumeral n (omega arith) in
    let long : leb 1 (length (decimal n)) ≡ true = le-leb 1 (length (decimal n)) (decimal_nonempty n (omega arith)) in
    let short : leb (length (decimal n)) 4 ≡ true = le-leb (length (decimal n)) 4 (length-decimal-le 4 n (omega arith) (omega arith) (omega arith)) in
    rw (long, short, digits_from (decimal n) is.0.1, is.1) refl

digit_above : (c : ℕ) → digit_value c < 10 → 32 < c
digit_above c lt = grind (arith, nat_tests)

digits_above : (ds : List ℕ) → AllDigits 10 ds → Above 32 ds
digits_above [] h = tt
digits_above (c ∷ ds) h = (digit_above c h.0, digits_above ds h.1)

-- ---- all of it

abbrev pub AllWords : List (List ℕ) → Type 0
AllWords [] = Unit {0}
AllWords (w ∷ ws) = Above 32 w × (0 < length w) × AllWords ws

words_joined : (w : List ℕ) (ws : List (List ℕ)) → AllWords (w ∷ ws) → slice_split is_space (join_with_byte 32 (w ∷ ws)) ≡ w ∷ ws
words_joined w [] h = split_whole is_space w (Lacks-above 32 w h.0)
words_joined w (v ∷ ws) h = split_cut is_space w 32 (join_with_byte 32 (v ∷ ws)) (Lacks-above 32 w h.0) refl
    ∙ ap (λ (xs : List (List ℕ)). w ∷ xs) (words_joined v ws h.2)

words_kept : (ws : List (List ℕ)) → AllWords ws → filter is_word ws ≡ ws
words_kept [] h = refl
words_kept (w ∷ ws) h = words_cons w ws h.1 ∙ ap (λ (xs : List (List ℕ)). w ∷ xs) (words_kept ws h.2)

pub words_again : (w : List ℕ) (ws : List (List ℕ)) → AllWords (w ∷ ws) → words (join_with_byte 32 (w ∷ ws)) ≡ w ∷ ws
unfolding words
words_again w ws h = ap (filter is_word) (words_joined w ws h) ∙ words_kept (w ∷ ws) h

pub side_word : (s : Side) → Above 32 (side_text s) × (0 < length (side_text s))
side_word White = ((omega arith, tt), omega arith)
side_word Black = ((omega arith, tt), omega arith)

pub passed_word : (p : Option ℕ) → Above 32 (passed_text p) × (0 < length (passed_text p))
passed_word None = ((omega arith, tt), omega arith)
passed_word (Some at) = ((omega arith, (omega arith, tt)), omega arith)

pub count_word : (n : ℕ) → n ≤ 9999 → Above 32 (decimal n) × (0 < length (decimal n))
count_word n le = let is = decimal_is_IsNumeral n (omega arith) in (digits_above (decimal n) is.0.1, decimal_nonempty n (omega arith))

rank_long : (men : List Man) (rank : ℕ) → 0 < length (rank_field men rank)
rank_long men rank = elim (rank_field men rank) as (λ (t : List ℕ). squares t ≡ row men (8 * rank) 8 → 0 < length t)
    [ [] ↦ λ e. absurd cc | b ∷ bs ↦ λ e. omega arith ] (rank_squares men rank)

ranks_long : (men : List Man) (k : ℕ) → 0 < length (ranks_text men k)
unfolding ranks_text
ranks_long men zero = rank_long men 0
ranks_long men (suc k) = omega (arith, length-append (rank_field men (suc k)) (47 ∷ ranks_text men k))

pub placement_word : (men : List Man) → Above 32 (placement_text men) × (0 < length (placement_text men))
unfolding placement_text
placement_word men = (ranks_above men 7, ranks_long men 7)

-- ---- the position

Ascending-above : (n : ℕ) (men : List Man) → AllAbove n men → IsAscending men → All (λ m. m.at < 64) men → Ascending (n + 1) 64 men
Ascending-above n [] above h all = tt
Ascending-above n (m ∷ men) above h all =
    let lt = above.0 in
    (omega arith, All-head (λ x. x.at < 64) m men all, Ascending-above m.at men h.0 h.1 (All-tail (λ x. x.at < 64) m men all))

pub Ascending-valid : (men : List Man) → IsAscending men → All (λ m. m.at < 64) men → Ascending 0 64 men
Ascending-valid [] h all = tt
Ascending-valid (m ∷ men) h all = (omega arith, All-head (λ x. x.at < 64) m men all, Ascending-above m.at men h.0 h.1 (All-tail (λ x. x.at < 64) m men all))

pub passed_in : (men : List Man) (s : Side) (q : Option ℕ) → passed_possible men s q ≡ true → IfSome q (λ at. at < 64)
unfolding could_be_passed
passed_in men s None e = tt
passed_in men White (Some x) e =
    let rank = eqb-true (x / 8) 5 ((and_parts _ _ ((and_parts _ _ ((and_parts _ _ e).0)).0)).0) in
    omega arith
passed_in men Black (Some x) e =
    let rank = eqb-true (x / 8) 2 ((and_parts _ _ ((and_parts _ _ ((and_parts _ _ e).0)).0)).0) in
    omega arith
