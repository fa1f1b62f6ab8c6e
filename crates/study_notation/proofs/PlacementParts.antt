-- Parts of a placement.
use Rattle.std.proofs.Common.{◌≡◌, ℕ, zero, suc, ◌+◌, ◌*◌, ◌-◌, ◌<◌, ◌≤◌, Bool, true, false, cond, ◌&&◌, eqb, List}
use Rattle.std.proofs.Common.{[], ◌∷◌, ◌++◌, length, get_or, take, drop, reverse, replicate, Option, Some, None}
use Rattle.std.proofs.Common.{refl, sym, ap, ◌∙◌, inl, inr, arith, length-append, append_assoc, add-zero}
use Rattle.std.specs.List.{slice_split, onto_first, list_all, flat_map}
use Rattle.std.proofs.lemmas.Bool.{ne_eqb, eqb-true, and_right, and_from, and_parts, cases_Bool}
use Rattle.std.proofs.lemmas.List.{take_more, drop_more, take_all, reverse-append, take-append-drop, append-nil}
use Rattle.std.proofs.lemmas.List.Folds.{list_all_at, list_all_more, list_all-append}
use Rattle.std.proofs.lemmas.List.Concat.{flat_map-append}
use Rattle.std.proofs.lemmas.List.Splits.{length-slice_split}
use Rattle.study_notation.specs.declared.placement.Piece.{Piece}
use Rattle.study_board.specs.declared.men.Man.{Man}
use Rattle.study_notation.specs.Fen.{is_run, is_placement_byte, is_rank, placement, squares, squares_of, men_from}

abbrev pub is_stroke : ℕ → Bool
is_stroke b = eqb b 47

pub rank_bad : (part : List ℕ) (i : ℕ) → i < length part → is_placement_byte (get_or part i 0) ≡ false → is_rank part ≡ false
unfolding is_rank
rank_bad part i lt bad = rw (list_all_at is_placement_byte part i 0 lt bad) refl

pub rank_long : (part : List ℕ) (i : ℕ) → 8 < length (squares (take i part)) → is_rank part ≡ false
unfolding is_rank
rank_long part i long =
    let whole : squares part ≡ squares (take i part) ++ squares (drop i part) =
    ap squares (sym (take-append-drop i part)) ∙ flat_map-append squares_of (take i part) (drop i part) in
    let len : length (squares part) ≡ length (squares (take i part)) + length (squares (drop i part)) =
    ap length whole ∙ length-append (squares (take i part)) (squares (drop i part)) in
    and_right _ _ (ne_eqb (length (squares part)) 8 (λ e. omega arith))

pub rank_is : (part : List ℕ) → list_all is_placement_byte part ≡ true → is_rank part ≡ eqb (length (squares part)) 8
unfolding is_rank
rank_is part h = rw h refl

pub squares_more : (part : List ℕ) (i : ℕ) → i < length part → squares (take (i + 1) part) ≡ squares (take i part) ++ squares_of (get_or part i 0)
squares_more part i lt = ap squares (take_more part i 0 lt) ∙ flat_map-append squares_of (take i part)
    (get_or part i 0 ∷ []) ∙ ap (λ (xs : List (Option Piece)). squares (take i part) ++ xs)
    (append-nil (squares_of (get_or part i 0)))

pub men_from-append : (n : ℕ) (xs ys : List (Option Piece)) → men_from n (xs ++ ys) ≡ men_from n xs ++ men_from (n + length xs) ys
men_from-append n [] ys = ap (λ k. men_from k ys) (omega arith)
men_from-append n (None ∷ xs) ys = men_from-append (n + 1) xs ys ∙ ap (λ k. men_from (n + 1) xs ++ men_from k ys) (omega arith)
men_from-append n (Some p ∷ xs) ys = ap (λ (ms : List Man). record { side = p.side; kind = p.kind; at = n } ∷ ms)
    (men_from-append (n + 1) xs ys ∙ ap (λ k. men_from (n + 1) xs ++ men_from k ys) (omega arith))

pub men_from-empty : (n k : ℕ) → men_from n (replicate k None) ≡ []
men_from-empty n zero = refl
men_from-empty n (suc k) = men_from-empty (n + 1) k

onto_first-append : (x : ℕ) (parts : List (List ℕ)) (part : List ℕ) → 0 < length parts → onto_first x (parts ++ part ∷ []) ≡ onto_first x parts ++ part ∷ []
onto_first-append x [] part h = absurd (omega arith)
onto_first-append x (p ∷ ps) part h = refl

-- a stroke with no stroke after it cuts the last part off
pub split_last : (front part : List ℕ) → slice_split is_stroke part ≡ part ∷ []
    → slice_split is_stroke (front ++ 47 ∷ part) ≡ slice_split is_stroke front ++ part ∷ []
split_last [] part h = ap (λ (ps : List (List ℕ)). [] ∷ ps) h
split_last (x ∷ front) part h =
    let e = split_last front part h in
    let long : 0 < length (slice_split is_stroke front) = omega (arith, length-slice_split is_stroke front) in
    elim (cases_Bool (is_stroke x)) [
      | inl hit ↦ rw hit (ap (λ (ps : List (List ℕ)). [] ∷ ps) e)
      | inr miss ↦ rw miss (ap (onto_first x) e ∙ onto_first-append x (slice_split is_stroke front) part long)
    ]

pub cut_last : (text : List ℕ) (j i : ℕ) → i ≡ j + 1 → j < length text → get_or text j 0 ≡ 47
    → slice_split is_stroke (drop i text) ≡ drop i text ∷ []
    → slice_split is_stroke text ≡ slice_split is_stroke (take j text) ++ drop i text ∷ []
cut_last text j i e lt at_stroke h =
    let here : text ≡ take j text ++ 47 ∷ drop (j + 1) text =
    sym (take-append-drop j text) ∙ ap (λ (ys : List ℕ). take j text ++ ys)
    (drop_more text j 0 lt ∙ ap (λ b. b ∷ drop (j + 1) text) at_stroke) in
    ap (slice_split is_stroke) here ∙ split_last (take j text) (drop (j + 1) text) (rw (← e) h) ∙ rw e refl

-- no stroke: loop's first and next states
pub split_none : (text : List ℕ) (j i : ℕ) → i ≡ j + 1 → j < length text → is_stroke (get_or text j 0) ≡ false
    → slice_split is_stroke (drop i text) ≡ drop i text ∷ [] → slice_split is_stroke (drop j text) ≡ drop j text ∷ []
split_none text j i e lt miss h =
    rw (drop_more text j 0 lt) (rw (miss, ← e, h) refl)

-- the first i bytes of a part are known, and fill so many squares
pub record RankSoFar (part : List ℕ) (i file : ℕ) : Type 0 where
  pub known : list_all is_placement_byte (take i part) ≡ true
  pub file_is : file ≡ length (squares (take i part))
  pub fits : file ≤ 8

pub length-men_from : (n : ℕ) (cells : List (Option Piece)) → length (men_from n cells) ≤ length cells
length-men_from n [] = omega arith
length-men_from n (None ∷ cells) = omega (arith, length-men_from (n + 1) cells)
length-men_from n (Some p ∷ cells) = omega (arith, length-men_from (n + 1) cells)

pub rank_stops : (part : List ℕ) (i file : ℕ) → i < length part → RankSoFar part i file
    → (is_placement_byte (get_or part i 0) ≡ true → 8 < file + length (squares_of (get_or part i 0))) → false ≡ is_rank part
rank_stops part i file lt so_far h =
    elim (cases_Bool (is_placement_byte (get_or part i 0))) [
      | inl good ↦ sym
          (rank_long part (i + 1)
          (omega (
            arith,
            h good,
            so_far.file_is,
            ap length (squares_more part i lt),
            length-append (squares (take i part)) (squares_of (get_or part i 0)),
          )))
      | inr bad ↦ sym (rank_bad part i lt bad)
    ]

pub rank_goes : (part : List ℕ) (i file next : ℕ) → i < length part → RankSoFar part i file
    → is_placement_byte (get_or part i 0) ≡ true → next ≡ file + length (squares_of (get_or part i 0)) → next ≤ 8
    → RankSoFar part (i + 1) next
rank_goes part i file next lt so_far good next_is fits = record {
  known = list_all_more is_placement_byte part i 0 lt
      ∙ and_from (list_all is_placement_byte (take i part)) (is_placement_byte (get_or part i 0)) so_far.known good;
  file_is = omega (arith, next_is, so_far.file_is, ap length (squares_more part i lt), length-append (squares (take i part)) (squares_of (get_or part i 0)));
  fits = fits;
}

pub men_more : (first file : ℕ) (part : List ℕ) (i : ℕ) (old : List Man) → i < length part
    → file ≡ length (squares (take i part)) → (old ++ men_from first (squares (take i part)))
    ++ men_from (first + file) (squares_of (get_or part i 0)) ≡ old ++ men_from first (squares (take (i + 1) part))
men_more first file part i old lt e =
    append_assoc old (men_from first (squares (take i part)))
    (men_from (first + file) (squares_of (get_or part i 0))) ∙ ap (λ (ms : List Man). old ++ ms)
    (ap (λ k. men_from first (squares (take i part)) ++ men_from (first + k) (squares_of (get_or part i 0))) e
    ∙ sym (men_from-append first (squares (take i part)) (squares_of (get_or part i 0))) ∙ ap (men_from first)
    (sym (squares_more part i lt)))

pub rank_done : (part : List ℕ) (i file : ℕ) → length part ≤ i → RankSoFar part i file → eqb file 8 ≡ is_rank part
rank_done part i file le so_far =
    let whole : take i part ≡ part = take_all i part le in
    let file_is : file ≡ length (squares part) = so_far.file_is ∙ ap (λ (p : List ℕ). length (squares p)) whole in
    ap (λ n. eqb n 8) file_is ∙ sym (rank_is part (ap (list_all is_placement_byte) (sym whole) ∙ so_far.known))

pub men_done : (part : List ℕ) (i first : ℕ) (old : List Man) → length part ≤ i
    → old ++ men_from first (squares (take i part)) ≡ old ++ men_from first (squares part)
men_done part i first old le = ap (λ (p : List ℕ). old ++ men_from first (squares p)) (take_all i part le)

pub added_run : (n b : ℕ) (ms : List Man) → is_run b ≡ true → ms ≡ ms ++ men_from n (squares_of b)
unfolding squares_of
added_run n b ms run = rw (run, men_from-empty n (b - 48), append-nil ms) refl

-- ---- all parts, of which those after have been read

abbrev pub pick : ℕ → Bool → List Man → Option (List Man)
pick n b ms = cond (eqb n 8 && b) (Some ms) None

abbrev pub placed : ℕ → List Man → List (List ℕ) → Option (List Man)
placed rank men parts = pick (length parts + rank) (list_all is_rank parts) (men ++ men_from (8 * rank) (flat_map squares (reverse parts)))

pub placed_init : (text : List ℕ) → placed 0 [] (slice_split is_stroke text) ≡ placement text
unfolding placement
placed_init text =
    ap
    (λ n. pick n (list_all is_rank (slice_split is_stroke text))
    (men_from 0 (flat_map squares (reverse (slice_split is_stroke text)))))
    (add-zero (length (slice_split is_stroke text)))

and_true_right : (b : Bool) → (b && true) ≡ b
and_true_right true = refl
and_true_right false = refl

all_is : (parts : List (List ℕ)) (part : List ℕ) (b : Bool) → is_rank part ≡ b → list_all is_rank (parts ++ part ∷ []) ≡ (list_all is_rank parts && b)
all_is parts part b e = list_all-append is_rank parts (part ∷ []) ∙ ap (λ x. list_all is_rank parts && x) (ap (λ x. x && true) e ∙ and_true_right b)

pub rank_len : (part : List ℕ) → is_rank part ≡ true → length (squares part) ≡ 8
unfolding is_rank
rank_len part e = eqb-true _ _ ((and_parts (list_all is_placement_byte part) (eqb (length (squares part)) 8) e).1)

pub placed_step : (rank : ℕ) (men : List Man) (parts : List (List ℕ)) (part : List ℕ) → is_rank part ≡ true
    → placed rank men (parts ++ part ∷ []) ≡ placed (rank + 1) (men ++ men_from (8 * rank) (squares part)) parts
placed_step rank men parts part good =
    let n : length (parts ++ part ∷ []) + rank ≡ length parts + (rank + 1) = omega (arith, length-append parts (part ∷ [])) in
    let all : list_all is_rank (parts ++ part ∷ []) ≡ list_all is_rank parts = all_is parts part true good ∙ and_true_right (list_all is_rank parts) in
    let order : flat_map squares (reverse (parts ++ part ∷ [])) ≡ squares part ++ flat_map squares (reverse parts) =
    ap (λ (ps : List (List ℕ)). flat_map squares ps) (reverse-append parts (part ∷ [])) in
    let next : 8 * rank + length (squares part) ≡ 8 * (rank + 1) = omega (arith, rank_len part good) in
    let ms : men ++ men_from (8 * rank) (flat_map squares (reverse (parts ++ part ∷ [])))
    ≡ (men ++ men_from (8 * rank) (squares part)) ++ men_from (8 * (rank + 1)) (flat_map squares (reverse parts))
    = ap (λ (cells : List (Option Piece)). men ++ men_from (8 * rank) cells) order ∙ ap (λ (x : List Man). men ++ x)
    (men_from-append (8 * rank) (squares part) (flat_map squares (reverse parts))
    ∙ ap (λ k. men_from (8 * rank) (squares part) ++ men_from k (flat_map squares (reverse parts))) next)
    ∙ sym
    (append_assoc men (men_from (8 * rank) (squares part))
    (men_from (8 * (rank + 1)) (flat_map squares (reverse parts)))) in
    ap
    (λ k. pick k (list_all is_rank (parts ++ part ∷ []))
    (men ++ men_from (8 * rank) (flat_map squares (reverse (parts ++ part ∷ []))))) n
    ∙ ap
    (λ b. pick (length parts + (rank + 1)) b
    (men ++ men_from (8 * rank) (flat_map squares (reverse (parts ++ part ∷ []))))) all
    ∙ ap (pick (length parts + (rank + 1)) (list_all is_rank parts)) ms

pick_false : (n : ℕ) (b : Bool) (ms : List Man) → b ≡ false → pick n b ms ≡ None
pick_false n b ms e = rw (and_right (eqb n 8) b e) refl

pub placed_bad : (rank : ℕ) (men : List Man) (parts : List (List ℕ)) (part : List ℕ) → is_rank part ≡ false → placed rank men (parts ++ part ∷ []) ≡ None
placed_bad rank men parts part bad =
    pick_false (length (parts ++ part ∷ []) + rank) _ _
    (all_is parts part false bad ∙ and_right (list_all is_rank parts) false refl)

pub placed_end : (rank : ℕ) (men : List Man) (rest : List ℕ) → 8 ≤ rank → placed rank men (slice_split is_stroke rest) ≡ None
placed_end rank men rest le =
    let ne : eqb (length (slice_split is_stroke rest) + rank) 8 ≡ false = ne_eqb _ _ (λ e. omega (arith, length-slice_split is_stroke rest, e)) in
    rw ne refl

-- one part is left
pub placed_last : (rank : ℕ) (men : List Man) (part : List ℕ) → is_rank part ≡ true → rank ≡ 7
    → placed rank men (part ∷ []) ≡ Some (men ++ men_from (8 * rank) (squares part))
placed_last rank men part good e = placed_step rank men [] part good ∙ rw e (ap (λ (x : List Man). Some x) (append-nil (men ++ men_from 56 (squares part))))

pub placed_short : (rank : ℕ) (men : List Man) (part : List ℕ) → (rank ≡ 7 → ⊥) → placed rank men (part ∷ []) ≡ None
placed_short rank men part ne =
    let miss : eqb (1 + rank) 8 ≡ false = ne_eqb _ _ (λ e. ne (omega (arith, e))) in
    rw miss refl
