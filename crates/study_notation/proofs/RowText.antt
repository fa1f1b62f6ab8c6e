-- The text of a rank, from one square on.
use Rattle.std.proofs.Common.{◌≡◌, ℕ, zero, suc, ◌+◌, ◌*◌, ◌<◌, ◌≤◌, false, eqb, List, [], ◌∷◌}
use Rattle.std.proofs.Common.{◌++◌, length, Option, Some, None, refl, sym, ap, ◌∙◌, inl, inr}
use Rattle.std.proofs.Common.{arith, length-append, append_assoc, zero-add, add-zero}
use Rattle.std.proofs.lemmas.Bool.{eqb-true, ne_eqb, cases_Bool}
use Rattle.std.proofs.lemmas.List.{append-nil}
use Rattle.study_notation.specs.declared.placement.Piece.{Piece}
use Rattle.study_board.specs.declared.men.Man.{Man}
use Rattle.study_notation.specs.FenSpelling.{man_letter, piece_on, row, run, squares_text, rank_field, ranks_text, placement_text}

unfoldable pub rest_text : List Man → ℕ → ℕ → ℕ → List ℕ
rest_text men at n empty = squares_text empty (row men at n)

pub rest_init : (men : List Man) (rank at : ℕ) → at ≡ 8 * rank → rest_text men at 8 0 ≡ rank_field men rank
unfolding rest_text rank_field
rest_init men rank at e = ap (λ k. squares_text 0 (row men k 8)) e

pub rest_none : (men : List Man) (at at' n m empty : ℕ) → n ≡ m + 1 → at' ≡ at + 1 → piece_on men at ≡ None
    → rest_text men at n empty ≡ rest_text men at' m (empty + 1)
unfolding rest_text
rest_none men at at' n m empty e e' none =
    let e2 : n ≡ suc m = omega arith in
    ap (λ k. squares_text empty (row men at k)) e2 ∙ ap (λ (o : Option Piece). squares_text empty (o ∷ row men (at + 1) m))
    none ∙ ap (λ k. squares_text (empty + 1) (row men k m)) (sym e')

pub rest_some : (men : List Man) (at at' n m empty : ℕ) (p : Piece) → n ≡ m + 1 → at' ≡ at + 1
    → piece_on men at ≡ Some p
    → rest_text men at n empty ≡ run empty ++ (man_letter p.side p.kind ∷ rest_text men at' m 0)
unfolding rest_text
rest_some men at at' n m empty p e e' some =
    let e2 : n ≡ suc m = omega arith in
    ap (λ k. squares_text empty (row men at k)) e2 ∙ ap (λ (o : Option Piece). squares_text empty (o ∷ row men (at + 1) m))
    some ∙ ap (λ k. run empty ++ (man_letter p.side p.kind ∷ squares_text 0 (row men k m))) (sym e')

pub rest_end : (men : List Man) (at n empty : ℕ) → n ≡ 0 → rest_text men at n empty ≡ run empty
unfolding rest_text
rest_end men at n empty e = ap (λ k. squares_text empty (row men at k)) e

-- ---- its length

abbrev pub count : List (Option Piece) → ℕ
count [] = 0
count (None ∷ cells) = count cells
count (Some p ∷ cells) = 1 + count cells

length-run : (n : ℕ) → length (run n) ≤ 1
length-run n = elim (cases_Bool (eqb n 0)) [ inl hit ↦ rw hit (omega arith) | inr miss ↦ rw miss (omega arith) ]

length-squares_text : (n : ℕ) (cells : List (Option Piece)) → length (squares_text n cells) ≤ 1 + 2 * count cells
length-squares_text n [] = omega (arith, length-run n)
length-squares_text n (None ∷ cells) = length-squares_text (n + 1) cells
length-squares_text n (Some p ∷ cells) = omega (
  arith,
  length-append (run n)
      (man_letter p.side p.kind ∷ squares_text 0 cells),
  length-run n,
  length-squares_text 0 cells,
)

unfoldable pub occupied : List Man → ℕ → ℕ → ℕ
occupied men at n = count (row men at n)

occupied-none : (at n : ℕ) → occupied [] at n ≡ 0
unfolding occupied
occupied-none at zero = refl
occupied-none at (suc n) = occupied-none (at + 1) n

-- one more man stands on at most one more square
occupied-skip : (m : Man) (men : List Man) (at n : ℕ) → m.at < at → occupied (m ∷ men) at n ≡ occupied men at n
unfolding occupied
occupied-skip m men at zero lt = refl
occupied-skip m men at (suc n) lt =
    let miss : eqb m.at at ≡ false = ne_eqb m.at at (λ e. omega arith) in
    let others = occupied-skip m men (at + 1) n (omega arith) in
    rw miss (elim (piece_on men at) as (λ o. count (o ∷ row (m ∷ men) (at + 1) n) ≡ count (o ∷ row men (at + 1) n))
    [ None ↦ others | Some p ↦ ap (λ k. 1 + k) others ])

count-le : (o : Option Piece) (cells : List (Option Piece)) → count cells ≤ count (o ∷ cells)
count-le None cells = omega arith
count-le (Some p) cells = omega arith

occupied-cons : (m : Man) (men : List Man) (at n : ℕ) → occupied (m ∷ men) at n ≤ 1 + occupied men at n
unfolding occupied
occupied-cons m men at zero = omega arith
occupied-cons m men at (suc n) =
    elim (cases_Bool (eqb m.at at)) [
      | inl hit ↦
          let here = eqb-true m.at at hit in
          let others = occupied-skip m men (at + 1) n (omega arith) in
          let most : count (row men (at + 1) n) ≤ count (piece_on men at ∷ row men (at + 1) n) = count-le (piece_on men at) (row men (at + 1) n) in
          rw hit (omega (arith, others, most))
      | inr miss ↦
          let others = occupied-cons m men (at + 1) n in
          rw miss
          (elim (piece_on men at) as
          (λ o. count (o ∷ row (m ∷ men) (at + 1) n) ≤ 1 + count (o ∷ row men (at + 1) n))
          [ None ↦ others | Some p ↦ omega (arith, others) ])
    ]

pub occupied-le : (men : List Man) (at n : ℕ) → occupied men at n ≤ length men
occupied-le [] at n = omega (arith, occupied-none at n)
occupied-le (m ∷ men) at n = omega (arith, occupied-cons m men at n, occupied-le men at n)

occupied-add : (men : List Man) (at n k : ℕ) → occupied men at (n + k) ≡ occupied men at n + occupied men (at + n) k
unfolding occupied
occupied-add men at zero k = rw (zero-add k, add-zero at) (sym (zero-add (count (row men at k))))
occupied-add men at (suc n) k =
    let e : suc n + k ≡ suc (n + k) = omega arith in
    let f : at + suc n ≡ (at + 1) + n = omega arith in
    let others = occupied-add men (at + 1) n k in
    rw (e, f)
    (elim (piece_on men at) as (λ o. count (o ∷ row men (at + 1) (n + k)) ≡ count (o ∷ row men (at + 1) n) + count
    (row men (at + 1 + n) k)) [ None ↦ others | Some p ↦ omega (arith, others) ])

length-rank_field : (men : List Man) (rank : ℕ) → length (rank_field men rank) ≤ 1 + 2 * occupied men (8 * rank) 8
unfolding rank_field occupied
length-rank_field men rank = length-squares_text 0 (row men (8 * rank) 8)

pub length-ranks_text : (men : List Man) (k : ℕ) → length (ranks_text men k) ≤ 2 * k + 1 + 2 * occupied men 0 (8 * (k + 1))
unfolding ranks_text
length-ranks_text men zero = omega (arith, length-rank_field men 0)
length-ranks_text men (suc k) =
    let e : 8 * (suc k + 1) ≡ 8 * (k + 1) + 8 = omega arith in
    let f : 0 + 8 * (k + 1) ≡ 8 * suc k = omega arith in
    let sum = occupied-add men 0 (8 * (k + 1)) 8 in
    let there : occupied men (0 + 8 * (k + 1)) 8 ≡ occupied men (8 * suc k) 8 = ap (λ a. occupied men a 8) f in
    rw e (omega (arith, sum, there, length-append (rank_field men (suc k)) (47 ∷ ranks_text men k), length-rank_field men (suc k), length-ranks_text men k))

pub placement_is_short : (men : List Man) → length men ≤ 4 → length (placement_text men) ≤ 23
unfolding placement_text
placement_is_short men few = omega (arith, length-ranks_text men 7, occupied-le men 0 64)

-- the text after a rank: a stroke and the ranks below it
unfoldable pub below : List Man → ℕ → List ℕ
below men zero = []
below men (suc k) = 47 ∷ ranks_text men k

pub ranks_below : (men : List Man) (k : ℕ) → ranks_text men k ≡ rank_field men k ++ below men k
unfolding ranks_text below
ranks_below men zero = sym (append-nil (rank_field men 0))
ranks_below men (suc k) = refl

pub below_step : (men : List Man) (n k : ℕ) → n ≡ k + 1 → below men n ≡ 47 ∷ (rank_field men k ++ below men k)
unfolding below
below_step men n k e =
    let e2 : n ≡ suc k = omega arith in
    ap (below men) e2 ∙ ap (λ (t : List ℕ). 47 ∷ t) (ranks_below men k)

pub placement_below : (men : List Man) → placement_text men ≡ rank_field men 7 ++ below men 7
unfolding placement_text
placement_below men = ranks_below men 7

pub below_none : (men : List Man) (n : ℕ) → n ≡ 0 → below men n ≡ []
unfolding below
below_none men n e = ap (below men) e

-- ---- room

pub len_both : (a b c d : List ℕ) → a ++ b ≡ c ++ d → length a + length b ≡ length c + length d
len_both a b c d e = omega (arith, ap length e, length-append a b, length-append c d)

pub len_some : (men : List Man) (at at' n m empty : ℕ) (p : Piece) → n ≡ m + 1 → at' ≡ at + 1
    → piece_on men at ≡ Some p → length (rest_text men at n empty) ≡ length (run empty) + 1 + length
    (rest_text men at' m 0)
len_some men at at' n m empty p e e' some =
    omega (
      arith,
      ap length (rest_some men at at' n m empty p e e' some),
      length-append (run empty)
          (man_letter p.side p.kind ∷ rest_text men at' m 0),
    )

-- a man is written
pub some_written : (out out1 out2 total : List ℕ) (men : List Man) (at at' n m empty l : ℕ) (p : Piece) → n ≡ m + 1
    → at' ≡ at + 1 → piece_on men at ≡ Some p → l ≡ man_letter p.side p.kind → out1 ≡ out ++ run empty
    → out2 ≡ out1 ++ l ∷ []
    → out ++ rest_text men at n empty ≡ total → out2 ++ rest_text men at' m 0 ≡ total
some_written out out1 out2 total men at at' n m empty l p e e' some le o1 o2 inv =
    rw (o2, o1, le) (append_assoc (out ++ run empty) (man_letter p.side p.kind ∷ []) (rest_text men at' m 0)
    ∙ append_assoc out (run empty) (man_letter p.side p.kind ∷ rest_text men at' m 0)
    ∙ ap (λ (t : List ℕ). out ++ t) (sym (rest_some men at at' n m empty p e e' some)) ∙ inv)

-- a rank is written
pub below_written : (out out1 out2 total : List ℕ) (men : List Man) (n k : ℕ) → n ≡ k + 1 → out1 ≡ out ++ 47 ∷ []
    → out2 ≡ out1 ++ rank_field men k → out ++ below men n ≡ total → out2 ++ below men k ≡ total
below_written out out1 out2 total men n k e o1 o2 inv =
    rw (o2, o1) (append_assoc (out ++ 47 ∷ []) (rank_field men k) (below men k) ∙ append_assoc out (47 ∷ [])
    (rank_field men k ++ below men k) ∙ ap (λ (t : List ℕ). out ++ t) (sym (below_step men n k e)) ∙ inv)

pub len_below : (men : List Man) (n k : ℕ) → n ≡ k + 1 → length (below men n) ≡ 1 + length (rank_field men k) + length (below men k)
len_below men n k e = omega (arith, ap length (below_step men n k e), length-append (rank_field men k) (below men k))
