-- The main line of a study is the longest row of only moves, and there is one.
use Rattle.std.proofs.Common.{◌≡◌, ℕ, ◌+◌, ◌-◌, ◌*◌, ◌≤◌, zero, suc, Bool, true, false, List, [], length, Option, Some, None}
use Rattle.std.proofs.Common.{inl, inr, refl, sym, ◌∙◌, ap, subst, arith}
use Rattle.std.specs.Prelude.{nat_lt, if◌then◌else◌}
use Rattle.std.proofs.lemmas.Bool.{cases_lt, ltb-true}
use Rattle.study_board.specs.Position.{Position}
use Rattle.study_moves.specs.declared.moves.Move.{Move}
use Rattle.study_moves.specs.Rules.{after}
use Rattle.study_moves.specs.Laws.{EachHasAtMostOneValue}
use Rattle.study_values.specs.declared.value.Value.{Value}
use Rattle.study_values.specs.Game.{IsValueOf}
use Rattle.study_search.specs.declared.only_moves.Outcome.{Outcome}
use Rattle.study_search.specs.OnlyMoves.{HasOnlyMoves, IsMost}
use Rattle.study_search.specs.Rows.{IsRow}
use Rattle.study_search.proofs.OnlyMoves.{line-fewer}
use Rattle.study_search.proofs.OneRow.{row-same}
use Rattle.study_zugzwang.proofs.Zugzwangs.{one-value}
use Rattle.study_listing.specs.Facts.{outcome_by, IsMainLine, IsStudyOf}
use Rattle.study_listing.specs.Features.{IsShownRow}
use Rattle.study_listing.specs.Lines.{study_of}
use Rattle.study_listing.specs.MainLines.{few_moves}

-- ---- a row has room

row-short : (o : Outcome) (n : ℕ) (p : Position) (row : List Move) → IsRow o n p row → length row ≤ 2 * n - 1
row-short o zero p row h = subst (λ (r : List Move). length r ≤ 2 * 0 - 1) (sym h.1) (omega arith)
row-short o (suc zero) p row (m, key, is) = subst (λ (r : List Move). length r ≤ 2 * 1 - 1) (sym is) (omega arith)
row-short o (suc (suc n)) p row (m, r, rest, key, first, on, is) =
    let few = row-short o (suc n) (after (after p m) r) rest on in
    subst (λ (x : List Move). length x ≤ 2 * suc (suc n) - 1) (sym is) (omega (arith, few))

few-is : (row : List Move) → length row ≤ 23 → few_moves row ≡ row
few-is row few = go (nat_lt 23 (length row)) refl
  where
    go : (b : Bool) → nat_lt 23 (length row) ≡ b → (if b then [] else row) ≡ row
    go true e = let many = ltb-true 23 (length row) e in absurd (omega (arith, few, many))
    go false e = refl

main-short : (p : Position) (o : Option Outcome) (row : List Move) → IsMainLine p o row → length row ≤ 23
main-short p None row h = subst (λ (r : List Move). length r ≤ 23) (sym h) (omega arith)
main-short p (Some o) row (n, most, is) =
    let short = row-short o n p row is in
    let few = most.0 in
    omega (arith, short, few)

-- ---- the study

pub study-shown : (p : Position) (v : Value) (row : List Move) (text : List ℕ) → IsValueOf p v → IsMainLine p (outcome_by v) row
    → text ≡ study_of p v (few_moves row) → IsStudyOf p text
study-shown p v row text h main is =
    (v, row, h, main, is ∙ ap (λ (r : List Move). study_of p v r) (few-is row (main-short p (outcome_by v) row main)))

-- ---- there is one

fewer : (o : Outcome) (p : Position) (k j : ℕ) → j ≤ k → HasOnlyMoves o k p → HasOnlyMoves o j p
fewer o p zero j low h = let same : zero ≡ j = omega (arith, low) in subst (λ i. HasOnlyMoves o i p) same h
fewer o p (suc k) j low h = elim (cases_lt k j) [
  | inl l ↦ let same : suc k ≡ j = omega (arith, low, l) in subst (λ i. HasOnlyMoves o i p) same h
  | inr g ↦ fewer o p k j (omega (arith, g)) (line-fewer o k p h)
]

most-same : (o : Outcome) (p : Position) (limit n k : ℕ) → IsMost o p limit (Some n) → IsMost o p limit (Some k) → n ≡ k
most-same o p limit n k h j = elim (cases_lt n k) [
  | inl l ↦
      let few = j.0 in
      absurd (h.2 (omega (arith, l, few)) (fewer o p k (n + 1) (omega (arith, l)) j.1))
  | inr g ↦ elim (cases_lt k n) [
    | inl l ↦
        let few = h.0 in
        absurd (j.2 (omega (arith, l, few)) (fewer o p n (k + 1) (omega (arith, l)) h.1))
    | inr f ↦ omega (arith, f, g)
  ]
]

main-line-same : (o : Option Outcome) (p : Position) (row other : List Move) → IsMainLine p o row → IsMainLine p o other → row ≡ other
main-line-same None p row other h j = h ∙ sym j
main-line-same (Some o) p row other (n, most, is) (k, most2, is2) =
    row-same o n p row other is (subst (λ i. IsRow o i p other) (sym (most-same o p 12 n k most most2)) is2)

pub shown-same : EachHasAtMostOneValue → (p : Position) (row other : List Move) → IsShownRow p row → IsShownRow p other → row ≡ other
shown-same law p row other (v, h, main) (w, j, main2) =
    let same : v ≡ w = one-value law p v w h j in
    main-line-same (outcome_by v) p row other main (subst (λ (z : Value). IsMainLine p (outcome_by z) other) (sym same) main2)

pub study-unique : EachHasAtMostOneValue → (p : Position) (x y : List ℕ) → IsStudyOf p x → IsStudyOf p y → x ≡ y
study-unique law p x y (v, row, h, main, e) (w, other, j, main2, d) =
    let same : v ≡ w = one-value law p v w h j in
    let rows : row ≡ other = shown-same law p row other (v, h, main) (w, j, main2) in
    e ∙ ap (λ (z : Value). study_of p z row) same ∙ ap (λ (r : List Move). study_of p w r) rows ∙ sym d
