-- The words of a piece, and its text.
use Rattle.std.proofs.Common.{◌≡◌, ℕ, ◌+◌, ◌^◌, ◌≤◌, zero, suc, List, [], ◌∷◌, ◌++◌, map, take, drop, Option, refl, sym, ap, subst, ◌∙◌, arith, inl}
use Rattle.std.proofs.Common.{inr, Result, Ok, Err}
use Rattle.std.specs.Prelude.{OnOk}
use Rattle.std.specs.Io.KnownBytes.{Appends}
use Rattle.std.proofs.KnownBytes.{Appends-trans}
use Rattle.std.proofs.lemmas.Bool.{cases_lt}
use Rattle.std.proofs.lemmas.Grind.{pow_more}
use Rattle.study_values.specs.Number.{cells_of}
use Rattle.study_listing.specs.declared.filters.Selection.{Selection}
use Rattle.study_listing.specs.declared.piece_words.Piece.{Piece}
use Rattle.study_listing.specs.Lists.{IsSelectionOf}
use Rattle.study_listing.specs.Pieces.{end_of, how_far, AreLines, HasWrittenLines, HasWrittenPiece}
use Rattle.study_listing.specs.Requests.{class_of_request}

-- ---- the last two words, and the words before them

pub fronts : {A B : Type 0} (f : A → B) (n : ℕ) (xs : List A) → map f (take n xs) ≡ take n (map f xs)
fronts f zero xs = refl
fronts f (suc n) [] = refl
fronts f (suc n) (x ∷ xs) = ap (λ ys. f x ∷ ys) (fronts f n xs)

pub backs : {A B : Type 0} (f : A → B) (n : ℕ) (xs : List A) → map f (drop n xs) ≡ drop n (map f xs)
backs f zero xs = refl
backs f (suc n) [] = refl
backs f (suc n) (x ∷ xs) = backs f n xs

-- ---- nine digits

pow-up : (k i : ℕ) → i ≤ k → 10 ^ i ≤ 10 ^ k
pow-up zero i l = let e : i ≡ 0 = omega (arith, l) in subst (λ n. 10 ^ n ≤ 10 ^ 0) (sym e) (omega arith)
pow-up (suc k) i l = elim (cases_lt i (suc k)) [
  | inl less ↦
      let low : i ≤ k = omega (arith, less) in
      let h = pow-up k i low in
      let up : 10 ^ k ≤ 10 ^ (k + 1) = (let e = pow_more 10 k in omega (arith, e)) in
      omega (arith, h, up)
  | inr g ↦ (let e : i ≡ suc k = omega (arith, l, g) in subst (λ n. 10 ^ n ≤ 10 ^ suc k) (sym e) (omega arith))
]

pub eight_digits : (i : ℕ) → i ≤ 8 → 10 ^ i ≤ 100000000
eight_digits i l = pow-up 8 i l

-- ---- what is written

pub piece-written : {E : Type 0} (piece : Piece) (selection : Option Selection) (end all : ℕ) (old mid new : Option (List ℕ)) (r : Result (Unit {0}) E)
    → end ≡ end_of piece → all ≡ cells_of (class_of_request piece.request) → IsSelectionOf piece.request selection
    → HasWrittenLines selection piece.numbers.from end old mid → OnOk r (Appends mid new (how_far end all)) → OnOk r (HasWrittenPiece piece old new)
piece-written piece selection end all old mid new (Ok x) e a s (lines, listed, h) k =
    let far : how_far end all ≡ how_far (end_of piece) (cells_of (class_of_request piece.request)) =
    ap (λ n. how_far n all) e ∙ ap (λ n. how_far (end_of piece) n) a in (
      lines ++ how_far end all,
      record {
        selection = selection;
        selected = s;
        lines = lines;
        listed = subst (λ n. AreLines selection piece.numbers.from n lines) e listed;
        is = ap (λ (ys : List ℕ). lines ++ ys) far;
      },
      Appends-trans old mid new lines (how_far end all) h k,
    )
piece-written piece selection end all old mid new (Err x) e a s h k = tt

-- the lines of a successful result
pub written-of : {E : Type 0} (P : Type 0) (r : Result (Unit {0}) E) (x : Unit {0}) → OnOk r P → r ≡ Ok x → P
written-of {E = E} P r x h e = subst (λ (s : Result (Unit {0}) E). OnOk s P) e h
