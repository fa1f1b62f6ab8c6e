-- The growing list of found numbers and their texts.
use Rattle.std.proofs.Common.{ℕ, ◌+◌, ◌<◌, ◌≤◌, List, [], ◌∷◌, ◌++◌, ◌∙◌, ap, refl, sym, arith, append_assoc, inl, inr}
use Rattle.std.proofs.lemmas.List.{append-nil}
use Rattle.std.proofs.lemmas.Bool.{cases_lt}
use Rattle.study_search.specs.Finding.{HoldsOfNone, AreFound}
use Rattle.study_listing.specs.Lists.{AreTexts}

-- P holds of no number up to m, nor from there on
pub none-joined : (P : ℕ → Type 0) (a m n : ℕ) → HoldsOfNone P a m → HoldsOfNone P m n → HoldsOfNone P a n
none-joined P a m n h none k from below = elim (cases_lt k m) [
  | inl l ↦ h k from l
  | inr g ↦ (let on : m ≤ k = omega (arith, g) in none k on below)
]

-- no more numbers up to n
pub found-on : (P : ℕ → Type 0) (ns : List ℕ) (a m n : ℕ) → AreFound P a m ns → m ≤ n → HoldsOfNone P m n → AreFound P a n ns
found-on P [] a m n h l none = none-joined P a m n h none
found-on P (x ∷ xs) a m n h l none =
    let below = h.0.1 in
    let less : x < n = omega (arith, below, l) in
    ((h.0.0, less, h.0.2, h.0.3), found-on P xs (x + 1) m n h.1 l none)

-- the next number is n
pub found-more : (P : ℕ → Type 0) (ns : List ℕ) (a m n : ℕ) → AreFound P a m ns → a ≤ m → m ≤ n → HoldsOfNone P m n → P n
    → AreFound P a (n + 1) (ns ++ n ∷ [])
found-more P [] a m n h from l none p =
    let low : a ≤ n = omega (arith, from, l) in
    let last : n < n + 1 = omega arith in
    ((low, last, p, none-joined P a m n h none), (λ k on below. absurd (omega (arith, on, below))))
found-more P (x ∷ xs) a m n h from l none p =
    let below = h.0.1 in
    let less : x < n + 1 = omega (arith, below, l) in
    let on : x + 1 ≤ m = omega (arith, below) in
    ((h.0.0, less, h.0.2, h.0.3), found-more P xs (x + 1) m n h.1 on l none p)

-- P holds of no number below the first
pub found-none : (P : ℕ → Type 0) (ns : List ℕ) (a b : ℕ) → AreFound P a a ns → b ≤ a → AreFound P a b ns
found-none P [] a b h l = λ k on below. absurd (omega (arith, on, below, l))
found-none P (x ∷ xs) a b h l =
    let on = h.0.0 in
    let below = h.0.1 in
    absurd (omega (arith, on, below))

pub texts-more : (T : ℕ → List ℕ → Type 0) (ns : List ℕ) (n : ℕ) (text new : List ℕ) → AreTexts T ns text → T n new
    → AreTexts T (ns ++ n ∷ []) (text ++ new)
texts-more T [] n text new e t = (new, [], t, refl, ap (λ (x : List ℕ). x ++ new) e ∙ sym (append-nil new))
texts-more T (x ∷ xs) n text new (first, rest, one, more, e) t =
    (first, rest ++ new, one, texts-more T xs n rest new more t, ap (λ (x : List ℕ). x ++ new) e ∙ append_assoc first rest new)
