-- The text of a path in a tree of at most 4,096 nodes is short: long places need many siblings.
use Rattle.std.proofs.Common.{◌≡◌, ℕ, zero, suc, ◌+◌, ◌*◌, ◌<◌, ◌≤◌, true, List, [], ◌∷◌, length, inl, inr, arith, length-append}
use Rattle.std.specs.Prelude.{decimal}
use Rattle.std.proofs.lemmas.Bool.{cases_lt}
use Rattle.std.proofs.lemmas.Fmt.{length-decimal-le}
use Rattle.study_text.specs.Paths.{more_places, path_text}
use Rattle.study_tree.specs.Forest.{Forest, none, more, nodes_in}
use Rattle.study_tree.specs.Edits.{has_node}
use Rattle.study_import.proofs.Ink.{Ink, ink_append, decimal_ink}

-- the nodes that the siblings along a path need, itself included
abbrev pub nodes_along : List ℕ → ℕ
nodes_along [] = 0
nodes_along (k ∷ ks) = (k + 1) + nodes_along ks

pub along_few : {L : Type 0} (f : Forest L) (ks : List ℕ) → has_node f ks ≡ true → nodes_along ks ≤ nodes_in f
along_few f [] h = omega arith
along_few none (k ∷ ks) h = let no : ⊥ = cc in absurd no
along_few (more m l b r) (zero ∷ ks) h = omega (arith, along_few b ks h)
along_few (more m l b r) (suc k ∷ ks) h = omega (arith, along_few r (k ∷ ks) h)

-- a place has at most four digits, and few places have more than two
place_few : (k : ℕ) → k < 4096 → 90 * length (decimal k) ≤ 180 + k
place_few k h = elim (cases_lt k 100) [
  | inl low ↦ omega (arith, length-decimal-le 2 k (omega arith) (omega arith) (omega arith))
  | inr high ↦ elim (cases_lt k 1000) [
    | inl low ↦ omega (arith, high, length-decimal-le 3 k (omega arith) (omega arith) (omega arith))
    | inr higher ↦ omega (arith, higher, length-decimal-le 4 k (omega arith) (omega arith) (omega arith))
  ]
]

places_few : (ks : List ℕ) → nodes_along ks < 4096 → 90 * length (more_places ks) ≤ 270 * length ks + nodes_along ks
places_few [] h = omega arith
places_few (k ∷ ks) h =
    omega (arith, h, length-append (decimal k) (more_places ks), place_few k (omega (arith, h)), places_few ks (omega (arith, h)))

places_ink : (ks : List ℕ) → Ink (more_places ks)
places_ink [] = tt
places_ink (k ∷ ks) = (omega arith, omega arith, ink_append (decimal k) (more_places ks) (decimal_ink k) (places_ink ks))

pub path_ink : (ks : List ℕ) → Ink (path_text ks)
unfolding path_text
path_ink [] = (omega arith, omega arith, (omega arith, omega arith, (omega arith, omega arith, (omega arith, omega arith, tt))))
path_ink (k ∷ ks) = ink_append (decimal k) (more_places ks) (decimal_ink k) (places_ink ks)

pub path_few : (ks : List ℕ) → length ks ≤ 256 → nodes_along ks < 4096 → length (path_text ks) ≤ 813
unfolding path_text
path_few [] few h = omega arith
path_few (k ∷ ks) few h =
    omega (arith, few, h, length-append (decimal k) (more_places ks), place_few k (omega (arith, h)), places_few ks (omega (arith, h)))
