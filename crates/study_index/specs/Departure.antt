-- The numbers after one man moves, as sums.
use Rattle.std.specs.Prelude.{◌≡◌, ℕ, ◌+◌, ◌*◌, ◌%◌, ◌<◌, Bool, not, ◌&&◌, ◌||◌, List, slice_index_or}
use Rattle.study_board.specs.declared.men.Man.{Man}
use Rattle.study_board.specs.Position.{Position}
use Rattle.study_material.specs.declared.class.Class.{Class}
use Rattle.study_index.specs.declared.decoding.Slot.{Slot}
use Rattle.study_index.specs.declared.index_rule.IndexTerms.{IndexTerms}
use Rattle.study_index.specs.declared.index_rule.IndexRule.{IndexRule}
use Rattle.study_index.specs.declared.index_rule.IndexRule.TheVariants.{Sum, LeastImage, King}
use Rattle.study_values.specs.Index.{index_of}
use Rattle.study_index.specs.Decoded.{head, slots_of, slots_have_pawn, decoded_men}
use Rattle.study_index.specs.Moved.{IsMoved}
use Rattle.study_values.specs.Number.{without_bit}
use Rattle.study_index.specs.Stepped.{are_like_slots}
use Rattle.study_index.specs.LeastImage.{is_on_diagonal, least_image}

-- the sum with the man on a
abbrev pub sum_with : IndexTerms → ℕ → ℕ
sum_with t a = t.rest + a * t.weight

-- the number after the man on x has moved to any square a is the sum, or the least image of the sum
abbrev pub IsAdded : Class → ℕ → ℕ → IndexTerms → Type 0
IsAdded c n x t = (a : ℕ) (p : Position) → a < 64 → IsMoved c n x a p → index_of p ≡ sum_with t a

abbrev pub IsLeastOfAdded : Class → ℕ → ℕ → IndexTerms → Type 0
IsLeastOfAdded c n x t =
    (a : ℕ) (p : Position) → a < 64 → IsMoved c n x a p
    → index_of p ≡ least_image (slots_have_pawn (slots_of c)) (are_like_slots (slots_of c)) (slots_of c) (sum_with t a)

-- n encodes that the man of the slot stands on x
abbrev pub StandsOn : Class → ℕ → ℕ → ℕ → Type 0
StandsOn c n i x = (d : Man) → (slice_index_or (decoded_men (slots_of c) (without_bit n)) i d).at ≡ x

-- the number after the man on x has moved can be computed in this way
pub record IsFoundBy (c : Class) (n x : ℕ) (way : IndexRule) : Type 0 where
  pub sum : (t : IndexTerms) → way ≡ Sum t → IsAdded c n x t
  pub image : (t : IndexTerms) → way ≡ LeastImage t → IsLeastOfAdded c n x t
  pub king : way ≡ King → StandsOn c n 0 x

-- no two men are like, and if no man is a pawn, the white king does not stand on a1, b2, c3 or d4
abbrev pub is_canonical_as_is : List Slot → ℕ → Bool
is_canonical_as_is slots n = not (are_like_slots slots) && (slots_have_pawn slots || not (is_on_diagonal (head slots n % 10)))
