-- The side to move of a position, by its number.
use Rattle.std.proofs.Common.{◌≡◌, ℕ, Bool, true, false, cond, Some, None, ◌↔◌, sym, ap, ◌∙◌}
use Rattle.std.proofs.lemmas.Bool.{false≢true}
use Rattle.study_board.specs.declared.men.Side.{Side}
use Rattle.study_board.specs.Position.{Position}
use Rattle.study_material.specs.declared.class.Class.{Class}
use Rattle.study_values.specs.Number.{without_bit}
use Rattle.study_index.specs.Decoded.{slots_of, decoded_side}
use Rattle.study_index.specs.Computed.{is_entry, position_decoded, position_numbered}
use Rattle.study_search.specs.declared.finding.Search.{Search}
use Rattle.study_search.specs.Finding.{is_for, IsFound}
use Rattle.study_search.specs.Longest.{MatesAt}

pub side-decoded : (c : Class) (n : ℕ) (p : Position) → position_numbered c n ≡ Some p → p.to_move ≡ decoded_side (slots_of c) (without_bit n)
unfolding position_numbered
side-decoded c n p e = by_test (is_entry c n) e
  where
    by_test : (b : Bool) → cond b (Some (position_decoded c n)) None ≡ Some p → p.to_move ≡ decoded_side (slots_of c) (without_bit n)
    by_test false f = absurd (let no : None ≡ Some p = f in cc)
    by_test true f = ap (λ (q : Position). q.to_move) (sym (let same : Some (position_decoded c n) ≡ Some p = f in let is : position_decoded c n ≡ p = cc in
        is))

-- if another side is to move nothing is found
pub not-found : (s : Search) (n : ℕ) → is_for s.side (decoded_side (slots_of s.class) (without_bit n)) ≡ false → (false ≡ true) ↔ IsFound s n
not-found s n e = (
  (λ f. absurd (false≢true f)),
  (λ h. absurd (false≢true (sym e ∙ ap (λ x. is_for s.side x) (sym (side-decoded s.class n h.0 h.1)) ∙ h.2.0))),
)

-- nor has it a mate
pub no-mate : (c : Class) (side : Side) (n : ℕ) → is_for (Some side) (decoded_side (slots_of c) (without_bit n)) ≡ false
    → (k : ℕ) → (None ≡ Some k) ↔ MatesAt c side n k
no-mate c side n e k = (
  (λ f. absurd (let no : None ≡ Some k = f in cc)),
  (λ h. absurd (false≢true (sym e ∙ ap (λ x. is_for (Some side) x) (sym (side-decoded c n h.0 h.1)) ∙ h.2.0))),
)
