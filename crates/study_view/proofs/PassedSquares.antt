-- Squares from a number on that a pawn can just have jumped over.
use Rattle.std.proofs.Common.{◌≡◌, ℕ, ◌+◌, ◌-◌, ◌<◌, ◌≤◌, suc, Bool, true, false, List, [], ◌∷◌, cond, arith, ap, ◌∙◌}
use Rattle.std.specs.List.{filter, range_with_len}
use Rattle.study_board.specs.declared.men.Man.{Man}
use Rattle.study_board.specs.declared.men.Side.{Side}
use Rattle.study_board.specs.Position.{could_be_passed}
use Rattle.study_view.specs.Setup.{passed_from}

pub range-step : (n : ℕ) → n < 64 → range_with_len n (64 - n) ≡ n ∷ range_with_len (n + 1) (64 - (n + 1))
range-step n lt = let less : 64 - n ≡ suc (64 - (n + 1)) = omega (arith, lt) in ap (range_with_len n) less

pub passed-none : (men : List Man) (side : Side) (n : ℕ) → 64 ≤ n → passed_from men side n ≡ []
passed-none men side n h = let z : 64 - n ≡ 0 = omega (arith, h) in ap (λ k. filter (could_be_passed men side) (range_with_len n k)) z

step : (men : List Man) (side : Side) (n : ℕ) (b : Bool) → n < 64 → could_be_passed men side n ≡ b
    → passed_from men side n ≡ cond b (n ∷ passed_from men side (n + 1)) (passed_from men side (n + 1))
step men side n b lt e =
    ap (filter (could_be_passed men side)) (range-step n lt)
    ∙ ap (λ k. cond k (n ∷ passed_from men side (n + 1)) (passed_from men side (n + 1))) e

pub passed-one : (men : List Man) (side : Side) (n : ℕ) → n < 64 → could_be_passed men side n ≡ true
    → passed_from men side n ≡ n ∷ passed_from men side (n + 1)
passed-one men side n lt e = step men side n true lt e

pub passed-past : (men : List Man) (side : Side) (n : ℕ) → n < 64 → could_be_passed men side n ≡ false
    → passed_from men side n ≡ passed_from men side (n + 1)
passed-past men side n lt e = step men side n false lt e
