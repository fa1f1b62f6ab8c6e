-- Checkmate, stalemate and forced mate with any number of men and castling.
use Rattle.std.specs.Prelude.{◌≡◌, ℕ, zero, suc, true, false, ◌⊎◌}
use Rattle.study_moves.specs.declared.moves.Move.{Move}
use Rattle.study_wide.specs.Wide.{Wide}
use Rattle.study_wide.specs.Rules.{is_wide_legal, wide_after}
use Rattle.study_wide.specs.LegalList.{is_in_check}

abbrev pub IsWideLegal : Wide → Move → Type 0
IsWideLegal g m = is_wide_legal g m ≡ true

abbrev pub HasNoWideMove : Wide → Type 0
HasNoWideMove g = (m : Move) → ¬ (IsWideLegal g m)

abbrev pub IsWideMate : Wide → Type 0
IsWideMate g = (is_in_check g ≡ true) × HasNoWideMove g

abbrev pub IsWideStalemate : Wide → Type 0
IsWideStalemate g = (is_in_check g ≡ false) × HasNoWideMove g

-- the side to move is mated within n plies against every defence, or mates within n plies
abbrev mutual
  pub IsWideMatedWithin : ℕ → Wide → Type 0
  IsWideMatedWithin zero g = IsWideMate g
  IsWideMatedWithin (suc n) g = IsWideMate g ⊎ (((m : Move) × IsWideLegal g m) × ((m : Move) → IsWideLegal g m → WideMatesWithin n (wide_after g m)))

  pub WideMatesWithin : ℕ → Wide → Type 0
  WideMatesWithin zero g = ⊥
  WideMatesWithin (suc n) g = (m : Move) × IsWideLegal g m × IsWideMatedWithin n (wide_after g m)
