-- Where four men and no right to castle are left, the wide rules are the rules.
use Rattle.std.specs.Prelude.{◌≡◌, ◌↔◌, ℕ, true, Some}
use Rattle.study_board.specs.Position.{Position, IsValid}
use Rattle.study_moves.specs.declared.moves.Move.{Move}
use Rattle.study_moves.specs.Rules.{is_legal, after}
use Rattle.study_moves.specs.LegalList.{legal_list}
use Rattle.study_moves.specs.Game.{IsMate, IsStalemate, MatesWithin, IsMatedWithin}
use Rattle.study_wide.specs.Wide.{Wide, IsWide}
use Rattle.study_wide.specs.Rules.{is_wide_legal, wide_after, is_small, narrow, widen}
use Rattle.study_wide.specs.LegalList.{wide_legal_list}
use Rattle.study_wide.specs.Game.{IsWideMate, IsWideStalemate, WideMatesWithin, IsWideMatedWithin}

-- with no right to castle the legal moves are those of the rules, with any number of men, and so is the position after one
pub record AgreesWithFew (p : Position) : Type 0 where
  pub legal : (m : Move) → is_wide_legal (widen p) m ≡ is_legal p m
  pub listed : wide_legal_list (widen p) ≡ legal_list p
  pub after : (m : Move) → wide_after (widen p) m ≡ widen (after p m)

abbrev pub AllAgreeWithFew : Type 0
AllAgreeWithFew = (p : Position) → AgreesWithFew p

-- a valid position is a small wide one, and a small wide one is a valid position
pub record AreSmallValid : Type 0 where
  pub wide : (p : Position) → IsValid p → IsWide (widen p) × (narrow (widen p) ≡ Some p)
  pub valid : (g : Wide) (p : Position) → IsWide g → narrow g ≡ Some p → IsValid p × (g ≡ widen p)

-- a legal move leads from a small position to a small position
abbrev pub SmallStaysSmall : Type 0
SmallStaysSmall = (g : Wide) (m : Move) → IsWide g → is_small g ≡ true → is_wide_legal g m ≡ true → is_small (wide_after g m) ≡ true

-- mate, stalemate and forced mate are the same
pub record HasSameGame (g : Wide) (p : Position) : Type 0 where
  pub mate : IsMate p ↔ IsWideMate g
  pub stalemate : IsStalemate p ↔ IsWideStalemate g
  pub mates : (n : ℕ) → MatesWithin n p ↔ WideMatesWithin n g
  pub mated : (n : ℕ) → IsMatedWithin n p ↔ IsWideMatedWithin n g

abbrev pub FewMenHaveSameGame : Type 0
FewMenHaveSameGame = (g : Wide) (p : Position) → narrow g ≡ Some p → HasSameGame g p
