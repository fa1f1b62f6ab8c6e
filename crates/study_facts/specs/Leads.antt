-- Not part of any public contract: the positions that some or each of the moves in a list lead to.
use Rattle.std.specs.Prelude.{◌≡◌, ℕ, true, Bool, ◌⊎◌, List, [], ◌∷◌}
use Rattle.study_board.specs.Position.{Position}
use Rattle.study_moves.specs.declared.moves.Move.{Move}
use Rattle.study_moves.specs.Rules.{after}
use Rattle.study_facts.specs.Repetition.{HasLost, Wins, IsRepeatableWithin}

-- some of these moves of q leads to a position with the property
abbrev pub SomeLeads : (Position → Type 0) → Position → List Move → Type 0
SomeLeads P q [] = ⊥
SomeLeads P q (m ∷ ms) = P (after q m) ⊎ SomeLeads P q ms

-- each of these moves of q leads to a position with the property
abbrev pub EachLeads : (Position → Type 0) → Position → List Move → Type 0
EachLeads P q [] = Unit {0}
EachLeads P q (m ∷ ms) = P (after q m) × EachLeads P q ms

-- some of these moves of r wins, or one before them does, and each winning move leads to a position that is back within m
abbrev pub AllWinsRepeat : List Position → ℕ → Position → Bool → List Move → Type 0
AllWinsRepeat line m r won ms = ((won ≡ true) ⊎ SomeLeads HasLost r ms) × EachLeads (λ s. HasLost s → IsRepeatableWithin line m s) r ms

-- some legal move of r wins, and each winning move leads to a position that is back within m
abbrev pub MustRepeat : List Position → ℕ → Position → Type 0
MustRepeat line m r = ((h : Move) × Wins r h) × ((h : Move) → Wins r h → IsRepeatableWithin line m (after r h))
