-- Positions that differ from another in the square of one man.
use Rattle.std.specs.Prelude.{◌≡◌, ◌⊎◌, ℕ, ◌<◌, map, List, [], ◌∷◌, None}
use Rattle.study_board.specs.declared.men.Man.{Man}
use Rattle.study_board.specs.Men.{moved_if}
use Rattle.study_board.specs.Position.{Position, in_order, first_fault}

-- the men, with the man of one square on another
abbrev pub moved_men : ℕ → ℕ → List Man → List Man
moved_men from to men = map (moved_if from to) men

abbrev pub with_man_moved : Position → ℕ → ℕ → Position
with_man_moved p from to = record { men = in_order (moved_men from to p.men); to_move = p.to_move; passed = p.passed }

-- with the man of one square on another the position is valid, and it is such
abbrev pub IsMovedTo : (Position → Type 0) → Position → ℕ → ℕ → Type 0
IsMovedTo P p from to = (first_fault (moved_men from to p.men) p.to_move p.passed ≡ None) × P (with_man_moved p from to)

-- with one of these men on another square the position is such
abbrev pub SomeMoved : (Position → Type 0) → Position → List Man → Type 0
SomeMoved P p [] = ⊥
SomeMoved P p (m ∷ ms) = ((to : ℕ) × (to < 64) × IsMovedTo P p m.at to) ⊎ SomeMoved P p ms
