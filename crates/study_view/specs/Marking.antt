-- Not part of any public contract: the line of a move, by the values after all legal moves.
use Rattle.std.specs.Prelude.{ℕ, ◌+◌, List, [], ◌∷◌, Some, if◌then◌else◌}
use Rattle.study_notation.specs.declared.start.Start.{Start}
use Rattle.study_values.specs.declared.value.Value.{Value}
use Rattle.study_marks.specs.declared.mark_rules.Aim.{Aim}
use Rattle.study_marks.specs.Goals.{hero_moves, holds}
use Rattle.study_marks.specs.Marks.{mark_of}
use Rattle.study_facts.specs.declared.continuation.EvaluatedMove.{EvaluatedMove}
use Rattle.study_view.specs.Words.{move_line}

-- the number of these moves from depth d that hold
abbrev pub holding_count : Aim → ℕ → List EvaluatedMove → ℕ
holding_count a d [] = 0
holding_count a d (x ∷ xs) = (if holds a (d + 1) x.value then 1 else 0) + holding_count a d xs

-- the line of a move from a node at depth d, with this start and this value, if n of the legal moves hold
abbrev pub line_of_move : Aim → ℕ → Start → Value → ℕ → EvaluatedMove → List ℕ
line_of_move a d here before n x =
    move_line here x.played x.value (Some (mark_of (hero_moves a d) (holds a d before) (holds a (d + 1) x.value) n))
