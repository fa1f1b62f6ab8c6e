-- The first mistake of the solution.
use Rattle.std.specs.Prelude.{◌≡◌, ℕ, ◌+◌, true, ◌&&◌, List, [], ◌∷◌, ◌++◌, length, Option, Some, None, if◌then◌else◌, codes, decimal}
use Rattle.study_board.specs.Position.{Position}
use Rattle.study_moves.specs.declared.moves.Move.{Move}
use Rattle.study_moves.specs.Rules.{is_legal, after}
use Rattle.study_notation.specs.declared.start.Start.{Start}
use Rattle.study_notation.specs.SanSpelling.{move_text}
use Rattle.study_tree.specs.Forest.{Forest, none, more}
use Rattle.study_marks.specs.declared.mark.Mark.{Mark}
use Rattle.study_marks.specs.declared.mark.MoveMark.{MoveMark}
use Rattle.study_marks.specs.declared.mark_rules.Aim.{Aim}
use Rattle.study_marks.specs.Study.{Study, position_at}
use Rattle.study_marks.specs.Goals.{hero_moves}
use Rattle.study_pgn.specs.Moves.{move_dots}
use Rattle.study_facts.specs.Faults.{Fault, solution_faults}
use Rattle.study_facts.specs.Nodes.{is_mistake, parent_path}
use Rattle.study_head.specs.declared.mistake.NamedMove.{NamedMove}
use Rattle.study_head.specs.Words.{number_at}

-- `3... Kb4`
unfoldable pub move_name : NamedMove → List ℕ
move_name m = decimal m.number ++ (move_dots m.position.to_move ++ (codes " " ++ move_text m.position m.played))

abbrev pub IsLegalMove : NamedMove → Type 0
IsLegalMove m = is_legal m.position m.played ≡ true

-- the first of these faults that is a mistake: the others are duals
abbrev pub mistake_among : List Fault → Option Fault
mistake_among [] = None
mistake_among (x ∷ xs) = if is_mistake (Some x.mark) then Some x else mistake_among xs

-- the name of the move of a fault
abbrev pub fault_name : Study Mark → Fault → NamedMove
fault_name s x = record {
  number = number_at s.start (length (parent_path x.path));
  position = position_at s (parent_path x.path);
  played = x.played;
}

abbrev pub named_fault : Study Mark → Option Fault → Option NamedMove
named_fault s None = None
named_fault s (Some x) = Some (fault_name s x)

-- the author's first mistake, in written order: of the solution's moves by which the hero throws it away the first
abbrev pub first_mistake : Study Mark → Option NamedMove
first_mistake s = named_fault s (mistake_among (solution_faults s))

-- ---- Not part of any public contract: the same from a node at depth d with this position, whose moves these are.

abbrev pub or_else : Option NamedMove → Option NamedMove → Option NamedMove
or_else None y = y
or_else (Some x) y = Some x

abbrev pub own_mistake : Aim → Start → ℕ → Position → Move → Option MoveMark → Option NamedMove
own_mistake a start d p m mark =
    if hero_moves a d && is_mistake mark then Some (record { number = number_at start d; position = p; played = m }) else None

abbrev pub mistake_below : Aim → Start → ℕ → Position → Forest Mark → Option NamedMove
mistake_below a start d p none = None
mistake_below a start d p (more m x b r) =
    or_else (own_mistake a start d p m x.on_move)
    (or_else (mistake_below a start (d + 1) (after p m) b) (if hero_moves a d then None else mistake_below a start d p r))
