-- Where the moves of a study lead.
use Rattle.std.specs.Prelude.{ℕ, List, [], ◌∷◌, length, Option, Some, None, if◌then◌else◌}
use Rattle.std.specs.List.{flat_map}
use Rattle.study_board.specs.Position.{Position}
use Rattle.study_board.specs.Equal.{same_position}
use Rattle.study_moves.specs.declared.moves.Move.{Move}
use Rattle.study_tree.specs.Tree.{spot_at}
use Rattle.study_marks.specs.declared.mark.Mark.{Mark}
use Rattle.study_marks.specs.Bench.{played_by}
use Rattle.study_marks.specs.Study.{Study, position_at}
use Rattle.study_facts.specs.Nodes.{parent_path}
use Rattle.study_facts.specs.Order.{written_order}
use Rattle.study_head.specs.declared.mistake.NamedMove.{NamedMove}
use Rattle.study_head.specs.declared.reached.Reached.{Reached}
use Rattle.study_head.specs.Words.{number_at}

-- the move m by its name, where the last move of the path is made
abbrev pub named_at : Study Mark → List ℕ → Move → NamedMove
named_at s path m = record { number = number_at s.start (length (parent_path path)); position = position_at s (parent_path path); played = m }

-- the position at the path, and the move that leads to it, if one does
abbrev pub reached_with : Study Mark → List ℕ → Option Move → List Reached
reached_with s path None = []
reached_with s path (Some m) = (record { position = position_at s path; by = named_at s path m }) ∷ []

abbrev pub reached_by : Study Mark → List ℕ → List Reached
reached_by s path = reached_with s path (played_by (spot_at s.tree path))

-- the positions that the moves of a study lead to, in written order
abbrev pub all_reached : Study Mark → List Reached
all_reached s = flat_map (reached_by s) (written_order s)

-- the first of these moves that leads to the position
abbrev pub first_to : List Reached → Position → Option NamedMove
first_to [] q = None
first_to (x ∷ xs) q = if same_position x.position q then Some x.by else first_to xs q
