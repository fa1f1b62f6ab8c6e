-- The moves of a position that a review lists, with the values after them.
use Rattle.std.specs.Prelude.{◌≡◌, ℕ, ◌+◌, Bool, true, false, not, ◌||◌, List, [], ◌∷◌, ◌++◌, map, if◌then◌else◌}
use Rattle.std.specs.List.{filter}
use Rattle.study_board.specs.Position.{Position}
use Rattle.study_moves.specs.declared.moves.Move.{Move}
use Rattle.study_moves.specs.LegalList.{legal_list}
use Rattle.study_values.specs.declared.value.Value.{Value}
use Rattle.study_values.specs.declared.value.Value.TheVariants.{Win, Loss, Draw}
use Rattle.study_moves.specs.Rules.{after}
use Rattle.study_marks.specs.declared.mark_rules.Aim.{Aim}
use Rattle.study_marks.specs.Study.{same_move}
use Rattle.study_marks.specs.Goals.{holds}
use Rattle.study_marks.specs.Annotated.{AreValuesAfter}
use Rattle.study_facts.specs.declared.continuation.EvaluatedMove.{EvaluatedMove}
use Rattle.study_facts.specs.declared.continuation.MoveFilter.{MoveFilter}
use Rattle.study_facts.specs.declared.continuation.MoveFilter.TheVariants.{Holding, Failing, Drawing, All}

-- the positions after these moves
abbrev pub positions_after : Position → List Move → List Position
positions_after p ms = map (after p) ms

abbrev pub contains_move : Move → List Move → Bool
contains_move m [] = false
contains_move m (n ∷ ns) = same_move m n || contains_move m ns

-- the legal moves of p except these
abbrev pub moves_except : List Move → Position → List Move
moves_except without p = filter (λ m. not (contains_move m without)) (legal_list p)

-- each move with the value after it, if that is wanted
abbrev pub if_wanted : (Value → Bool) → Move → Value → List EvaluatedMove
if_wanted wanted m v = if wanted v then record { played = m; value = v } ∷ [] else []

abbrev pub wanted_moves : (Value → Bool) → List Move → List Value → List EvaluatedMove
wanted_moves wanted [] vs = []
wanted_moves wanted (m ∷ ms) [] = []
wanted_moves wanted (m ∷ ms) (v ∷ vs) = if_wanted wanted m v ++ wanted_moves wanted ms vs

-- the list has those of these moves of p whose value is wanted, each with the game's value after it, in order
abbrev pub AreChosen : (Value → Bool) → Position → List Move → List EvaluatedMove → Type 0
AreChosen wanted p ms list = (all : List Value) × AreValuesAfter p ms all × (list ≡ wanted_moves wanted ms all)

-- from a position p at depth d: the legal moves after which the position holds
abbrev pub AreHoldingMoves : Aim → ℕ → Position → List EvaluatedMove → Type 0
AreHoldingMoves a d p list = AreChosen (holds a (d + 1)) p (legal_list p) list

-- the legal moves after which the position does not hold
abbrev pub AreRefutations : Aim → ℕ → Position → List EvaluatedMove → Type 0
AreRefutations a d p list = AreChosen (λ v. not (holds a (d + 1) v)) p (legal_list p) list

-- the legal moves other than m after which the position holds
abbrev pub AreAlternatives : Aim → ℕ → Position → Move → List EvaluatedMove → Type 0
AreAlternatives a d p m list = AreChosen (holds a (d + 1)) p (moves_except (m ∷ []) p) list

-- the legal moves that are not in the list
abbrev pub AreMissing : Position → List Move → List EvaluatedMove → Type 0
AreMissing p there list = AreChosen (λ v. true) p (moves_except there p) list

-- the moves that keep a draw: those after which the position is drawn
abbrev pub is_draw : Value → Bool
is_draw (Win n) = false
is_draw (Loss n) = false
is_draw Draw = true

abbrev pub AreDrawingMoves : Position → List EvaluatedMove → Type 0
AreDrawingMoves p list = AreChosen is_draw p (legal_list p) list

-- whether a value after a move from depth d is wanted
abbrev pub is_wanted : MoveFilter → Aim → ℕ → Value → Bool
is_wanted Holding a d v = holds a (d + 1) v
is_wanted Failing a d v = not (holds a (d + 1) v)
is_wanted Drawing a d v = is_draw v
is_wanted All a d v = true
