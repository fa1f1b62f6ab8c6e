-- The start that a FEN text spells, or its first fault, and the one text that is written for a start.
use Rattle.std.specs.Prelude.{ℕ, not, ◌&&◌, ◌==◌, List, [], ◌∷◌, Option, Some, None, Result, Ok, if◌then◌else◌, decimal}
use Rattle.std.specs.List.{join_with_byte}
use Rattle.study_text.specs.Words.{words}
use Rattle.study_board.specs.declared.men.Side.{Side}
use Rattle.study_board.specs.declared.men.Side.TheVariants.{White, Black}
use Rattle.study_board.specs.declared.men.Man.{Man}
use Rattle.study_board.specs.Men.{other_side}
use Rattle.study_board.specs.Position.{has_one_king, has_end_pawn, in_check, passed_possible}
use Rattle.study_notation.specs.declared.fault.FenFault.{FenFault}
use Rattle.study_notation.specs.declared.fault.FenFault.TheVariants.{FieldCount, Placement, TooManyMen, KingCount}
use Rattle.study_notation.specs.declared.fault.FenFault.TheVariants.{PawnOnEndRank, SideField, OpponentInCheck}
use Rattle.study_notation.specs.declared.fault.FenFault.TheVariants.{Castling, EnPassantField, EnPassantImpossible}
use Rattle.study_notation.specs.declared.fault.FenFault.TheVariants.{Clock, MoveNumber}
use Rattle.study_notation.specs.Fen.{Fields, fields_of, placement, side_of, passed_of, count_of, ◌>>=◌, refuse, refuse_any, field_needed}
use Rattle.study_notation.specs.FenSpelling.{placement_text, side_text, passed_text}
use Rattle.study_wide.specs.declared.rights.Rights.{Rights}
use Rattle.study_wide.specs.Rights.{rights_fit}
use Rattle.study_wide.specs.Wide.{Wide, is_crowded}
use Rattle.study_wide_text.specs.declared.start.WideStart.{WideStart}
use Rattle.study_wide_text.specs.RightsField.{rights_of, castling_text}

-- the first fault of men that are placed, whoever is to move
unfoldable pub wide_placement_fault : List Man → Option FenFault
wide_placement_fault men =
    if is_crowded men then Some TooManyMen
    else (if not (has_one_king men White && has_one_king men Black) then Some KingCount
    else (if has_end_pawn men then Some PawnOnEndRank else None))

-- the men with the side to move, the passed square and the rights, if a pawn may have passed the square just before
unfoldable pub wide_position_of : List Man → Side → Option ℕ → Rights → Option Wide
wide_position_of men side passed rights = if passed_possible men side passed
    then Some (record { board = record { men = men; to_move = side; passed = passed }; rights = rights }) else None

-- as with four men, but for the number of men and the rights to castle, whose kings and rooks must be in place
unfoldable pub wide_start_of : List ℕ → Result WideStart FenFault
wide_start_of text = do
  f ← field_needed (fields_of (words text)) FieldCount
  men ← field_needed (placement f.placement) Placement
  _ ← refuse_any (wide_placement_fault men)
  side ← field_needed (side_of f.side) SideField
  _ ← refuse (in_check men (other_side side)) OpponentInCheck
  rights ← field_needed (rights_of f.castling) Castling
  _ ← refuse (not (rights_fit men rights)) Castling
  passed ← field_needed (passed_of f.passed) EnPassantField
  position ← field_needed (wide_position_of men side passed rights) EnPassantImpossible
  clock ← field_needed (count_of f.clock) Clock
  number ← field_needed (count_of f.number) MoveNumber
  Ok (record { position = position; clock = clock; number = if number == 0 then 1 else number })

-- Not part of any public contract: the position of the first four fields, and the start with the other two
unfoldable pub wide_position_at : Fields → Result Wide FenFault
wide_position_at f = do
  men ← field_needed (placement f.placement) Placement
  _ ← refuse_any (wide_placement_fault men)
  side ← field_needed (side_of f.side) SideField
  _ ← refuse (in_check men (other_side side)) OpponentInCheck
  rights ← field_needed (rights_of f.castling) Castling
  _ ← refuse (not (rights_fit men rights)) Castling
  passed ← field_needed (passed_of f.passed) EnPassantField
  field_needed (wide_position_of men side passed rights) EnPassantImpossible

unfoldable pub wide_counted : Fields → Wide → Result WideStart FenFault
wide_counted f position = do
  clock ← field_needed (count_of f.clock) Clock
  number ← field_needed (count_of f.number) MoveNumber
  Ok (record { position = position; clock = clock; number = if number == 0 then 1 else number })

-- six fields
unfoldable pub wide_fen_text : WideStart → List ℕ
wide_fen_text s =
    join_with_byte 32 (placement_text s.position.board.men ∷ side_text s.position.board.to_move ∷ castling_text s.position.rights ∷ passed_text
    s.position.board.passed ∷ decimal s.clock ∷ decimal s.number ∷ [])
