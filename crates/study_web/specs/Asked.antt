-- A request, with its arguments read.
use Rattle.std.specs.Prelude.{ℕ, List, Option, Result}
use Rattle.study_material.specs.declared.class.Class.{Class}
use Rattle.study_notation.specs.declared.start.Start.{Start}
use Rattle.study_marks.specs.declared.stipulation.Stipulation.{Stipulation}
use Rattle.study_reply.specs.declared.refusal.Refusal.{Refusal}
use Rattle.study_import.specs.declared.importer.Choice.{Choice}
use Rattle.study_search.specs.declared.only_moves.Outcome.{Outcome}
use Rattle.study_listing.specs.declared.filter_words.Unread.{Unread}
use Rattle.study_listing.specs.declared.piece_words.Piece.{Piece}

-- a request, with its arguments read; or a search whose words name no theme
pub data Asked : Type 0 where
  run review report tables wording remarks : Asked
  make : (class : Class) → Asked
  view : (steps : List ℕ) → Asked
  survey : (square : ℕ) (stipulation : Stipulation) (start : Start) → Asked
  passed : (start : Start) → Asked
  find : (piece : Piece) → Asked
  unread : (fault : Unread) → Asked
  row : (outcome : Outcome) (start : Start) → Asked
  bring : (choice : Choice) → Asked

abbrev pub Asks : Type 0
Asks = Result Asked Refusal
