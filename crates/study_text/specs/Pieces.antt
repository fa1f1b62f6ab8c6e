-- Texts, piece by piece.
use Rattle.std.specs.Prelude.{ℕ, List, [], ◌∷◌, ◌++◌, decimal}
use Rattle.study_text.specs.Paths.{path_text}
use Rattle.study_text.specs.declared.pieces.Piece.{Piece}
use Rattle.study_text.specs.declared.pieces.Piece.TheVariants.{Bytes, Number, Path, Child}

abbrev pub piece_text : Piece → List ℕ
piece_text (Bytes bytes) = bytes.now
piece_text (Number number) = decimal number
piece_text (Path steps) = path_text steps.now
piece_text (Child steps place) = path_text (steps.now ++ place ∷ [])
