-- The classes that the positions of a script need, and passed squares, as texts.
use Rattle.std.specs.Prelude.{◌≡◌, ℕ, List, [], ◌∷◌, Some, Result, Ok, Err}
use Rattle.std.specs.List.{flat_map}
use Rattle.study_board.specs.Position.{Position}
use Rattle.study_material.specs.declared.class.Class.{Class}
use Rattle.study_material.specs.Class.{name_of}
use Rattle.study_notation.specs.declared.fault.FenFault.{FenFault}
use Rattle.study_notation.specs.declared.start.Start.{Start}
use Rattle.study_notation.specs.Fen.{start_of}
use Rattle.study_notation.specs.FenSpelling.{square_text}
use Rattle.study_command.specs.Parser.{Asks, fen_command, command_of}
use Rattle.study_view.specs.Setup.{AreClassesNeeded}
use Rattle.study_web.specs.Reported.{line_of}

abbrev pub position_decoded : Result Start FenFault → List Position
position_decoded (Ok start) = start.position ∷ []
position_decoded (Err fault) = []

-- the position of a line `position` or `shift`, if its FEN is valid
abbrev pub position_asked : Asks → List Position
position_asked (Ok (Some (fen_command word fen))) = position_decoded (start_of fen)
position_asked _ = []

abbrev pub position_in : List ℕ → List Position
position_in line = position_asked (command_of line)

-- the positions of the lines, in their order
abbrev pub positions_in : List (List ℕ) → List Position
positions_in lines = flat_map position_in lines

-- a class a line
abbrev pub classes_text : List Class → List ℕ
classes_text classes = flat_map (λ c. line_of (name_of c)) classes

-- a square a line
abbrev pub squares_text : List ℕ → List ℕ
squares_text squares = flat_map (λ x. line_of (square_text x)) squares

-- all classes that the positions of these lines need, each after those that it needs
abbrev pub AreTables : List (List ℕ) → List ℕ → Type 0
AreTables lines text = (classes : List Class) × AreClassesNeeded (positions_in lines) classes × (text ≡ classes_text classes)
