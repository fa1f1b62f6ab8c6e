-- The arguments of a search: `CLASS THEME [FILTER ..] FROM TO`.
use Rattle.std.specs.Prelude.{ℕ, nat_le, List, [], ◌∷◌, length, Option, Some, None, Result, Ok, Err, if◌then◌else◌}
use Rattle.study_material.specs.declared.class.Class.{Class}
use Rattle.study_command.specs.declared.command.SyntaxFault.TheVariants.{BadArguments}
use Rattle.study_reply.specs.declared.refusal.Refusal.TheVariants.{Form, NotAClass}
use Rattle.study_script.specs.Replies.{class_parsed}
use Rattle.study_listing.specs.declared.piece_words.Piece.{Piece}
use Rattle.study_listing.specs.declared.piece_words.PieceFault.{PieceFault}
use Rattle.study_listing.specs.declared.piece_words.PieceFault.TheVariants as fault
use Rattle.study_listing.specs.Pieces.{piece_of}
use Rattle.study_web.specs.Asked.{Asks, find, unread}

-- the numbers are refused as arguments, the theme and its filters by their names
abbrev pub find_piece : Result Piece PieceFault → Asks
find_piece (Ok piece) = Ok (find piece)
find_piece (Err (fault.Unread why)) = Ok (unread why)
find_piece (Err fault.NoNumbers) = Err (Form BadArguments)

-- at most sixteen words after the class
abbrev pub find_for : Class → List (List ℕ) → Asks
find_for c ws = if nat_le (length ws) 16 then find_piece (piece_of c ws) else Err (Form BadArguments)

abbrev pub find_of : Option Class → List (List ℕ) → Asks
find_of None ws = Err NotAClass
find_of (Some c) ws = find_for c ws

abbrev pub find_asked : List (List ℕ) → Asks
find_asked [] = Err (Form BadArguments)
find_asked (name ∷ ws) = find_of (class_parsed name) ws
