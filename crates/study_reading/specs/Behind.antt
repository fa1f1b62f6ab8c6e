-- Moves behind the result of a game.
use Rattle.std.specs.Prelude.{ℕ, zero, suc, Bool, true, false, ◌&&◌, ◌||◌, ◌==◌, nat_le, List, [], ◌∷◌, length, codes, Option, Some, None, Result, Ok}
use Rattle.std.specs.Prelude.{Err, if◌then◌else◌}
use Rattle.std.specs.Str.{bytes_eq}
use Rattle.study_games.specs.Symbols.{said_of}
use Rattle.study_games.specs.declared.symbols.Said.{Said}
use Rattle.study_games.specs.declared.symbols.Said.TheVariants as say
use Rattle.study_games.specs.declared.token.TokenFault.{TokenFault}
use Rattle.study_games.specs.declared.token.TokenFault.TheVariants as token_fault
use Rattle.study_games.specs.Tokens.{Token, Lexed, lexed_token, behind, is_in_line, without_first, opening, closing, sign, symbol}
use Rattle.study_reading.specs.declared.movetext.MovesFault.{MovesFault}
use Rattle.study_reading.specs.declared.movetext.Stop.TheVariants as stop
use Rattle.study_reading.specs.Movetext.{Ended, fault_at}

-- a letter from `a` to `h`, and a digit from `1` to `8`
abbrev pub begins_square : List ℕ → Bool
begins_square (file ∷ rank ∷ bs) = (nat_le 97 file && nat_le file 104) && (nat_le 49 rank && nat_le rank 56)
begins_square other = false

-- every move names a square, except for castling, which no position of a script allows
abbrev pub names_square : List ℕ → Bool
names_square [] = false
names_square (b ∷ bs) = begins_square (b ∷ bs) || names_square bs

abbrev pub is_said_move : List ℕ → Said → Bool
is_said_move text say.NullMove = true
is_said_move text say.Move = names_square text
is_said_move text other = false

-- a move, a null move or a parenthesis. Other words are not moves
abbrev pub is_of_moves : Token → Bool
is_of_moves opening = true
is_of_moves closing = true
is_of_moves (sign text) = bytes_eq text (codes "--")
is_of_moves (symbol text) = is_said_move text (said_of text)
is_of_moves other = false

-- where no token begins: an open comment takes the rest of the text, and an open value the rest of its line; any other byte is skipped
abbrev pub behind_fault : TokenFault → List ℕ → List ℕ
behind_fault token_fault.OpenComment text = []
behind_fault token_fault.OpenString text = behind is_in_line (without_first text)
behind_fault other text = without_first text

abbrev pub moves_or : (List ℕ → Option ℕ) → List ℕ → Lexed → Option ℕ
moves_or next text (Err fault) = next (behind_fault fault text)
moves_or next text (Ok x) = if is_of_moves x.0 then Some (length text) else next x.1

-- the number of bytes from the first move or parenthesis on. At most n tokens are read, so that a text's length is enough
abbrev pub moves_left : ℕ → Bool → List ℕ → Option ℕ
moves_left zero fresh text = None
moves_left (suc n) fresh [] = None
moves_left (suc n) fresh (b ∷ bs) = moves_or (moves_left n (b == 10)) (b ∷ bs) (lexed_token fresh b bs)

-- for a text that does not begin a line
unfoldable pub moves_in : List ℕ → Option ℕ
moves_in text = moves_left (length text) false text

-- ---- a game has no moves behind its result

abbrev pub ended_unless : {S : Type 0} → Ended S → Option ℕ → Result (Ended S) MovesFault
ended_unless x None = Ok x
ended_unless x (Some left) = fault_at stop.BehindResult left

abbrev pub to_the_end : {S : Type 0} → Result (Ended S) MovesFault → Result (Ended S) MovesFault
to_the_end (Err fault) = Err fault
to_the_end (Ok x) = ended_unless x (moves_in x.behind)
