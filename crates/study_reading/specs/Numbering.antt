-- The numbers of moves: the text of a game leaves out no move.
use Rattle.std.specs.Prelude.{ℕ, ◌+◌, ◌/◌, ◌%◌, Bool, true, false, not, ◌&&◌, ◌||◌, ◌==◌, List, [], ◌∷◌, Option, Some, None, if◌then◌else◌}
use Rattle.study_board.specs.declared.men.Side.{Side}
use Rattle.study_board.specs.declared.men.Side.TheVariants.{White, Black}
use Rattle.study_notation.specs.Fen.{digits_parsed}
use Rattle.study_games.specs.Bytes.{is_blank}
use Rattle.study_games.specs.Symbols.{said_of}
use Rattle.study_games.specs.declared.symbols.Said.{Said}
use Rattle.study_games.specs.declared.symbols.Said.TheVariants as say
use Rattle.study_games.specs.Tokens.{Token, behind, without_first, begins_ellipsis, symbol}
use Rattle.study_reading.specs.declared.numbering.MoveNumber.{MoveNumber}
use Rattle.study_reading.specs.declared.numbering.Numbering.{Numbering}

-- ---- dots

abbrev pub begins_dot : List ℕ → Bool
begins_dot [] = false
begins_dot (b ∷ bs) = b == 46

-- a text that begins with a dot, or with `…`, behind blanks
unfoldable pub has_dot : List ℕ → Bool
has_dot text = begins_dot (behind is_blank text) || begins_ellipsis (behind is_blank text)

-- with two dots or more, or with `…`: they mark Black's move
unfoldable pub has_dots : List ℕ → Bool
has_dots text =
    begins_ellipsis (behind is_blank text)
    || (begins_dot (behind is_blank text) && has_dot (without_first (behind is_blank text)))

-- ---- numbers

-- Black's moves among the first d half moves of a game that this side begins: the number of a move is the number of the first one and this
abbrev pub black_moves : Side → ℕ → ℕ
black_moves White d = d / 2
black_moves Black d = (d + 1) / 2

-- whether Black is to move after them
abbrev pub is_black_to_move : Side → ℕ → Bool
is_black_to_move White d = d % 2 == 1
is_black_to_move Black d = d % 2 == 0

-- two numbers of a game fit each other if they differ by Black's moves between them, as the PGN Standard counts; if Black begins, some count pairs of
-- moves (`1. Kd5 Kd3 2. Kd4`), and then the numbers differ by the second moves of pairs between them. If White begins, both are the same
abbrev pub numbers_fit : Side → Bool → MoveNumber → MoveNumber → Bool
numbers_fit side true a b = a.number + b.depth / 2 == b.number + a.depth / 2
numbers_fit side false a b = a.number + black_moves side b.depth == b.number + black_moves side a.depth

-- the first number of a game is as it is, since a game may begin at any number
abbrev pub fits_first : Side → Bool → Option MoveNumber → MoveNumber → Bool
fits_first side pairs None n = true
fits_first side pairs (Some first) n = numbers_fit side pairs first n

-- the first number decides how a game counts: one dot before a move of Black begins a count of pairs. dots: two or more
abbrev pub begun_by : Side → Numbering → Bool → MoveNumber → Option MoveNumber → Numbering
begun_by side s dots n None = record { first = Some n; pairs = is_black_to_move side n.depth && not dots }
begun_by side s dots n (Some first) = record { first = Some first; pairs = s.pairs }

-- the numbering after a number that fits; with dots White's move may not be next
abbrev pub with_number : Side → Numbering → Bool → MoveNumber → Option Numbering
with_number side s dots n =
    if (is_black_to_move side n.depth || not dots) && fits_first side s.pairs s.first n then Some (begun_by side s dots n s.first) else None

-- ---- numbers in a text, at the node after d half moves

-- a number of more than nine digits does not fit
abbrev pub reported_numbered : Side → ℕ → Numbering → Bool → Option ℕ → Option Numbering
reported_numbered side d s dots None = None
reported_numbered side d s dots (Some n) = with_number side s dots (record { number = n; depth = d })

-- digits are the number of a move if a dot is behind them; others are ignored
unfoldable pub digits_numbered : Side → ℕ → Numbering → List ℕ → List ℕ → Option Numbering
digits_numbered side d s digits behind =
    if has_dot behind then reported_numbered side d s (has_dots behind) (digits_parsed 9 digits) else Some s

abbrev pub said_numbered : Side → ℕ → Numbering → List ℕ → List ℕ → Said → Option Numbering
said_numbered side d s text behind say.Number = digits_numbered side d s text behind
said_numbered side d s text behind other = Some s

-- a token before this text; None: it is a number that does not fit
abbrev pub token_numbered : Side → ℕ → Numbering → Token → List ℕ → Option Numbering
token_numbered side d s (symbol text) behind = said_numbered side d s text behind (said_of text)
token_numbered side d s other behind = Some s
