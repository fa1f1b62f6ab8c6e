-- Games whose moves name the pieces by letters of another language.
use Rattle.std.specs.Prelude.{ℕ, zero, suc, ◌-◌, Bool, true, ◌==◌, List, ◌∷◌, ◌++◌, length, take, map, codes, Option, Some, Ok, if◌then◌else◌}
use Rattle.study_games.specs.declared.language.Language.{Language}
use Rattle.study_games.specs.declared.language.Language.TheVariants.{German, French, Spanish, Dutch}
use Rattle.study_games.specs.declared.symbols.Said.{Said}
use Rattle.study_games.specs.declared.symbols.Said.TheVariants as said
use Rattle.study_games.specs.Symbols.{said_of}
use Rattle.study_games.specs.Tokens.{Token, Lexed, token_at, begins_feed, symbol}

abbrev pub language_name : Language → List ℕ
language_name German = codes "German"
language_name French = codes "French"
language_name Spanish = codes "Spanish"
language_name Dutch = codes "Dutch"

-- the letters of king, queen, rook, bishop and knight
abbrev pub letters_of : Language → List ℕ
letters_of German = codes "KDTLS"
letters_of French = codes "RDTFC"
letters_of Spanish = codes "RDTAC"
letters_of Dutch = codes "KDTLP"

-- the byte of the second text at the place of b in the first, or else the byte `other`
abbrev pub byte_for : ℕ → List ℕ → List ℕ → ℕ → ℕ
byte_for b (x ∷ xs) (y ∷ ys) other = if b == x then y else byte_for b xs ys other
byte_for b xs ys other = other

-- the English letter of the piece with this letter; an English letter that is no letter of the language becomes `Y`, which no move has, so that a game
-- in a mixture of two languages is not read
unfoldable pub english_byte : Language → ℕ → ℕ
english_byte language b = byte_for b (letters_of language) (codes "KQRBN") (byte_for b (codes "KQRBN") (codes "YYYYY") b)

-- ---- a game's text

abbrev pub said_in_english : Language → Said → List ℕ → List ℕ
said_in_english language said.Move bytes = map (english_byte language) bytes
said_in_english language other bytes = bytes

-- the bytes of a token: a move in English letters, any other token as it is
abbrev pub token_in_english : Language → Token → List ℕ → List ℕ
token_in_english language (symbol text) bytes = said_in_english language (said_of text) bytes
token_in_english language other bytes = bytes

-- from the first token that cannot be read on, the text is unchanged
abbrev pub english_then : (List ℕ → List ℕ) → Language → List ℕ → Option Lexed → List ℕ
english_then next language text (Some (Ok x)) = token_in_english language x.0 (take (length text - length x.1) text) ++ next x.1
english_then next language text other = text

-- at most n tokens are read
abbrev pub english_from : ℕ → Language → Bool → List ℕ → List ℕ
english_from zero language fresh text = text
english_from (suc n) language fresh text = english_then (english_from n language (begins_feed text)) language text (token_at fresh text)

-- each token has at least one byte, so that the length of a text is enough
unfoldable pub in_english : Language → List ℕ → List ℕ
in_english language text = english_from (length text) language true text
