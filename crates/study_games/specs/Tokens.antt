-- The tokens of a PGN text.
use Rattle.std.specs.Prelude.{ℕ, ◌+◌, Bool, true, false, not, ◌&&◌, ◌||◌, ◌==◌, List, [], ◌∷◌, take, drop}
use Rattle.std.specs.Prelude.{Option, Some, None, Result, Ok, Err, if◌then◌else◌}
use Rattle.std.specs.List.{prefix_len}
use Rattle.study_games.specs.declared.token.TokenFault.{TokenFault}
use Rattle.study_games.specs.declared.token.TokenFault.TheVariants.{OpenComment, TagForm, OpenString, Byte}
use Rattle.study_games.specs.declared.token.Cut.{Cut}
use Rattle.study_games.specs.declared.token.Token.{Token as Read}
use Rattle.study_games.specs.declared.token.Token.TheVariants as read
use Rattle.study_games.specs.Bytes.{is_blank, is_gap, is_letter, is_digit, is_name_byte, is_sign, is_tail, begins_symbol, is_symbol_byte, is_glyph, is_feed}
use Rattle.study_games.specs.Bytes.{is_brace_end}
use Rattle.study_games.specs.Spaces.{space_len, begins_space, ink_len}

-- blank: blanks, spaces outside of ASCII, dots, `…` and escape lines, which are ignored; aside: a NAG or a glyph
pub data Token : Type 0 where
  blank aside opening closing star : Token
  tag : (name value : List ℕ) → Token
  comment rest sign symbol : (text : List ℕ) → Token

-- a token and the rest of the text
abbrev pub Lexed : Type 0
Lexed = Result (Token × List ℕ) TokenFault

-- the longest prefix of such bytes, and the rest
abbrev pub front : (ℕ → Bool) → List ℕ → List ℕ
front p text = take (prefix_len p text) text

abbrev pub behind : (ℕ → Bool) → List ℕ → List ℕ
behind p text = drop (prefix_len p text) text

-- ---- comments

-- up to the first `}`; braces are not counted
abbrev pub lexed_comment : List ℕ → List ℕ → Lexed
lexed_comment text [] = Err OpenComment
lexed_comment text (b ∷ bs) = Ok (comment text, bs)

abbrev pub is_inside : ℕ → Bool
is_inside b = not (is_brace_end b)

unfoldable pub comment_at : List ℕ → Lexed
comment_at text = lexed_comment (front is_inside text) (behind is_inside text)

-- the rest of the line, without its line feed
abbrev pub is_in_line : ℕ → Bool
is_in_line b = not (is_feed b)

-- ---- tag pairs

-- after gaps, `]`
abbrev pub begins_end : List ℕ → Bool
begins_end [] = false
begins_end (b ∷ bs) = b == 93

unfoldable pub ends_tag : List ℕ → Bool
ends_tag text = begins_end (behind is_gap text)

-- the end of a tag's value: the first quotation mark that no backslash escapes and that `]` follows, in this line. The first byte of the text has place n;
-- escaped: a backslash before it escapes it
abbrev pub value_end : ℕ → Bool → List ℕ → Option ℕ
value_end n escaped [] = None
value_end n escaped (b ∷ bs) =
    if b == 10 then None
    else (if not escaped && (b == 34 && ends_tag bs) then Some n
    else value_end (n + 1) (not escaped && b == 92) bs)

-- after the value: its quotation mark, gaps and `]`
abbrev pub without_first : List ℕ → List ℕ
without_first [] = []
without_first (b ∷ bs) = bs

unfoldable pub behind_value : List ℕ → List ℕ
behind_value text = without_first (behind is_gap (without_first text))

abbrev pub lexed_value : List ℕ → List ℕ → Option ℕ → Lexed
lexed_value name text None = Err OpenString
lexed_value name text (Some n) = Ok (tag name (take n text), behind_value (drop n text))

-- after the name: gaps and the quotation mark
abbrev pub lexed_quotation : List ℕ → List ℕ → Lexed
lexed_quotation name [] = Err TagForm
lexed_quotation name (b ∷ bs) = if b == 34 then lexed_value name bs (value_end 0 false bs) else Err TagForm

-- the name: a letter, and letters, digits and `_`
abbrev pub lexed_name : List ℕ → Lexed
lexed_name [] = Err TagForm
lexed_name (b ∷ bs) =
    if is_letter b then lexed_quotation (front is_name_byte (b ∷ bs)) (behind is_gap (behind is_name_byte (b ∷ bs))) else Err TagForm

-- after `[`
unfoldable pub tag_at : List ℕ → Lexed
tag_at text = lexed_name (behind is_gap text)

-- ---- signs and symbols

abbrev pub run_of : (List ℕ → Token) → (ℕ → Bool) → List ℕ → Lexed
run_of token p text = Ok (token (front p text), behind p text)

-- the byte b, and the bytes of one kind after it, before a space outside of ASCII
abbrev pub ink_of : (List ℕ → Token) → (ℕ → Bool) → ℕ → List ℕ → Lexed
ink_of token p b bs = Ok (token (b ∷ take (ink_len p b bs) bs), drop (ink_len p b bs) bs)

-- `…`, the three dots as one character in UTF-8
abbrev pub begins_ellipsis : List ℕ → Bool
begins_ellipsis (a ∷ b ∷ c ∷ bs) = a == 226 && (b == 128 && c == 166)
begins_ellipsis other = false

abbrev pub behind_ellipsis : List ℕ → List ℕ
behind_ellipsis (a ∷ b ∷ c ∷ bs) = bs
behind_ellipsis other = []

-- digits with `…` right behind them: the number of a move of Black
abbrev pub begins_number : List ℕ → Bool
begins_number [] = false
begins_number (b ∷ bs) = is_digit b && begins_ellipsis (behind is_digit (b ∷ bs))

-- such a number ends before `…`
abbrev pub symbol_at : ℕ → List ℕ → Lexed
symbol_at b bs = if begins_number (b ∷ bs) then run_of symbol is_digit (b ∷ bs) else ink_of symbol is_symbol_byte b bs

-- signs, with any judgement that they begin, as `+–`; `…` by itself or a space, which are blank like dots; or a symbol
abbrev pub ink_at : List ℕ → Lexed
ink_at [] = Err Byte
ink_at (b ∷ bs) =
    if is_sign b then ink_of sign is_tail b bs
    else (if begins_ellipsis (b ∷ bs) then Ok (blank, behind_ellipsis (b ∷ bs))
    else (if begins_space true (b ∷ bs) then Ok (blank, drop (space_len true (b ∷ bs)) (b ∷ bs))
    else (if begins_symbol b then symbol_at b bs
    else Err Byte)))

-- ---- the whole

-- the token that begins with b; fresh: b is the first byte of its line
unfoldable pub lexed_token : Bool → ℕ → List ℕ → Lexed
lexed_token fresh b bs =
    if fresh && b == 37 then Ok (blank, behind is_in_line bs)
    else (if is_blank b || b == 46 then Ok (blank, bs)
    else (if b == 123 then comment_at bs
    else (if b == 59 then run_of rest is_in_line bs
    else (if b == 91 then tag_at bs
    else (if b == 40 then Ok (opening, bs)
    else (if b == 41 then Ok (closing, bs)
    else (if b == 42 then Ok (star, bs)
    else (if b == 36 then Ok (aside, behind is_digit bs)
    else (if is_glyph b then Ok (aside, behind is_glyph bs)
    else ink_at (b ∷ bs))))))))))

-- a text that is not empty
abbrev pub token_at : Bool → List ℕ → Option Lexed
token_at fresh [] = None
token_at fresh (b ∷ bs) = Some (lexed_token fresh b bs)

-- the text begins with a line feed, so that the rest begins a line
abbrev pub begins_feed : List ℕ → Bool
begins_feed [] = false
begins_feed (b ∷ bs) = b == 10

-- ---- a token as contracts see it

abbrev pub token_seen : Read → Token
token_seen read.Blank = blank
token_seen read.Aside = aside
token_seen read.Open = opening
token_seen read.Close = closing
token_seen read.Star = star
token_seen (read.Tag name value) = tag name.now value.now
token_seen (read.Comment text) = comment text.now
token_seen (read.Rest text) = rest text.now
token_seen (read.Sign text) = sign text.now
token_seen (read.Symbol text) = symbol text.now

abbrev pub lexed_seen : Result Cut TokenFault → Lexed
lexed_seen (Ok cut) = Ok (token_seen cut.token, cut.rest.now)
lexed_seen (Err fault) = Err fault
