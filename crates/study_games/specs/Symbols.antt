-- The meaning of a symbol, and the SAN of a symbol for a move.
use Rattle.std.specs.Prelude.{ℕ, ◌-◌, Bool, false, not, ◌&&◌, ◌||◌, ◌==◌, nat_le, List, [], ◌∷◌, ◌++◌, length, take, drop, slice_index, codes, Option, Some, None}
use Rattle.std.specs.Prelude.{if◌then◌else◌}
use Rattle.std.specs.List.{list_all, flat_map}
use Rattle.std.specs.Str.{bytes_eq}
use Rattle.study_games.specs.Bytes.{is_letter, is_digit, is_high, is_tail}
use Rattle.study_games.specs.declared.symbols.Outcome.TheVariants.{WhiteWins, BlackWins, Drawn}
use Rattle.study_games.specs.declared.spelling.Claim.{Claim}
use Rattle.study_games.specs.declared.spelling.Claim.TheVariants.{Check, Mate}
use Rattle.study_games.specs.declared.symbols.Said.{Said}
use Rattle.study_games.specs.declared.symbols.Said.TheVariants.{Number, Result, NullMove, Passing, Aside, Word, Move}

-- ---- figurines: E2 99, and 94 to 99 for White's king, queen, rook, bishop, knight and pawn, 9A to 9F for Black's

abbrev pub is_figurine : ℕ → ℕ → ℕ → Bool
is_figurine a b c = a == 226 && (b == 153 && (nat_le 148 c && nat_le c 159))

abbrev pub figurine_kind : ℕ → ℕ
figurine_kind c = if nat_le 154 c then c - 154 else c - 148

abbrev pub kind_letter : ℕ → ℕ
kind_letter k = if k == 0 then 75 else (if k == 1 then 81 else (if k == 2 then 82 else (if k == 3 then 66 else (if k == 4 then 78 else 80))))

-- whether the text begins with a figurine
abbrev pub begins_figurine : List ℕ → Bool
begins_figurine (a ∷ b ∷ c ∷ bs) = is_figurine a b c
begins_figurine _ = false

abbrev pub has_figurine : List ℕ → Bool
has_figurine (a ∷ b ∷ c ∷ bs) = is_figurine a b c || has_figurine (b ∷ c ∷ bs)
has_figurine _ = false

-- ---- dashes: E2 80, and 90 to 93 for a hyphen, one that does not break, a figure dash and an en dash; E2 88 92 for a minus sign

abbrev pub is_hyphen : ℕ → ℕ → ℕ → Bool
is_hyphen a b c = a == 226 && ((b == 128 && (nat_le 144 c && nat_le c 147)) || (b == 136 && c == 146))

-- ---- letters of characters of three bytes: those of figurines, and `-` for dashes

abbrev pub has_letter : ℕ → ℕ → ℕ → Bool
has_letter a b c = is_hyphen a b c || is_figurine a b c

abbrev pub letter_of : ℕ → ℕ → ℕ → ℕ
letter_of a b c = if is_hyphen a b c then 45 else kind_letter (figurine_kind c)

-- letters in place of these characters
abbrev pub with_letters : List ℕ → List ℕ
with_letters (a ∷ b ∷ c ∷ bs) = if has_letter a b c then letter_of a b c ∷ with_letters bs else a ∷ with_letters (b ∷ c ∷ bs)
with_letters bs = bs

-- the first byte, or the letter of a character at the front, and the rest
abbrev pub letter_at : List ℕ → Option (ℕ × List ℕ)
letter_at (a ∷ b ∷ c ∷ bs) = if has_letter a b c then Some (letter_of a b c, bs) else Some (a, b ∷ c ∷ bs)
letter_at (a ∷ bs) = Some (a, bs)
letter_at [] = None

-- ---- the meaning

-- the symbol is this text, with any dash for `-`
abbrev pub spells : List ℕ → List ℕ → Bool
spells symbol text = bytes_eq (with_letters symbol) text

-- `½`, half a point as one character in UTF-8
abbrev pub half : List ℕ
half = 194 ∷ 189 ∷ []

abbrev pub is_drawn : List ℕ → Bool
is_drawn symbol =
    (spells symbol (codes "1/2-1/2") || bytes_eq symbol (codes "1/2")) || (spells symbol (half ++ 45 ∷ half) || bytes_eq symbol half)

-- an en dash or an em dash, in UTF-8
abbrev pub is_dash : List ℕ → Bool
is_dash symbol = bytes_eq symbol (226 ∷ 128 ∷ 147 ∷ []) || bytes_eq symbol (226 ∷ 128 ∷ 148 ∷ [])

abbrev pub is_null_move : List ℕ → Bool
is_null_move symbol = bytes_eq symbol (codes "Z0") || (bytes_eq symbol (codes "null") || (bytes_eq symbol (codes "pass") || is_dash symbol))

-- `e.p.`, without its dots
abbrev pub is_passing : List ℕ → Bool
is_passing symbol = bytes_eq symbol (codes "e") || (bytes_eq symbol (codes "p") || bytes_eq symbol (codes "ep"))

-- a sign of judgement, as `±` or `–+`
abbrev pub is_judgement : List ℕ → Bool
is_judgement symbol = list_all is_tail symbol && not (has_figurine symbol)

-- ---- words

-- a letter of a file, `x` or the `O` of castling
abbrev pub is_move_letter : ℕ → Bool
is_move_letter b = (nat_le 97 b && nat_le b 104) || (b == 120 || b == 79)

abbrev pub is_piece_letter : ℕ → Bool
is_piece_letter b = b == 75 || (b == 81 || (b == 82 || (b == 66 || (b == 78 || b == 80))))

-- letters alone as a move begins with them: `K`, `Nb`, `dx`
abbrev pub begins_move : List ℕ → Bool
begins_move [] = false
begins_move (b ∷ bs) = (is_piece_letter b || is_move_letter b) && list_all is_move_letter bs

-- letters, of any language
abbrev pub is_word_byte : ℕ → Bool
is_word_byte b = is_letter b || is_high b

abbrev pub is_word_text : List ℕ → Bool
is_word_text text = list_all is_word_byte text && not (begins_move text)

-- a word, such as `wins`: at most 32 bytes of letters alone, which no move is, and with which no move begins
unfoldable pub is_word : List ℕ → Bool
is_word symbol = nat_le (length symbol) 32 && is_word_text (with_letters symbol)

unfoldable pub said_of : List ℕ → Said
said_of symbol =
    if list_all is_digit symbol then Number
    else (if spells symbol (codes "1-0") then Result WhiteWins
    else (if spells symbol (codes "0-1") then Result BlackWins
    else (if is_drawn symbol then Result Drawn
    else (if is_null_move symbol then NullMove
    else (if is_passing symbol then Passing
    else (if is_judgement symbol then Aside
    else (if is_word symbol then Word
    else Move)))))))

-- ---- the SAN

-- without such bytes at the end
abbrev pub without_end : (ℕ → Bool) → List ℕ → List ℕ
without_end p [] = []
without_end p (b ∷ bs) = if list_all p (b ∷ bs) then [] else b ∷ without_end p bs

abbrev pub without_tail : List ℕ → List ℕ
without_tail text = without_end is_tail text

-- without `ep` or `e` at the end
unfoldable pub without_passing : List ℕ → List ℕ
without_passing text =
    if nat_le 2 (length text) && (slice_index text (length text - 2) == 101 && slice_index text (length text - 1) == 112) then take (length text - 2) text
    else (if nat_le 1 (length text) && slice_index text (length text - 1) == 101 then take (length text - 1) text
    else text)

-- without a `P` in front
abbrev pub without_pawn : List ℕ → List ℕ
without_pawn [] = []
without_pawn (b ∷ bs) = if b == 80 then bs else b ∷ bs

abbrev pub begins_castling : List ℕ → Bool
begins_castling [] = false
begins_castling (b ∷ bs) = b == 79 || b == 48

-- `x` for `:`, and `=` for `/`
abbrev pub plain_byte : ℕ → ℕ
plain_byte b = if b == 58 then 120 else (if b == 47 then 61 else b)

-- a dash is dropped, except in castling
abbrev pub plain_bytes : Bool → ℕ → List ℕ
plain_bytes castling b = if not castling && b == 45 then [] else plain_byte b ∷ []

abbrev pub plain_spelling : List ℕ → List ℕ
plain_spelling text = flat_map (plain_bytes (begins_castling text)) text

unfoldable pub san_in : List ℕ → List ℕ
san_in symbol = plain_spelling (without_pawn (without_passing (without_tail (with_letters symbol))))

-- ---- what the signs behind a move claim

abbrev pub claim_of : List ℕ → Option Claim
claim_of signs =
    if bytes_eq signs (codes "#") then Some Mate
    else (if bytes_eq signs (codes "+") || bytes_eq signs (codes "++") then Some Check else None)

-- the signs at the end of a text
abbrev pub signs_in : List ℕ → List ℕ
signs_in text = drop (length (without_tail text)) text

-- of a symbol of at most 32 bytes
unfoldable pub claim_in : List ℕ → Option Claim
claim_in symbol = if nat_le (length symbol) 32 then claim_of (signs_in (with_letters symbol)) else None
