-- The characters of a text, in UTF-8 or in Latin 1.
use Rattle.std.specs.Prelude.{ℕ, zero, suc, ◌+◌, ◌-◌, ◌*◌, Bool, true, false, ◌&&◌, ◌||◌, ◌==◌, nat_le, List, [], ◌∷◌, length, Option, Some, None}
use Rattle.std.specs.Prelude.{if◌then◌else◌}

-- a later byte of a character in UTF-8
abbrev pub is_next : ℕ → Bool
is_next b = nat_le 128 b && nat_le b 191

abbrev pub code_of_two : ℕ → ℕ → ℕ
code_of_two a b = (a - 192) * 64 + (b - 128)

abbrev pub code_of_three : ℕ → ℕ → ℕ → ℕ
code_of_three a b c = (a - 224) * 4096 + ((b - 128) * 64 + (c - 128))

abbrev pub code_of_four : ℕ → ℕ → ℕ → ℕ → ℕ
code_of_four a b c d = (a - 240) * 262144 + ((b - 128) * 4096 + ((c - 128) * 64 + (d - 128)))

-- two bytes or more: a code that needs so many, within the range of characters, and not half of a pair of UTF-16
abbrev pub is_two : ℕ → ℕ → Bool
is_two a b = nat_le 194 a && nat_le a 223 && is_next b

abbrev pub is_three : ℕ → ℕ → ℕ → Bool
is_three a b c =
    (nat_le 224 a && nat_le a 239) && (is_next b && is_next c)
    && (nat_le 2048 (code_of_three a b c) && (nat_le (code_of_three a b c) 55295 || nat_le 57344 (code_of_three a b c)))

abbrev pub is_four : ℕ → ℕ → ℕ → ℕ → Bool
is_four a b c d =
    (nat_le 240 a && nat_le a 244) && (is_next b && (is_next c && is_next d))
    && (nat_le 65536 (code_of_four a b c d) && nat_le (code_of_four a b c d) 1114111)

-- the number of the UTF-8 character with which a text begins, and the rest of the text
abbrev pub Character : Type 0
Character = Option (ℕ × List ℕ)

abbrev pub one_byte : List ℕ → Character
one_byte [] = None
one_byte (a ∷ bs) = if nat_le a 127 then Some (a, bs) else None

abbrev pub two_bytes : List ℕ → Character
two_bytes (a ∷ b ∷ bs) = if is_two a b then Some (code_of_two a b, bs) else None
two_bytes _ = None

abbrev pub three_bytes : List ℕ → Character
three_bytes (a ∷ b ∷ c ∷ bs) = if is_three a b c then Some (code_of_three a b c, bs) else None
three_bytes _ = None

abbrev pub four_bytes : List ℕ → Character
four_bytes (a ∷ b ∷ c ∷ d ∷ bs) = if is_four a b c d then Some (code_of_four a b c d, bs) else None
four_bytes _ = None

abbrev pub or_else : Character → Character → Character
or_else (Some x) y = Some x
or_else None y = y

unfoldable pub character_at : List ℕ → Character
character_at text = or_else (one_byte text) (or_else (two_bytes text) (or_else (three_bytes text) (four_bytes text)))

-- whether a text is UTF-8, reading at most n characters
abbrev pub is_utf8_behind : (List ℕ → Bool) → Character → Bool
is_utf8_behind next None = false
is_utf8_behind next (Some x) = next x.1

abbrev pub begins_utf8 : ℕ → List ℕ → Bool
begins_utf8 zero text = length text == 0
begins_utf8 (suc n) text = if length text == 0 then true else is_utf8_behind (begins_utf8 n) (character_at text)

-- each character has a byte at least
unfoldable pub is_utf8 : List ℕ → Bool
is_utf8 text = begins_utf8 (length text) text

-- in Latin 1 each byte is a character
abbrev pub latin_at : List ℕ → Character
latin_at [] = None
latin_at (b ∷ bs) = Some (b, bs)

abbrev pub read_at : Bool → List ℕ → Character
read_at utf8 text = if utf8 then character_at text else latin_at text
