-- Spaces outside of ASCII.
use Rattle.std.specs.Prelude.{ℕ, ◌+◌, Bool, false, not, ◌&&◌, ◌||◌, ◌==◌, nat_le, nat_lt, List, [], ◌∷◌, if◌then◌else◌}

-- spaces of three bytes in UTF-8: U+2000 to U+200A, U+2028, U+2029 and U+202F; U+205F; U+3000; U+1680
abbrev pub is_wide_space : ℕ → ℕ → ℕ → Bool
is_wide_space a b c =
    (a == 226 && ((b == 128 && ((nat_le 128 c && nat_le c 138) || (c == 168 || (c == 169 || c == 175)))) || (b == 129 && c == 159)))
    || ((a == 227 && (b == 128 && c == 128)) || (a == 225 && (b == 154 && c == 128)))

abbrev pub begins_wide_space : List ℕ → Bool
begins_wide_space (a ∷ b ∷ c ∷ bs) = is_wide_space a b c
begins_wide_space other = false

-- U+00A0, a space that does not break, in UTF-8
abbrev pub begins_hard_space : List ℕ → Bool
begins_hard_space (a ∷ b ∷ bs) = a == 194 && b == 160
begins_hard_space other = false

-- the same space in Windows-1252
abbrev pub begins_byte_space : List ℕ → Bool
begins_byte_space [] = false
begins_byte_space (b ∷ bs) = b == 160

-- the number of bytes of the space with which a text begins, or 0; plain: the byte A0 alone is a space, since a byte of ASCII or nothing is before it,
-- so that it is no part of a character in UTF-8
abbrev pub space_len : Bool → List ℕ → ℕ
space_len plain text =
    if begins_wide_space text then 3
    else (if begins_hard_space text then 2
    else (if plain && begins_byte_space text then 1
    else 0))

abbrev pub begins_space : Bool → List ℕ → Bool
begins_space plain text = nat_lt 0 (space_len plain text)

-- the number of bytes of one kind that follow the byte b, before the first space outside of ASCII
abbrev pub ink_len : (ℕ → Bool) → ℕ → List ℕ → ℕ
ink_len p b [] = 0
ink_len p b (c ∷ cs) = if p c && not (begins_space (nat_le b 127) (c ∷ cs)) then 1 + ink_len p c cs else 0
