-- Words as HTML.
use Rattle.std.specs.Prelude.{◌≡◌, ◌≤◌, ℕ, ◌+◌, ◌/◌, ◌%◌, ◌==◌, ◌||◌, nat_lt, nat_le, List, [], ◌∷◌, ◌++◌, ◌⊎◌, if◌then◌else◌, codes}
use Rattle.std.specs.List.{flat_map}

-- 0 to 9, A to F
abbrev pub hex_digit : ℕ → ℕ
hex_digit d = if nat_lt d 10 then 48 + d else 55 + d

-- printable ASCII as it is, and any other byte by its number: `\xE9`
abbrev pub visible_byte : ℕ → List ℕ
visible_byte b = if nat_lt b 32 || nat_lt 126 b then 92 ∷ 120 ∷ hex_digit (b / 16 % 16) ∷ hex_digit (b % 16) ∷ [] else b ∷ []

-- the text for a byte: `&`, `<`, `>` and both quotation marks become entities
abbrev pub entity : ℕ → List ℕ
entity b =
    if b == 38 then codes "&amp;"
    else (if b == 60 then codes "&lt;" else (if b == 62 then codes "&gt;"
    else (if b == 34 then codes "&quot;" else (if b == 39 then codes "&#39;" else visible_byte b))))

unfoldable pub escaped_text : List ℕ → List ℕ
escaped_text text = flat_map entity text

-- the text for a byte of words in UTF-8, in which the bytes of a letter outside ASCII stay as they are
abbrev pub lettered_byte : ℕ → List ℕ
lettered_byte b = if nat_le 128 b then b ∷ [] else entity b

unfoldable pub lettered_text : List ℕ → List ℕ
lettered_text text = flat_map lettered_byte text

-- the bytes begin with one of the five entities
abbrev pub BeginsEntity : List ℕ → Type 0
BeginsEntity text =
    (rest : List ℕ)
    × ((text ≡ codes "&amp;" ++ rest) ⊎ ((text ≡ codes "&lt;" ++ rest) ⊎ ((text ≡ codes "&gt;" ++ rest)
    ⊎ ((text ≡ codes "&quot;" ++ rest) ⊎ (text ≡ codes "&#39;" ++ rest)))))

-- a byte of printable ASCII other than `<`, `>`, `"` and `'`
pub record IsPlainByte (b : ℕ) : Type 0 where
  pub printed : 32 ≤ b
  pub ascii : b ≤ 126
  pub less : b ≡ 60 → ⊥
  pub greater : b ≡ 62 → ⊥
  pub quote : b ≡ 34 → ⊥
  pub apostrophe : b ≡ 39 → ⊥

-- all bytes are plain, and at each `&` an entity begins
abbrev pub IsClean : List ℕ → Type 0
IsClean [] = Unit {0}
IsClean (b ∷ text) = IsPlainByte b × (b ≡ 38 → BeginsEntity (b ∷ text)) × IsClean text

-- the same, where a byte may also be one of a letter outside ASCII
abbrev pub IsLettered : List ℕ → Type 0
IsLettered [] = Unit {0}
IsLettered (b ∷ text) = ((128 ≤ b) ⊎ IsPlainByte b) × (b ≡ 38 → BeginsEntity (b ∷ text)) × IsLettered text

-- whatever the words are, their HTML is clean
abbrev pub WordsAreClean : Type 0
WordsAreClean = (words : List ℕ) → IsClean (escaped_text words)

abbrev pub LettersAreClean : Type 0
LettersAreClean = (words : List ℕ) → IsLettered (lettered_text words)
