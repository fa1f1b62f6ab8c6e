-- The tags of a study, as far as they are known, and in their own letters.
use Rattle.std.specs.Prelude.{ℕ, Bool, ◌==◌, ◌||◌, ◌+◌, ◌-◌, ◌/◌, ◌%◌, nat_le, List, [], ◌∷◌, length, take, drop, Option, Some, None, if◌then◌else◌, codes}
use Rattle.std.specs.List.{list_all, flat_map}
use Rattle.std.specs.Str.{bytes_eq}
use Rattle.study_games.specs.Ascii.{spelled_out, short_text}
use Rattle.study_games.specs.Characters.{is_utf8}
use Rattle.study_html.specs.Escape.{visible_byte}

-- a question mark or a full stop
abbrev pub says_nothing : ℕ → Bool
says_nothing b = (b == 63) || (b == 46)

-- what a tag says; where it is not known PGN has `?`, and `????.??.??` for a date
abbrev pub known_words : Option (List ℕ) → List ℕ
known_words None = []
known_words (Some words) = if list_all says_nothing words then [] else words

-- a date without its last part, if that is not known
unfoldable pub without_part : List ℕ → List ℕ
without_part date = if bytes_eq (drop (length date - 3) date) (codes ".??") then take (length date - 3) date else date

-- `1921` for `1921.??.??`
abbrev pub date_words : List ℕ → List ℕ
date_words date = without_part (without_part date)

-- ---- in their own letters

-- a byte of Latin 1 as UTF-8; one that is no letter there is shown by its number
abbrev pub latin_letter : ℕ → List ℕ
latin_letter b = if nat_le 160 b then (192 + b / 64) ∷ (128 + b % 64) ∷ [] else (if nat_le 128 b then visible_byte b else b ∷ [])

-- a text is UTF-8 if all of it is, else Latin 1
unfoldable pub in_utf8 : List ℕ → List ℕ
in_utf8 text = if is_utf8 text then text else flat_map latin_letter text

-- the tag is what an import spells for this text
unfoldable pub is_spelled : List ℕ → List ℕ → Bool
is_spelled own tag = bytes_eq tag (short_text (spelled_out own))

abbrev pub words_or_own : List ℕ → List ℕ → List ℕ
words_or_own own tag = if is_spelled own tag then in_utf8 own else known_words (Some tag)

-- What is printed for a tag: its own letters, as long as the tag is what an import spells for them; a tag that was edited since is printed as it is.
abbrev pub named_words : List ℕ → Option (List ℕ) → List ℕ
named_words own None = []
named_words own (Some tag) = words_or_own own tag
