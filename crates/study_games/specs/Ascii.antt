-- The text of a tag's value in printable ASCII.
use Rattle.std.specs.Prelude.{ℕ, zero, suc, ◌-◌, Bool, ◌&&◌, ◌||◌, ◌==◌, nat_le, List, [], ◌∷◌, ◌++◌, length, take, codes, Option, Some, None, if◌then◌else◌}
use Rattle.study_games.specs.Symbols.{without_end}
use Rattle.study_games.specs.Words.{first_word, is_space, without_spaces}
use Rattle.study_games.specs.Characters.{Character, is_utf8, read_at}

-- ---- tables: a word for each letter, in the order of Unicode; `?` for a letter without one

abbrev pub first_or : Option (List ℕ × List ℕ) → List ℕ
first_or None = codes "?"
first_or (Some found) = found.0

abbrev pub behind_or : Option (List ℕ × List ℕ) → List ℕ
behind_or None = []
behind_or (Some found) = found.1

-- the word at a place, counted from 0
abbrev pub word_at : ℕ → List ℕ → List ℕ
word_at zero table = first_or (first_word table)
word_at (suc n) table = word_at n (behind_or (first_word table))

-- Latin 1, from U+00A1 to U+00FF; the soft hyphen, U+00AD, has no word
unfoldable pub latin_1 : List ℕ
latin_1 =
    codes "? ? ? ? ? ? ? ? ? ? ? ? ? ? ? ? ? ? ? ? ? ? ? ? ? ? ? 1/4 1/2 3/4 ? A A A A A A AE C E E E E I I I I D N O O O O O x O "
    ++ codes "U U U U Y Th ss a a a a a a ae c e e e e i i i i d n o o o o o / o u u u u y th y"

-- Latin Extended A, from U+0100 to U+017F
unfoldable pub latin_a : List ℕ
latin_a =
    codes "A a A a A a C c C c C c C c D d D d E e E e E e E e E e G g G g G g G g H h H h I i I i I i I i I i IJ ij J j K k k L "
    ++ codes "l L l L l L l L l N n N n N n n N n O o O o O o OE oe R r R r R r S s S s S s S s T t T t T t U u U u U u U u U u U u "
    ++ codes "W w Y y Y Z z Z z Z z s"

-- Romanian, from U+0218 to U+021B
unfoldable pub romanian : List ℕ
romanian = codes "S s T t"

-- Cyrillic, from U+0401 to U+045E
unfoldable pub cyrillic : List ℕ
cyrillic =
    codes "Yo ? ? Ye ? I Yi ? ? ? ? ? ? U ? A B V G D E Zh Z I J K L M N O P R S T U F Kh C Ch Sh Shch ' Y ' E Yu Ya a b v g d e "
    ++ codes "zh z i j k l m n o p r s t u f kh c ch sh shch ' y ' e yu ya ? yo ? ? ye ? i yi ? ? ? ? ? ? u"

-- Ukrainian, U+0490 and U+0491
unfoldable pub ukrainian : List ℕ
ukrainian = codes "G g"

-- dashes, quotation marks, an ellipsis and primes, from U+2010 to U+2033
unfoldable pub marks : List ℕ
marks = codes "- - - - - - ? ? ' ' ' ' ' ' ' ' ? ? ? ? ? ? ... ? ? ? ? ? ? ? ? ? ? ? ' '"

abbrev pub in_range : ℕ → ℕ → ℕ → Bool
in_range first last c = nat_le first c && nat_le c last

-- the text for a character outside of ASCII
abbrev pub letters_of : ℕ → List ℕ
letters_of c =
    if in_range 161 255 c then word_at (c - 161) latin_1
    else (if in_range 256 383 c then word_at (c - 256) latin_a
    else (if in_range 536 539 c then word_at (c - 536) romanian
    else (if in_range 1025 1118 c then word_at (c - 1025) cyrillic
    else (if in_range 1168 1169 c then word_at (c - 1168) ukrainian
    else (if in_range 8208 8243 c then word_at (c - 8208) marks
    else codes "?")))))

-- control characters and a space that does not break are spaces, a soft hyphen is nothing
unfoldable pub ascii_of : ℕ → List ℕ
ascii_of c =
    if nat_le c 31 || (c == 127 || c == 160) then 32 ∷ []
    else (if nat_le c 126 then c ∷ []
    else (if c == 173 then []
    else letters_of c))

-- ---- values

abbrev pub spelled_behind : (List ℕ → List ℕ) → Character → List ℕ
spelled_behind next None = []
spelled_behind next (Some x) = ascii_of x.0 ++ next x.1

-- the characters in ASCII, of which at most n are read
abbrev pub spelled_in : ℕ → Bool → List ℕ → List ℕ
spelled_in zero utf8 text = []
spelled_in (suc n) utf8 text = spelled_behind (spelled_in n utf8) (read_at utf8 text)

-- a value is UTF-8 if all of it is, else Latin 1
unfoldable pub spelled_out : List ℕ → List ℕ
spelled_out value = spelled_in (length value) (is_utf8 value) value

-- without spaces at its ends, and 60 bytes at most
unfoldable pub short_text : List ℕ → List ℕ
short_text text = without_end is_space (take 60 (without_spaces text))
