-- A game is independent of every other. A game in English letters has each place where it was.
use Rattle.std.specs.Prelude.{◌≡◌, ℕ, Bool, true, false, List, [], ◌∷◌, ◌++◌, length, None}
use Rattle.study_games.specs.declared.language.Language.{Language}
use Rattle.study_games.specs.declared.games.LineKind.{LineKind}
use Rattle.study_games.specs.declared.games.LineKind.TheVariants.{Silent, Tag, EventTag, Moves}
use Rattle.study_games.specs.Games.{kind_of, lines_behind, one_more, without_mark, games_from, games_of}
use Rattle.study_games.specs.Languages.{in_english}

-- the number of the line after so many lines, the first of which has number n
abbrev pub number_behind : ℕ → List (List ℕ) → ℕ
number_behind n [] = n
number_behind n (line ∷ lines) = number_behind (one_more n) lines

-- after a line of this kind: whether the last line that is not silent is one of moves
abbrev pub after_kind : Bool → LineKind → Bool
after_kind moves Silent = moves
after_kind moves Moves = true
after_kind moves other = false

abbrev pub ends_with_moves : Bool → ℕ → List (List ℕ) → Bool
ends_with_moves moves n [] = moves
ends_with_moves moves n (line ∷ lines) = ends_with_moves (after_kind moves (kind_of (without_mark line))) (one_more n) lines

-- of these lines, the first of which has number n, the last that is not silent is a line of moves
abbrev pub EndsWithMoves : ℕ → List (List ℕ) → Type 0
EndsWithMoves n lines = ends_with_moves false n lines ≡ true

abbrev pub IsTag : LineKind → Type 0
IsTag Tag = Unit {0}
IsTag EventTag = Unit {0}
IsTag other = ⊥

-- the first of these lines, with number n, is a line of a tag
abbrev pub BeginsWithTag : ℕ → List (List ℕ) → Type 0
BeginsWithTag n [] = ⊥
BeginsWithTag n (line ∷ lines) = IsTag (kind_of (without_mark line))

abbrev pub lines_of : List ℕ → List (List ℕ)
lines_of text = lines_behind [] text

-- if a text ends with a whole line of moves, and is followed by a text that begins with a line of a tag, the games of both together are those of the first
-- and those of the second, whose line numbers continue
abbrev pub IsIsolated : Type 0
IsIsolated =
    (front b : List ℕ) → (a : List ℕ) → a ≡ front ++ 10 ∷ [] → EndsWithMoves 1 (lines_of a)
    → BeginsWithTag (number_behind 1 (lines_of a)) (lines_of b)
    → games_of (a ++ b) ≡ games_of a ++ games_from (number_behind 1 (lines_of a)) None (lines_of b)

-- a text in English letters is as long as before, so that a place in it is the place in the text
abbrev pub KeepsPlaces : Type 0
KeepsPlaces = (language : Language) → (text : List ℕ) → length (in_english language text) ≡ length text
