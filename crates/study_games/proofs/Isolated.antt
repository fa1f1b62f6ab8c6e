-- A game is independent of every other.
use Rattle.std.proofs.Common.{◌≡◌, ℕ, Bool, true, false, List, [], ◌∷◌, ◌++◌, Option, Some, None, refl, sym, ap, ◌∙◌, append_assoc, inl, inr}
use Rattle.std.specs.Prelude.{◌==◌, if◌then◌else◌}
use Rattle.std.proofs.lemmas.Bool.{cases_Bool, false≢true}
use Rattle.study_games.specs.declared.games.LineKind.{LineKind}
use Rattle.study_games.specs.declared.games.LineKind.TheVariants.{Silent, Tag, EventTag, Moves}
use Rattle.study_games.specs.Games.{Game, Begun, kind_of, with_byte, lines_behind, one_more, without_mark, first_line, taken_to, ends_before}
use Rattle.study_games.specs.Games.{game_at_hand}
use Rattle.study_games.specs.Games.{games_from, games_of}
use Rattle.study_games.specs.Laws.{number_behind, after_kind, ends_with_moves, EndsWithMoves, IsTag, BeginsWithTag, lines_of, IsIsolated}

-- ---- lines

lines_cut : (line front b : List ℕ) → lines_behind line ((front ++ 10 ∷ []) ++ b) ≡ lines_behind line (front ++ 10 ∷ []) ++ lines_behind [] b
lines_cut line [] b = refl
lines_cut line (x ∷ xs) b =
    elim (cases_Bool (x == 10)) [
      | inl feed ↦ rw feed (ap (λ (ls : List (List ℕ)). with_byte line x ∷ ls) (lines_cut [] xs b))
      | inr other ↦ rw other (lines_cut (with_byte line x) xs b)
    ]

-- ---- the current game after some lines

abbrev next_begun : ℕ → Option Begun → List ℕ → Option Begun
next_begun n begun line =
    if ends_before begun (kind_of (without_mark line)) then first_line n (without_mark line)
    (kind_of (without_mark line))
    else taken_to n begun (without_mark line) (kind_of (without_mark line))

abbrev begun_behind : ℕ → Option Begun → List (List ℕ) → Option Begun
begun_behind n begun [] = begun
begun_behind n begun (line ∷ lines) = begun_behind (one_more n) (next_begun n begun line) lines

abbrev ended_by : ℕ → Option Begun → List ℕ → List Game
ended_by n begun line = if ends_before begun (kind_of (without_mark line)) then game_at_hand begun else []

abbrev ended_in : ℕ → Option Begun → List (List ℕ) → List Game
ended_in n begun [] = []
ended_in n begun (line ∷ lines) = ended_by n begun line ++ ended_in (one_more n) (next_begun n begun line) lines

one_line : (n : ℕ) (begun : Option Begun) (line : List ℕ) (lines : List (List ℕ))
    → games_from n begun (line ∷ lines) ≡ ended_by n begun line ++ games_from (one_more n) (next_begun n begun line) lines
one_line n begun line lines =
    elim (cases_Bool (ends_before begun (kind_of (without_mark line)))) [
      | inl ends ↦ rw ends refl
      | inr goes ↦ rw goes refl
    ]

games_cut : (n : ℕ) (begun : Option Begun) (ls ms : List (List ℕ))
    → games_from n begun (ls ++ ms) ≡ ended_in n begun ls ++ games_from (number_behind n ls) (begun_behind n begun ls) ms
games_cut n begun [] ms = refl
games_cut n begun (line ∷ ls) ms =
    one_line n begun line (ls ++ ms)
    ∙ ap (λ (gs : List Game). ended_by n begun line ++ gs) (games_cut (one_more n) (next_begun n begun line) ls ms)
    ∙ sym (append_assoc (ended_by n begun line) (ended_in (one_more n) (next_begun n begun line) ls)
    (games_from (number_behind (one_more n) ls) (begun_behind (one_more n) (next_begun n begun line) ls) ms))

-- ---- after a line of moves

abbrev HasMoves : Option Begun → Type 0
HasMoves None = ⊥
HasMoves (Some g) = g.seen.moves ≡ true

moves_kept : (moves : Bool) (n : ℕ) (begun : Option Begun) (line : List ℕ) (kind : LineKind) → (moves ≡ true → HasMoves begun)
    → after_kind moves kind ≡ true → HasMoves (if ends_before begun kind then first_line n line kind else taken_to n begun line kind)
moves_kept moves n None line Silent had h = had h
moves_kept moves n (Some g) line Silent had h = had h
moves_kept moves n None line Moves had h = refl
moves_kept moves n (Some g) line Moves had h = refl
moves_kept moves n begun line Tag had h = absurd (false≢true h)
moves_kept moves n begun line EventTag had h = absurd (false≢true h)

has_moves : (moves : Bool) (n : ℕ) (begun : Option Begun) (ls : List (List ℕ)) → (moves ≡ true → HasMoves begun)
    → ends_with_moves moves n ls ≡ true → HasMoves (begun_behind n begun ls)
has_moves moves n begun [] had h = had h
has_moves moves n begun (line ∷ lines) had h =
    has_moves (after_kind moves (kind_of (without_mark line))) (one_more n) (next_begun n begun line) lines
    (moves_kept moves n begun (without_mark line) (kind_of (without_mark line)) had) h

-- a line of a tag then begins a game
tag_begins : (n : ℕ) (begun : Option Begun) (line : List ℕ) (kind : LineKind) → HasMoves begun → IsTag kind → ends_before begun kind ≡ true
tag_begins n None line kind has is = absurd has
tag_begins n (Some g) line Silent has is = absurd is
tag_begins n (Some g) line Moves has is = absurd is
tag_begins n (Some g) line Tag has is = has
tag_begins n (Some g) line EventTag has is = rw has refl

games_apart : (n : ℕ) (begun : Option Begun) (ms : List (List ℕ)) → HasMoves begun → BeginsWithTag n ms
    → games_from n begun ms ≡ game_at_hand begun ++ games_from n None ms
games_apart n begun [] has is = absurd is
games_apart n begun (line ∷ lines) has is = rw (tag_begins n begun (without_mark line) (kind_of (without_mark line)) has is) refl

whole : (n : ℕ) (begun : Option Begun) (ls : List (List ℕ)) → games_from n begun ls ≡ ended_in n begun ls ++ game_at_hand (begun_behind n begun ls)
whole n begun [] = refl
whole n begun (line ∷ ls) =
    one_line n begun line ls
    ∙ ap (λ (gs : List Game). ended_by n begun line ++ gs) (whole (one_more n) (next_begun n begun line) ls)
    ∙ sym (append_assoc (ended_by n begun line) (ended_in (one_more n) (next_begun n begun line) ls)
    (game_at_hand (begun_behind (one_more n) (next_begun n begun line) ls)))

apart : (ls ms : List (List ℕ)) → EndsWithMoves 1 ls → BeginsWithTag (number_behind 1 ls) ms
    → games_from 1 None (ls ++ ms) ≡ games_from 1 None ls ++ games_from (number_behind 1 ls) None ms
apart ls ms moves tags =
    games_cut 1 None ls ms
    ∙ ap (λ (gs : List Game). ended_in 1 None ls ++ gs) (games_apart (number_behind 1 ls) (begun_behind 1 None ls) ms (has_moves false 1 None ls (λ e. absurd (false≢true e)) moves) tags)
    ∙ sym (append_assoc (ended_in 1 None ls) (game_at_hand (begun_behind 1 None ls)) (games_from (number_behind 1 ls) None ms))
    ∙ ap (λ (gs : List Game). gs ++ games_from (number_behind 1 ls) None ms) (sym (whole 1 None ls))

cut_at_feed : (front b a : List ℕ) → a ≡ front ++ 10 ∷ [] → lines_of (a ++ b) ≡ lines_of a ++ lines_of b
cut_at_feed front b a is = rw is (lines_cut [] front b)

pub isolated : IsIsolated
unfolding games_of
isolated front b a is moves tags = ap (games_from 1 None) (cut_at_feed front b a is) ∙ apart (lines_of a) (lines_of b) moves tags
