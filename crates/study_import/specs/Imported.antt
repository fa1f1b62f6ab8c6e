-- The script of a file.
use Rattle.std.specs.Prelude.{Bool, ◌≡◌, ℕ, ◌-◌, ◌^◌, false, List, [], ◌∷◌, ◌++◌, Option, Some, None}
use Rattle.study_marks.specs.declared.stipulation.Stipulation.{Stipulation}
use Rattle.study_games.specs.Games.{Game, Begun, Gathered, games_from, games_of, lines_behind}
use Rattle.study_import.specs.declared.importer.Choice.{Choice}
use Rattle.study_import.specs.Blocks.{Tally, tally_with_game, reported_text, blocks}

abbrev pub no_game : Tally
no_game = record { met = 0; reported = 0; with_study = 0; studies = 0 }

-- the script of a PGN file
unfoldable pub script_of : Choice → List ℕ → List ℕ
script_of c text = blocks c no_game (games_of text)

-- the tally after these games
abbrev pub tally_behind : Choice → Tally → List Game → Tally
tally_behind c t [] = t
tally_behind c t (g ∷ gs) = tally_behind c (tally_with_game c t g) gs

-- the numbers of games of a file that were written and that have a study, and of their studies
unfoldable pub tally_of : Choice → List ℕ → Tally
tally_of c text = tally_behind c no_game (games_of text)

-- all games, without tails; given: the stipulation of the games that state none
abbrev pub whole_file : Option Stipulation → Bool → Choice
whole_file given up_to_faults = record { given = given; from = 1; to = 2 ^ 32 - 1; tails = false; up_to_faults = up_to_faults }

-- the same, each game to its end
abbrev pub all_games : Option Stipulation → Choice
all_games given = whole_file given false

-- the state of an import: the bytes of the current line, the current game, and the tally before
pub record Held : Type 0 where
  pub choice : Choice
  pub line : List ℕ
  pub gathered : Gathered
  pub tally : Tally

abbrev pub nothing_held : Choice → Held
nothing_held c = record { choice = c; line = []; gathered = record { next = 1; begun = None }; tally = no_game }

-- the games that have yet to end, if these lines follow
abbrev pub games_ahead : Held → List (List ℕ) → List Game
games_ahead h lines = games_from h.gathered.next h.gathered.begun lines

-- the text yet to be written, and the tally at the end, if these lines follow
abbrev pub written_of : Held → List (List ℕ) → List ℕ
written_of h lines = blocks h.choice h.tally (games_ahead h lines)

abbrev pub tally_ahead : Held → List (List ℕ) → Tally
tally_ahead h lines = tally_behind h.choice h.tally (games_ahead h lines)

-- the same if these bytes follow
abbrev pub still_written : Held → List ℕ → List ℕ
still_written h bytes = written_of h (lines_behind h.line bytes)

abbrev pub still_tallied : Held → List ℕ → Tally
still_tallied h bytes = tally_ahead h (lines_behind h.line bytes)

-- a byte was taken: whatever follows, the whole text written before and after is the same, and so is the tally at the end
abbrev pub TakesByte : ℕ → Held → List ℕ → Held → List ℕ → Type 0
TakesByte byte old before new now = (bytes : List ℕ) → before ++ still_written old (byte ∷ bytes) ≡ now ++ still_written new bytes

abbrev pub KeepsTally : ℕ → Held → Held → Type 0
KeepsTally byte old new = (bytes : List ℕ) → still_tallied old (byte ∷ bytes) ≡ still_tallied new bytes

-- the current line was ended, and these lines follow
abbrev pub EndsLine : Held → List ℕ → Held → List ℕ → Type 0
EndsLine old before new now = (lines : List (List ℕ)) → before ++ written_of old (old.line ∷ lines) ≡ now ++ written_of new lines

abbrev pub EndsLineTallied : Held → Held → Type 0
EndsLineTallied old new = (lines : List (List ℕ)) → tally_ahead old (old.line ∷ lines) ≡ tally_ahead new lines

-- with the current game ended
abbrev pub tally_then : Held → Option Begun → Tally
tally_then h None = h.tally
tally_then h (Some g) = tally_with_game h.choice h.tally g.game

abbrev pub put_away : Held → Held
put_away h = record h {
  gathered = record { next = h.gathered.next; begun = None };
  tally = tally_then h h.gathered.begun;
}

abbrev pub text_at_hand : Held → Option Begun → List ℕ
text_at_hand h None = []
text_at_hand h (Some g) = reported_text h.choice h.tally g.game
