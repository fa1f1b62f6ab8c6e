-- The end of a file.
use Rattle.std.proofs.Common.{◌≡◌, ℕ, false, List, [], ◌∷◌, ◌++◌, length, Option, Some, None, refl}
use Rattle.std.specs.Prelude.{◌==◌}
use Rattle.study_games.specs.Games.{Begun, game_at_hand, games_of, lines_behind}
use Rattle.study_import.specs.declared.importer.Choice.{Choice}
use Rattle.study_import.specs.Blocks.{blocks, last_line}
use Rattle.study_import.specs.Imported.{Held, nothing_held, script_of, tally_of, still_written, still_tallied, tally_behind, tally_then, text_at_hand}

pub written_at_end : (h : Held) (begun : Option Begun)
    → blocks h.choice h.tally (game_at_hand begun) ≡ text_at_hand h begun ++ last_line (tally_then h begun).reported (tally_then h begun).studies
written_at_end h None = refl
written_at_end h (Some g) = refl

pub tally_at_end : (h : Held) (begun : Option Begun) → tally_behind h.choice h.tally (game_at_hand begun) ≡ tally_then h begun
tally_at_end h None = refl
tally_at_end h (Some g) = refl

pub script_is : (c : Choice) (text : List ℕ) → still_written (nothing_held c) text ≡ script_of c text
unfolding script_of games_of
script_is c text = refl

-- the last line, which no line feed ends
pub last_one : (line : List ℕ) → (length line == 0) ≡ false → lines_behind line [] ≡ line ∷ []
last_one line h = rw h refl

pub tally_is : (c : Choice) (text : List ℕ) → still_tallied (nothing_held c) text ≡ tally_of c text
unfolding tally_of games_of
tally_is c text = refl
