-- The moves of a game whose positions have at most four men: the rules by which its study is followed, and the reading of a game by them.
use Rattle.std.specs.Prelude.{ℕ, Bool, ◌&&◌, List, Option, Result}
use Rattle.study_tree.specs.Tree.{has_spot}
use Rattle.study_marks.specs.Study.{position_at}
use Rattle.study_marks.specs.Edits.{PlainStudy}
use Rattle.study_games.specs.declared.spelling.Claim.{Claim}
use Rattle.study_games.specs.declared.symbols.Said.{Said}
use Rattle.study_games.specs.Tokens.{Token, Lexed}
use Rattle.study_reading.specs.declared.moves.MoveFault.{MoveFault}
use Rattle.study_reading.specs.declared.movetext.MovesFault.{MovesFault}
use Rattle.study_reading.specs.declared.movetext.Stop.{Stop}
use Rattle.study_reading.specs.declared.numbering.Numbering.{Numbering}
use Rattle.study_reading.specs.declared.token_effects.Reason.{Reason}
use Rattle.study_reading.specs.Followed.{Rules}
use Rattle.study_reading.specs.Reading as reading
use Rattle.study_reading.specs.Taken as taken
use Rattle.study_reading.specs.Notes as notes
use Rattle.study_reading.specs.Movetext as movetext
use Rattle.study_import.specs.Moves.{After, after_move_text, insert_line}

abbrev pub few_men : Rules PlainStudy
few_men = record {
  begins = λ s. s.start.position.to_move;
  played = after_move_text;
  inserted = λ s at added. insert_line (position_at s at) at added;
  is_false = λ s at claim. has_spot s.tree at && notes.is_false claim (position_at s at);
}

-- ---- the state of reading

abbrev pub Reading : Type 0
Reading = reading.Reading PlainStudy

abbrev pub Taken : Type 0
Taken = taken.Taken PlainStudy

abbrev pub GameRead : Type 0
GameRead = notes.GameRead PlainStudy

abbrev pub GameTaken : Type 0
GameTaken = notes.GameTaken PlainStudy

abbrev pub Ended : Type 0
Ended = movetext.Ended PlainStudy

-- ---- moves

abbrev pub gone_on : Reading → After → Reading
gone_on = reading.gone_on few_men

abbrev pub read_on : Reading → Result After MoveFault → Result Reading MoveFault
read_on = reading.read_on few_men

abbrev pub after_move : Reading → List ℕ → Result Reading MoveFault
after_move = reading.after_move few_men

abbrev pub symbol_played : Reading → List ℕ → Result Reading MoveFault
symbol_played = reading.symbol_played few_men

-- ---- tokens

abbrev pub taken_symbol : Reading → List ℕ → Said → Result Taken Reason
taken_symbol = taken.taken_symbol few_men

abbrev pub after_token : Reading → Token → Result Taken Reason
after_token = taken.after_token few_men

abbrev pub token_taken : GameRead → Token → Result GameTaken Reason
token_taken = notes.token_taken few_men

abbrev pub is_wrong_claim : Reading → Option Claim → Bool
is_wrong_claim = notes.is_wrong_claim few_men

abbrev pub is_wrong_said : Reading → List ℕ → Said → Bool
is_wrong_said = notes.is_wrong_said few_men

abbrev pub is_wrong : Reading → Token → Bool
is_wrong = notes.is_wrong few_men

abbrev pub with_signs : Token → GameTaken → GameTaken
with_signs = notes.with_signs few_men

abbrev pub signs_noted : Token → Result GameTaken Reason → Result GameTaken Reason
signs_noted = notes.signs_noted few_men

abbrev pub game_taken : GameRead → Token → Result GameTaken Reason
game_taken = notes.game_taken few_men

-- ---- a game

abbrev pub fault_at : Stop → ℕ → Result Ended MovesFault
fault_at = movetext.fault_at

abbrev pub game_numbered : GameRead → Token → List ℕ → Option Numbering
game_numbered = movetext.game_numbered few_men

abbrev pub on_numbered : (GameRead → Result Ended MovesFault) → ℕ → GameRead → Token → List ℕ → Option Numbering → Result Ended MovesFault
on_numbered = movetext.on_numbered few_men

abbrev pub on_token : (List ℕ → GameRead → Result Ended MovesFault) → ℕ → GameRead → Lexed → Result Ended MovesFault
on_token = movetext.on_token few_men

abbrev pub read_moves : ℕ → Bool → List ℕ → GameRead → Result Ended MovesFault
read_moves = movetext.read_moves few_men
