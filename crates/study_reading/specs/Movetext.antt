-- The moves of a game, token by token.
use Rattle.std.specs.Prelude.{ℕ, zero, suc, Bool, ◌==◌, nat_le, List, [], ◌∷◌, length, Option, Some, None, Result, Ok, Err, if◌then◌else◌}
use Rattle.study_reading.specs.declared.token_effects.Reason.{Reason}
use Rattle.study_reading.specs.declared.movetext.MovesFault.{MovesFault}
use Rattle.study_reading.specs.declared.movetext.Stop.{Stop}
use Rattle.study_reading.specs.declared.movetext.Stop.TheVariants as stop
use Rattle.study_reading.specs.Followed.{Rules}
use Rattle.study_reading.specs.Notes.{GameRead, GameTaken, game_taken}
use Rattle.study_reading.specs.declared.numbering.Numbering.{Numbering}
use Rattle.study_reading.specs.Numbering.{token_numbered}
use Rattle.study_games.specs.Tokens.{Token, Lexed, lexed_token}

-- the state after reading, and the text after the result
pub record Ended (S : Type 0) : Type 0 where
  pub game : GameRead S
  pub behind : List ℕ

module _ {S : Type 0} where
  abbrev pub fault_at : Stop → ℕ → Result (Ended S) MovesFault
  fault_at why left = Err (record { why = why; left = left })

  -- the text ends
  abbrev pub at_end : GameRead S → Result (Ended S) MovesFault
  at_end g = if length g.reading.lines.waiting == 0 then Ok (record { game = g; behind = [] }) else fault_at stop.OpenVariation 0

  abbrev pub goes_on : (GameRead S → Result (Ended S) MovesFault) → ℕ → List ℕ → Result (GameTaken S) Reason → Result (Ended S) MovesFault
  goes_on next left behind (Err why) = fault_at (stop.Taking why) left
  goes_on next left behind (Ok t) = if t.ended then Ok (record { game = t.game; behind = behind }) else next t.game

  -- the numbering after a token, before the text behind it; None: it is a number that does not fit. After a null move of its line a number is ignored
  abbrev pub game_numbered : Rules S → GameRead S → Token → List ℕ → Option Numbering
  game_numbered rules g token behind =
      if nat_le 1 g.reading.lines.cut then Some g.notes.numbering
      else token_numbered (rules.begins g.reading.study) (length g.reading.lines.path) g.notes.numbering token behind

  abbrev pub with_numbering : GameRead S → Numbering → GameRead S
  with_numbering g s = record { reading = g.reading; notes = record g.notes { numbering = s } }

  abbrev pub on_numbered : Rules S → (GameRead S → Result (Ended S) MovesFault) → ℕ → GameRead S → Token → List ℕ → Option Numbering
      → Result (Ended S) MovesFault
  on_numbered rules next left g token behind None = fault_at stop.Numbering left
  on_numbered rules next left g token behind (Some s) = goes_on next left behind (game_taken rules (with_numbering g s) token)

  abbrev pub on_token : Rules S → (List ℕ → GameRead S → Result (Ended S) MovesFault) → ℕ → GameRead S → Lexed → Result (Ended S) MovesFault
  on_token rules next left g (Err fault) = fault_at (stop.Token fault) left
  on_token rules next left g (Ok x) = on_numbered rules (next x.1) left g x.0 x.1 (game_numbered rules g x.0 x.1)

  -- at most n tokens are read, and each has at least one byte, so that a text's length is enough. A fault is reported by the number of bytes left
  abbrev pub read_moves : Rules S → ℕ → Bool → List ℕ → GameRead S → Result (Ended S) MovesFault
  read_moves rules zero fresh text g = at_end g
  read_moves rules (suc n) fresh [] g = at_end g
  read_moves rules (suc n) fresh (b ∷ bs) g = on_token rules (read_moves rules n (b == 10)) (length (b ∷ bs)) g (lexed_token fresh b bs)
