-- A law of reading a game.
use Rattle.std.specs.Prelude.{◌≡◌, ℕ, ◌≤◌, true, false, List, length, None, Ok}
use Rattle.study_reading.specs.Followed.{Rules}
use Rattle.study_reading.specs.Notes.{GameRead}
use Rattle.study_reading.specs.Movetext.{Ended, read_moves}
use Rattle.study_reading.specs.Behind.{moves_left, moves_in, to_the_end}

-- a game is read to its end: with a larger bound no more of its moves, and of the text behind its result, is read; and behind the result of a game that is
-- read there are no moves
pub record IsReadWhole {S : Type 0} (rules : Rules S) (text : List ℕ) (n : ℕ) : Type 0 where
  pub moves : (g : GameRead S) → read_moves rules n true text g ≡ read_moves rules (length text) true text g
  pub behind : moves_left n false text ≡ moves_in text
  pub ended : (g : GameRead S) → (x : Ended S) → to_the_end (read_moves rules (length text) true text g) ≡ Ok x → moves_in x.behind ≡ None

abbrev pub AreReadWhole : {S : Type 0} → Rules S → Type 0
AreReadWhole rules = (text : List ℕ) → (n : ℕ) → length text ≤ n → IsReadWhole rules text n
