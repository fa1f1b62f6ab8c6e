-- What is written is read again.
use Rattle.std.specs.Prelude.{◌≡◌, ℕ, ◌<◌, ◌==◌, ◌^◌, not, true, List, Option, Some, None}
use Rattle.std.specs.Prelude.{codes}
use Rattle.std.specs.List.{list_all}
use Rattle.study_remark.specs.Remarks.{Game, Told, left_out, not_read, stipulated, behind_result, tail, total}
use Rattle.study_remark.specs.Remarks.{remark_line}
use Rattle.study_remark.specs.Reading.{after_word, remark_in}

-- a number as programs have it
abbrev pub IsNumber : ℕ → Type 0
IsNumber n = n < 2 ^ 32

abbrev pub IsColumn : Option ℕ → Type 0
IsColumn None = Unit {0}
IsColumn (Some column) = IsNumber column

-- a colon ends the place of a remark, so an author has none
pub record IsGame (g : Game) : Type 0 where
  pub game : IsNumber g.game
  pub line : IsNumber g.line
  pub column : IsColumn g.column
  pub author : list_all (λ b. not (b == 58)) g.author ≡ true

-- the reason why a game is left out does not begin as another remark on it does
pub record IsReason (why : List ℕ) : Type 0 where
  pub no_source : after_word (codes "stipulated by ") why ≡ None
  pub no_end : after_word (codes "not read: ") why ≡ None

-- a remark that can be told from each other one
abbrev pub IsPlain : Told → Type 0
IsPlain (left_out g why) = IsGame g × IsReason why
IsPlain (not_read g why) = IsGame g
IsPlain (stipulated g by) = IsGame g
IsPlain (behind_result line column) = IsNumber line × IsNumber column
IsPlain (tail moves) = IsNumber moves
IsPlain (total games studies) = IsNumber games × IsNumber studies
IsPlain other = Unit {0}

abbrev pub AreReadAgain : Type 0
AreReadAgain = (t : Told) → IsPlain t → remark_in (remark_line t) ≡ Some t

-- a comment that does not begin as a remark is its author's own
abbrev pub AreNoRemarks : Type 0
AreNoRemarks = (line : List ℕ) → after_word (codes "#! ") line ≡ None → remark_in line ≡ None
