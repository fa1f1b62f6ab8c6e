-- The facts in the text of a position: the game's values, and the only move that holds.
use Rattle.std.specs.Prelude.{◌≡◌, ◌↔◌, ℕ, Bool, true, false, List, [], Option, Some, None, MatchOption}
use Rattle.study_board.specs.Position.{Position, IsValid}
use Rattle.study_moves.specs.declared.moves.Move.{Move}
use Rattle.study_values.specs.declared.value.Value.{Value}
use Rattle.study_values.specs.declared.value.Value.TheVariants as value
use Rattle.study_values.specs.Game.{IsValueOf}
use Rattle.study_search.specs.declared.only_moves.Outcome.{Outcome}
use Rattle.study_search.specs.declared.only_moves.Outcome.TheVariants.{Win, Draw}
use Rattle.study_search.specs.declared.themes.Theme.{Theme}
use Rattle.study_search.specs.declared.themes.Theme.TheVariants as theme
use Rattle.study_search.specs.OnlyMoves.{IsKey, IsMost}
use Rattle.study_search.specs.Rows.{IsRow}
use Rattle.study_zugzwang.specs.Zugzwang.{handed_on}
use Rattle.study_listing.specs.declared.facts.Facts.{Facts}
use Rattle.study_listing.specs.declared.text.Form.{Form}
use Rattle.study_listing.specs.declared.text.Form.TheVariants.{Lines, Script}
use Rattle.study_listing.specs.Lines.{line_of, study_of}

-- the value with the other side to move, if that position is valid
abbrev pub IsOtherValue : Position → Option Value → Type 0
IsOtherValue p other = MatchOption other (¬ (IsValid (handed_on p))) (λ v. IsValid (handed_on p) × IsValueOf (handed_on p) v)

-- the only move that keeps a win or a draw for the side to move, if there is one
abbrev pub IsOneKey : Position → Option Move → Type 0
IsOneKey p key = (m : Move) → (key ≡ Some m) ↔ ((o : Outcome) × IsKey o p m)

-- the fact is printed if it is wanted
abbrev pub SaidIf : {A : Type 0} → Bool → (Option A → Type 0) → Option A → Type 0
SaidIf true P x = P x
SaidIf false P x = x ≡ None

pub record AreFacts (wants_other wants_key : Bool) (p : Position) (f : Facts) : Type 0 where
  pub value : IsValueOf p f.value
  pub other : SaidIf wants_other (IsOtherValue p) f.other
  pub key : SaidIf wants_key (IsOneKey p) f.key

-- the line of a mutual zugzwang has both values
abbrev pub has_other : Theme → Bool
has_other theme.Zugzwang = true
has_other (theme.OnlyMoves o n) = false
has_other theme.Underpromotion = false
has_other (theme.IntoZugzwang o) = false
has_other (theme.ZugzwangTry o) = false
has_other (theme.MateIn n) = false

-- a line has the key, except for a mutual zugzwang and a mate in n
abbrev pub has_key : Theme → Bool
has_key theme.Zugzwang = false
has_key (theme.OnlyMoves o n) = true
has_key theme.Underpromotion = true
has_key (theme.IntoZugzwang o) = true
has_key (theme.ZugzwangTry o) = true
has_key (theme.MateIn n) = false

-- what the side to move has to keep, by the value
abbrev pub outcome_by : Value → Option Outcome
outcome_by (value.Win n) = Some Win
outcome_by (value.Loss n) = None
outcome_by value.Draw = Some Draw

-- The longest row of only moves, of twelve at most, that the defender can make the side to move find: none if it loses, or if no move alone keeps the result.
abbrev pub IsMainLine : Position → Option Outcome → List Move → Type 0
IsMainLine p None row = row ≡ []
IsMainLine p (Some o) row = (n : ℕ) × IsMost o p 12 (Some n) × IsRow o n p row

-- The study of a position has the longest row of only moves as its main line.
abbrev pub IsStudyOf : Position → List ℕ → Type 0
IsStudyOf p text = (v : Value) × (row : List Move) × IsValueOf p v × IsMainLine p (outcome_by v) row × (text ≡ study_of p v row)

-- the text of a position with the theme: its line, or its study, whatever the theme
abbrev pub IsTextOf : Form → Theme → Position → List ℕ → Type 0
IsTextOf Lines t p text = (f : Facts) × AreFacts (has_other t) (has_key t) p f × (text ≡ line_of p f)
IsTextOf Script t p text = IsStudyOf p text
