-- The themes of positions, in chess's own terms: the side to move is the hero.
use Rattle.std.specs.Prelude.{◌≡◌, ◌⊎◌, Bool, true, false, Option, Some, None}
use Rattle.study_board.specs.declared.men.Kind.{Kind}
use Rattle.study_board.specs.declared.men.Kind.TheVariants.{Rook, Bishop, Knight}
use Rattle.study_board.specs.Position.{Position}
use Rattle.study_moves.specs.declared.moves.Move.{Move}
use Rattle.study_moves.specs.Rules.{after}
use Rattle.study_moves.specs.Game.{IsLegal, IsWon}
use Rattle.study_search.specs.declared.only_moves.Outcome.{Outcome}
use Rattle.study_search.specs.declared.only_moves.Outcome.TheVariants.{Win, Draw}
use Rattle.study_search.specs.declared.themes.Theme.{Theme}
use Rattle.study_search.specs.declared.themes.Theme.TheVariants as theme
use Rattle.study_zugzwang.specs.Zugzwang.{handed_on, IsZugzwang}
use Rattle.study_search.specs.OnlyMoves.{Holds, IsOnlyMove, IsKey, HasOnlyMoves}

-- a rook, a bishop or a knight
abbrev pub is_less_than_a_queen : Kind → Bool
is_less_than_a_queen Rook = true
is_less_than_a_queen Bishop = true
is_less_than_a_queen Knight = true
is_less_than_a_queen _ = false

abbrev pub is_underpromoted : Option Kind → Bool
is_underpromoted None = false
is_underpromoted (Some kind) = is_less_than_a_queen kind

-- exactly one move holds, and it promotes to a rook, a bishop or a knight
abbrev pub Underpromotes : Outcome → Position → Type 0
Underpromotes o p = (m : Move) × IsKey o p m × (is_underpromoted m.promoted ≡ true)

-- exactly one move holds, and it leads to a mutual zugzwang
abbrev pub LeadsIntoZugzwang : Outcome → Position → Type 0
LeadsIntoZugzwang o p = (m : Move) × IsKey o p m × IsZugzwang (after p m)

-- the opponent's result that spoils the hero's: a draw spoils a win, a win spoils a draw
abbrev pub spoiling_outcome : Outcome → Outcome
spoiling_outcome Win = Draw
spoiling_outcome Draw = Win

-- a mutual zugzwang in which the hero, who is to move, would keep the outcome if the opponent were to move
abbrev pub IsZugzwangOf : Outcome → Position → Type 0
IsZugzwangOf o p = IsZugzwang p × Holds o (handed_on p)

-- with the opponent to move, exactly one reply spoils the outcome, and only since the hero is to move after it, in a mutual zugzwang
abbrev pub FailsIntoZugzwang : Outcome → Position → Type 0
FailsIntoZugzwang o q = (r : Move) × IsOnlyMove (spoiling_outcome o) q r × IsZugzwangOf o (after q r)

abbrev pub HasTheme : Theme → Position → Type 0
HasTheme theme.Zugzwang p = IsZugzwang p
HasTheme (theme.OnlyMoves o n) p = HasOnlyMoves o n p
HasTheme theme.Underpromotion p = Underpromotes Win p ⊎ Underpromotes Draw p
HasTheme (theme.IntoZugzwang o) p = LeadsIntoZugzwang o p
HasTheme (theme.ZugzwangTry o) p = LeadsIntoZugzwang o p × ((m : Move) × IsLegal p m × FailsIntoZugzwang o (after p m))
HasTheme (theme.MateIn n) p = IsWon p n
