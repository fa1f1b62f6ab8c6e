-- Which numbers of a class are found, and the result of searching again and again.
use Rattle.std.specs.Prelude.{◌≡◌, ℕ, ◌+◌, ◌<◌, ◌≤◌, Bool, true, List, [], ◌∷◌, Option, Some, None, MatchOption}
use Rattle.study_board.specs.declared.men.Side.{Side}
use Rattle.study_board.specs.Men.{same_side}
use Rattle.study_board.specs.Position.{Position}
use Rattle.study_index.specs.Computed.{position_numbered}
use Rattle.study_search.specs.declared.finding.Search.{Search}
use Rattle.study_search.specs.Themes.{HasTheme}

-- positions with this side to move are looked for
abbrev pub is_for : Option Side → Side → Bool
is_for None to_move = true
is_for (Some side) to_move = same_side to_move side

-- the position has the theme, and the wanted side to move
abbrev pub IsLookedFor : Search → Position → Type 0
IsLookedFor s p = (is_for s.side p.to_move ≡ true) × HasTheme s.theme p

-- the number reads as a position of the class that matches the search
abbrev pub IsFound : Search → ℕ → Type 0
IsFound s n = (p : Position) × (position_numbered s.class n ≡ Some p) × IsLookedFor s p

-- P holds of no number from a on and below b
abbrev pub HoldsOfNone : (ℕ → Type 0) → ℕ → ℕ → Type 0
HoldsOfNone P a b = (k : ℕ) → a ≤ k → k < b → ¬ (P k)

-- n is the first number from a on and below b of which P holds
abbrev pub IsFirst : (ℕ → Type 0) → ℕ → ℕ → ℕ → Type 0
IsFirst P a b n = (a ≤ n) × (n < b) × P n × HoldsOfNone P a n

-- the first, if there is one
abbrev pub IsNext : (ℕ → Type 0) → ℕ → ℕ → Option ℕ → Type 0
IsNext P a b next = MatchOption next (HoldsOfNone P a b) (IsFirst P a b)

-- the numbers found by searching again and again from behind the last, until there is none
abbrev pub AreFound : (ℕ → Type 0) → ℕ → ℕ → List ℕ → Type 0
AreFound P a b [] = HoldsOfNone P a b
AreFound P a b (n ∷ ns) = IsFirst P a b n × AreFound P (n + 1) b ns
