-- A text of moves whose open variations are closed at its end.
use Rattle.std.specs.Prelude.{ℕ, zero, suc, ◌-◌, Bool, true, List, ◌++◌, length, replicate, Option, Some, Ok}
use Rattle.study_games.specs.Games.{one_more}
use Rattle.study_games.specs.Tokens.{Token, Lexed, token_at, begins_feed, opening, closing}

-- the number of open variations after a token
abbrev pub depth_after : ℕ → Token → ℕ
depth_after depth opening = one_more depth
depth_after depth closing = depth - 1
depth_after depth other = depth

abbrev pub depth_then : (ℕ → List ℕ → ℕ) → ℕ → Option Lexed → ℕ
depth_then next depth (Some (Ok x)) = next (depth_after depth x.0) x.1
depth_then next depth other = depth

-- at most n tokens are read, up to the first that cannot be read
abbrev pub depth_from : ℕ → ℕ → Bool → List ℕ → ℕ
depth_from zero depth fresh text = depth
depth_from (suc n) depth fresh text = depth_then (λ more behind. depth_from n more (begins_feed text) behind) depth (token_at fresh text)

-- the number of variations that are open at the end; each token has at least one byte, so that the length of a text is enough
unfoldable pub depth_in : List ℕ → ℕ
depth_in text = depth_from (length text) 0 true text

unfoldable pub closed_text : List ℕ → List ℕ
closed_text text = text ++ replicate (depth_in text) 41
