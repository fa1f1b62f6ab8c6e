-- The meaning of a SAN text, in the words of the game.
use Rattle.std.specs.Prelude.{◌≡◌, ℕ, List, true}
use Rattle.study_board.specs.Position.{Position}
use Rattle.study_moves.specs.declared.moves.Move.{Move}
use Rattle.study_moves.specs.Rules.{is_legal}
use Rattle.study_notation.specs.declared.san.San.{San}
use Rattle.study_notation.specs.San.{Says}
use Rattle.study_notation.specs.Matching.{matches}

-- the text spells parts of a move
abbrev pub IsSan : List ℕ → Type 0
IsSan text = (s : San) × Says text s

-- the text spells parts that agree with the legal move
abbrev pub Matches : Position → List ℕ → Move → Type 0
Matches p text m = (is_legal p m ≡ true) × ((s : San) × Says text s × (matches p s m ≡ true))

abbrev pub MatchesAlone : Position → List ℕ → Move → Type 0
MatchesAlone p text m = Matches p text m × ((n : Move) → Matches p text n → n ≡ m)

abbrev pub MatchesNone : Position → List ℕ → Type 0
MatchesNone p text = (m : Move) → ¬ (Matches p text m)

abbrev pub MatchesTwo : Position → List ℕ → Type 0
MatchesTwo p text = (m : Move) × (n : Move) × Matches p text m × Matches p text n × ¬ (m ≡ n)
