-- Moves that can be played.
use Rattle.std.specs.Prelude.{◌≡◌, true, List, [], ◌∷◌, IfSome}
use Rattle.study_board.specs.Position.{Position}
use Rattle.study_moves.specs.Rules.{is_legal, after}
use Rattle.study_facts.specs.declared.continuation.EvaluatedMove.{EvaluatedMove}
use Rattle.study_facts.specs.declared.missing_defences.Defence.{Defence}

-- a defence is legal, and so is its only answer
abbrev pub IsPlayed : Position → Defence → Type 0
IsPlayed p y = (is_legal p y.played ≡ true) × IfSome y.only (λ m. is_legal (after p y.played) m ≡ true)

-- each of these moves is legal after the moves before it
abbrev pub ArePlayed : Position → List EvaluatedMove → Type 0
ArePlayed p [] = Unit {0}
ArePlayed p (x ∷ xs) = (is_legal p x.played ≡ true) × ArePlayed (after p x.played) xs
