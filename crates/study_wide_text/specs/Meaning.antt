-- The meaning of a SAN text, in the words of the game.
use Rattle.std.specs.Prelude.{◌≡◌, ◌⊎◌, ℕ, true, List, [], ◌∷◌, ◌++◌}
use Rattle.study_moves.specs.declared.moves.Move.{Move}
use Rattle.study_notation.specs.San.{is_ending}
use Rattle.study_notation.specs.Meaning.{IsSan, Matches}
use Rattle.study_wide.specs.declared.castling.Wing.{Wing}
use Rattle.study_wide.specs.declared.castling.Wing.TheVariants.{Short, Long}
use Rattle.study_wide.specs.Wide.{Wide}
use Rattle.study_wide.specs.Rules.{castles}

-- castling to the wing, spelled with this byte
abbrev pub castling_with : ℕ → Wing → List ℕ
castling_with o Short = o ∷ 45 ∷ o ∷ []
castling_with o Long = o ∷ 45 ∷ o ∷ 45 ∷ o ∷ []

-- the text is castling to the wing, with letters or with digits, and an ending
abbrev pub SpellsCastling : List ℕ → Wing → Type 0
SpellsCastling text w = (o : ℕ) × ((o ≡ 79) ⊎ (o ≡ 48)) × ((ending : List ℕ) × (is_ending ending ≡ true) × (text ≡ castling_with o w ++ ending))

-- the text spells castling, or parts of a move
abbrev pub IsWideSan : List ℕ → Type 0
IsWideSan text = ((w : Wing) × SpellsCastling text w) ⊎ IsSan text

-- the text spells the castling that the move is, or parts that agree with the legal move of one man
abbrev pub WideMatches : Wide → List ℕ → Move → Type 0
WideMatches g text m = ((w : Wing) × SpellsCastling text w × (castles g m w ≡ true)) ⊎ Matches g.board text m

abbrev pub WideMatchesAlone : Wide → List ℕ → Move → Type 0
WideMatchesAlone g text m = WideMatches g text m × ((n : Move) → WideMatches g text n → n ≡ m)

abbrev pub WideMatchesNone : Wide → List ℕ → Type 0
WideMatchesNone g text = (m : Move) → ¬ (WideMatches g text m)

abbrev pub WideMatchesTwo : Wide → List ℕ → Type 0
WideMatchesTwo g text = (m : Move) × (n : Move) × WideMatches g text m × WideMatches g text n × ¬ (m ≡ n)
