-- Facts for setting up a position.
use Rattle.std.specs.Prelude.{◌≡◌, ◌⊎◌, ℕ, ◌-◌, List, [], ◌∷◌}
use Rattle.std.specs.List.{filter, range_with_len}
use Rattle.study_board.specs.declared.men.Man.{Man}
use Rattle.study_board.specs.declared.men.Side.{Side}
use Rattle.study_board.specs.Position.{Position, could_be_passed}
use Rattle.study_material.specs.declared.class.Class.{Class}
use Rattle.study_material.specs.Needs.{NeedsClass, by_size}

-- the squares from a number on that a pawn of the side not to move may have passed in a double step just before
abbrev pub passed_from : List Man → Side → ℕ → List ℕ
passed_from men side first = filter (could_be_passed men side) (range_with_len first (64 - first))

-- a1, b1 up to h8
abbrev pub passed_squares : List Man → Side → List ℕ
passed_squares men side = passed_from men side 0

-- one of the positions needs the class
abbrev pub IsNeededBy : List Position → Class → Type 0
IsNeededBy [] d = ⊥
IsNeededBy (p ∷ ps) d = NeedsClass p d ⊎ IsNeededBy ps d

-- the classes among these with the property, each once, in their order
abbrev pub AreThose : (Class → Type 0) → List Class → List Class → Type 0
AreThose Has [] ds = ds ≡ []
AreThose Has (c ∷ cs) ds = ((more : List Class) × Has c × AreThose Has cs more × (ds ≡ c ∷ more)) ⊎ ((Has c → ⊥) × AreThose Has cs ds)

-- all classes that these positions need, by number of men, number of pawns, index in the class list: each after those that it needs
abbrev pub AreClassesNeeded : List Position → List Class → Type 0
AreClassesNeeded ps ds = AreThose (IsNeededBy ps) by_size ds
