-- Not part of any public contract: which side's list of men comes first, by weights: an earlier kind weighs more, and any two men weigh more than one.
use Rattle.std.specs.Prelude.{ℕ, ◌+◌, ◌-◌, List, [], ◌∷◌, if◌then◌else◌}
use Rattle.study_board.specs.declared.men.Side.{Side}
use Rattle.study_board.specs.declared.men.Side.TheVariants.{White, Black}
use Rattle.study_board.specs.declared.men.Kind.{Kind}
use Rattle.study_board.specs.declared.men.Kind.TheVariants.{King, Queen, Rook, Bishop, Knight, Pawn}
use Rattle.study_board.specs.declared.men.Man.{Man}
use Rattle.study_material.specs.Lists.{is_other_than_king}

abbrev pub weight : Kind → ℕ
weight Queen = 9
weight Rook = 8
weight Bishop = 7
weight Knight = 6
weight Pawn = 5
weight King = 4

-- ten, minus the weight of a white man or plus that of a black one
abbrev pub signed_weight : Side → ℕ → ℕ
signed_weight White n = 10 - n
signed_weight Black n = 10 + n

abbrev pub balance : Man → ℕ
balance m = if is_other_than_king m then signed_weight m.side (weight m.kind) else 10

abbrev pub balance_of : List Man → ℕ
balance_of [] = 0
balance_of (m ∷ ms) = balance m + balance_of ms
