-- The counts of men, and the code of the material.
use Rattle.std.specs.Prelude.{ℕ, ◌+◌, ◌*◌, List, [], ◌∷◌, ◌++◌, count_by, if◌then◌else◌, codes, decimal}
use Rattle.std.specs.List.{flat_map}
use Rattle.study_board.specs.declared.men.Side.{Side}
use Rattle.study_board.specs.declared.men.Side.TheVariants.{White, Black}
use Rattle.study_board.specs.declared.men.Kind.{Kind}
use Rattle.study_board.specs.declared.men.Kind.TheVariants.{King, Queen, Rook, Bishop, Knight, Pawn}
use Rattle.study_board.specs.declared.men.Man.{Man}
use Rattle.study_board.specs.Geometry.{file_of, rank_of}
use Rattle.study_board.specs.Men.{same_side, is_man}

-- how many men a side has
abbrev pub count_side : Side → List Man → ℕ
count_side side men = count_by (λ m. same_side m.side side) men

-- how many men of a kind a side has
abbrev pub count_kind : Side → Kind → List Man → ℕ
count_kind side kind men = count_by (is_man side kind) men

-- one for each of White's men of the kind, and three for each of Black's
abbrev pub digit : Kind → List Man → List ℕ
digit kind men = decimal (count_kind White kind men + 3 * count_kind Black kind men)

-- `b6`, of a side's king
abbrev pub king_square : Side → Man → List ℕ
king_square side m = if is_man side King m then (97 + file_of m.at) ∷ (49 + rank_of m.at) ∷ [] else []

-- queens, rooks, bishops and knights
unfoldable pub pieces : List Man → List ℕ
pieces men = digit Queen men ++ (digit Rook men ++ (digit Bishop men ++ digit Knight men))

-- the pawns of each side, and the kings' squares
unfoldable pub pawns_and_kings : List Man → List ℕ
pawns_and_kings men =
    decimal (count_kind White Pawn men) ++ (decimal (count_kind Black Pawn men)
    ++ (codes " " ++ (flat_map (king_square White) men ++ flat_map (king_square Black) men)))

-- `0300.10 b6a1`, the code of Guy, Blandford and Roycroft
unfoldable pub material_code : List Man → List ℕ
material_code men = pieces men ++ (codes "." ++ pawns_and_kings men)

-- `2 + 2, 0300.10 b6a1`: how many men each side has, and the code
unfoldable pub counts_words : List Man → List ℕ
counts_words men =
    decimal (count_side White men) ++ (codes " + " ++ (decimal (count_side Black men) ++ (codes ", " ++ material_code men)))
