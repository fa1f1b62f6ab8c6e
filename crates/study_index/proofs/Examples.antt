-- The definitions on small examples.
use Rattle.std.proofs.Common.{◌≡◌, ℕ, true, false, [], ◌∷◌, Some, None, refl}
use Rattle.study_board.specs.declared.men.Man.{Man}
use Rattle.study_board.specs.declared.men.Side.{Side}
use Rattle.study_board.specs.declared.men.Side.TheVariants.{White, Black}
use Rattle.study_board.specs.declared.men.Kind.{Kind}
use Rattle.study_board.specs.declared.men.Kind.TheVariants.{King, Rook, Pawn}
use Rattle.study_material.specs.declared.class.Class.TheVariants.{KK, KRK, KPK, KQKR, KRKP, KPKP}
use Rattle.study_values.specs.Number.{place, number, with_bit, has_bit, without_bit, cells_of}
use Rattle.study_index.specs.Decoded.{slot_for, slots_of, listed_square, decoded_men, passed_behind}

abbrev man : Side → Kind → ℕ → Man
man s k a = record { side = s; kind = k; at = a }

-- c3 is the eighth listed square, e1 is not listed
triangle : place false 18 ≡ Some 7
unfolding place
triangle = refl

not_listed : place false 4 ≡ None
unfolding place
not_listed = refl

-- with a pawn d8 is the last listed square
half_board : place true 59 ≡ Some 31
unfolding place
half_board = refl

-- kings on c2 and a1, a white rook on h8, White to move
rook : number false White (man White King 10 ∷ man Black King 0 ∷ man White Rook 63 ∷ []) ≡ Some 20543
unfolding number place
rook = refl

-- kings on b1 and a1, a white rook on a2, Black to move; the place of b1 is the second
black_to_move : number false Black (man White King 1 ∷ man Black King 0 ∷ man White Rook 8 ∷ []) ≡ Some 45064
unfolding number place
black_to_move = refl

two_kings : cells_of KK ≡ 1280
two_kings = refl

three_men : cells_of KRK ≡ 81920
three_men = refl

a_pawn : cells_of KPK ≡ 262144
a_pawn = refl

four_men : cells_of KQKR ≡ 5242880
four_men = refl

a_pawn_of_four : cells_of KRKP ≡ 16777216
a_pawn_of_four = refl

-- the men that 20,543 encodes for king and rook against king
decode_men : decoded_men (slots_of KRK) 20543 ≡ man White King 10 ∷ man Black King 0 ∷ man White Rook 63 ∷ []
unfolding listed_square
decode_men = refl

slots : slots_of KRKP ≡ slot_for White King ∷ slot_for Black King ∷ slot_for White Rook ∷ slot_for Black Pawn ∷ []
slots = refl

a_pawn_each : cells_of KPKP ≡ 33554432
a_pawn_each = refl

-- kings on d1 and h4, pawns on e4 and d4, Black to move
pawns : number true Black (man White King 3 ∷ man Black King 31 ∷ man White Pawn 28 ∷ man Black Pawn 27 ∷ []) ≡ Some 9303835
unfolding number place
pawns = refl

-- the same with a capture on e3
in_passing : with_bit true 9303835 ≡ 26081051
in_passing = refl

the_bit : has_bit 26081051 ≡ true
the_bit = refl

the_number : without_bit 26081051 ≡ 9303835
the_number = refl

the_square : passed_behind true Black (decoded_men (slots_of KPKP) 9303835) ≡ Some 20
unfolding listed_square
the_square = refl
