-- The definitions on small examples.
use Rattle.std.proofs.Common.{◌≡◌, ℕ, true, false, [], ◌∷◌, refl}
use Rattle.study_board.specs.declared.men.Man.{Man}
use Rattle.study_board.specs.declared.men.Side.{Side}
use Rattle.study_board.specs.declared.men.Side.TheVariants.{White, Black}
use Rattle.study_board.specs.declared.men.Kind.{Kind}
use Rattle.study_board.specs.declared.men.Kind.TheVariants.{King, Queen, Rook, Bishop, Knight, Pawn}
use Rattle.study_material.specs.declared.class.Class.TheVariants.{KPK, KQPK, KQKR}
use Rattle.study_material.specs.Lists.{of, lists, comes_before, is_swapped, ordered_lists}
use Rattle.study_material.specs.Class.{lists_of}
use Rattle.study_material.specs.Needs.{lists_promoted, reached_lists}

abbrev man : Side → Kind → ℕ → Man
man s k a = record { side = s; kind = k; at = a }

-- a pawn and a queen beside the kings stand in list order
pawn_and_queen : lists (man White King 0 ∷ man White Pawn 8 ∷ man White Queen 9 ∷ man Black King 63 ∷ []) ≡ lists_of KQPK
pawn_and_queen = refl

-- a rook against a queen is the class of the queen, with the colours swapped; a queen against a queen is not swapped
rook_against_queen : ordered_lists (lists (man White King 0 ∷ man White Rook 8 ∷ man Black Queen 9 ∷ man Black King 63 ∷ [])) ≡ lists_of KQKR
rook_against_queen = refl

swapped : is_swapped (man White King 0 ∷ man White Rook 8 ∷ man Black Queen 9 ∷ man Black King 63 ∷ []) ≡ true
swapped = refl

equal : is_swapped (man White King 0 ∷ man White Queen 8 ∷ man Black Queen 9 ∷ man Black King 63 ∷ []) ≡ false
equal = refl

-- the longer list comes first, whatever its men
longer : comes_before (Pawn ∷ Pawn ∷ []) (Queen ∷ []) ≡ true
longer = refl

-- a pawn can be captured or promoted
pawn : reached_lists (lists_of KPK) ≡ of (Queen ∷ []) [] ∷ of (Rook ∷ []) [] ∷ of (Bishop ∷ []) [] ∷ of (Knight ∷ []) [] ∷ of [] [] ∷ []
pawn = refl

-- one of two pawns is promoted
one_promoted : lists_promoted (Rook ∷ Pawn ∷ []) ≡ (Queen ∷ Rook ∷ []) ∷ (Rook ∷ Rook ∷ []) ∷ (Rook ∷ Bishop ∷ []) ∷ (Rook ∷ Knight ∷ []) ∷ []
one_promoted = refl
