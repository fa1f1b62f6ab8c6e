-- The kinds of each side's men beside its king.
use Rattle.std.specs.Prelude.{ℕ, Bool, true, false, not, ◌&&◌, ◌||◌, ◌==◌, nat_lt, List, [], ◌∷◌, length, if◌then◌else◌}
use Rattle.study_board.specs.declared.men.Side.{Side}
use Rattle.study_board.specs.declared.men.Side.TheVariants.{White, Black}
use Rattle.study_board.specs.declared.men.Kind.{Kind}
use Rattle.study_board.specs.declared.men.Kind.TheVariants.{King, Queen, Rook, Bishop, Knight, Pawn}
use Rattle.study_board.specs.declared.men.Man.{Man}
use Rattle.study_board.specs.Men.{same_side, same_kind}

-- a list for each side, in list order: queens, rooks, bishops, knights, pawns
pub record Lists : Type 0 where
  pub white : List Kind
  pub black : List Kind

abbrev pub of : List Kind → List Kind → Lists
of white black = record { white = white; black = black }

-- the place of a kind in list order
abbrev pub kind_place : Kind → ℕ
kind_place Queen = 0
kind_place Rook = 1
kind_place Bishop = 2
kind_place Knight = 3
kind_place Pawn = 4
kind_place King = 5

-- a kind inserted in list order
abbrev pub put_kind : Kind → List Kind → List Kind
put_kind k [] = k ∷ []
put_kind k (x ∷ xs) = if nat_lt (kind_place x) (kind_place k) then x ∷ put_kind k xs else k ∷ x ∷ xs

-- a man other than a king
abbrev pub is_other_than_king : Man → Bool
is_other_than_king m = not (same_kind m.kind King)

-- the kinds of a side's men other than its king, in list order
abbrev pub kinds_of : Side → List Man → List Kind
kinds_of side [] = []
kinds_of side (m ∷ ms) = if same_side m.side side && is_other_than_king m then put_kind m.kind (kinds_of side ms) else kinds_of side ms

abbrev pub lists : List Man → Lists
lists men = of (kinds_of White men) (kinds_of Black men)

-- of two lists of equal length, the one with the earlier kind at the first difference comes first
abbrev pub is_earlier : List Kind → List Kind → Bool
is_earlier [] ys = false
is_earlier (x ∷ xs) [] = false
is_earlier (x ∷ xs) (y ∷ ys) =
    if nat_lt (kind_place x) (kind_place y) then true else (same_kind x y && is_earlier xs ys)

-- the longer list comes first, or at equal length the earlier one
abbrev pub comes_before : List Kind → List Kind → Bool
comes_before xs ys = nat_lt (length ys) (length xs) || ((length xs == length ys) && is_earlier xs ys)

abbrev pub lists_exchanged : Lists → Lists
lists_exchanged l = of l.black l.white

-- Black's list comes first
abbrev pub is_exchanged : Lists → Bool
is_exchanged l = comes_before l.black l.white

-- the lists, exchanged if Black's comes first
abbrev pub ordered_lists : Lists → Lists
ordered_lists l = if is_exchanged l then lists_exchanged l else l

-- the colours are swapped for the class
abbrev pub is_swapped : List Man → Bool
is_swapped men = is_exchanged (lists men)
