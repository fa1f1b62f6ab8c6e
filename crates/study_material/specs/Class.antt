-- The classes of material, by the kinds of each side's men beside its king.
use Rattle.std.specs.Prelude.{◌≡◌, ℕ, Bool, true, false, ◌&&◌, List, [], ◌∷◌, ◌++◌, map, if◌then◌else◌}
use Rattle.study_board.specs.declared.men.Kind.{Kind}
use Rattle.study_board.specs.declared.men.Kind.TheVariants.{King, Queen, Rook, Bishop, Knight, Pawn}
use Rattle.study_board.specs.Men.{same_kind}
use Rattle.study_board.specs.Letters.{letter}
use Rattle.study_board.specs.Position.{Position, IsValid}
use Rattle.study_material.specs.Lists.{Lists, of, lists, ordered_lists}
use Rattle.study_material.specs.declared.class.Class.{Class}
use Rattle.study_material.specs.declared.class.Class.TheVariants.{KK, KQK, KRK, KBK, KNK, KPK, KQQK, KQRK, KQBK}
use Rattle.study_material.specs.declared.class.Class.TheVariants.{KQNK, KQPK, KRRK, KRBK, KRNK, KRPK, KBBK}
use Rattle.study_material.specs.declared.class.Class.TheVariants.{KBNK, KBPK, KNNK, KNPK, KPPK, KQKQ, KQKR}
use Rattle.study_material.specs.declared.class.Class.TheVariants.{KQKB, KQKN, KQKP, KRKR, KRKB, KRKN, KRKP}
use Rattle.study_material.specs.declared.class.Class.TheVariants.{KBKB, KBKN, KBKP, KNKN, KNKP, KPKP}

abbrev pub lists_of : Class → Lists
lists_of KK = of [] []
lists_of KQK = of (Queen ∷ []) []
lists_of KRK = of (Rook ∷ []) []
lists_of KBK = of (Bishop ∷ []) []
lists_of KNK = of (Knight ∷ []) []
lists_of KPK = of (Pawn ∷ []) []
lists_of KQQK = of (Queen ∷ Queen ∷ []) []
lists_of KQRK = of (Queen ∷ Rook ∷ []) []
lists_of KQBK = of (Queen ∷ Bishop ∷ []) []
lists_of KQNK = of (Queen ∷ Knight ∷ []) []
lists_of KQPK = of (Queen ∷ Pawn ∷ []) []
lists_of KRRK = of (Rook ∷ Rook ∷ []) []
lists_of KRBK = of (Rook ∷ Bishop ∷ []) []
lists_of KRNK = of (Rook ∷ Knight ∷ []) []
lists_of KRPK = of (Rook ∷ Pawn ∷ []) []
lists_of KBBK = of (Bishop ∷ Bishop ∷ []) []
lists_of KBNK = of (Bishop ∷ Knight ∷ []) []
lists_of KBPK = of (Bishop ∷ Pawn ∷ []) []
lists_of KNNK = of (Knight ∷ Knight ∷ []) []
lists_of KNPK = of (Knight ∷ Pawn ∷ []) []
lists_of KPPK = of (Pawn ∷ Pawn ∷ []) []
lists_of KQKQ = of (Queen ∷ []) (Queen ∷ [])
lists_of KQKR = of (Queen ∷ []) (Rook ∷ [])
lists_of KQKB = of (Queen ∷ []) (Bishop ∷ [])
lists_of KQKN = of (Queen ∷ []) (Knight ∷ [])
lists_of KQKP = of (Queen ∷ []) (Pawn ∷ [])
lists_of KRKR = of (Rook ∷ []) (Rook ∷ [])
lists_of KRKB = of (Rook ∷ []) (Bishop ∷ [])
lists_of KRKN = of (Rook ∷ []) (Knight ∷ [])
lists_of KRKP = of (Rook ∷ []) (Pawn ∷ [])
lists_of KBKB = of (Bishop ∷ []) (Bishop ∷ [])
lists_of KBKN = of (Bishop ∷ []) (Knight ∷ [])
lists_of KBKP = of (Bishop ∷ []) (Pawn ∷ [])
lists_of KNKN = of (Knight ∷ []) (Knight ∷ [])
lists_of KNKP = of (Knight ∷ []) (Pawn ∷ [])
lists_of KPKP = of (Pawn ∷ []) (Pawn ∷ [])

-- all classes, in the order of the class list
abbrev pub class_list : List Class
class_list = KK ∷ KQK ∷ KRK ∷ KBK ∷ KNK ∷ KPK ∷ KQQK ∷ KQRK ∷ KQBK ∷ KQNK ∷ KQPK ∷ KRRK ∷ KRBK ∷ KRNK ∷ KRPK ∷ KBBK
    ∷ KBNK ∷ KBPK ∷ KNNK ∷ KNPK ∷ KPPK ∷ KQKQ ∷ KQKR ∷ KQKB ∷ KQKN ∷ KQKP ∷ KRKR ∷ KRKB ∷ KRKN ∷ KRKP ∷ KBKB ∷ KBKN ∷
    KBKP ∷ KNKN ∷ KNKP ∷ KPKP ∷ []

-- K, White's list, K, Black's list
unfoldable pub name_of : Class → List ℕ
name_of c = letter King ∷ map letter (lists_of c).white ++ letter King ∷ map letter (lists_of c).black

abbrev pub IsNameOf : List ℕ → Class → Type 0
IsNameOf text c = text ≡ name_of c

abbrev pub same_kinds : List Kind → List Kind → Bool
same_kinds [] [] = true
same_kinds [] (y ∷ ys) = false
same_kinds (x ∷ xs) [] = false
same_kinds (x ∷ xs) (y ∷ ys) = same_kind x y && same_kinds xs ys

abbrev pub same_lists : Lists → Lists → Bool
same_lists l m = same_kinds l.white m.white && same_kinds l.black m.black

-- the position is of the class: its lists, exchanged if Black's comes first, are the lists of the class
abbrev pub IsOf : Class → Position → Type 0
IsOf c p = lists_of c ≡ ordered_lists (lists p.men)

-- `IsOf` as a test
abbrev pub is_of : Class → Position → Bool
is_of c p = same_lists (lists_of c) (ordered_lists (lists p.men))

-- the class with these lists, among some classes
abbrev pub class_in : List Class → Lists → Class
class_in [] l = KK
class_in (c ∷ cs) l = if same_lists (lists_of c) l then c else class_in cs l

-- the class of a position
unfoldable pub class_found : Position → Class
class_found p = class_in class_list (ordered_lists (lists p.men))

-- the position is of exactly one class
pub record HasOneClass (p : Position) : Type 0 where
  pub class : Class
  pub is : IsOf class p
  pub one : (d : Class) → IsOf d p → d ≡ class

abbrev pub PositionsHaveOneClass : Type 0
PositionsHaveOneClass = (p : Position) → IsValid p → HasOneClass p

-- the index of a class in the list of classes, counted from 0
abbrev pub class_number : Class → ℕ
class_number KK = 0
class_number KQK = 1
class_number KRK = 2
class_number KBK = 3
class_number KNK = 4
class_number KPK = 5
class_number KQQK = 6
class_number KQRK = 7
class_number KQBK = 8
class_number KQNK = 9
class_number KQPK = 10
class_number KRRK = 11
class_number KRBK = 12
class_number KRNK = 13
class_number KRPK = 14
class_number KBBK = 15
class_number KBNK = 16
class_number KBPK = 17
class_number KNNK = 18
class_number KNPK = 19
class_number KPPK = 20
class_number KQKQ = 21
class_number KQKR = 22
class_number KQKB = 23
class_number KQKN = 24
class_number KQKP = 25
class_number KRKR = 26
class_number KRKB = 27
class_number KRKN = 28
class_number KRKP = 29
class_number KBKB = 30
class_number KBKN = 31
class_number KBKP = 32
class_number KNKN = 33
class_number KNKP = 34
class_number KPKP = 35
