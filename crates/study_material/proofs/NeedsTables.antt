-- The classes that each class needs, computed.
use Rattle.std.specs.Prelude.{◌≡◌, List, [], ◌∷◌, filter}
use Rattle.std.proofs.Common.{refl, ap, ◌∙◌}
use Rattle.study_board.specs.declared.men.Kind.TheVariants.{Queen, Rook, Bishop, Knight, Pawn}
use Rattle.study_material.specs.declared.class.Class.{Class}
use Rattle.study_material.specs.declared.class.Class.TheVariants.{KK, KQK, KRK, KBK, KNK, KPK, KQQK, KQRK, KQBK}
use Rattle.study_material.specs.declared.class.Class.TheVariants.{KQNK, KQPK, KRRK, KRBK, KRNK, KRPK, KBBK}
use Rattle.study_material.specs.declared.class.Class.TheVariants.{KBNK, KBPK, KNNK, KNPK, KPPK, KQKQ, KQKR}
use Rattle.study_material.specs.declared.class.Class.TheVariants.{KQKB, KQKN, KQKP, KRKR, KRKB, KRKN, KRKP}
use Rattle.study_material.specs.declared.class.Class.TheVariants.{KBKB, KBKN, KBKP, KNKN, KNKP, KPKP}
use Rattle.study_material.specs.Lists.{Lists, of}
use Rattle.study_material.specs.Needs.{ordered_reached, has_lists, by_size, needs_of}

abbrev pub size_table : List Class
size_table = KK ∷ KQK ∷ KRK ∷ KBK ∷ KNK ∷ KPK ∷ KQQK ∷ KQRK ∷ KQBK ∷ KQNK ∷ KRRK ∷ KRBK ∷ KRNK ∷ KBBK ∷ KBNK ∷ KNNK
    ∷ KQKQ ∷ KQKR ∷ KQKB ∷ KQKN ∷ KRKR ∷ KRKB ∷ KRKN ∷ KBKB ∷ KBKN ∷ KNKN ∷ KQPK ∷ KRPK ∷ KBPK ∷ KNPK ∷ KQKP ∷ KRKP ∷
    KBKP ∷ KNKP ∷ KPPK ∷ KPKP ∷ []

pub by_size_is : by_size ≡ size_table
unfolding by_size
by_size_is = refl

-- the lists that one move reaches, with White's first
abbrev reached_table : Class → List Lists
reached_table KK = []
reached_table KQK = of [] [] ∷ []
reached_table KRK = of [] [] ∷ []
reached_table KBK = of [] [] ∷ []
reached_table KNK = of [] [] ∷ []
reached_table KPK = of (Queen ∷ []) [] ∷ of (Rook ∷ []) [] ∷ of (Bishop ∷ []) [] ∷ of (Knight ∷ []) [] ∷ of [] [] ∷ []
reached_table KQQK = of (Queen ∷ []) [] ∷ of (Queen ∷ []) [] ∷ []
reached_table KQRK = of (Rook ∷ []) [] ∷ of (Queen ∷ []) [] ∷ []
reached_table KQBK = of (Bishop ∷ []) [] ∷ of (Queen ∷ []) [] ∷ []
reached_table KQNK = of (Knight ∷ []) [] ∷ of (Queen ∷ []) [] ∷ []
reached_table KQPK = of (Queen ∷ Queen ∷ []) [] ∷ of (Queen ∷ Rook ∷ []) [] ∷ of (Queen ∷ Bishop ∷ []) [] ∷ of
    (Queen ∷ Knight ∷ []) [] ∷ of (Pawn ∷ []) [] ∷ of (Queen ∷ []) [] ∷ []
reached_table KRRK = of (Rook ∷ []) [] ∷ of (Rook ∷ []) [] ∷ []
reached_table KRBK = of (Bishop ∷ []) [] ∷ of (Rook ∷ []) [] ∷ []
reached_table KRNK = of (Knight ∷ []) [] ∷ of (Rook ∷ []) [] ∷ []
reached_table KRPK = of (Queen ∷ Rook ∷ []) [] ∷ of (Rook ∷ Rook ∷ []) [] ∷ of (Rook ∷ Bishop ∷ []) [] ∷ of
    (Rook ∷ Knight ∷ []) [] ∷ of (Pawn ∷ []) [] ∷ of (Rook ∷ []) [] ∷ []
reached_table KBBK = of (Bishop ∷ []) [] ∷ of (Bishop ∷ []) [] ∷ []
reached_table KBNK = of (Knight ∷ []) [] ∷ of (Bishop ∷ []) [] ∷ []
reached_table KBPK = of (Queen ∷ Bishop ∷ []) [] ∷ of (Rook ∷ Bishop ∷ []) [] ∷ of (Bishop ∷ Bishop ∷ []) [] ∷ of
    (Bishop ∷ Knight ∷ []) [] ∷ of (Pawn ∷ []) [] ∷ of (Bishop ∷ []) [] ∷ []
reached_table KNNK = of (Knight ∷ []) [] ∷ of (Knight ∷ []) [] ∷ []
reached_table KNPK = of (Queen ∷ Knight ∷ []) [] ∷ of (Rook ∷ Knight ∷ []) [] ∷ of (Bishop ∷ Knight ∷ []) [] ∷ of
    (Knight ∷ Knight ∷ []) [] ∷ of (Pawn ∷ []) [] ∷ of (Knight ∷ []) [] ∷ []
reached_table KPPK = of (Queen ∷ Pawn ∷ []) [] ∷ of (Rook ∷ Pawn ∷ []) [] ∷ of (Bishop ∷ Pawn ∷ []) [] ∷ of
    (Knight ∷ Pawn ∷ []) [] ∷ of (Queen ∷ Pawn ∷ []) [] ∷ of (Rook ∷ Pawn ∷ []) [] ∷ of (Bishop ∷ Pawn ∷ []) [] ∷ of
    (Knight ∷ Pawn ∷ []) [] ∷ of (Pawn ∷ []) [] ∷ of (Pawn ∷ []) [] ∷ []
reached_table KQKQ = of (Queen ∷ []) [] ∷ of (Queen ∷ []) [] ∷ []
reached_table KQKR = of (Queen ∷ []) [] ∷ of (Rook ∷ []) [] ∷ []
reached_table KQKB = of (Queen ∷ []) [] ∷ of (Bishop ∷ []) [] ∷ []
reached_table KQKN = of (Queen ∷ []) [] ∷ of (Knight ∷ []) [] ∷ []
reached_table KQKP = of (Queen ∷ []) [] ∷ of (Pawn ∷ []) [] ∷ of (Queen ∷ []) (Queen ∷ []) ∷ of (Queen ∷ [])
    (Rook ∷ []) ∷ of (Queen ∷ []) (Bishop ∷ []) ∷ of (Queen ∷ []) (Knight ∷ []) ∷ of (Queen ∷ []) [] ∷ of (Rook ∷ [])
    [] ∷ of (Bishop ∷ []) [] ∷ of (Knight ∷ []) [] ∷ []
reached_table KRKR = of (Rook ∷ []) [] ∷ of (Rook ∷ []) [] ∷ []
reached_table KRKB = of (Rook ∷ []) [] ∷ of (Bishop ∷ []) [] ∷ []
reached_table KRKN = of (Rook ∷ []) [] ∷ of (Knight ∷ []) [] ∷ []
reached_table KRKP = of (Rook ∷ []) [] ∷ of (Pawn ∷ []) [] ∷ of (Queen ∷ []) (Rook ∷ []) ∷ of (Rook ∷ [])
    (Rook ∷ []) ∷ of (Rook ∷ []) (Bishop ∷ []) ∷ of (Rook ∷ []) (Knight ∷ []) ∷ of (Queen ∷ []) [] ∷ of (Rook ∷ []) []
    ∷ of (Bishop ∷ []) [] ∷ of (Knight ∷ []) [] ∷ []
reached_table KBKB = of (Bishop ∷ []) [] ∷ of (Bishop ∷ []) [] ∷ []
reached_table KBKN = of (Bishop ∷ []) [] ∷ of (Knight ∷ []) [] ∷ []
reached_table KBKP = of (Bishop ∷ []) [] ∷ of (Pawn ∷ []) [] ∷ of (Queen ∷ []) (Bishop ∷ []) ∷ of (Rook ∷ [])
    (Bishop ∷ []) ∷ of (Bishop ∷ []) (Bishop ∷ []) ∷ of (Bishop ∷ []) (Knight ∷ []) ∷ of (Queen ∷ []) [] ∷ of
    (Rook ∷ []) [] ∷ of (Bishop ∷ []) [] ∷ of (Knight ∷ []) [] ∷ []
reached_table KNKN = of (Knight ∷ []) [] ∷ of (Knight ∷ []) [] ∷ []
reached_table KNKP = of (Knight ∷ []) [] ∷ of (Pawn ∷ []) [] ∷ of (Queen ∷ []) (Knight ∷ []) ∷ of (Rook ∷ [])
    (Knight ∷ []) ∷ of (Bishop ∷ []) (Knight ∷ []) ∷ of (Knight ∷ []) (Knight ∷ []) ∷ of (Queen ∷ []) [] ∷ of
    (Rook ∷ []) [] ∷ of (Bishop ∷ []) [] ∷ of (Knight ∷ []) [] ∷ []
reached_table KPKP = of (Pawn ∷ []) [] ∷ of (Queen ∷ []) (Pawn ∷ []) ∷ of (Rook ∷ []) (Pawn ∷ []) ∷ of (Bishop ∷ [])
    (Pawn ∷ []) ∷ of (Knight ∷ []) (Pawn ∷ []) ∷ of (Pawn ∷ []) [] ∷ of (Queen ∷ []) (Pawn ∷ []) ∷ of (Rook ∷ [])
    (Pawn ∷ []) ∷ of (Bishop ∷ []) (Pawn ∷ []) ∷ of (Knight ∷ []) (Pawn ∷ []) ∷ []

reached_is : (c : Class) → ordered_reached c ≡ reached_table c
unfolding ordered_reached
reached_is KK = refl
reached_is KQK = refl
reached_is KRK = refl
reached_is KBK = refl
reached_is KNK = refl
reached_is KPK = refl
reached_is KQQK = refl
reached_is KQRK = refl
reached_is KQBK = refl
reached_is KQNK = refl
reached_is KQPK = refl
reached_is KRRK = refl
reached_is KRBK = refl
reached_is KRNK = refl
reached_is KRPK = refl
reached_is KBBK = refl
reached_is KBNK = refl
reached_is KBPK = refl
reached_is KNNK = refl
reached_is KNPK = refl
reached_is KPPK = refl
reached_is KQKQ = refl
reached_is KQKR = refl
reached_is KQKB = refl
reached_is KQKN = refl
reached_is KQKP = refl
reached_is KRKR = refl
reached_is KRKB = refl
reached_is KRKN = refl
reached_is KRKP = refl
reached_is KBKB = refl
reached_is KBKN = refl
reached_is KBKP = refl
reached_is KNKN = refl
reached_is KNKP = refl
reached_is KPKP = refl

abbrev pub needs_table : Class → List Class
needs_table KK = []
needs_table KQK = KK ∷ []
needs_table KRK = KK ∷ []
needs_table KBK = KK ∷ []
needs_table KNK = KK ∷ []
needs_table KPK = KK ∷ KQK ∷ KRK ∷ KBK ∷ KNK ∷ []
needs_table KQQK = KQK ∷ []
needs_table KQRK = KQK ∷ KRK ∷ []
needs_table KQBK = KQK ∷ KBK ∷ []
needs_table KQNK = KQK ∷ KNK ∷ []
needs_table KQPK = KQK ∷ KPK ∷ KQQK ∷ KQRK ∷ KQBK ∷ KQNK ∷ []
needs_table KRRK = KRK ∷ []
needs_table KRBK = KRK ∷ KBK ∷ []
needs_table KRNK = KRK ∷ KNK ∷ []
needs_table KRPK = KRK ∷ KPK ∷ KQRK ∷ KRRK ∷ KRBK ∷ KRNK ∷ []
needs_table KBBK = KBK ∷ []
needs_table KBNK = KBK ∷ KNK ∷ []
needs_table KBPK = KBK ∷ KPK ∷ KQBK ∷ KRBK ∷ KBBK ∷ KBNK ∷ []
needs_table KNNK = KNK ∷ []
needs_table KNPK = KNK ∷ KPK ∷ KQNK ∷ KRNK ∷ KBNK ∷ KNNK ∷ []
needs_table KPPK = KPK ∷ KQPK ∷ KRPK ∷ KBPK ∷ KNPK ∷ []
needs_table KQKQ = KQK ∷ []
needs_table KQKR = KQK ∷ KRK ∷ []
needs_table KQKB = KQK ∷ KBK ∷ []
needs_table KQKN = KQK ∷ KNK ∷ []
needs_table KQKP = KQK ∷ KRK ∷ KBK ∷ KNK ∷ KPK ∷ KQKQ ∷ KQKR ∷ KQKB ∷ KQKN ∷ []
needs_table KRKR = KRK ∷ []
needs_table KRKB = KRK ∷ KBK ∷ []
needs_table KRKN = KRK ∷ KNK ∷ []
needs_table KRKP = KQK ∷ KRK ∷ KBK ∷ KNK ∷ KPK ∷ KQKR ∷ KRKR ∷ KRKB ∷ KRKN ∷ []
needs_table KBKB = KBK ∷ []
needs_table KBKN = KBK ∷ KNK ∷ []
needs_table KBKP = KQK ∷ KRK ∷ KBK ∷ KNK ∷ KPK ∷ KQKB ∷ KRKB ∷ KBKB ∷ KBKN ∷ []
needs_table KNKN = KNK ∷ []
needs_table KNKP = KQK ∷ KRK ∷ KBK ∷ KNK ∷ KPK ∷ KQKN ∷ KRKN ∷ KBKN ∷ KNKN ∷ []
needs_table KPKP = KPK ∷ KQKP ∷ KRKP ∷ KBKP ∷ KNKP ∷ []

among : (c : Class) → filter (has_lists (reached_table c)) size_table ≡ needs_table c
among KK = refl
among KQK = refl
among KRK = refl
among KBK = refl
among KNK = refl
among KPK = refl
among KQQK = refl
among KQRK = refl
among KQBK = refl
among KQNK = refl
among KQPK = refl
among KRRK = refl
among KRBK = refl
among KRNK = refl
among KRPK = refl
among KBBK = refl
among KBNK = refl
among KBPK = refl
among KNNK = refl
among KNPK = refl
among KPPK = refl
among KQKQ = refl
among KQKR = refl
among KQKB = refl
among KQKN = refl
among KQKP = refl
among KRKR = refl
among KRKB = refl
among KRKN = refl
among KRKP = refl
among KBKB = refl
among KBKN = refl
among KBKP = refl
among KNKN = refl
among KNKP = refl
among KPKP = refl

pub needs_is : (c : Class) → needs_of c ≡ needs_table c
unfolding needs_of
needs_is c = ap (λ ls. filter (has_lists ls) by_size) (reached_is c) ∙ ap (λ ds. filter (has_lists (reached_table c)) ds) by_size_is ∙ among c
