-- Every class is in the order by size.
use Rattle.std.proofs.Common.{◌≡◌, true, refl}
use Rattle.study_material.specs.declared.class.Class.{Class}
use Rattle.study_material.specs.declared.class.Class.TheVariants.{KK, KQK, KRK, KBK, KNK, KPK, KQQK, KQRK, KQBK}
use Rattle.study_material.specs.declared.class.Class.TheVariants.{KQNK, KQPK, KRRK, KRBK, KRNK, KRPK, KBBK}
use Rattle.study_material.specs.declared.class.Class.TheVariants.{KBNK, KBPK, KNNK, KNPK, KPPK, KQKQ, KQKR}
use Rattle.study_material.specs.declared.class.Class.TheVariants.{KQKB, KQKN, KQKP, KRKR, KRKB, KRKN, KRKP}
use Rattle.study_material.specs.declared.class.Class.TheVariants.{KBKB, KBKN, KBKP, KNKN, KNKP, KPKP}
use Rattle.study_material.specs.Needs.{is_in}
use Rattle.study_material.proofs.NeedsTables.{size_table}

pub in_size_table : (c : Class) → is_in size_table c ≡ true
in_size_table KK = refl
in_size_table KQK = refl
in_size_table KRK = refl
in_size_table KBK = refl
in_size_table KNK = refl
in_size_table KPK = refl
in_size_table KQQK = refl
in_size_table KQRK = refl
in_size_table KQBK = refl
in_size_table KQNK = refl
in_size_table KQPK = refl
in_size_table KRRK = refl
in_size_table KRBK = refl
in_size_table KRNK = refl
in_size_table KRPK = refl
in_size_table KBBK = refl
in_size_table KBNK = refl
in_size_table KBPK = refl
in_size_table KNNK = refl
in_size_table KNPK = refl
in_size_table KPPK = refl
in_size_table KQKQ = refl
in_size_table KQKR = refl
in_size_table KQKB = refl
in_size_table KQKN = refl
in_size_table KQKP = refl
in_size_table KRKR = refl
in_size_table KRKB = refl
in_size_table KRKN = refl
in_size_table KRKP = refl
in_size_table KBKB = refl
in_size_table KBKN = refl
in_size_table KBKP = refl
in_size_table KNKN = refl
in_size_table KNKP = refl
in_size_table KPKP = refl
