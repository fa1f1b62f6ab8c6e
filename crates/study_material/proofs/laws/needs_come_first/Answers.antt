use Rattle.std.proofs.Common.{◌≡◌, true, List, nat_lt, refl, sym, subst}
use Rattle.std.specs.List.{list_all}
use Rattle.study_material.specs.declared.class.Class.{Class}
use Rattle.study_material.specs.declared.class.Class.TheVariants.{KK, KQK, KRK, KBK, KNK, KPK, KQQK, KQRK, KQBK}
use Rattle.study_material.specs.declared.class.Class.TheVariants.{KQNK, KQPK, KRRK, KRBK, KRNK, KRPK, KBBK}
use Rattle.study_material.specs.declared.class.Class.TheVariants.{KBNK, KBPK, KNNK, KNPK, KPPK, KQKQ, KQKR}
use Rattle.study_material.specs.declared.class.Class.TheVariants.{KQKB, KQKN, KQKP, KRKR, KRKB, KRKN, KRKP}
use Rattle.study_material.specs.declared.class.Class.TheVariants.{KBKB, KBKN, KBKP, KNKN, KNKP, KPKP}
use Rattle.study_material.specs.Needs.{size}
use Rattle.study_material.proofs.NeedsTables.{needs_table, needs_is}
use Rattle.study_material.proofs.laws.needs_come_first.Goals as goal

smaller : (c : Class) → list_all (λ d. nat_lt (size d) (size c)) (needs_table c) ≡ true
smaller KK = refl
smaller KQK = refl
smaller KRK = refl
smaller KBK = refl
smaller KNK = refl
smaller KPK = refl
smaller KQQK = refl
smaller KQRK = refl
smaller KQBK = refl
smaller KQNK = refl
smaller KQPK = refl
smaller KRRK = refl
smaller KRBK = refl
smaller KRNK = refl
smaller KRPK = refl
smaller KBBK = refl
smaller KBNK = refl
smaller KBPK = refl
smaller KNNK = refl
smaller KNPK = refl
smaller KPPK = refl
smaller KQKQ = refl
smaller KQKR = refl
smaller KQKB = refl
smaller KQKN = refl
smaller KQKP = refl
smaller KRKR = refl
smaller KRKB = refl
smaller KRKN = refl
smaller KRKP = refl
smaller KBKB = refl
smaller KBKN = refl
smaller KBKP = refl
smaller KNKN = refl
smaller KNKP = refl
smaller KPKP = refl

pub returns : goal.returns
returns c = λ k. subst (λ (l : List Class). list_all (λ d. nat_lt (size d) (size k)) l ≡ true) (sym (needs_is k)) (smaller k)
