-- The names of classes are distinct.
use Rattle.std.proofs.Common.{◌≡◌, ℕ, Bool, true, false, List, subst, ◌≤◌, take, lit<, refl, sym, ◌∙◌}
use Rattle.std.specs.List.{All, Contains}
use Rattle.std.proofs.lemmas.List.{take_all}
use Rattle.std.specs.Str.{bytes_eq}
use Rattle.std.proofs.lemmas.Slice.Eq.{bytes_eq-Decides}
use Rattle.std.proofs.lemmas.Bool.{false≢true}
use Rattle.study_material.specs.declared.class.Class.{Class}
use Rattle.study_material.specs.declared.class.Class.TheVariants.{KK, KQK, KRK, KBK, KNK, KPK, KQQK, KQRK, KQBK}
use Rattle.study_material.specs.declared.class.Class.TheVariants.{KQNK, KQPK, KRRK, KRBK, KRNK, KRPK, KBBK}
use Rattle.study_material.specs.declared.class.Class.TheVariants.{KBNK, KBPK, KNNK, KNPK, KPPK, KQKQ, KQKR}
use Rattle.study_material.specs.declared.class.Class.TheVariants.{KQKB, KQKN, KQKP, KRKR, KRKB, KRKN, KRKP}
use Rattle.study_material.specs.declared.class.Class.TheVariants.{KBKB, KBKN, KBKP, KNKN, KNKP, KPKP}
use Rattle.study_material.specs.Class.{name_of, class_list, IsNameOf}

-- every class is in the list
pub Contains-class : (c : Class) → Contains class_list c
Contains-class KK = (0, lit< tt, refl)
Contains-class KQK = (1, lit< tt, refl)
Contains-class KRK = (2, lit< tt, refl)
Contains-class KBK = (3, lit< tt, refl)
Contains-class KNK = (4, lit< tt, refl)
Contains-class KPK = (5, lit< tt, refl)
Contains-class KQQK = (6, lit< tt, refl)
Contains-class KQRK = (7, lit< tt, refl)
Contains-class KQBK = (8, lit< tt, refl)
Contains-class KQNK = (9, lit< tt, refl)
Contains-class KQPK = (10, lit< tt, refl)
Contains-class KRRK = (11, lit< tt, refl)
Contains-class KRBK = (12, lit< tt, refl)
Contains-class KRNK = (13, lit< tt, refl)
Contains-class KRPK = (14, lit< tt, refl)
Contains-class KBBK = (15, lit< tt, refl)
Contains-class KBNK = (16, lit< tt, refl)
Contains-class KBPK = (17, lit< tt, refl)
Contains-class KNNK = (18, lit< tt, refl)
Contains-class KNPK = (19, lit< tt, refl)
Contains-class KPPK = (20, lit< tt, refl)
Contains-class KQKQ = (21, lit< tt, refl)
Contains-class KQKR = (22, lit< tt, refl)
Contains-class KQKB = (23, lit< tt, refl)
Contains-class KQKN = (24, lit< tt, refl)
Contains-class KQKP = (25, lit< tt, refl)
Contains-class KRKR = (26, lit< tt, refl)
Contains-class KRKB = (27, lit< tt, refl)
Contains-class KRKN = (28, lit< tt, refl)
Contains-class KRKP = (29, lit< tt, refl)
Contains-class KBKB = (30, lit< tt, refl)
Contains-class KBKN = (31, lit< tt, refl)
Contains-class KBKP = (32, lit< tt, refl)
Contains-class KNKN = (33, lit< tt, refl)
Contains-class KNKP = (34, lit< tt, refl)
Contains-class KPKP = (35, lit< tt, refl)

-- a text other than the name
pub other_name : (c : Class) (name text : List ℕ) (r : Bool) → name ≡ name_of c → r ≡ bytes_eq name text → r ≡ false → IsNameOf text c → ⊥
other_name c name text r n e f h = false≢true (sym f ∙ e ∙ (bytes_eq-Decides name text).1 (n ∙ sym h))

pub same_name : (c : Class) (name text : List ℕ) (r : Bool) → name ≡ name_of c → r ≡ bytes_eq name text → r ≡ true → IsNameOf text c
same_name c name text r n e t = sym ((bytes_eq-Decides name text).0 (sym e ∙ t)) ∙ n

-- if no class of the list has the name, no class has it
pub no_class : (text : List ℕ) (i : ℕ) → 36 ≤ i → All (λ d. IsNameOf text d → ⊥) (take i class_list) → (c : Class) → IsNameOf text c → ⊥
no_class text i le all c =
    let whole : take i class_list ≡ class_list = take_all i class_list le in
    all_contain (λ d. IsNameOf text d → ⊥) class_list (subst (λ l. All (λ d. IsNameOf text d → ⊥) l) whole all) c (Contains-class c)
  where
    all_contain : (P : Class → Type 0) (xs : List Class) → All P xs → (c : Class) → Contains xs c → P c
    all_contain P xs h c i = subst P i.2 (h i.0 c i.1)
