-- The classes that each class needs, directly or through others.
use Rattle.std.proofs.Common.{◌≡◌, ℕ, ◌+◌, ◌<◌, zero, suc, Bool, true, false, ◌&&◌, ◌||◌, nat_lt, List}
use Rattle.std.proofs.Common.{[], ◌∷◌, length, filter, refl, sym, ◌∙◌, ap, subst, arith, get_or}
use Rattle.std.specs.List.{list_any, Contains}
use Rattle.std.proofs.lemmas.Bool.{false≢true, and_parts}
use borrow.Author.Tests.{ltb-true}
use Rattle.study_material.specs.declared.class.Class.{Class}
use Rattle.study_material.specs.declared.class.Class.TheVariants.{KK, KQK, KRK, KBK, KNK, KPK, KQQK, KQRK, KQBK}
use Rattle.study_material.specs.declared.class.Class.TheVariants.{KQNK, KQPK, KRRK, KRBK, KRNK, KRPK, KBBK}
use Rattle.study_material.specs.declared.class.Class.TheVariants.{KBNK, KBPK, KNNK, KNPK, KPPK, KQKQ, KQKR}
use Rattle.study_material.specs.declared.class.Class.TheVariants.{KQKB, KQKN, KQKP, KRKR, KRKB, KRKN, KRKP}
use Rattle.study_material.specs.declared.class.Class.TheVariants.{KBKB, KBKN, KBKP, KNKN, KNKP, KPKP}
use Rattle.study_material.specs.Class.{lists_of, same_lists}
use Rattle.study_material.specs.Needs.{size, is_in, Reaches, IsNeeded, IsOrder}
use Rattle.study_material.proofs.Classes.{same_lists-class, is_in-Contains, Contains-is_in}
use Rattle.study_material.proofs.NeedsTables.{size_table, by_size_is, needs_table, needs_is}

abbrev pub order_table : Class → List Class
order_table KK = KK ∷ []
order_table KQK = KK ∷ KQK ∷ []
order_table KRK = KK ∷ KRK ∷ []
order_table KBK = KK ∷ KBK ∷ []
order_table KNK = KK ∷ KNK ∷ []
order_table KPK = KK ∷ KQK ∷ KRK ∷ KBK ∷ KNK ∷ KPK ∷ []
order_table KQQK = KK ∷ KQK ∷ KQQK ∷ []
order_table KQRK = KK ∷ KQK ∷ KRK ∷ KQRK ∷ []
order_table KQBK = KK ∷ KQK ∷ KBK ∷ KQBK ∷ []
order_table KQNK = KK ∷ KQK ∷ KNK ∷ KQNK ∷ []
order_table KQPK = KK ∷ KQK ∷ KRK ∷ KBK ∷ KNK ∷ KPK ∷ KQQK ∷ KQRK ∷ KQBK ∷ KQNK ∷ KQPK ∷ []
order_table KRRK = KK ∷ KRK ∷ KRRK ∷ []
order_table KRBK = KK ∷ KRK ∷ KBK ∷ KRBK ∷ []
order_table KRNK = KK ∷ KRK ∷ KNK ∷ KRNK ∷ []
order_table KRPK = KK ∷ KQK ∷ KRK ∷ KBK ∷ KNK ∷ KPK ∷ KQRK ∷ KRRK ∷ KRBK ∷ KRNK ∷ KRPK ∷ []
order_table KBBK = KK ∷ KBK ∷ KBBK ∷ []
order_table KBNK = KK ∷ KBK ∷ KNK ∷ KBNK ∷ []
order_table KBPK = KK ∷ KQK ∷ KRK ∷ KBK ∷ KNK ∷ KPK ∷ KQBK ∷ KRBK ∷ KBBK ∷ KBNK ∷ KBPK ∷ []
order_table KNNK = KK ∷ KNK ∷ KNNK ∷ []
order_table KNPK = KK ∷ KQK ∷ KRK ∷ KBK ∷ KNK ∷ KPK ∷ KQNK ∷ KRNK ∷ KBNK ∷ KNNK ∷ KNPK ∷ []
order_table KPPK = KK ∷ KQK ∷ KRK ∷ KBK ∷ KNK ∷ KPK ∷ KQQK ∷ KQRK ∷ KQBK ∷ KQNK ∷ KRRK ∷ KRBK ∷ KRNK ∷ KBBK ∷ KBNK ∷
    KNNK ∷ KQPK ∷ KRPK ∷ KBPK ∷ KNPK ∷ KPPK ∷ []
order_table KQKQ = KK ∷ KQK ∷ KQKQ ∷ []
order_table KQKR = KK ∷ KQK ∷ KRK ∷ KQKR ∷ []
order_table KQKB = KK ∷ KQK ∷ KBK ∷ KQKB ∷ []
order_table KQKN = KK ∷ KQK ∷ KNK ∷ KQKN ∷ []
order_table KQKP = KK ∷ KQK ∷ KRK ∷ KBK ∷ KNK ∷ KPK ∷ KQKQ ∷ KQKR ∷ KQKB ∷ KQKN ∷ KQKP ∷ []
order_table KRKR = KK ∷ KRK ∷ KRKR ∷ []
order_table KRKB = KK ∷ KRK ∷ KBK ∷ KRKB ∷ []
order_table KRKN = KK ∷ KRK ∷ KNK ∷ KRKN ∷ []
order_table KRKP = KK ∷ KQK ∷ KRK ∷ KBK ∷ KNK ∷ KPK ∷ KQKR ∷ KRKR ∷ KRKB ∷ KRKN ∷ KRKP ∷ []
order_table KBKB = KK ∷ KBK ∷ KBKB ∷ []
order_table KBKN = KK ∷ KBK ∷ KNK ∷ KBKN ∷ []
order_table KBKP = KK ∷ KQK ∷ KRK ∷ KBK ∷ KNK ∷ KPK ∷ KQKB ∷ KRKB ∷ KBKB ∷ KBKN ∷ KBKP ∷ []
order_table KNKN = KK ∷ KNK ∷ KNKN ∷ []
order_table KNKP = KK ∷ KQK ∷ KRK ∷ KBK ∷ KNK ∷ KPK ∷ KQKN ∷ KRKN ∷ KBKN ∷ KNKN ∷ KNKP ∷ []
order_table KPKP = KK ∷ KQK ∷ KRK ∷ KBK ∷ KNK ∷ KPK ∷ KQKQ ∷ KQKR ∷ KQKB ∷ KQKN ∷ KRKR ∷ KRKB ∷ KRKN ∷ KBKB ∷ KBKN ∷
    KNKN ∷ KQKP ∷ KRKP ∷ KBKP ∷ KNKP ∷ KPKP ∷ []

abbrev all : (Class → Bool) → List Class → Bool
all p [] = true
all p (d ∷ ds) = p d && all p ds

at_all : (p : Class → Bool) (ds : List Class) → all p ds ≡ true → (d : Class) → Contains ds d → p d ≡ true
at_all p ds e d k = go ds e k.0 k.1 k.2
  where
    go : (ds : List Class) → all p ds ≡ true → (i : ℕ) → i < length ds → get_or ds i d ≡ d → p d ≡ true
    go [] e i l s = absurd (omega arith)
    go (x ∷ xs) e zero l s = subst (λ z. p z ≡ true) s (and_parts (p x) (all p xs) e).0
    go (x ∷ xs) e (suc i) l s = go xs (and_parts (p x) (all p xs) e).1 i (omega arith) s

-- a class needs smaller ones, and the classes that those need are among the classes that it needs
abbrev closes : Class → Class → Bool
closes c e = nat_lt (size e) (size c) && all (is_in (order_table c)) (order_table e)

closed : (c : Class) → all (closes c) (needs_table c) ≡ true
closed KK = refl
closed KQK = refl
closed KRK = refl
closed KBK = refl
closed KNK = refl
closed KPK = refl
closed KQQK = refl
closed KQRK = refl
closed KQBK = refl
closed KQNK = refl
closed KQPK = refl
closed KRRK = refl
closed KRBK = refl
closed KRNK = refl
closed KRPK = refl
closed KBBK = refl
closed KBNK = refl
closed KBPK = refl
closed KNNK = refl
closed KNPK = refl
closed KPPK = refl
closed KQKQ = refl
closed KQKR = refl
closed KQKB = refl
closed KQKN = refl
closed KQKP = refl
closed KRKR = refl
closed KRKB = refl
closed KRKN = refl
closed KRKP = refl
closed KBKB = refl
closed KBKN = refl
closed KBKP = refl
closed KNKN = refl
closed KNKP = refl
closed KPKP = refl

-- a listed class is the class itself, or one that it needs leads there
abbrev leads : Class → Class → Bool
leads c d = same_lists (lists_of c) (lists_of d) || list_any (λ e. is_in (order_table e) d) (needs_table c)

sound : (c : Class) → all (leads c) (order_table c) ≡ true
sound KK = refl
sound KQK = refl
sound KRK = refl
sound KBK = refl
sound KNK = refl
sound KPK = refl
sound KQQK = refl
sound KQRK = refl
sound KQBK = refl
sound KQNK = refl
sound KQPK = refl
sound KRRK = refl
sound KRBK = refl
sound KRNK = refl
sound KRPK = refl
sound KBBK = refl
sound KBNK = refl
sound KBPK = refl
sound KNNK = refl
sound KNPK = refl
sound KPPK = refl
sound KQKQ = refl
sound KQKR = refl
sound KQKB = refl
sound KQKN = refl
sound KQKP = refl
sound KRKR = refl
sound KRKB = refl
sound KRKN = refl
sound KRKP = refl
sound KBKB = refl
sound KBKN = refl
sound KBKP = refl
sound KNKN = refl
sound KNKP = refl
sound KPKP = refl

itself : (c : Class) → is_in (order_table c) c ≡ true
itself KK = refl
itself KQK = refl
itself KRK = refl
itself KBK = refl
itself KNK = refl
itself KPK = refl
itself KQQK = refl
itself KQRK = refl
itself KQBK = refl
itself KQNK = refl
itself KQPK = refl
itself KRRK = refl
itself KRBK = refl
itself KRNK = refl
itself KRPK = refl
itself KBBK = refl
itself KBNK = refl
itself KBPK = refl
itself KNNK = refl
itself KNPK = refl
itself KPPK = refl
itself KQKQ = refl
itself KQKR = refl
itself KQKB = refl
itself KQKN = refl
itself KQKP = refl
itself KRKR = refl
itself KRKB = refl
itself KRKN = refl
itself KRKP = refl
itself KBKB = refl
itself KBKN = refl
itself KBKP = refl
itself KNKN = refl
itself KNKP = refl
itself KPKP = refl

by_size_order : (c : Class) → order_table c ≡ filter (is_in (order_table c)) size_table
by_size_order KK = refl
by_size_order KQK = refl
by_size_order KRK = refl
by_size_order KBK = refl
by_size_order KNK = refl
by_size_order KPK = refl
by_size_order KQQK = refl
by_size_order KQRK = refl
by_size_order KQBK = refl
by_size_order KQNK = refl
by_size_order KQPK = refl
by_size_order KRRK = refl
by_size_order KRBK = refl
by_size_order KRNK = refl
by_size_order KRPK = refl
by_size_order KBBK = refl
by_size_order KBNK = refl
by_size_order KBPK = refl
by_size_order KNNK = refl
by_size_order KNPK = refl
by_size_order KPPK = refl
by_size_order KQKQ = refl
by_size_order KQKR = refl
by_size_order KQKB = refl
by_size_order KQKN = refl
by_size_order KQKP = refl
by_size_order KRKR = refl
by_size_order KRKB = refl
by_size_order KRKN = refl
by_size_order KRKP = refl
by_size_order KBKB = refl
by_size_order KBKN = refl
by_size_order KBKP = refl
by_size_order KNKN = refl
by_size_order KNKP = refl
by_size_order KPKP = refl

complete : (n : ℕ) (c d : Class) → Reaches n c d → is_in (order_table c) d ≡ true
complete zero c d e = subst (λ z. is_in (order_table c) z ≡ true) e (itself c)
complete (suc n) c d h =
    let in_table : Contains (needs_table c) h.0 = subst (λ l. Contains l h.0) (needs_is c) h.1 in
    let parts = and_parts (nat_lt (size h.0) (size c)) (all (is_in (order_table c)) (order_table h.0))
    (at_all (closes c) (needs_table c) (closed c) h.0 in_table) in
    at_all (is_in (order_table c)) (order_table h.0) parts.1 d (is_in-Contains (order_table h.0) d (complete n h.0 d h.2))

some_one : (p : Class → Bool) (ds : List Class) → list_any p ds ≡ true → (d : Class) × Contains ds d × (p d ≡ true)
some_one p [] e = absurd (false≢true e)
some_one p (x ∷ xs) e = by_first (p x) refl e (λ k. some_one p xs k)
  where
    by_first : (b : Bool) → p x ≡ b → (b || list_any p xs) ≡ true
        → (list_any p xs ≡ true → (d : Class) × Contains xs d × (p d ≡ true)) → (d : Class) × Contains (x ∷ xs) d
        × (p d ≡ true)
    by_first true f e rest = (x, (0, omega arith, refl), f)
    by_first false f e rest = let r = rest e in (r.0, (suc r.1.0, (let l = r.1.1 in omega arith), r.1.2), r.2)

-- listed classes are reached, by recursion on more than the size of the class
reached : (n : ℕ) (c d : Class) → size c < n → is_in (order_table c) d ≡ true → IsNeeded c d
reached zero c d l i = absurd (omega arith)
reached (suc n) c d l i =
    by_lists (same_lists (lists_of c) (lists_of d)) refl
    (at_all (leads c) (order_table c) (sound c) d (is_in-Contains (order_table c) d i)) (λ e k h. reached n e d k h)
  where
    by_lists : (b : Bool) → same_lists (lists_of c) (lists_of d) ≡ b
        → (b || list_any (λ e. is_in (order_table e) d) (needs_table c)) ≡ true
        → ((e : Class) → size e < n → is_in (order_table e) d ≡ true → IsNeeded e d) → IsNeeded c d
    by_lists true s e further = (0, same_lists-class c d s)
    by_lists false s e further =
        let r = some_one (λ e. is_in (order_table e) d) (needs_table c) e in
        let smaller =
        ltb-true (size r.0) (size c)
        (and_parts (nat_lt (size r.0) (size c)) (all (is_in (order_table c)) (order_table r.0))
        (at_all (closes c) (needs_table c) (closed c) r.0 r.1)).0 in
        let rest = further r.0 (omega (arith, smaller, l)) r.2 in
        (suc rest.0, (r.0, subst (λ ds. Contains ds r.0) (sym (needs_is c)) r.1, rest.1))

pub order_is : (c : Class) → IsOrder c (order_table c)
order_is c = record {
  each = λ d. (λ k. reached (size c + 1) c d (omega arith) (Contains-is_in (order_table c) d k), λ h. is_in-Contains (order_table c) d (complete h.0 c d h.1));
  ascending = by_size_order c ∙ ap (λ ds. filter (is_in (order_table c)) ds) (sym by_size_is);
}
