-- Classes are distinguished by their lists.
use Rattle.std.proofs.Common.{◌≡◌, ℕ, ◌<◌, zero, suc, Bool, true, false, cond, ◌||◌, List, [], ◌∷◌, length, refl, sym, ◌∙◌, ap, subst, arith, get_or}
use Rattle.std.specs.List.{Contains}
use Rattle.std.proofs.lemmas.Bool.{false≢true, and_parts, and_from}
use Rattle.study_board.specs.declared.men.Kind.{Kind}
use Rattle.study_board.specs.Men.{same_kind}
use Rattle.study_board.specs.EqualLaws.{kind_self, kinds_equal}
use Rattle.study_material.specs.declared.class.Class.{Class}
use Rattle.study_material.specs.declared.class.Class.TheVariants.{KK, KQK, KRK, KBK, KNK, KPK, KQQK, KQRK, KQBK}
use Rattle.study_material.specs.declared.class.Class.TheVariants.{KQNK, KQPK, KRRK, KRBK, KRNK, KRPK, KBBK}
use Rattle.study_material.specs.declared.class.Class.TheVariants.{KBNK, KBPK, KNNK, KNPK, KPPK, KQKQ, KQKR}
use Rattle.study_material.specs.declared.class.Class.TheVariants.{KQKB, KQKN, KQKP, KRKR, KRKB, KRKN, KRKP}
use Rattle.study_material.specs.declared.class.Class.TheVariants.{KBKB, KBKN, KBKP, KNKN, KNKP, KPKP}
use Rattle.study_board.specs.Position.{Position}
use Rattle.study_material.specs.Lists.{Lists, of, lists, ordered_lists}
use Rattle.study_material.specs.Class.{lists_of, class_list, same_kinds, same_lists, IsOf, is_of}
use Rattle.study_material.specs.Needs.{is_in}

same_kinds-self : (xs : List Kind) → same_kinds xs xs ≡ true
same_kinds-self [] = refl
same_kinds-self (x ∷ xs) = and_from _ _ (kind_self x) (same_kinds-self xs)

same_kinds-equal : (xs ys : List Kind) → same_kinds xs ys ≡ true → xs ≡ ys
same_kinds-equal [] [] e = refl
same_kinds-equal [] (y ∷ ys) e = absurd (false≢true e)
same_kinds-equal (x ∷ xs) [] e = absurd (false≢true e)
same_kinds-equal (x ∷ xs) (y ∷ ys) e =
    let a = and_parts (same_kind x y) (same_kinds xs ys) e in
    ap (λ k. k ∷ xs) (kinds_equal x y a.0) ∙ ap (λ l. y ∷ l) (same_kinds-equal xs ys a.1)

pub same_lists-self : (l : Lists) → same_lists l l ≡ true
same_lists-self l = and_from _ _ (same_kinds-self l.white) (same_kinds-self l.black)

pub same_lists-equal : (l m : Lists) → same_lists l m ≡ true → l ≡ m
same_lists-equal l m e =
    let a = and_parts (same_kinds l.white m.white) (same_kinds l.black m.black) e in
    ap (λ w. of w l.black) (same_kinds-equal l.white m.white a.0) ∙ ap (λ b. of m.white b) (same_kinds-equal l.black m.black a.1)

-- the first class of a list with these lists
abbrev pub first : Lists → List Class → Class
first l [] = KK
first l (c ∷ cs) = cond (same_lists l (lists_of c)) c (first l cs)

found : (c : Class) → first (lists_of c) class_list ≡ c
found KK = refl
found KQK = refl
found KRK = refl
found KBK = refl
found KNK = refl
found KPK = refl
found KQQK = refl
found KQRK = refl
found KQBK = refl
found KQNK = refl
found KQPK = refl
found KRRK = refl
found KRBK = refl
found KRNK = refl
found KRPK = refl
found KBBK = refl
found KBNK = refl
found KBPK = refl
found KNNK = refl
found KNPK = refl
found KPPK = refl
found KQKQ = refl
found KQKR = refl
found KQKB = refl
found KQKN = refl
found KQKP = refl
found KRKR = refl
found KRKB = refl
found KRKN = refl
found KRKP = refl
found KBKB = refl
found KBKN = refl
found KBKP = refl
found KNKN = refl
found KNKP = refl
found KPKP = refl

pub lists_of-injective : (c d : Class) → lists_of c ≡ lists_of d → c ≡ d
lists_of-injective c d e = sym (found c) ∙ ap (λ l. first l class_list) e ∙ found d

pub same_lists-class : (c d : Class) → same_lists (lists_of c) (lists_of d) ≡ true → c ≡ d
same_lists-class c d e = lists_of-injective c d (same_lists-equal (lists_of c) (lists_of d) e)

pub is_in-Contains : (ds : List Class) (d : Class) → is_in ds d ≡ true → Contains ds d
is_in-Contains [] d e = absurd (false≢true e)
is_in-Contains (x ∷ xs) d e = by_first (same_lists (lists_of x) (lists_of d)) refl e (λ k. is_in-Contains xs d k)
  where
    by_first : (b : Bool) → same_lists (lists_of x) (lists_of d) ≡ b → (b || is_in xs d) ≡ true → (is_in xs d ≡ true → Contains xs d) → Contains (x ∷ xs) d
    by_first true f e rest = (0, omega arith, same_lists-class x d f)
    by_first false f e rest = let r = rest e in (suc r.0, (let l = r.1 in omega arith), r.2)

pub Contains-is_in : (ds : List Class) (d : Class) → Contains ds d → is_in ds d ≡ true
Contains-is_in ds d k = go ds k.0 k.1 k.2
  where
    or_true : (b : Bool) → (b || true) ≡ true
    or_true true = refl
    or_true false = refl

    go : (ds : List Class) (i : ℕ) → i < length ds → get_or ds i d ≡ d → is_in ds d ≡ true
    go [] i l s = absurd (omega arith)
    go (x ∷ xs) zero l s = rw (subst (λ z. same_lists (lists_of z) (lists_of d) ≡ true) (sym s) (same_lists-self (lists_of d)))
    go (x ∷ xs) (suc i) l s = rw (go xs i (omega arith) s) (or_true (same_lists (lists_of x) (lists_of d)))

-- the test is true exactly if the position is of the class
pub IsOf-is_of : (c : Class) (p : Position) → is_of c p ≡ true → IsOf c p
IsOf-is_of c p e = same_lists-equal (lists_of c) (ordered_lists (lists p.men)) e

pub is_of-IsOf : (c : Class) (p : Position) → IsOf c p → is_of c p ≡ true
is_of-IsOf c p o = subst (λ (l : Lists). same_lists (lists_of c) l ≡ true) o (same_lists-self (lists_of c))
