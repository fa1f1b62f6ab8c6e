-- The groups of defences, one after the other.
use Rattle.std.proofs.Common.{◌≡◌, ℕ, zero, suc, ◌+◌, List, [], ◌∷◌, ◌++◌, take, drop, sym, ap, ◌∙◌, arith}
use Rattle.study_board.specs.Position.{Position}
use Rattle.study_facts.specs.declared.missing_defences.Defence.{Defence}
use Rattle.study_page.specs.Rows.{group_at, groups_from}

-- the first that is left is the next that is taken
first-left : (all left : List Defence) (n : ℕ) (x : Defence) → drop n all ≡ x ∷ left
    → (take (suc n) all ≡ take n all ++ x ∷ []) × (drop (suc n) all ≡ left)
first-left [] left zero x e = absurd cc
first-left [] left (suc n) x e = absurd cc
first-left (a ∷ all) left zero x e =
    let h : a ≡ x = cc in
    let t : all ≡ left = cc in
    (ap (λ (y : Defence). y ∷ []) h, t)
first-left (a ∷ all) left (suc n) x e = let r = first-left all left n x e in (ap (λ (xs : List Defence). a ∷ xs) r.0, r.1)

-- the groups from a place on are that of the first defence and those from the next place on
pub next-group : (p : Position) (list tail : List Defence) (n : ℕ) (y : Defence) → drop n list ≡ y ∷ tail
    → groups_from p list (take n list) (drop n list)
    ≡ group_at p list (take n list) y ++ groups_from p list (take (n + 1) list) (drop (n + 1) list)
next-group p list tail n y e =
    let r = first-left list tail n y e in
    let at : n + 1 ≡ suc n = omega arith in
    let taken : take (n + 1) list ≡ take n list ++ y ∷ [] = ap (λ i. take i list) at ∙ r.0 in
    let left : drop (n + 1) list ≡ tail = ap (λ i. drop i list) at ∙ r.1 in
    ap (groups_from p list (take n list)) e
    ∙ ap (λ (b : List Defence). group_at p list (take n list) y ++ groups_from p list b tail) (sym taken)
    ∙ ap (λ (t : List Defence). group_at p list (take n list) y ++ groups_from p list (take (n + 1) list) t) (sym left)
