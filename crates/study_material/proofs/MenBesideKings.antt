-- The men beside the kings: at most two, and the class of them all.
use Rattle.std.proofs.Common.{◌≡◌, ◌+◌, ◌≤◌, Bool, true, false, cond, not, ◌&&◌, List, [], ◌∷◌, length, refl, ◌∙◌, arith, filter}
use Rattle.std.specs.List.{All, count_by}
use Rattle.std.proofs.lemmas.Bool.{and_parts, eqb-true}
use Rattle.std.proofs.lemmas.List.Elements.{All-nil, All-cons}
use borrow.Author.Tests.{ltb-false}
use Rattle.study_board.specs.declared.men.Man.{Man}
use Rattle.study_board.specs.declared.men.Side.{Side}
use Rattle.study_board.specs.declared.men.Side.TheVariants.{White, Black}
use Rattle.study_board.specs.declared.men.Kind.TheVariants.{King}
use Rattle.study_board.specs.Men.{same_side, same_kind, is_man}
use Rattle.study_board.specs.Position.{Position, IsValid, has_one_king}
use Rattle.study_board.proofs.Lists.{count_by-cons}
use Rattle.study_board.proofs.Valid.{IsFaultless-from_first}
use Rattle.study_material.specs.Lists.{put_kind, kinds_of, lists, is_other_than_king}

kinds_of-others : (side : Side) (xs : List Man) → kinds_of side (filter is_other_than_king xs) ≡ kinds_of side xs
kinds_of-others side [] = refl
kinds_of-others side (x ∷ xs) = by_king (same_kind x.kind King) refl (same_side x.side side) (kinds_of-others side xs)
  where
    by_king : (b : Bool) → same_kind x.kind King ≡ b → (s : Bool) → kinds_of side (filter is_other_than_king xs) ≡ kinds_of side xs
        → kinds_of side (cond (not b) (x ∷ filter is_other_than_king xs) (filter is_other_than_king xs))
        ≡ cond (same_side x.side side && not b) (put_kind x.kind (kinds_of side xs)) (kinds_of side xs)
    by_king true e s h = h ∙ never (same_side x.side side)
      where
        never : (t : Bool) → kinds_of side xs ≡ cond (t && false) (put_kind x.kind (kinds_of side xs)) (kinds_of side xs)
        never true = refl
        never false = refl
    by_king false e s h = rw (e, h) refl

pub lists-others : (xs : List Man) → lists (filter is_other_than_king xs) ≡ lists xs
lists-others xs = rw (kinds_of-others White xs, kinds_of-others Black xs) refl

pub none_king : (xs : List Man) → All (λ m. same_kind m.kind King ≡ false) (filter is_other_than_king xs)
none_king [] = All-nil (λ m. same_kind m.kind King ≡ false)
none_king (x ∷ xs) = by_king (same_kind x.kind King) refl (none_king xs)
  where
    by_king : (b : Bool) → same_kind x.kind King ≡ b → All (λ m. same_kind m.kind King ≡ false) (filter is_other_than_king xs)
        → All (λ m. same_kind m.kind King ≡ false) (cond (not b) (x ∷ filter is_other_than_king xs) (filter is_other_than_king xs))
    by_king true e h = h
    by_king false e h = All-cons (λ m. same_kind m.kind King ≡ false) x (filter is_other_than_king xs) e h

-- each man is one of the others, or a king of either side
counted : (xs : List Man) → length (filter is_other_than_king xs) + (count_by (is_man White King) xs + count_by (is_man Black King) xs) ≡ length xs
counted [] = refl
counted (x ∷ xs) = omega (arith, counted xs, count_by-cons (is_man White King) x xs, count_by-cons (is_man Black King) x xs, one x.side (same_kind x.kind King))
  where
    one : (s : Side) (b : Bool) → length (cond (not b) (x ∷ filter is_other_than_king xs) (filter is_other_than_king xs))
        + (cond (same_side s White && b) 1 0 + cond (same_side s Black && b) 1 0) ≡ length (filter is_other_than_king xs) + 1
    one White true = omega arith
    one White false = omega arith
    one Black true = omega arith
    one Black false = omega arith

pub one_king : (p : Position) → IsValid p → (count_by (is_man White King) p.men ≡ 1) × (count_by (is_man Black King) p.men ≡ 1)
unfolding has_one_king
one_king p v =
    let k = and_parts (has_one_king p.men White) (has_one_king p.men Black) (IsFaultless-from_first p.men p.to_move p.passed v.faultless).kings in
    (eqb-true (count_by (is_man White King) p.men) 1 k.0, eqb-true (count_by (is_man Black King) p.men) 1 k.1)

pub few_men : (p : Position) → IsValid p → length p.men ≤ 4
few_men p v = ltb-false 4 (length p.men) (IsFaultless-from_first p.men p.to_move p.passed v.faultless).few

pub few_others : (p : Position) → IsValid p → length (filter is_other_than_king p.men) ≤ 2
few_others p v = let k = one_king p v in omega (arith, counted p.men, k.0, k.1, few_men p v)
