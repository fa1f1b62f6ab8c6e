-- Men without a fault, put in order, are a wide position.
use Rattle.std.proofs.Common.{◌≡◌, ℕ, ◌≤◌, ◌<◌, ◌+◌, Bool, true, false, cond, nat_lt, List, [], ◌∷◌, length, Option, Some, None, refl}
use Rattle.std.proofs.Common.{sym, ◌∙◌, arith}
use Rattle.std.specs.List.{All, count_by}
use Rattle.std.specs.List.Sorted.{IsPermutation}
use Rattle.std.proofs.lemmas.Bool.{or_parts}
use Rattle.std.proofs.lemmas.List.Sorted.{sum_by-IsPermutation}
use borrow.Author.Tests.{ltb-false}
use Rattle.study_board.specs.declared.men.Man.{Man}
use Rattle.study_board.specs.declared.men.Side.{Side}
use Rattle.study_board.specs.declared.men.Side.TheVariants.{White, Black}
use Rattle.study_board.specs.declared.men.Kind.TheVariants.{King, Rook}
use Rattle.study_board.specs.declared.fault.PositionFault.{PositionFault}
use Rattle.study_board.specs.Men.{same_side}
use Rattle.study_board.specs.Position.{in_order}
use Rattle.study_board.specs.Sound.{fault_among}
use Rattle.study_board.proofs.Lists.{count_by-cons}
use Rattle.study_board.proofs.MenInOrder.{IsPermutation-in_order}
use Rattle.study_board.proofs.Faults.{has_man_same}
use Rattle.study_board.proofs.SoundMen.{sound_in_order}
use Rattle.study_wide.specs.declared.rights.Rights.{Rights}
use Rattle.study_wide.specs.declared.wide.WideFault.{WideFault}
use Rattle.study_wide.specs.Rights.{rights_fit}
use Rattle.study_wide.specs.Wide.{IsWide, of_side, fault_of_men, wide_fault}

-- what men without a fault have
pub record IsClear (men : List Man) (s : Side) (q : Option ℕ) (r : Rights) : Type 0 where
  pub white : nat_lt 16 (count_by (of_side White) men) ≡ false
  pub black : nat_lt 16 (count_by (of_side Black) men) ≡ false
  pub men_clear : fault_among men s q ≡ None
  pub fit : rights_fit men r ≡ true

past : (b : Bool) (f : WideFault) (r : Option WideFault) → cond b (Some f) r ≡ None → (b ≡ false) × (r ≡ None)
past true f r e = cc
past false f r e = (refl, e)

both_clear : (f : Option PositionFault) (fit : Bool) → fault_of_men f fit ≡ None → (f ≡ None) × (fit ≡ true)
both_clear (Some x) fit e = absurd (let no : ⊥ = cc in no)
both_clear None true e = (refl, refl)
both_clear None false e = absurd (let no : ⊥ = cc in no)

pub IsClear-from : (men : List Man) (s : Side) (q : Option ℕ) (r : Rights) → wide_fault men s q r ≡ None → IsClear men s q r
unfolding wide_fault
IsClear-from men s q r e =
    let a = past _ _ _ e in
    let b = or_parts (nat_lt 16 (count_by (of_side White) men)) (nat_lt 16 (count_by (of_side Black) men)) a.0 in
    let c = both_clear (fault_among men s q) (rights_fit men r) a.1 in
    record { white = b.0; black = b.1; men_clear = c.0; fit = c.1 }

two_sides : (men : List Man) → count_by (of_side White) men + count_by (of_side Black) men ≡ length men
two_sides [] = refl
two_sides (x ∷ xs) =
    let ih = two_sides xs in
    let w = count_by-cons (of_side White) x xs in
    let b = count_by-cons (of_side Black) x xs in
    let one : (s : Side) → cond (same_side s White) 1 0 + cond (same_side s Black) 1 0 ≡ 1 =
    λ s. elim s as (λ t. cond (same_side t White) 1 0 + cond (same_side t Black) 1 0 ≡ 1) [ White ↦ refl | Black ↦ refl ] in
    let here = one x.side in
    omega arith

pub clear_few : (men : List Man) (s : Side) (q : Option ℕ) (r : Rights) → IsClear men s q r → length men ≤ 32
clear_few men s q r h =
    let all = two_sides men in
    let w = ltb-false 16 (count_by (of_side White) men) h.white in
    let b = ltb-false 16 (count_by (of_side Black) men) h.black in
    omega arith

rights_fit_same : (xs ys : List Man) → IsPermutation xs ys → (r : Rights) → rights_fit xs r ≡ rights_fit ys r
unfolding rights_fit
rights_fit_same xs ys same r =
    rw (
      has_man_same xs ys same White King 4,
      has_man_same xs ys same White Rook 7,
      has_man_same xs ys same White Rook 0,
      has_man_same xs ys same Black King 60,
      has_man_same xs ys same Black Rook 63,
      has_man_same xs ys same Black Rook 56,
    ) refl

pub wide_in_order : (xs : List Man) (s : Side) (q : Option ℕ) (r : Rights) → All (λ m. m.at < 64) (in_order xs) → IsClear xs s q r
    → IsWide (record { board = record { men = in_order xs; to_move = s; passed = q }; rights = r })
wide_in_order xs s q r all h =
    let same = IsPermutation-in_order xs in
    let most : (t : Side) → count_by (of_side t) xs ≤ 16 = λ t. elim t as (λ u. count_by (of_side u) xs ≤ 16) [
      | White ↦ (let w = ltb-false 16 (count_by (of_side White) xs) h.white in omega arith)
      | Black ↦ (let b = ltb-false 16 (count_by (of_side Black) xs) h.black in omega arith)
    ] in
    record {
      sound = sound_in_order xs s q all h.men_clear;
      few = λ t. let e = sum_by-IsPermutation _ xs (in_order xs) same in let m = most t in few_of t e m;
      fit = sym (rights_fit_same xs (in_order xs) same r) ∙ h.fit;
    }
  where
    few_of : (t : Side) → count_by (of_side t) (in_order xs) ≡ count_by (of_side t) xs → count_by (of_side t) xs ≤ 16 → count_by (of_side t) (in_order xs) ≤ 16
    few_of t e m = omega arith
