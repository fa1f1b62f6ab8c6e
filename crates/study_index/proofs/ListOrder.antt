-- A filling of a position in list order fills the slots of its class.
use Rattle.std.proofs.Common.{◌≡◌, ℕ, ◌≤◌, Bool, true, false, cond, ◌&&◌, List, [], ◌∷◌, ◌++◌, length, map, refl, sym, ◌∙◌, ap, arith}
use Rattle.std.specs.List.Sorted.{IsPermutation}
use Rattle.std.proofs.lemmas.List.Sorted.{length_permutation}
use Rattle.study_board.specs.declared.men.Man.{Man}
use Rattle.study_board.specs.declared.men.Side.{Side}
use Rattle.study_board.specs.declared.men.Side.TheVariants.{White, Black}
use Rattle.study_board.specs.declared.men.Kind.{Kind}
use Rattle.study_board.specs.declared.men.Kind.TheVariants.{King, Queen, Rook, Bishop, Knight, Pawn}
use Rattle.study_board.specs.Men.{same_side}
use Rattle.study_board.specs.Position.{Position, IsValid}
use Rattle.study_material.specs.declared.class.Class.{Class}
use Rattle.study_material.specs.Lists.{Lists, of, put_kind, kinds_of, lists, is_other_than_king}
use Rattle.study_material.specs.Class.{lists_of}
use Rattle.study_material.proofs.KindCounts.{kinds_of-IsPermutation, lists-IsPermutation}
use Rattle.study_index.specs.declared.decoding.Slot.{Slot}
use Rattle.study_values.specs.Slots.{slot_number, man_slot_number, NoneBefore, IsInSlots, IsFilling}
use Rattle.study_index.specs.Decoded.{slot_filled, slot_for, slots_of}
use Rattle.study_index.proofs.Fillings.{IsMaterial-from_valid, HasKings-from_filling}
use Rattle.study_index.proofs.ClassSlots.{kinds_in, kinds_in-class}

-- the lists of men that fill the slots of a class
kinds_of-filled : (side : Side) (xs : List Man) → kinds_of side xs ≡ kinds_in side (map slot_filled xs)
kinds_of-filled side [] = refl
kinds_of-filled side (x ∷ xs) = rw (kinds_of-filled side xs) refl

pub lists-filled : (c : Class) (men xs : List Man) → IsPermutation men xs → map slot_filled xs ≡ slots_of c → lists men ≡ lists_of c
lists-filled c men xs p e =
    sym (lists-IsPermutation men xs p) ∙ both (kinds_of White xs) (kinds_of Black xs)
    (kinds_of-filled White xs ∙ ap (λ ss. kinds_in White ss) e)
    (kinds_of-filled Black xs ∙ ap (λ ss. kinds_in Black ss) e)
    ∙ kinds_in-class c
  where
    both : (ws bs : List Kind) → ws ≡ kinds_in White (slots_of c) → bs ≡ kinds_in Black (slots_of c)
        → of ws bs ≡ of (kinds_in White (slots_of c)) (kinds_in Black (slots_of c))
    both ws bs e f = rw (e, f) refl

-- the man that fills the first two slots
first_slot : (s : Side) (k : Kind) → slot_number s k ≡ 0 → slot_for s k ≡ slot_for White King
first_slot White King e = refl
first_slot Black King e = absurd (omega arith)
first_slot _ _ e = absurd (omega arith)

second_slot : (s : Side) (k : Kind) → slot_number s k ≡ 1 → slot_for s k ≡ slot_for Black King
second_slot Black King e = refl
second_slot White King e = absurd (omega arith)
second_slot _ _ e = absurd (omega arith)

first_king : (s : Side) (k : Kind) (a : ℕ) → slot_number s k ≡ 0 → is_other_than_king (record { side = s; kind = k; at = a }) ≡ false
first_king White King a e = refl
first_king Black King a e = absurd (omega arith)
first_king _ _ a e = absurd (omega arith)

second_king : (s : Side) (k : Kind) (a : ℕ) → slot_number s k ≡ 1 → is_other_than_king (record { side = s; kind = k; at = a }) ≡ false
second_king Black King a e = refl
second_king White King a e = absurd (omega arith)
second_king _ _ a e = absurd (omega arith)

past_king : (side : Side) (m : Man) (xs : List Man) → is_other_than_king m ≡ false → kinds_of side (m ∷ xs) ≡ kinds_of side xs
past_king side m xs e = by_side (same_side m.side side)
  where
    by_side : (b : Bool) → cond (b && is_other_than_king m) (put_kind m.kind (kinds_of side xs)) (kinds_of side xs) ≡ kinds_of side xs
    by_side true = rw e refl
    by_side false = refl

abbrev rest_of : List Man → List Slot
rest_of xs = map (slot_for White) (kinds_of White xs) ++ map (slot_for Black) (kinds_of Black xs)

abbrev man : Side → Kind → ℕ → Man
man s k a = record { side = s; kind = k; at = a }

one_more : (s : Side) (k : Kind) (a : ℕ) → 2 ≤ slot_number s k → slot_for s k ∷ [] ≡ rest_of (man s k a ∷ [])
one_more White Queen a l = refl
one_more White Rook a l = refl
one_more White Bishop a l = refl
one_more White Knight a l = refl
one_more White Pawn a l = refl
one_more Black Queen a l = refl
one_more Black Rook a l = refl
one_more Black Bishop a l = refl
one_more Black Knight a l = refl
one_more Black Pawn a l = refl
one_more _ _ a l = absurd (omega arith)

two_more : (s t : Side) (k j : Kind) (a b : ℕ) → 2 ≤ slot_number s k → slot_number s k ≤ slot_number t j
    → slot_for s k ∷ slot_for t j ∷ [] ≡ rest_of (man s k a ∷ man t j b ∷ [])
two_more White White Queen Queen a b l m = refl
two_more White White Queen Rook a b l m = refl
two_more White White Queen Bishop a b l m = refl
two_more White White Queen Knight a b l m = refl
two_more White White Queen Pawn a b l m = refl
two_more White White Rook Rook a b l m = refl
two_more White White Rook Bishop a b l m = refl
two_more White White Rook Knight a b l m = refl
two_more White White Rook Pawn a b l m = refl
two_more White White Bishop Bishop a b l m = refl
two_more White White Bishop Knight a b l m = refl
two_more White White Bishop Pawn a b l m = refl
two_more White White Knight Knight a b l m = refl
two_more White White Knight Pawn a b l m = refl
two_more White White Pawn Pawn a b l m = refl
two_more White Black Queen Queen a b l m = refl
two_more White Black Queen Rook a b l m = refl
two_more White Black Queen Bishop a b l m = refl
two_more White Black Queen Knight a b l m = refl
two_more White Black Queen Pawn a b l m = refl
two_more White Black Rook Queen a b l m = refl
two_more White Black Rook Rook a b l m = refl
two_more White Black Rook Bishop a b l m = refl
two_more White Black Rook Knight a b l m = refl
two_more White Black Rook Pawn a b l m = refl
two_more White Black Bishop Queen a b l m = refl
two_more White Black Bishop Rook a b l m = refl
two_more White Black Bishop Bishop a b l m = refl
two_more White Black Bishop Knight a b l m = refl
two_more White Black Bishop Pawn a b l m = refl
two_more White Black Knight Queen a b l m = refl
two_more White Black Knight Rook a b l m = refl
two_more White Black Knight Bishop a b l m = refl
two_more White Black Knight Knight a b l m = refl
two_more White Black Knight Pawn a b l m = refl
two_more White Black Pawn Queen a b l m = refl
two_more White Black Pawn Rook a b l m = refl
two_more White Black Pawn Bishop a b l m = refl
two_more White Black Pawn Knight a b l m = refl
two_more White Black Pawn Pawn a b l m = refl
two_more Black Black Queen Queen a b l m = refl
two_more Black Black Queen Rook a b l m = refl
two_more Black Black Queen Bishop a b l m = refl
two_more Black Black Queen Knight a b l m = refl
two_more Black Black Queen Pawn a b l m = refl
two_more Black Black Rook Rook a b l m = refl
two_more Black Black Rook Bishop a b l m = refl
two_more Black Black Rook Knight a b l m = refl
two_more Black Black Rook Pawn a b l m = refl
two_more Black Black Bishop Bishop a b l m = refl
two_more Black Black Bishop Knight a b l m = refl
two_more Black Black Bishop Pawn a b l m = refl
two_more Black Black Knight Knight a b l m = refl
two_more Black Black Knight Pawn a b l m = refl
two_more Black Black Pawn Pawn a b l m = refl
two_more Black White Queen Queen a b l m = absurd (omega arith)
two_more Black White Rook Queen a b l m = absurd (omega arith)
two_more Black White Bishop Queen a b l m = absurd (omega arith)
two_more Black White Knight Queen a b l m = absurd (omega arith)
two_more Black White Pawn Queen a b l m = absurd (omega arith)
two_more _ _ _ _ a b l m = absurd (omega arith)

rest_filled : (xs : List Man) → length xs ≤ 2 → NoneBefore false 2 xs → IsInSlots false xs → map slot_filled xs ≡ rest_of xs
unfolding man_slot_number
rest_filled [] l n h = refl
rest_filled (x ∷ []) l n h = one_more x.side x.kind x.at n.0
rest_filled (x ∷ y ∷ []) l n h = two_more x.side y.side x.kind y.kind x.at y.at n.0 h.0.0
rest_filled (x ∷ y ∷ z ∷ zs) l n h = absurd (omega arith)

-- the slots of the lists
abbrev pub slots_for : Lists → List Slot
slots_for l = slot_for White King ∷ slot_for Black King ∷ map (slot_for White) l.white ++ map (slot_for Black) l.black

pub filled_in_order : (p : Position) (xs : List Man) → IsValid p → IsFilling false p.men xs → map slot_filled xs ≡ slots_for (lists p.men)
unfolding man_slot_number
filled_in_order p xs v f =
    let m = IsMaterial-from_valid false p v in
    let h = HasKings-from_filling false p.men xs m f in
    let short : length h.rest ≤ 2 = (let l = length_permutation p.men xs f.each_once in let e = ap length h.is in omega (arith, m.few, l, e)) in
    let first = first_slot h.white.side h.white.kind h.white_slot in
    let second = second_slot h.black.side h.black.kind h.black_slot in
    let rest = rest_filled h.rest short h.after_black h.in_slots in
    let same : (side : Side) → kinds_of side p.men ≡ kinds_of side h.rest =
    λ side. sym (kinds_of-IsPermutation side p.men xs f.each_once) ∙ ap (λ l. kinds_of side l) h.is
    ∙ past_king side h.white (h.black ∷ h.rest) (first_king h.white.side h.white.kind h.white.at h.white_slot)
    ∙ past_king side h.black h.rest (second_king h.black.side h.black.kind h.black.at h.black_slot) in
    ap (λ l. map slot_filled l) h.is ∙ all (slot_filled h.white) (slot_filled h.black) (map slot_filled h.rest)
    first second rest ∙ rw (same White, same Black) refl
  where
    all : {ys : List Slot} (a b : Slot) (xs : List Slot) → a ≡ slot_for White King → b ≡ slot_for Black King
        → xs ≡ ys → a ∷ b ∷ xs ≡ slot_for White King ∷ slot_for Black King ∷ ys
    all a b xs e f g = rw (e, f, g) refl
