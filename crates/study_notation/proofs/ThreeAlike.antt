-- Three men of the same side and kind are too many beside the two kings.
use Rattle.std.proofs.Common.{◌≡◌, ℕ, ◌+◌, ◌≤◌, Bool, true, false, cond, ◌&&◌, List, [], ◌∷◌, length, refl, sym, ap, ◌∙◌, inl, inr, arith, subst}
use Rattle.std.specs.List.{count_by}
use Rattle.std.proofs.lemmas.Bool.{false≢true, and_parts, and_right, eqb-true, cases_Bool}
use borrow.Author.Tests.{ltb-false}
use Rattle.study_board.specs.declared.men.Man.{Man}
use Rattle.study_board.specs.declared.men.Side.{Side}
use Rattle.study_board.specs.declared.men.Side.TheVariants.{White, Black}
use Rattle.study_board.specs.declared.men.Kind.{Kind}
use Rattle.study_board.specs.declared.men.Kind.TheVariants.{King, Queen, Rook, Bishop, Knight, Pawn}
use Rattle.study_board.specs.Men.{same_side, same_kind, is_man}
use Rattle.study_board.specs.Position.{Position, IsValid, has_one_king}
use Rattle.study_board.proofs.Lists.{count_by-cons}
use Rattle.study_board.proofs.Valid.{IsFaultless, IsFaultless-from_first}
use Rattle.study_moves.proofs.MenOfList.{IsAmong}

counted : (q : Man → Bool) (x : Man) (xs : List Man) → q x ≡ true → count_by q (x ∷ xs) ≡ 1 + count_by q xs
counted q x xs e = count_by-cons q x xs ∙ ap (λ b. cond b 1 0 + count_by q xs) e

one_of : (q : Man → Bool) (xs : List Man) (a : Man) → IsAmong a xs → q a ≡ true → 1 ≤ count_by q xs
one_of q [] a i e = absurd i
one_of q (x ∷ xs) a (inl s) e = let t : q x ≡ true = ap q s ∙ e in let w = counted q x xs t in omega (arith, w)
one_of q (x ∷ xs) a (inr i) e = omega (arith, count_by-cons q x xs, one_of q xs a i e)

two_of : (q : Man → Bool) (xs : List Man) (a b : Man) → IsAmong a xs → IsAmong b xs → q a ≡ true → q b ≡ true → (a.at ≡ b.at → ⊥) → 2 ≤ count_by q xs
two_of q [] a b i j e f ab = absurd i
two_of q (x ∷ xs) a b (inl s) (inl t) e f ab = absurd (ab (ap (λ m. m.at) (sym s ∙ t)))
two_of q (x ∷ xs) a b (inl s) (inr j) e f ab = let t : q x ≡ true = ap q s ∙ e in let w = counted q x xs t in omega (arith, w, one_of q xs b j f)
two_of q (x ∷ xs) a b (inr i) (inl t) e f ab = let u : q x ≡ true = ap q t ∙ f in let w = counted q x xs u in omega (arith, w, one_of q xs a i e)
two_of q (x ∷ xs) a b (inr i) (inr j) e f ab = omega (arith, count_by-cons q x xs, two_of q xs a b i j e f ab)

three_of : (q : Man → Bool) (xs : List Man) (a b c : Man) → IsAmong a xs → IsAmong b xs → IsAmong c xs → q a ≡ true
    → q b ≡ true → q c ≡ true → (a.at ≡ b.at → ⊥) → (a.at ≡ c.at → ⊥) → (b.at ≡ c.at → ⊥) → 3 ≤ count_by q xs
three_of q [] a b c i j k e f g ab ac bc = absurd i
three_of q (x ∷ xs) a b c (inl s) (inl t) k e f g ab ac bc = absurd (ab (ap (λ m. m.at) (sym s ∙ t)))
three_of q (x ∷ xs) a b c (inl s) (inr j) (inl u) e f g ab ac bc = absurd (ac (ap (λ m. m.at) (sym s ∙ u)))
three_of q (x ∷ xs) a b c (inl s) (inr j) (inr k) e f g ab ac bc = let t : q x ≡ true = ap q s ∙ e in
    let w = counted q x xs t in omega (arith, w, two_of q xs b c j k f g bc)
three_of q (x ∷ xs) a b c (inr i) (inl t) (inl u) e f g ab ac bc = absurd (bc (ap (λ m. m.at) (sym t ∙ u)))
three_of q (x ∷ xs) a b c (inr i) (inl t) (inr k) e f g ab ac bc = let u : q x ≡ true = ap q t ∙ f in
    let w = counted q x xs u in omega (arith, w, two_of q xs a c i k e g ac)
three_of q (x ∷ xs) a b c (inr i) (inr j) (inl u) e f g ab ac bc = let t : q x ≡ true = ap q u ∙ g in
    let w = counted q x xs t in omega (arith, w, two_of q xs a b i j e f ab)
three_of q (x ∷ xs) a b c (inr i) (inr j) (inr k) e f g ab ac bc = omega (arith, count_by-cons q x xs, three_of q xs a b c i j k e f g ab ac bc)

abbrev bit : Bool → ℕ
bit b = cond b 1 0

bit_le : (b : Bool) → bit b ≤ 1
bit_le true = omega arith
bit_le false = omega arith

-- tests of which no man passes two
apart_counts : (p q r : Man → Bool) → ((m : Man) → bit (p m) + bit (q m) + bit (r m) ≤ 1) → (xs : List Man)
    → count_by p xs + count_by q xs + count_by r xs ≤ length xs
apart_counts p q r h [] = omega arith
apart_counts p q r h (x ∷ xs) = omega (arith, count_by-cons p x xs, count_by-cons q x xs, count_by-cons r x xs, h x, apart_counts p q r h xs)

king_or : (s : Side) (k : Kind) (t : Side) (l : Kind) → same_kind King l ≡ false
    → bit (same_side s White && same_kind k King) + bit (same_side s Black && same_kind k King) + bit (same_side s t && same_kind k l) ≤ 1
king_or White King t l e = rw (and_right (same_side White t) (same_kind King l) e) (omega arith)
king_or Black King t l e = rw (and_right (same_side Black t) (same_kind King l) e) (omega arith)
king_or White Queen t l e = omega (arith, bit_le (same_side White t && same_kind Queen l))
king_or White Rook t l e = omega (arith, bit_le (same_side White t && same_kind Rook l))
king_or White Bishop t l e = omega (arith, bit_le (same_side White t && same_kind Bishop l))
king_or White Knight t l e = omega (arith, bit_le (same_side White t && same_kind Knight l))
king_or White Pawn t l e = omega (arith, bit_le (same_side White t && same_kind Pawn l))
king_or Black Queen t l e = omega (arith, bit_le (same_side Black t && same_kind Queen l))
king_or Black Rook t l e = omega (arith, bit_le (same_side Black t && same_kind Rook l))
king_or Black Bishop t l e = omega (arith, bit_le (same_side Black t && same_kind Bishop l))
king_or Black Knight t l e = omega (arith, bit_le (same_side Black t && same_kind Knight l))
king_or Black Pawn t l e = omega (arith, bit_le (same_side Black t && same_kind Pawn l))

one_king : (men : List Man) (t : Side) → (has_one_king men White && has_one_king men Black) ≡ true → count_by (is_man t King) men ≡ 1
unfolding has_one_king
one_king men White e = eqb-true _ _ (and_parts (has_one_king men White) (has_one_king men Black) e).0
one_king men Black e = eqb-true _ _ (and_parts (has_one_king men White) (has_one_king men Black) e).1

king_kind : (k : Kind) → same_kind King k ≡ true → King ≡ k
king_kind King e = refl
king_kind Queen e = absurd (false≢true e)
king_kind Rook e = absurd (false≢true e)
king_kind Bishop e = absurd (false≢true e)
king_kind Knight e = absurd (false≢true e)
king_kind Pawn e = absurd (false≢true e)

module _ (p : Position) (valid : IsValid p) where
  faultless : IsFaultless p.men p.to_move p.passed
  faultless = IsFaultless-from_first p.men p.to_move p.passed valid.faultless

  -- among three men of the same side and kind two stand on the same square
  pub not_three : (s : Side) (k : Kind) (a b c : Man) → IsAmong a p.men → IsAmong b p.men → IsAmong c p.men
      → is_man s k a ≡ true → is_man s k b ≡ true → is_man s k c ≡ true
      → (a.at ≡ b.at → ⊥) → (a.at ≡ c.at → ⊥) → (b.at ≡ c.at → ⊥) → ⊥
  not_three s k a b c i j l e f g ab ac bc = elim (cases_Bool (same_kind King k)) [
    | inl king ↦
        let K : Kind → Type 0 = λ z. is_man s z a ≡ true in
        let L : Kind → Type 0 = λ z. is_man s z b ≡ true in
        let same = sym (king_kind k king) in
        let two = two_of (is_man s King) p.men a b i j (subst K same e) (subst L same f) ab in
        let one = one_king p.men s faultless.kings in
        omega arith
    | inr other ↦
        let three = three_of (is_man s k) p.men a b c i j l e f g ab ac bc in
        let white = one_king p.men White faultless.kings in
        let black = one_king p.men Black faultless.kings in
        let all = apart_counts (is_man White King) (is_man Black King) (is_man s k) (λ m. king_or m.side m.kind s k other) p.men in
        let few = ltb-false 4 (length p.men) faultless.few in
        omega arith
  ]
