-- The number after the white king has moved: the men are turned so that it comes to a listed square.
use Rattle.std.proofs.Common.{◌≡◌, ℕ, ◌/◌, ◌%◌, ◌<◌, Bool, true, false, List, [], ◌∷◌, map, Option, Some, None}
use Rattle.std.proofs.Common.{refl, sym, ◌∙◌, subst, ap}
use Rattle.std.specs.Prelude.{is_some}
use Rattle.std.specs.Option.{option_map}
use Rattle.std.specs.List.{All}
use Rattle.std.specs.List.Sorted.{IsPermutation}
use Rattle.std.proofs.lemmas.Bool.{false≢true}
use Rattle.std.proofs.lemmas.List.Elements.{All-head, All-tail}
use Rattle.std.proofs.lemmas.List.Sorted.{All-permutation, IsPermutation-sym, IsPermutation-trans, IsPermutation-map}
use Rattle.study_board.specs.declared.men.Side.{Side}
use Rattle.study_board.specs.declared.men.Man.{Man}
use Rattle.study_board.specs.declared.symmetry.Symmetry.{Symmetry}
use Rattle.study_board.specs.Men.{other_side}
use Rattle.study_board.specs.Position.{Position}
use Rattle.study_board.specs.Symmetry.{turned_square, turned_man, image, admits}
use Rattle.study_board.proofs.ImagesValid.{valid_image}
use Rattle.study_material.specs.declared.class.Class.{Class}
use Rattle.study_material.proofs.ClassOfImage.{IsPermutation-turned}
use Rattle.study_values.specs.Slots.{IsInSlots}
use Rattle.study_values.specs.Number.{number, place, has_pawn, with_bit, without_bit}
use Rattle.study_index.specs.declared.decoding.Slot.{Slot}
use Rattle.study_index.specs.Decoded.{slot_filled, slots_of, slots_have_pawn, AreSlots, men_of, decoded_men, decoded_side}
use Rattle.study_values.specs.Canonical.{turned_number}
use Rattle.study_values.specs.Index.{index_of}
use Rattle.study_index.specs.Squares.{number_at}
use Rattle.study_index.specs.Stepped.{moved_to, are_like_slots, IsStepped}
use Rattle.study_index.specs.LeastImage.{king_symmetry, squares, least_image}
use Rattle.study_index.proofs.Symmetries.{all_below, at_below}
use Rattle.study_index.proofs.NumbersReadOff.{filled-men_of, has_pawn-slots, IsInSlots-men_of, IsLeastNumber-unique}
use Rattle.study_index.proofs.ClassSlots.{AreSlots-class}
use Rattle.study_index.proofs.BySquares.{AreOnBoard, number_men}
use Rattle.study_index.proofs.TurnedNumbers.{IsInSlots-map}
use Rattle.study_index.proofs.ImageNumbers.{IsLeastNumber-image}
use Rattle.study_index.proofs.ComputedIndex.{IsIndex-index_of}
use Rattle.study_index.proofs.MovedNumbers.{least_number_is}
use Rattle.study_index.proofs.SteppedNumbers.{filled_moved, IsInSlots-moved, read_least}

on_board : (ms : List Man) → All (λ m. m.at < 64) ms → AreOnBoard ms
on_board [] h = tt
on_board (m ∷ ms) h = (All-head (λ x. x.at < 64) m ms h, on_board ms (All-tail (λ x. x.at < 64) m ms h))

filled_turned : (t : Symmetry) → t.colours ≡ false → (ms : List Man) → map slot_filled (map (turned_man t) ms) ≡ map slot_filled ms
filled_turned t e [] = refl
filled_turned t e (m ∷ ms) = rw (e, filled_turned t e ms) refl

king_admitted : (pawns : Bool) (s : ℕ) (p : Position) → has_pawn p.men ≡ pawns → admits p (king_symmetry pawns s) ≡ true
unfolding king_symmetry
king_admitted true s p e = rw e refl
king_admitted false s p e = rw e refl

colours_kept : (pawns : Bool) (s : ℕ) → (king_symmetry pawns s).colours ≡ false
unfolding king_symmetry
colours_kept pawns s = refl

brought_test : (pawns : Bool) → all_below 64 (λ s. is_some (place pawns (turned_square (king_symmetry pawns s) s))) ≡ true
unfolding king_symmetry place turned_square
brought_test true = refl
brought_test false = refl

-- the king comes to a listed square
brought : (pawns : Bool) (s : ℕ) → s < 64 → is_some (place pawns (turned_square (king_symmetry pawns s) s)) ≡ true
brought pawns s l = at_below 64 (λ s. is_some (place pawns (turned_square (king_symmetry pawns s) s))) (brought_test pawns) s l

some_number : (pawns : Bool) (side : Side) (s : ℕ) (rest : List ℕ) → s < 64
    → None ≡ number_at pawns side (turned_square (king_symmetry pawns s)) (s ∷ rest) → ⊥
unfolding number_at
some_number pawns side s rest l e = by_place (place pawns (turned_square (king_symmetry pawns s) s)) _ (brought pawns s l) e
  where
    by_place : (o : Option ℕ) (f : ℕ → ℕ) → is_some o ≡ true → None ≡ option_map f o → ⊥
    by_place None f h k = false≢true h
    by_place (Some q) f h k = cc

-- the men with the king on a begin with a
abbrev IsFirst : ℕ → List Man → Type 0
IsFirst a men = AreOnBoard men → (rest : List ℕ) × (squares men ≡ a ∷ rest) × (a < 64)

king_first : (pawns : Bool) (slots : List Slot) (n a : ℕ) → AreSlots slots → IsFirst a (moved_to 0 a (men_of pawns slots n))
king_first pawns (k ∷ b ∷ []) n a s h = (n % 64 ∷ [], refl, h.0)
king_first pawns (k ∷ b ∷ x ∷ []) n a s h = (n / 64 % 64 ∷ n % 64 ∷ [], refl, h.0)
king_first pawns (k ∷ b ∷ x ∷ y ∷ []) n a s h = (n / 64 / 64 % 64 ∷ n / 64 % 64 ∷ n % 64 ∷ [], refl, h.0)
king_first pawns [] n a s h = absurd s
king_first pawns (k ∷ []) n a s h = absurd s
king_first pawns (k ∷ b ∷ x ∷ y ∷ z ∷ fs) n a s h = absurd s

-- the number of the men turned, with the king on a, is computed in this way
abbrev pub number_so : Bool → List Slot → ℕ → ℕ → Option ℕ
number_so pawns slots n a = number_at pawns (other_side (decoded_side slots n)) (turned_square (king_symmetry pawns a))
    (squares (moved_to 0 a (decoded_men slots n)))

pub no_number : (c : Class) (n a : ℕ) (p : Position) → IsStepped c n 0 a p → None ≡ number_so (slots_have_pawn (slots_of c)) (slots_of c) (without_bit n) a → ⊥
no_number c n a p h e =
    let slots = slots_of c in
    let pawns = slots_have_pawn slots in
    let men = moved_to 0 a (decoded_men slots (without_bit n)) in
    let side : Side = other_side (decoded_side slots (without_bit n)) in
    let f = king_first pawns slots (without_bit n) a (AreSlots-class c) (on_board men (All-permutation (λ x. x.at < 64) p.men men h.men h.valid.on_board)) in
    some_number pawns side a f.0 f.2 (e ∙ ap (λ (xs : List ℕ). number_at pawns side (turned_square (king_symmetry pawns a)) xs) f.1)

pub king_index : (c : Class) (n a : ℕ) (p : Position) (m : ℕ) → IsStepped c n 0 a p
    → Some m ≡ number_so (slots_have_pawn (slots_of c)) (slots_of c) (without_bit n) a
    → index_of p ≡ least_image (slots_have_pawn (slots_of c)) (are_like_slots (slots_of c)) (slots_of c) m
unfolding turned_number
king_index c n a p m h e =
    let slots = slots_of c in
    let pawns = slots_have_pawn slots in
    let b = without_bit n in
    let decoded_as = decoded_men slots b in
    let men = moved_to 0 a decoded_as in
    let s = AreSlots-class c in
    let side : Side = other_side (decoded_side slots b) in
    let t = king_symmetry pawns a in
    let turned = map (turned_man t) men in
    let q = image t p in
    let filled : map slot_filled men ≡ slots = filled_moved 0 a decoded_as ∙ filled-men_of pawns slots b s in
    let admitted = king_admitted pawns a p (has_pawn-slots p.men men slots h.men filled) in
    let valid = valid_image t p h.valid admitted in
    let same : IsPermutation q.men turned =
    IsPermutation-trans q.men (map (turned_man t) p.men) turned (IsPermutation-sym _ _ (IsPermutation-turned t p.men))
    (IsPermutation-map (turned_man t) p.men men h.men) in
    let filled_so : map slot_filled turned ≡ slots = filled_turned t (colours_kept pawns a) men ∙ filled in
    let on : All (λ x. x.at < 64) turned = All-permutation (λ x. x.at < 64) q.men turned same valid.on_board in
    let there : AreOnBoard men = on_board men (All-permutation (λ x. x.at < 64) p.men men h.men h.valid.on_board) in
    let is : number pawns side turned ≡ Some m = sym (number_men pawns side t t (λ x l. refl) men there) ∙ sym e in
    let in_slots = IsInSlots-map t men (subst (λ w. IsInSlots w men) (sym (colours_kept pawns a))
    (IsInSlots-moved 0 a decoded_as (IsInSlots-men_of pawns slots b s))) in
    let found = least_number_is c q turned side _ valid same filled_so in_slots (to_move_kept t p side (colours_kept pawns a) h.to_move)
    (read_least c turned side m filled_so on is) in
    let i = IsIndex-index_of p h.valid in
    let other = IsLeastNumber-image t p i.number h.valid admitted (λ k. colours_kept pawns a) i.least in
    i.is
    ∙ ap (λ w. with_bit w i.number) h.dead
    ∙ IsLeastNumber-unique q i.number found.0 other found.2
    ∙ sym (the_same _ _ found.1)
  where
    the_same : (m n : ℕ) → Some m ≡ Some n → m ≡ n
    the_same m n e = cc

    to_move_kept : (t : Symmetry) (p : Position) (side : Side) → t.colours ≡ false → p.to_move ≡ side → (image t p).to_move ≡ side
    to_move_kept t p side e f = rw (e, f) refl
