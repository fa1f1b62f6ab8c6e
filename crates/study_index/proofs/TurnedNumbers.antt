-- The numbers of a position's images are the numbers of its men, turned as they are counted.
use Rattle.std.proofs.Common.{◌≡◌, ℕ, Bool, false, List, [], ◌∷◌, map, Option, Some, None, refl, sym, ◌∙◌, subst, ap, get_or}
use Rattle.std.specs.List.{swap}
use Rattle.std.specs.List.Sorted.{IsPermutation, apply_swaps, SwapsInRange}
use Rattle.std.proofs.Math.Seq.{map-set}
use Rattle.std.proofs.Math.ListN.{get_or-map, length-map, set}
use Rattle.std.proofs.lemmas.List.Sorted.{IsPermutation-sym, IsPermutation-trans, IsPermutation-map}
use Rattle.study_board.specs.declared.men.Side.{Side}
use Rattle.study_board.specs.declared.men.Man.{Man}
use Rattle.study_board.specs.declared.symmetry.Symmetry.{Symmetry}
use Rattle.study_board.specs.Position.{Position, IsValid}
use Rattle.study_board.specs.Symmetry.{turned_side, turned_man}
use Rattle.study_material.specs.Lists.{is_swapped}
use Rattle.study_material.proofs.ClassOfImage.{IsPermutation-turned}
use Rattle.study_values.specs.Slots.{man_slot_number, NoneBefore, IsInSlots, IsFilling}
use Rattle.study_values.specs.Number.{has_pawn, number, IsNumber, IsLeastNumber}
use Rattle.study_values.specs.Canonical.{turned_number, canonical_number}
use Rattle.study_values.specs.Index.{sort_by_slot}
use Rattle.study_index.proofs.Slots.{IsFilling-sort_by_slot}
use Rattle.study_index.proofs.LeastNumbers.{IsNumberOf, IsIndexOf, IsIndex-least_of}

module _ {X Y : Type 0} (f : X → Y) where
  swap-map : (l : List X) (i j : ℕ) → map f (swap l i j) ≡ swap (map f l) i j
  swap-map [] i j = refl
  swap-map (d ∷ ys) i j =
      let l : List X = d ∷ ys in
      map-set f (set l i (get_or l j d)) j (get_or l i d)
      ∙ ap (λ z. set z j (f (get_or l i d))) (map-set f l i (get_or l j d))
      ∙ two_set (map f l) i j _ _ _ _ (sym (get_or-map f l j d)) (sym (get_or-map f l i d))
    where
      two_set : (m : List Y) (i j : ℕ) (x x' y y' : Y) → x ≡ x' → y ≡ y' → set (set m i x) j y ≡ set (set m i x') j y'
      two_set m i j x x' y y' e f = rw (e, f) refl

  swaps-map : (l : List X) (moves : List (ℕ × ℕ)) → map f (apply_swaps l moves) ≡ apply_swaps (map f l) moves
  swaps-map l [] = refl
  swaps-map l (p ∷ ps) = swap-map (apply_swaps l ps) p.0 p.1 ∙ rw (swaps-map l ps) refl

  -- the elements that elements in another order come from
  pub unmapped : (xs : List X) (ys : List Y) → IsPermutation (map f xs) ys → (zs : List X) × IsPermutation xs zs × (ys ≡ map f zs)
  unmapped xs ys p = (
    apply_swaps xs p.moves,
    record { moves = p.moves; below = subst (λ n. SwapsInRange n p.moves) (length-map xs f) p.below; is = refl },
    p.is ∙ sym (swaps-map xs p.moves),
  )

pub NoneBefore-turned : (t : Symmetry) (n : ℕ) (xs : List Man) → NoneBefore false n (map (turned_man t) xs) → NoneBefore t.colours n xs
unfolding man_slot_number
NoneBefore-turned t n [] h = tt
NoneBefore-turned t n (x ∷ xs) h = (h.0, NoneBefore-turned t n xs h.1)

pub IsInSlots-turned : (t : Symmetry) (xs : List Man) → IsInSlots false (map (turned_man t) xs) → IsInSlots t.colours xs
unfolding man_slot_number
IsInSlots-turned t [] h = tt
IsInSlots-turned t (x ∷ xs) h = (NoneBefore-turned t (man_slot_number t.colours x) xs h.0, IsInSlots-turned t xs h.1)

pub NoneBefore-map : (t : Symmetry) (n : ℕ) (xs : List Man) → NoneBefore t.colours n xs → NoneBefore false n (map (turned_man t) xs)
unfolding man_slot_number
NoneBefore-map t n [] h = tt
NoneBefore-map t n (x ∷ xs) h = (h.0, NoneBefore-map t n xs h.1)

pub IsInSlots-map : (t : Symmetry) (xs : List Man) → IsInSlots t.colours xs → IsInSlots false (map (turned_man t) xs)
unfolding man_slot_number
IsInSlots-map t [] h = tt
IsInSlots-map t (x ∷ xs) h = (NoneBefore-map t (man_slot_number t.colours x) xs h.0, IsInSlots-map t xs h.1)

pub IsNumberOf-from : (p : Position) (n : ℕ) → IsNumber p n → IsNumberOf (is_swapped p.men) p n
unfolding turned_number
IsNumberOf-from p n h =
    let t = h.by in
    let z = unmapped (turned_man t) p.men h.filling (IsPermutation-trans _ _ _ (IsPermutation-turned t p.men) h.fills.each_once) in
    record {
      symmetry = t;
      admits = h.admitted;
      coloured_so = h.colours;
      by = record {
        filling = z.0;
        fills = record { each_once = z.1; in_slots = IsInSlots-turned t z.0 (subst (λ l. IsInSlots false l) z.2 h.fills.in_slots) };
        is = subst (λ b. number (has_pawn p.men) (turned_side b p.to_move) (map (turned_man t) z.0) ≡ Some n) h.colours
            (subst (λ l. number (has_pawn p.men) (turned_side t.colours p.to_move) l ≡ Some n) z.2 h.is);
      };
    }

pub IsNumber-from : (p : Position) (n : ℕ) → IsNumberOf (is_swapped p.men) p n → IsNumber p n
unfolding turned_number
IsNumber-from p n h =
    let t = h.symmetry in
    let fs = h.by.filling in
    record {
      by = t;
      admitted = h.admits;
      colours = h.coloured_so;
      filling = map (turned_man t) fs;
      fills = record {
        each_once = IsPermutation-trans _ _ _ (IsPermutation-sym _ _ (IsPermutation-turned t p.men))
            (IsPermutation-map (turned_man t) p.men fs h.by.fills.each_once);
        in_slots = IsInSlots-map t fs h.by.fills.in_slots;
      };
      is = subst (λ b. number (has_pawn p.men) (turned_side b p.to_move) (map (turned_man t) fs) ≡ Some n) (sym h.coloured_so) h.by.is;
    }

pub IsLeastNumber-from : (p : Position) (n : ℕ) → IsIndexOf (is_swapped p.men) p n → IsLeastNumber p n
IsLeastNumber-from p n h = record { number = IsNumber-from p n h.0; least = λ m k. h.1 m (IsNumberOf-from p m k) }

-- the least number of a position that has one
pub least_is : (p : Position) (xs : List Man) (r : Option ℕ) → IsValid p → IsFilling (is_swapped p.men) p.men xs
    → r ≡ canonical_number (has_pawn p.men) (turned_side (is_swapped p.men) p.to_move) (is_swapped p.men) xs → (n : ℕ)
    × (r ≡ Some n) × IsLeastNumber p n
least_is p xs r v f e = let h = IsIndex-least_of (is_swapped p.men) p xs r v f e in (h.0, h.1, IsLeastNumber-from p h.0 h.2)

-- the same for the number that the code computes
pub least_found : (p : Position) (men : List Man) (c pawns : Bool) (to_move side : Side) (r : Option ℕ)
    → men ≡ p.men → IsValid p → c ≡ is_swapped p.men → pawns ≡ has_pawn men → to_move ≡ p.to_move
    → side ≡ turned_side c to_move → r ≡ canonical_number pawns side c (sort_by_slot c men) → (n : ℕ) × (r ≡ Some n)
    × IsLeastNumber p n
least_found p men c pawns to_move side r m v b h t s e =
    least_is p (sort_by_slot (is_swapped p.men) p.men) r v (IsFilling-sort_by_slot (is_swapped p.men) p.men) (e ∙ rw (h, s, t, m, b) refl)

pub no_none : {P : ℕ → Type 0} → (n : ℕ) × (None ≡ Some n) × P n → ⊥
no_none h = (let e = h.1 in cc)

pub the_some : {P : ℕ → Type 0} → (m : ℕ) → (n : ℕ) × (Some m ≡ Some n) × P n → P m
the_some {P} m h = (let e : h.0 ≡ m = (let d = h.1 in cc) in subst P e h.2)
