-- The computed number is the least of the position's numbers.
use Rattle.std.proofs.Common.{◌≡◌, ℕ, ◌+◌, ◌*◌, ◌<◌, ◌≤◌, ◌⊎◌, Bool, true, false, cond, not, ◌&&◌, ◌||◌, nat_lt}
use Rattle.std.proofs.Common.{List, [], ◌∷◌, map, Option, Some, None, refl, sym, ◌∙◌, subst, arith, inl, inr}
use Rattle.std.specs.Option.{is_some, option_map}
use Rattle.std.proofs.lemmas.Bool.{false≢true}
use Rattle.std.proofs.lemmas.Bool.Decides.{nat_tests}
use borrow.Author.Tests.{ltb-true, ltb-false}
use Rattle.std.proofs.lemmas.List.Elements.{All-head}
use Rattle.std.proofs.lemmas.List.Sorted.{All-permutation}
use Rattle.study_board.specs.declared.men.Side.{Side}
use Rattle.study_board.specs.declared.men.Man.{Man}
use Rattle.study_board.specs.Position.{Position, IsValid}
use Rattle.study_board.specs.declared.symmetry.Symmetry.{Symmetry}
use Rattle.study_board.specs.Symmetry.{turned_square, turned_side, turned_man}
use Rattle.study_values.specs.Slots.{IsFilling}
use Rattle.study_values.specs.Number.{place, number, has_pawn, append_squares, king_places, side_number}
use Rattle.study_values.specs.Canonical.{canonical_symmetry, last_two_exchanged, are_like, descends, option_min, least_by, canonical_number, turned_number}
use Rattle.study_index.proofs.Fillings.{IsMaterial, IsMaterial-from_valid, HasKings-from_filling, fillings_of, exchanged-fills}
use Rattle.study_index.proofs.Symmetries.{admitted, chosen-only, some-listed, chosen-admitted, chosen-colours, chosen-pawns}

-- a number of the men under this symmetry
pub record IsNumberBy (pawns : Bool) (to_move : Side) (t : Symmetry) (men : List Man) (n : ℕ) : Type 0 where
  pub filling : List Man
  pub fills : IsFilling t.colours men filling
  pub is : turned_number pawns to_move t filling ≡ Some n

-- a number of the men under a symmetry that they admit
pub record IsNumberOf (colours : Bool) (p : Position) (n : ℕ) : Type 0 where
  pub symmetry : Symmetry
  pub admits : admitted (has_pawn p.men) symmetry ≡ true
  pub coloured_so : symmetry.colours ≡ colours
  pub by : IsNumberBy (has_pawn p.men) (turned_side colours p.to_move) symmetry p.men n

-- the least of some numbers, `None` if there is none
abbrev pub IsLeast : (ℕ → Type 0) → Option ℕ → Type 0
IsLeast S None = (m : ℕ) → S m → ⊥
IsLeast S (Some n) = S n × ((m : ℕ) → S m → n ≤ m)

-- the least number of a position
abbrev pub IsIndexOf : Bool → Position → ℕ → Type 0
IsIndexOf colours p n = IsLeast (IsNumberOf colours p) (Some n)

pub IsLeast-one : (r : Option ℕ) → IsLeast (λ n. r ≡ Some n) r
IsLeast-one None = λ m e. cc
IsLeast-one (Some n) = (refl, λ m e. (let d : n ≡ m = cc in omega arith))

pub IsLeast-same : (S T : ℕ → Type 0) → ((n : ℕ) → S n → T n) → ((n : ℕ) → T n → S n) → (r : Option ℕ) → IsLeast S r → IsLeast T r
IsLeast-same S T to from None h = λ m t. h m (from m t)
IsLeast-same S T to from (Some n) h = (to n h.0, λ m t. h.1 m (from m t))

pub IsLeast-both : (S T : ℕ → Type 0) (a b : Option ℕ) → IsLeast S a → IsLeast T b → IsLeast (λ n. S n ⊎ T n) (option_min a b)
IsLeast-both S T None None h k = λ m e. elim e [ inl s ↦ h m s | inr t ↦ k m t ]
IsLeast-both S T None (Some y) h k = (inr k.0, λ m e. elim e [ inl s ↦ absurd (h m s) | inr t ↦ k.1 m t ])
IsLeast-both S T (Some x) None h k = (inl h.0, λ m e. elim e [ inl s ↦ h.1 m s | inr t ↦ absurd (k m t) ])
IsLeast-both S T (Some x) (Some y) h k =
    let go : (b : Bool) → nat_lt y x ≡ b → IsLeast (λ n. S n ⊎ T n) (cond b (Some y) (Some x)) =
    λ b. elim b as (λ v. nat_lt y x ≡ v → IsLeast (λ n. S n ⊎ T n) (cond v (Some y) (Some x))) [
      | true ↦ λ e. (inr k.0, λ m u. elim u [ inl s ↦ (let a = h.1 m s in omega (arith, ltb-true _ _ e)) | inr t ↦ k.1 m t ])
      | false ↦ λ e. (inl h.0, λ m u. elim u [ inl s ↦ h.1 m s | inr t ↦ (let a = k.1 m t in omega (arith, ltb-false _ _ e)) ])
    ]
    in go (nat_lt y x) refl

-- of two like men the one on the lower square comes first in the lesser number
option_min-falls : (pawns : Bool) (side : Side) (t : Symmetry) (xs : List Man) → are_like t.colours xs ≡ true
    → option_min (turned_number pawns side t xs) (turned_number pawns side t (last_two_exchanged xs))
    ≡ cond (descends t xs) (turned_number pawns side t (last_two_exchanged xs)) (turned_number pawns side t xs)
unfolding turned_number number
option_min-falls pawns side t (a ∷ b ∷ x ∷ y ∷ []) e = by_place (place pawns (turned_square t a.at)) (turned_square t x.at) (turned_square t y.at)
  where
    none : (b : Bool) → (let o : Option ℕ = None in o ≡ cond b o o)
    none true = refl
    none false = refl

    some : (m u w : ℕ) (b : Bool) → nat_lt w u ≡ b
        → cond (nat_lt ((m * 64 + w) * 64 + u) ((m * 64 + u) * 64 + w)) (Some ((m * 64 + w) * 64 + u))
        (Some ((m * 64 + u) * 64 + w)) ≡ cond b (Some ((m * 64 + w) * 64 + u)) (Some ((m * 64 + u) * 64 + w))
    some m u w true f =
        (let l = ltb-true w u f in let g : nat_lt ((m * 64 + w) * 64 + u) ((m * 64 + u) * 64 + w)
        ≡ true = below ((m * 64 + w) * 64 + u) ((m * 64 + u) * 64 + w) (omega arith) in rw g)
      where
        below : (k n : ℕ) → k < n → nat_lt k n ≡ true
        below k n l = grind (arith, nat_tests)
    some m u w false f =
        (let l = ltb-false w u f in let g : nat_lt ((m * 64 + w) * 64 + u) ((m * 64 + u) * 64 + w)
        ≡ false = not_below ((m * 64 + w) * 64 + u) ((m * 64 + u) * 64 + w) (omega arith) in rw g)
      where
        not_below : (k n : ℕ) → n ≤ k → nat_lt k n ≡ false
        not_below k n l = grind (arith, nat_tests)

    by_place : (o : Option ℕ) (u w : ℕ)
        → option_min
        (option_map (λ q. (((side_number side * king_places pawns + q) * 64 + turned_square t b.at) * 64 + u) * 64 + w)
        o)
        (option_map (λ q. (((side_number side * king_places pawns + q) * 64 + turned_square t b.at) * 64 + w) * 64 + u)
        o)
        ≡ cond (nat_lt w u)
        (option_map (λ q. (((side_number side * king_places pawns + q) * 64 + turned_square t b.at) * 64 + w) * 64 + u)
        o)
        (option_map (λ q. (((side_number side * king_places pawns + q) * 64 + turned_square t b.at) * 64 + u) * 64 + w)
        o)
    by_place None u w = none (nat_lt w u)
    by_place (Some q) u w = some ((side_number side * king_places pawns + q) * 64 + turned_square t b.at) u w (nat_lt w u) refl
option_min-falls pawns side t [] e = absurd (false≢true e)
option_min-falls pawns side t (a ∷ []) e = absurd (false≢true e)
option_min-falls pawns side t (a ∷ b ∷ []) e = absurd (false≢true e)
option_min-falls pawns side t (a ∷ b ∷ x ∷ []) e = absurd (false≢true e)
option_min-falls pawns side t (a ∷ b ∷ x ∷ y ∷ z ∷ zs) e = absurd (false≢true e)

module _ (pawns : Bool) (side : Side) (t : Symmetry) (men xs : List Man) (m : IsMaterial t.colours men) (f : IsFilling t.colours men xs) where
  abbrev at_filling : List Man → ℕ → Type 0
  at_filling ys n = turned_number pawns side t ys ≡ Some n

  to_one : are_like t.colours xs ≡ false → (n : ℕ) → IsNumberBy pawns side t men n → at_filling xs n
  to_one e n h = elim (fillings_of t.colours men xs h.filling m f h.fills)
      [ inl d ↦ subst (λ ys. at_filling ys n) d h.is | inr d ↦ absurd (false≢true (sym e ∙ d.0)) ]

  to_two : (n : ℕ) → IsNumberBy pawns side t men n → at_filling xs n ⊎ at_filling (last_two_exchanged xs) n
  to_two n h = elim (fillings_of t.colours men xs h.filling m f h.fills)
      [ inl d ↦ inl (subst (λ ys. at_filling ys n) d h.is) | inr d ↦ inr (subst (λ ys. at_filling ys n) d.1 h.is) ]

  from_one : (n : ℕ) → at_filling xs n → IsNumberBy pawns side t men n
  from_one n e = record { filling = xs; fills = f; is = e }

  from_two : are_like t.colours xs ≡ true → (n : ℕ) → at_filling xs n ⊎ at_filling (last_two_exchanged xs) n → IsNumberBy pawns side t men n
  from_two a n (inl e) = from_one n e
  from_two a n (inr e) = record { filling = last_two_exchanged xs; fills = exchanged-fills t.colours men xs a f; is = e }

  pub IsLeast-least_by : IsLeast (IsNumberBy pawns side t men) (least_by pawns side t xs)
  unfolding least_by
  IsLeast-least_by =
      let go : (b : Bool) → are_like t.colours xs ≡ b
      → IsLeast (IsNumberBy pawns side t men)
      (cond b (cond (descends t xs) (turned_number pawns side t (last_two_exchanged xs)) (turned_number pawns side t xs))
      (turned_number pawns side t xs)) =
      λ b. elim b as (λ v. are_like t.colours xs ≡ v
      → IsLeast (IsNumberBy pawns side t men)
      (cond v (cond (descends t xs) (turned_number pawns side t (last_two_exchanged xs)) (turned_number pawns side t xs))
      (turned_number pawns side t xs))) [
        | true ↦ λ e. IsLeast-same (λ n. at_filling xs n ⊎ at_filling (last_two_exchanged xs) n) (IsNumberBy pawns side t men) (from_two e) to_two _
            (subst (λ r. IsLeast (λ n. at_filling xs n ⊎ at_filling (last_two_exchanged xs) n) r) (option_min-falls pawns side t xs e)
            (IsLeast-both (at_filling xs) (at_filling (last_two_exchanged xs)) (turned_number pawns side t xs)
            (turned_number pawns side t (last_two_exchanged xs)) (IsLeast-one (turned_number pawns side t xs))
            (IsLeast-one (turned_number pawns side t (last_two_exchanged xs)))))
        | false ↦ λ e. IsLeast-same (at_filling xs) (IsNumberBy pawns side t men) from_one (to_one e)
            (turned_number pawns side t xs) (IsLeast-one (turned_number pawns side t xs))
      ]
      in go (are_like t.colours xs) refl

-- a filling and any other begin with the same man
same_king : (c : Bool) (men : List Man) (k : Man) (rest ys : List Man) → IsMaterial c men
    → IsFilling c men (k ∷ rest) → IsFilling c men ys → (rest' : List Man) × (ys ≡ k ∷ rest')
same_king c men k rest ys m f g = elim (fillings_of c men (k ∷ rest) ys m f g)
    [ inl e ↦ (rest, e) | inr e ↦ (let h = head_exchanged c k rest e.0 in (h.0, e.1 ∙ h.1)) ]
  where
    head_exchanged : (c : Bool) (k : Man) (rest : List Man) → are_like c (k ∷ rest) ≡ true → (rest' : List Man) × (last_two_exchanged (k ∷ rest) ≡ k ∷ rest')
    head_exchanged c k [] e = ([], refl)
    head_exchanged c k (a ∷ []) e = (_, refl)
    head_exchanged c k (a ∷ b ∷ []) e = (_, refl)
    head_exchanged c k (a ∷ b ∷ d ∷ []) e = (_, refl)
    head_exchanged c k (a ∷ b ∷ d ∷ g ∷ rest) e = (_, refl)

-- a number requires a listed square
number-listed : (pawns : Bool) (side : Side) (t : Symmetry) (k : Man) (rest : List Man) (n : ℕ)
    → turned_number pawns side t (k ∷ rest) ≡ Some n → (q : ℕ) × (place pawns (turned_square t k.at) ≡ Some q)
unfolding turned_number number
number-listed pawns side t k rest n e =
    let go : (o : Option ℕ) → option_map (λ q. append_squares (side_number side * king_places pawns + q) (map (turned_man t) rest)) o ≡ Some n
    → (q : ℕ) × (o ≡ Some q) =
    λ o. elim o as (λ v. option_map (λ q. append_squares (side_number side * king_places pawns + q) (map (turned_man t) rest)) v ≡ Some n → (q : ℕ)
    × (v ≡ Some q))
    [ None ↦ λ d. cc | Some q ↦ λ d. (q, refl) ]
    in go (place pawns (turned_square t k.at)) e

some_value : (o : Option ℕ) → is_some o ≡ true → (q : ℕ) × (o ≡ Some q)
some_value None e = absurd (false≢true e)
some_value (Some q) e = (q, refl)

or_cases : (x y : Bool) → (x || y) ≡ true → (x ≡ true) ⊎ ((x ≡ false) × (y ≡ true))
or_cases true y e = inl refl
or_cases false y e = inr (refl, e)

and_parts : (x y : Bool) → (x && y) ≡ true → (x ≡ true) × (y ≡ true)
and_parts true y e = (refl, e)
and_parts false y e = absurd (false≢true e)

not_true' : (b : Bool) → not b ≡ true → b ≡ false
not_true' true e = sym e
not_true' false e = refl

module _ (c : Bool) (p : Position) (k : Man) (rest : List Man) (v : IsValid p) (f : IsFilling c p.men (k ∷ rest)) where
  abbrev pawns : Bool
  pawns = has_pawn p.men

  abbrev side : Side
  side = turned_side c p.to_move

  on_board : k.at < 64
  on_board = All-head (λ x. x.at < 64) k rest (All-permutation (λ x. x.at < 64) p.men (k ∷ rest) f.each_once v.on_board)

  abbrev by_chosen : Bool → ℕ → Type 0
  by_chosen d = IsNumberBy pawns side (canonical_symmetry pawns d c k.at) p.men

  IsLeast-chosen : (d : Bool) → IsLeast (by_chosen d) (least_by pawns side (canonical_symmetry pawns d c k.at) (k ∷ rest))
  IsLeast-chosen d =
      let e : c ≡ (canonical_symmetry pawns d c k.at).colours = sym (chosen-colours pawns d c k.at) in
      IsLeast-least_by pawns side (canonical_symmetry pawns d c k.at) p.men (k ∷ rest)
      (IsMaterial-from_valid _ p v) (subst (λ b. IsFilling b p.men (k ∷ rest)) e f)

  to_chosen : (n : ℕ) → IsNumberOf c p n → (d : Bool) × by_chosen d n
  to_chosen n h =
      let t = h.symmetry in
      let fill : IsFilling c p.men h.by.filling = subst (λ b. IsFilling b p.men h.by.filling) h.coloured_so h.by.fills in
      let first = same_king c p.men k rest h.by.filling (IsMaterial-from_valid c p v) f fill in
      let is : turned_number pawns side t (k ∷ first.0) ≡ Some n = subst (λ ys. turned_number pawns side t ys ≡ Some n) first.1 h.by.is in
      let listed = number-listed pawns side t k first.0 n is in
      let same : t ≡ canonical_symmetry pawns t.diagonal t.colours k.at = chosen-only pawns t k.at listed.0 on_board h.admits listed.1 in
      let same' : t ≡ canonical_symmetry pawns t.diagonal c k.at = subst (λ b. t ≡ canonical_symmetry pawns t.diagonal b k.at) h.coloured_so same in
      (t.diagonal, subst (λ u. IsNumberBy pawns side u p.men n) same' h.by)

  from_chosen : (d : Bool) → (pawns && d) ≡ false → (n : ℕ) → by_chosen d n → IsNumberOf c p n
  from_chosen d e n h = record {
    symmetry = canonical_symmetry pawns d c k.at;
    admits = chosen-admitted pawns d c k.at e;
    coloured_so = chosen-colours pawns d c k.at;
    by = h;
  }

  listed_number : (d : Bool) (q : ℕ) → place pawns (turned_square (canonical_symmetry pawns d c k.at) k.at) ≡ Some q → (n : ℕ) × by_chosen d n
  unfolding turned_number number
  listed_number d q e =
      let t = canonical_symmetry pawns d c k.at in
      let b : c ≡ t.colours = sym (chosen-colours pawns d c k.at) in
      let n = append_squares (side_number side * king_places pawns + q) (map (turned_man t) rest) in
      (n, record { filling = k ∷ rest; fills = subst (λ b. IsFilling b p.men (k ∷ rest)) b f; is = rw e refl })

  pub some_number : (n : ℕ) × IsNumberOf c p n
  some_number = elim (or_cases _ _ (some-listed pawns c k.at on_board)) [
    | inl e ↦ (let q = some_value _ e in let n = listed_number false q.0 q.1 in (n.0, from_chosen false (no_diagonal pawns) n.0 n.1))
    | inr e ↦ (let parts = and_parts _ _ e.1 in let q = some_value _ parts.1 in
        let n = listed_number true q.0 q.1 in (n.0, from_chosen true (without pawns (not_true' _ parts.0)) n.0 n.1))
  ]
    where
      no_diagonal : (b : Bool) → (b && false) ≡ false
      no_diagonal true = refl
      no_diagonal false = refl

      without : (b : Bool) → b ≡ false → (b && true) ≡ false
      without b e = rw e refl

  no_diagonal : (b : Bool) → (b && false) ≡ false
  no_diagonal true = refl
  no_diagonal false = refl

  any_diagonal : (b d : Bool) → b ≡ false → (b && d) ≡ false
  any_diagonal b d e = rw e refl

  to_straight : pawns ≡ true → (n : ℕ) → IsNumberOf c p n → by_chosen false n
  to_straight e n h =
      let r = to_chosen n h in
      subst (λ t. IsNumberBy pawns side t p.men n) (chosen-pawns pawns r.0 c k.at e) r.1

  to_either : (n : ℕ) → IsNumberOf c p n → by_chosen false n ⊎ by_chosen true n
  to_either n h =
      let r = to_chosen n h in
      let go : (d : Bool) → by_chosen d n → by_chosen false n ⊎ by_chosen true n =
      λ d. elim d as (λ v. by_chosen v n → by_chosen false n ⊎ by_chosen true n) [ true ↦ λ b. inr b | false ↦ λ b. inl b ]
      in go r.0 r.1

  straight : Option ℕ
  straight = least_by pawns side (canonical_symmetry pawns false c k.at) (k ∷ rest)

  transposed : Option ℕ
  transposed = least_by pawns side (canonical_symmetry pawns true c k.at) (k ∷ rest)

  pub IsLeast-least_of : IsLeast (IsNumberOf c p) (canonical_number pawns side c (k ∷ rest))
  unfolding canonical_number straight transposed
  IsLeast-least_of =
      let go : (b : Bool) → pawns ≡ b → IsLeast (IsNumberOf c p) (cond b straight (option_min straight transposed)) =
      λ b. elim b as (λ v. pawns ≡ v → IsLeast (IsNumberOf c p) (cond v straight (option_min straight transposed))) [
        | true ↦ λ e. IsLeast-same (by_chosen false) (IsNumberOf c p) (from_chosen false (no_diagonal pawns)) (to_straight e) straight (IsLeast-chosen false)
        | false ↦ λ e. IsLeast-same (λ n. by_chosen false n ⊎ by_chosen true n) (IsNumberOf c p)
            (λ n h. elim h [ inl b ↦ from_chosen false (any_diagonal pawns false e) n b | inr b ↦ from_chosen true (any_diagonal pawns true e) n b ])
            to_either (option_min straight transposed)
            (IsLeast-both (by_chosen false) (by_chosen true) straight transposed (IsLeast-chosen false) (IsLeast-chosen true))
      ]
      in go pawns refl

-- the least number of a position that has one
pub IsIndex-least_of : (c : Bool) (p : Position) (xs : List Man) (r : Option ℕ) → IsValid p → IsFilling c p.men xs
    → r ≡ canonical_number (has_pawn p.men) (turned_side c p.to_move) c xs → (n : ℕ) × (r ≡ Some n) × IsIndexOf c p n
IsIndex-least_of c p xs r v f e = at_some r (IsLeast-from_filling xs f r e)
  where
    IsLeast-from_filling : (xs : List Man) → IsFilling c p.men xs → (r : Option ℕ)
        → r ≡ canonical_number (has_pawn p.men) (turned_side c p.to_move) c xs → IsLeast (IsNumberOf c p) r
        × ((n : ℕ) × IsNumberOf c p n)
    IsLeast-from_filling [] f r e =
        absurd (let k = HasKings-from_filling c p.men [] (IsMaterial-from_valid c p v) f in
        let no : [] ≡ k.white ∷ k.black ∷ k.rest = k.is in cc)
    IsLeast-from_filling (k ∷ rest) f r e = (subst (λ o. IsLeast (IsNumberOf c p) o) (sym e) (IsLeast-least_of c p k rest v f), some_number c p k rest v f)

    at_some : (r : Option ℕ) → IsLeast (IsNumberOf c p) r × ((n : ℕ) × IsNumberOf c p n) → (n : ℕ) × (r ≡ Some n) × IsIndexOf c p n
    at_some None h = absurd (h.0 h.1.0 h.1.1)
    at_some (Some n) h = (n, refl, h.0)
