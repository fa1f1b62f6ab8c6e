-- The lists after a capture, a promotion, or both are among the lists that are reached.
use Rattle.std.proofs.Common.{◌≡◌, ℕ, ◌<◌, zero, suc, Bool, true, false, cond, ◌||◌, ◌⊎◌, inl, inr, nat_lt, List}
use Rattle.std.proofs.Common.{[], ◌∷◌, ◌++◌, length, map, filter, refl, sym, ◌∙◌, ap, subst, arith, get_or}
use Rattle.std.specs.List.{list_any, flat_map, Contains}
use Rattle.std.proofs.lemmas.Bool.{false≢true}
use Rattle.study_board.specs.declared.men.Kind.{Kind}
use Rattle.study_board.specs.declared.men.Kind.TheVariants.{Pawn}
use Rattle.study_material.specs.declared.class.Class.{Class}
use Rattle.study_material.specs.Lists.{Lists, of, kind_place, put_kind, lists_exchanged, ordered_lists, is_exchanged}
use Rattle.study_material.specs.Class.{lists_of, same_lists}
use Rattle.study_material.specs.Needs.{by_size, without_one, any_kind, is_pawn_kind, no_pawn, officers, lists_promoted, pairs}
use Rattle.study_material.specs.Needs.{reached_by_white, reached_lists, ordered_reached, has_lists, needs_of}
use Rattle.study_material.proofs.Classes.{same_lists-self, is_in-Contains}
use Rattle.study_material.proofs.NeedsTables.{size_table, by_size_is}
use Rattle.study_material.proofs.InSize.{in_size_table}

-- an element, by recursion
abbrev pub In : {X : Type 0} → X → List X → Type 0
In {X} z [] = ⊥
In {X} z (x ∷ xs) = (z ≡ x) ⊎ In z xs

module _ {X : Type 0} where
  In-left : (z : X) (xs ys : List X) → In z xs → In z (xs ++ ys)
  In-left z [] ys i = absurd i
  In-left z (x ∷ xs) ys (inl e) = inl e
  In-left z (x ∷ xs) ys (inr i) = inr (In-left z xs ys i)

  In-right : (z : X) (xs ys : List X) → In z ys → In z (xs ++ ys)
  In-right z [] ys i = i
  In-right z (x ∷ xs) ys i = inr (In-right z xs ys i)

  In-cases : (z : X) (xs ys : List X) → In z (xs ++ ys) → In z xs ⊎ In z ys
  In-cases z [] ys i = inr i
  In-cases z (x ∷ xs) ys (inl e) = inl (inl e)
  In-cases z (x ∷ xs) ys (inr i) = elim (In-cases z xs ys i) [ inl j ↦ inl (inr j) | inr j ↦ inr j ]

module _ {X Y : Type 0} (f : X → Y) where
  In-map : (z : X) (xs : List X) → In z xs → In (f z) (map f xs)
  In-map z [] i = absurd i
  In-map z (x ∷ xs) (inl e) = inl (ap f e)
  In-map z (x ∷ xs) (inr i) = inr (In-map z xs i)

  In-unmapped : (y : Y) (xs : List X) → In y (map f xs) → (x : X) × In x xs × (y ≡ f x)
  In-unmapped y [] i = absurd i
  In-unmapped y (x ∷ xs) (inl e) = (x, inl refl, e)
  In-unmapped y (x ∷ xs) (inr i) = let r = In-unmapped y xs i in (r.0, inr r.1, r.2)

module _ {X Y : Type 0} (f : X → List Y) where
  In-flat_map : (x : X) (y : Y) (xs : List X) → In x xs → In y (f x) → In y (flat_map f xs)
  In-flat_map x y [] i j = absurd i
  In-flat_map x y (z ∷ zs) (inl e) j = In-left y (f z) (flat_map f zs) (subst (λ w. In y (f w)) e j)
  In-flat_map x y (z ∷ zs) (inr i) j = In-right y (f z) (flat_map f zs) (In-flat_map x y zs i j)

-- without the kind that was inserted
pub In-without : (p : Kind → Bool) (k : Kind) (l : List Kind) → p k ≡ true → In l (without_one p (put_kind k l))
In-without p k [] e = rw e (inl refl)
In-without p k (x ∷ xs) e = by_place (nat_lt (kind_place x) (kind_place k)) (p x) (In-without p k xs e)
  where
    first : (b : Bool) → b ≡ true → In (x ∷ xs) (cond b ((x ∷ xs) ∷ map (λ l. k ∷ l) (without_one p (x ∷ xs))) (map (λ l. k ∷ l) (without_one p (x ∷ xs))))
    first true e = inl refl
    first false e = absurd (false≢true e)

    by_place : (b d : Bool) → In xs (without_one p (put_kind k xs)) → In (x ∷ xs) (without_one p (cond b (x ∷ put_kind k xs) (k ∷ x ∷ xs)))
    by_place true d i = later (p x) (In-map (λ l. x ∷ l) xs (without_one p (put_kind k xs)) i)
      where
        later : (b : Bool) → In (x ∷ xs) (map (λ l. x ∷ l) (without_one p (put_kind k xs)))
            → In (x ∷ xs) (cond b (put_kind k xs ∷ map (λ l. x ∷ l) (without_one p (put_kind k xs)))
            (map (λ l. x ∷ l) (without_one p (put_kind k xs))))
        later true i = inr i
        later false i = i
    by_place false d i = first (p k) e

pub In-promoted : (k : Kind) (l : List Kind) → In k officers → In (put_kind k l) (lists_promoted (put_kind Pawn l))
In-promoted k l i =
    In-flat_map (λ l. map (λ k. put_kind k l) officers) l (put_kind k l) (without_one is_pawn_kind (put_kind Pawn l))
    (In-without is_pawn_kind Pawn l refl) (In-map (λ k. put_kind k l) k officers i)

pub In-pairs : (x y : List Kind) (xs ys : List (List Kind)) → In x xs → In y ys → In (of x y) (pairs xs ys)
In-pairs x y xs ys i j = In-flat_map (λ x. map (λ y. of x y) ys) x (of x y) xs i (In-map (λ y. of x y) y ys j)

-- White's move: a capture, a promotion, or both
pub captured_by_white : (w b : List Kind) (k : Kind) → In (of w b) (reached_by_white (of w (put_kind k b)))
captured_by_white w b k =
    In-left _ _ _
    (In-left _ (pairs (w ∷ []) (without_one any_kind (put_kind k b))) _
    (In-pairs w b (w ∷ []) (without_one any_kind (put_kind k b)) (inl refl) (In-without any_kind k b refl)))

pub promoted_by_white : (w b : List Kind) (k : Kind) → In k officers → In (of (put_kind k w) b) (reached_by_white (of (put_kind Pawn w) b))
promoted_by_white w b k i =
    In-left _ _ _
    (In-right _ (pairs (put_kind Pawn w ∷ []) (without_one any_kind b)) _
    (In-pairs (put_kind k w) b (lists_promoted (put_kind Pawn w)) (b ∷ []) (In-promoted k w i) (inl refl)))

pub both_by_white : (w b : List Kind) (k j : Kind) → In k officers → no_pawn j ≡ true
    → In (of (put_kind k w) b) (reached_by_white (of (put_kind Pawn w) (put_kind j b)))
both_by_white w b k j i e =
    In-right _ (pairs (put_kind Pawn w ∷ []) (without_one any_kind (put_kind j b)) ++ pairs (lists_promoted (put_kind Pawn w)) (put_kind j b ∷ [])) _
    (In-pairs (put_kind k w) b (lists_promoted (put_kind Pawn w)) (without_one no_pawn (put_kind j b)) (In-promoted k w i) (In-without no_pawn j b e))

-- the lists reached by White's move, and by Black's
pub by_white : (l m : Lists) → In m (reached_by_white l) → In m (reached_lists l)
by_white l m i = In-left m (reached_by_white l) (map lists_exchanged (reached_by_white (lists_exchanged l))) i

pub by_black : (l m : Lists) → In m (reached_by_white (lists_exchanged l)) → In (lists_exchanged m) (reached_lists l)
by_black l m i = In-right (lists_exchanged m) (reached_by_white l) (map lists_exchanged (reached_by_white (lists_exchanged l)))
    (In-map lists_exchanged m (reached_by_white (lists_exchanged l)) i)

-- the same for the lists exchanged
exchanged_reached : (l m : Lists) → In m (reached_lists l) → In (lists_exchanged m) (reached_lists (lists_exchanged l))
exchanged_reached l m i = elim (In-cases m (reached_by_white l) (map lists_exchanged (reached_by_white (lists_exchanged l))) i) [
  | inl j ↦ by_black (lists_exchanged l) m j
  | inr j ↦ (let r = In-unmapped lists_exchanged m (reached_by_white (lists_exchanged l)) j in
      subst (λ n. In n (reached_lists (lists_exchanged l))) (sym (ap lists_exchanged r.2)) (by_white (lists_exchanged l) r.0 r.1))
]

list_any-In : {X : Type 0} (p : X → Bool) (z : X) (xs : List X) → In z xs → p z ≡ true → list_any p xs ≡ true
list_any-In p z [] i e = absurd i
list_any-In p z (x ∷ xs) (inl s) e = rw (← s, e)
list_any-In p z (x ∷ xs) (inr i) e = or_true (p x) (list_any-In p z xs i e)
  where
    or_true : (b : Bool) → list_any p xs ≡ true → (b || list_any p xs) ≡ true
    or_true true h = refl
    or_true false h = h

Contains-filter : (p : Class → Bool) (cs : List Class) (d : Class) → Contains cs d → p d ≡ true → Contains (filter p cs) d
Contains-filter p cs d k e = go cs k.0 k.1 k.2
  where
    go : (cs : List Class) (i : ℕ) → i < length cs → get_or cs i d ≡ d → Contains (filter p cs) d
    go [] i l s = absurd (omega arith)
    go (c ∷ cs) zero l s = rw (s, e) (0, omega arith, refl)
    go (c ∷ cs) (suc i) l s = later (p c) (go cs i (omega arith) s)
      where
        later : (b : Bool) → Contains (filter p cs) d → Contains (cond b (c ∷ filter p cs) (filter p cs)) d
        later true h = (suc h.0, (let m = h.1 in omega arith), h.2)
        later false h = h

-- a class whose lists are reached is needed
pub needed : (c d : Class) (l m : Lists) → lists_of c ≡ ordered_lists l → lists_of d ≡ ordered_lists m → In m (reached_lists l)
    → ordered_lists (lists_exchanged m) ≡ ordered_lists m → Contains (needs_of c) d
unfolding needs_of ordered_reached
needed c d l m e f i same =
    let r = by_order (is_exchanged l) in
    let here : In (lists_of d) (map ordered_lists (reached_lists (lists_of c))) =
    subst (λ k. In k (map ordered_lists (reached_lists (lists_of c)))) (r.2 ∙ sym f)
    (In-map ordered_lists r.0 (reached_lists (lists_of c)) (subst (λ k. In r.0 (reached_lists k)) (sym e) r.1)) in
    Contains-filter (has_lists (map ordered_lists (reached_lists (lists_of c)))) by_size d
    (subst (λ ds. Contains ds d) (sym by_size_is) (is_in-Contains size_table d (in_size_table d)))
    (list_any-In (λ k. same_lists k (lists_of d)) (lists_of d) (map ordered_lists (reached_lists (lists_of c))) here (same_lists-self (lists_of d)))
  where
    by_order : (b : Bool) → (n : Lists) × In n (reached_lists (cond b (lists_exchanged l) l)) × (ordered_lists n ≡ ordered_lists m)
    by_order true = (lists_exchanged m, exchanged_reached l m i, same)
    by_order false = (m, i, refl)
