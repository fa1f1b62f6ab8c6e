-- Lists with ascending keys: two with the same members are equal.
use Rattle.std.proofs.Common.{◌≡◌, ℕ, ◌+◌, ◌<◌, ◌≤◌, zero, suc, Bool, true, false, cond, ◌⊎◌, inl, inr}
use Rattle.std.proofs.Common.{List, [], ◌∷◌, ◌++◌, length, get_or, refl, sym, ap, ◌∙◌, arith, subst}
use Rattle.std.specs.List.{filter, list_any, AllPairs, Contains}
use Rattle.std.proofs.lemmas.Bool.{or_right, false≢true, or_cases, cases_Bool}

-- x is in the list
abbrev pub IsIn : {X : Type 0} → X → List X → Type 0
IsIn x [] = ⊥
IsIn x (y ∷ ys) = (y ≡ x) ⊎ IsIn x ys

module _ {X : Type 0} where
  pub list_any-in : (p : X → Bool) (xs : List X) (x : X) → IsIn x xs → p x ≡ true → list_any p xs ≡ true
  list_any-in p [] x i e = absurd i
  list_any-in p (y ∷ ys) x (inl s) e = rw (s, e)
  list_any-in p (y ∷ ys) x (inr i) e = or_right (p y) (list_any p ys) (list_any-in p ys x i e)

  pub some_in : (p : X → Bool) (xs : List X) → list_any p xs ≡ true → (x : X) × IsIn x xs × (p x ≡ true)
  some_in p [] e = absurd (false≢true e)
  some_in p (y ∷ ys) e = elim (or_cases (p y) (list_any p ys) e) [
    | inl h ↦ (y, inl refl, h)
    | inr h ↦ let r = some_in p ys h in (r.0, inr r.1, r.2)
  ]

  pub IsIn-left : (x : X) (xs ys : List X) → IsIn x xs → IsIn x (xs ++ ys)
  IsIn-left x [] ys i = absurd i
  IsIn-left x (y ∷ xs) ys (inl s) = inl s
  IsIn-left x (y ∷ xs) ys (inr i) = inr (IsIn-left x xs ys i)

  pub IsIn-right : (x : X) (xs ys : List X) → IsIn x ys → IsIn x (xs ++ ys)
  IsIn-right x [] ys i = i
  IsIn-right x (y ∷ xs) ys i = inr (IsIn-right x xs ys i)

  pub Contains-from_in : (x : X) (xs : List X) → IsIn x xs → Contains xs x
  Contains-from_in x [] i = absurd i
  Contains-from_in x (y ∷ ys) (inl s) = (0, omega arith, s)
  Contains-from_in x (y ∷ ys) (inr i) = let r = Contains-from_in x ys i in (suc r.0, (let lt = r.1 in omega arith), r.2)

  in_at : (x : X) (xs : List X) (i : ℕ) → i < length xs → get_or xs i x ≡ x → IsIn x xs
  in_at x [] i lt e = absurd (omega arith)
  in_at x (y ∷ ys) zero lt e = inl e
  in_at x (y ∷ ys) (suc i) lt e = inr (in_at x ys i (omega arith) e)

  pub IsIn-from_Contains : (x : X) (xs : List X) → Contains xs x → IsIn x xs
  IsIn-from_Contains x xs c = in_at x xs c.0 c.1 c.2

  pub IsIn-filter : (p : X → Bool) (xs : List X) (x : X) → IsIn x (filter p xs) → IsIn x xs × (p x ≡ true)
  IsIn-filter p [] x i = absurd i
  IsIn-filter p (y ∷ ys) x i = elim (cases_Bool (p y)) [
    | inl t ↦ elim (rw t at i) [
      | inl s ↦ (inl s, ap p (sym s) ∙ t)
      | inr j ↦ let r = IsIn-filter p ys x j in (inr r.0, r.1)
    ]
    | inr f ↦ let r = IsIn-filter p ys x (rw f at i) in (inr r.0, r.1)
  ]

  pub IsIn-kept : (p : X → Bool) (xs : List X) (x : X) → IsIn x xs → p x ≡ true → IsIn x (filter p xs)
  IsIn-kept p [] x i e = absurd i
  IsIn-kept p (y ∷ ys) x (inl s) e = let t : p y ≡ true = ap p s ∙ e in rw t (inl s)
  IsIn-kept p (y ∷ ys) x (inr i) e =
      let rest = IsIn-kept p ys x i e in
      elim (p y) as (λ b. IsIn x (cond b (y ∷ filter p ys) (filter p ys))) [ true ↦ inr rest | false ↦ rest ]

module _ {X : Type 0} (key : X → ℕ) where
  -- the keys ascend from lo on
  abbrev pub AscendsFrom : ℕ → List X → Type 0
  AscendsFrom lo [] = Unit {0}
  AscendsFrom lo (x ∷ xs) = (lo ≤ key x) × AscendsFrom (key x + 1) xs

  -- and end below hi
  abbrev pub Spans : ℕ → ℕ → List X → Type 0
  Spans lo hi [] = lo ≤ hi
  Spans lo hi (x ∷ xs) = (lo ≤ key x) × Spans (key x + 1) hi xs

  pub AscendsFrom-less : (lo lo' : ℕ) (xs : List X) → lo ≤ lo' → AscendsFrom lo' xs → AscendsFrom lo xs
  AscendsFrom-less lo lo' [] le h = tt
  AscendsFrom-less lo lo' (x ∷ xs) le h = let k = h.0 in (omega arith, h.1)

  pub AscendsFrom-spans : (lo hi : ℕ) (xs : List X) → Spans lo hi xs → AscendsFrom lo xs
  AscendsFrom-spans lo hi [] h = tt
  AscendsFrom-spans lo hi (x ∷ xs) h = (h.0, AscendsFrom-spans (key x + 1) hi xs h.1)

  pub Spans-append : (lo mid hi : ℕ) (xs ys : List X) → Spans lo mid xs → Spans mid hi ys → Spans lo hi (xs ++ ys)
  Spans-append lo mid hi [] [] h k = let a : lo ≤ mid = h in let b : mid ≤ hi = k in omega arith
  Spans-append lo mid hi [] (y ∷ ys) h k = let a : lo ≤ mid = h in let b = k.0 in (omega arith, k.1)
  Spans-append lo mid hi (x ∷ xs) ys h k = (h.0, Spans-append (key x + 1) mid hi xs ys h.1 k)

  pub AscendsFrom-filter : (p : X → Bool) (lo : ℕ) (xs : List X) → AscendsFrom lo xs → AscendsFrom lo (filter p xs)
  AscendsFrom-filter p lo [] h = tt
  AscendsFrom-filter p lo (x ∷ xs) h =
      let rest = AscendsFrom-filter p (key x + 1) xs h.1 in
      let le = h.0 in
      elim (p x) as (λ b. AscendsFrom lo (cond b (x ∷ filter p xs) (filter p xs)))
      [ true ↦ (le, rest) | false ↦ AscendsFrom-less lo (key x + 1) (filter p xs) (omega arith) rest ]

  key_from : (lo : ℕ) (xs : List X) (x : X) → AscendsFrom lo xs → IsIn x xs → lo ≤ key x
  key_from lo [] x h i = absurd i
  key_from lo (y ∷ ys) x h (inl s) = subst (λ z. lo ≤ key z) s h.0
  key_from lo (y ∷ ys) x h (inr i) = let a = h.0 in let b = key_from (key y + 1) ys x h.1 i in omega arith

  same_head : (lo lo' : ℕ) (x y : X) (xs ys : List X) → AscendsFrom lo (x ∷ xs) → AscendsFrom lo' (y ∷ ys) → IsIn x (y ∷ ys) → IsIn y (x ∷ xs) → x ≡ y
  same_head lo lo' x y xs ys h k (inl s) j = sym s
  same_head lo lo' x y xs ys h k (inr i) (inl t) = t
  same_head lo lo' x y xs ys h k (inr i) (inr j) =
      let a = key_from (key y + 1) ys x k.1 i in
      let b = key_from (key x + 1) xs y h.1 j in
      absurd (omega arith)

  behind : (lo : ℕ) (x y z : X) (xs ys : List X) → x ≡ y → AscendsFrom lo (x ∷ xs) → IsIn z xs → IsIn z (y ∷ ys) → IsIn z ys
  behind lo x y z xs ys e h i (inl s) =
      let a = key_from (key x + 1) xs z h.1 i in
      let b : key x ≡ key z = ap key (e ∙ s) in
      absurd (omega arith)
  behind lo x y z xs ys e h i (inr j) = j

  pub same_list : (lo lo' : ℕ) (xs ys : List X) → AscendsFrom lo xs → AscendsFrom lo' ys
      → ((x : X) → IsIn x xs → IsIn x ys) → ((x : X) → IsIn x ys → IsIn x xs) → xs ≡ ys
  same_list lo lo' [] [] h k there back = refl
  same_list lo lo' [] (y ∷ ys) h k there back = absurd (back y (inl refl))
  same_list lo lo' (x ∷ xs) [] h k there back = absurd (there x (inl refl))
  same_list lo lo' (x ∷ xs) (y ∷ ys) h k there back =
      let e = same_head lo lo' x y xs ys h k (there x (inl refl)) (back y (inl refl)) in
      let rest =
      same_list (key x + 1) (key y + 1) xs ys h.1 k.1 (λ z i. behind lo x y z xs ys e h i (there z (inr i)))
      (λ z i. behind lo' y x z ys xs (sym e) k i (back z (inr i))) in
      ap (λ z. z ∷ xs) e ∙ ap (λ (zs : List X). y ∷ zs) rest

  pub AscendsFrom-pairs : (lo : ℕ) (xs : List X) → ((k : ℕ) (d : X) → k < length xs → lo ≤ key (get_or xs k d))
      → AllPairs (λ x y. key x < key y) xs → AscendsFrom lo xs
  AscendsFrom-pairs lo [] low h = tt
  AscendsFrom-pairs lo (x ∷ xs) low h = (
    low 0 x (omega arith),
    AscendsFrom-pairs (key x + 1) xs
        (λ k d lt. let a : key x < key (get_or xs k d) = h 0 (suc k) d (omega arith) (omega arith) in omega arith)
        (λ i j d lt le. h (suc i) (suc j) d (omega arith) (omega arith)),
  )

  -- the only element that passes
  pub alone : (lo : ℕ) (p : X → Bool) (xs : List X) (x : X) → AscendsFrom lo xs → IsIn x xs → p x ≡ true
      → ((y : X) → IsIn y xs → p y ≡ true → y ≡ x) → filter p xs ≡ x ∷ []
  alone lo p xs x h i e one =
      same_list lo (key x) (filter p xs) (x ∷ []) (AscendsFrom-filter p lo xs h) (omega arith, tt)
      (λ y j. let r = IsIn-filter p xs y j in inl (sym (one y r.0 r.1)))
      (λ y j. elim j [ inl s ↦ subst (λ z. IsIn z (filter p xs)) s (IsIn-kept p xs x i e) | inr n ↦ absurd n ])
