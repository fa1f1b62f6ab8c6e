-- Labels changed in place.
use Rattle.std.proofs.Common.{◌≡◌, ℕ, ◌<◌, ◌≤◌, ◌+◌, List, [], ◌∷◌, ◌++◌, length, get_or, set, refl, sym, ap, ◌∙◌, arith, zero, suc, subst}
use Rattle.std.specs.Prelude.{take, drop}
use Rattle.study_tree.specs.Forest.{Forest, none, more, Twig, forest_of, nodes_in}
use Rattle.study_tree.specs.Edits.{without_spares, IsWithin}
use Rattle.study_tree.specs.Changes.{Pass, changed_along, rewritten}
use Rattle.study_tree.proofs.ShownTrees.{nodes_in-plain}

-- the first elements of a list and the others, if one is written
take-set : {X : Type 0} (xs : List X) (k : ℕ) (x : X) → k < length xs → take (suc k) (set xs k x) ≡ take k xs ++ x ∷ []
take-set [] k x h = absurd (omega arith)
take-set (y ∷ ys) zero x h = refl
take-set (y ∷ ys) (suc k) x h = ap (λ zs. y ∷ zs) (take-set ys k x (omega arith))

drop-next : {X : Type 0} (xs : List X) (k : ℕ) (x : X) → k < length xs → x ≡ get_or xs k x → drop k xs ≡ x ∷ drop (suc k) xs
drop-next [] k x h e = absurd (omega arith)
drop-next (y ∷ ys) zero x h e = ap (λ z. z ∷ ys) (sym e)
drop-next (y ∷ ys) (suc k) x h e = drop-next ys k x (omega arith) e

drop-past : {X : Type 0} (xs : List X) (k : ℕ) (x : X) → k < length xs → drop (suc k) (set xs k x) ≡ drop (suc k) xs
drop-past [] k x h = absurd (omega arith)
drop-past (y ∷ ys) zero x h = refl
drop-past (y ∷ ys) (suc k) x h = drop-past ys k x (omega arith)

drop-end : {X : Type 0} (xs : List X) (k : ℕ) → length xs ≤ k → (drop k xs ≡ []) × (take k xs ≡ xs)
drop-end [] zero h = (refl, refl)
drop-end [] (suc k) h = (refl, refl)
drop-end (y ∷ ys) zero h = absurd (omega arith)
drop-end (y ∷ ys) (suc k) h = let e = drop-end ys k (omega arith) in (e.0, ap (λ zs. y ∷ zs) e.1)

module _ {L : Type 0} where
  -- along a path
  pub changed-set : (g : ℕ → L → L) (d : ℕ) (ts : List (Twig (L × ℕ))) (k : ℕ) (ks : List ℕ) (t u : Twig (L × ℕ))
      → k < length ts → t ≡ get_or ts k t → u.played ≡ t.played → u.label.0 ≡ g d t.label.0
      → without_spares u.below ≡ changed_along g (d + 1) (without_spares t.below) ks
      → without_spares (forest_of (set ts k u)) ≡ changed_along g d (without_spares (forest_of ts)) (k ∷ ks)
  changed-set g d [] k ks t u p e same label below = absurd (omega arith)
  changed-set g d (v ∷ ts) zero ks t u p e same label below =
      rw (same, label, below)
      (ap (λ (x : Twig (L × ℕ)). more x.played (g d x.label.0) (changed_along g (d + 1) (without_spares x.below) ks) (without_spares (forest_of ts))) e)
  changed-set g d (v ∷ ts) (suc k) ks t u p e same label below =
      ap (more v.played v.label.0 (without_spares v.below)) (changed-set g d ts k ks t u (omega arith) e same label below)

  pub changed-here : (g : ℕ → L → L) (d : ℕ) (f : Forest L) (ks : List ℕ) → length ks ≡ 0 → changed_along g d f ks ≡ f
  changed-here g d f [] z = refl
  changed-here g d f (k ∷ ks) z = absurd (omega arith)

  nodes_in-changed : (g : ℕ → L → L) (d : ℕ) (f : Forest L) (ks : List ℕ) → nodes_in (changed_along g d f ks) ≡ nodes_in f
  nodes_in-changed g d f [] = refl
  nodes_in-changed g d none (k ∷ ks) = refl
  nodes_in-changed g d (more m l b r) (zero ∷ ks) = omega (arith, nodes_in-changed g (d + 1) b ks)
  nodes_in-changed g d (more m l b r) (suc k ∷ ks) = omega (arith, nodes_in-changed g d r (k ∷ ks))

  IsWithin-changed : (g : ℕ → L → L) (n d : ℕ) (f : Forest L) (ks : List ℕ) → IsWithin n f → IsWithin n (changed_along g d f ks)
  IsWithin-changed g n d f [] h = h
  IsWithin-changed g n d none (k ∷ ks) h = h
  IsWithin-changed g zero d (more m l b r) (k ∷ ks) h = absurd h
  IsWithin-changed g (suc n) d (more m l b r) (zero ∷ ks) h = (IsWithin-changed g n (d + 1) b ks h.0, h.1)
  IsWithin-changed g (suc n) d (more m l b r) (suc k ∷ ks) h = (h.0, IsWithin-changed g (suc n) d r (k ∷ ks) h.1)

  pub size-changed : (f h : Forest (L × ℕ)) (g : ℕ → L → L) (d : ℕ) (ks : List ℕ) (n : ℕ)
      → without_spares h ≡ changed_along g d (without_spares f) ks → n ≡ 1 + nodes_in f → n ≡ 1 + nodes_in h
  size-changed f h g d ks n edited count =
      omega (arith, nodes_in-plain f, nodes_in-plain h, ap nodes_in edited, nodes_in-changed g d (without_spares f) ks)

  pub within-changed : (n : ℕ) (f h : Forest (L × ℕ)) (g : ℕ → L → L) (d : ℕ) (ks : List ℕ)
      → without_spares h ≡ changed_along g d (without_spares f) ks → IsWithin n (without_spares f) → IsWithin n (without_spares h)
  within-changed n f h g d ks edited w = subst (IsWithin n) (sym edited) (IsWithin-changed g n d (without_spares f) ks w)

  -- all, in written order
  nodes_in-rewritten : (p : Pass L) (d k n : ℕ) (q : L) (f : Forest L) → nodes_in (rewritten p d k n q f).1 ≡ nodes_in f
  nodes_in-rewritten p d k n q none = refl
  nodes_in-rewritten p d k n q (more m l b r) =
      let c = rewritten p (d + 1) 0 (n + 1) (p.entered d n q l) b in
      omega (
        arith,
        nodes_in-rewritten p (d + 1) 0 (n + 1) (p.entered d n q l) b,
        nodes_in-rewritten p d (suc k) (n + 1 + nodes_in b) (p.joined d k q c.0) r,
      )

  IsWithin-rewritten : (p : Pass L) (w d k n : ℕ) (q : L) (f : Forest L) → IsWithin w f → IsWithin w (rewritten p d k n q f).1
  IsWithin-rewritten p w d k n q none h = tt
  IsWithin-rewritten p zero d k n q (more m l b r) h = absurd h
  IsWithin-rewritten p (suc w) d k n q (more m l b r) h = (
    IsWithin-rewritten p w (d + 1) 0 (n + 1) (p.entered d n q l) b h.0,
    IsWithin-rewritten p (suc w) d (suc k) (n + 1 + nodes_in b) (p.joined d k q (rewritten p (d + 1) 0 (n + 1) (p.entered d n q l) b).0) r h.1,
  )

  pub size-rewritten : (f h : Forest (L × ℕ)) (p : Pass L) (d k n : ℕ) (q : L) (size : ℕ)
      → without_spares h ≡ (rewritten p d k n q (without_spares f)).1 → size ≡ 1 + nodes_in f → size ≡ 1 + nodes_in h
  size-rewritten f h p d k n q size edited count =
      omega (arith, nodes_in-plain f, nodes_in-plain h, ap nodes_in edited, nodes_in-rewritten p d k n q (without_spares f))

  pub within-rewritten : (w : ℕ) (f h : Forest (L × ℕ)) (p : Pass L) (d k n : ℕ) (q : L)
      → without_spares h ≡ (rewritten p d k n q (without_spares f)).1 → IsWithin w (without_spares f) → IsWithin w (without_spares h)
  within-rewritten w f h p d k n q edited h2 = subst (IsWithin w) (sym edited) (IsWithin-rewritten p w d k n q (without_spares f) h2)

  -- one list of nodes beside another
  abbrev pub beside : Forest L → Forest L → Forest L
  beside none g = g
  beside (more m l b r) g = more m l b (beside r g)

  beside-none : (f : Forest L) → beside f none ≡ f
  beside-none none = refl
  beside-none (more m l b r) = ap (more m l b) (beside-none r)

  beside-last : (us : List (Twig (L × ℕ))) (u : Twig (L × ℕ)) (g : Forest L)
      → beside (without_spares (forest_of (us ++ u ∷ []))) g ≡ beside (without_spares (forest_of us)) (more u.played u.label.0 (without_spares u.below) g)
  beside-last [] u g = refl
  beside-last (w ∷ us) u g = ap (more w.played w.label.0 (without_spares w.below)) (beside-last us u g)

  -- the rest, to be written once the first k nodes are, if the parent's label is q and the next number n, completes the whole
  pub record IsLeft (p : Pass L) (d : ℕ) (whole : L × Forest L) (first sum : ℕ) (now : List (Twig (L × ℕ))) (k n : ℕ) (q : L) : Type 0 where
    pub label : whole.0 ≡ (rewritten p d k n q (without_spares (forest_of (drop k now)))).0
    pub below : whole.1 ≡ beside (without_spares (forest_of (take k now))) (rewritten p d k n q (without_spares (forest_of (drop k now)))).1
    pub number : n + nodes_in (forest_of (drop k now)) ≡ sum
    pub within : k ≤ length now
    pub done : first + k ≤ n

  pub left-all : (p : Pass L) (d n : ℕ) (q : L) (now : List (Twig (L × ℕ)))
      → IsLeft p d (rewritten p d 0 n q (without_spares (forest_of now))) n (n + nodes_in (forest_of now)) now 0 n q
  left-all p d n q now = record { label = refl; below = refl; number = refl; within = omega arith; done = omega arith }

  pub left-few : {p : Pass L} {d : ℕ} {whole : L × Forest L} {first sum : ℕ} {now : List (Twig (L × ℕ))} {k n : ℕ} {q : L}
      → IsLeft p d whole first sum now k n q → (v : Twig (L × ℕ)) → k < length now → v ≡ get_or now k v
      → n + 1 + nodes_in v.below + nodes_in (forest_of (drop (suc k) now)) ≡ sum
  left-few {now = now} {k} s v h e = omega (arith, s.number, ap (λ xs. nodes_in (forest_of xs)) (drop-next now k v h e))

  pub left-next : {p : Pass L} {d : ℕ} {whole : L × Forest L} {first sum : ℕ} {now : List (Twig (L × ℕ))} {k n : ℕ} {q : L}
      → IsLeft p d whole first sum now k n q → (v u : Twig (L × ℕ)) (x q2 : L) (n2 : ℕ) → k < length now → v ≡ get_or now k v
      → u.played ≡ v.played → x ≡ p.entered d n q v.label.0
      → u.label.0 ≡ (rewritten p (d + 1) 0 (n + 1) x (without_spares v.below)).0
      → without_spares u.below ≡ (rewritten p (d + 1) 0 (n + 1) x (without_spares v.below)).1
      → q2 ≡ p.joined d k q u.label.0 → n2 ≡ n + 1 + nodes_in v.below
      → IsLeft p d whole first sum (set now k u) (suc k) n2 q2
  left-next {p} {d} {whole} {first} {sum} {now} {k} {n} {q} s v u x q2 n2 h e same entered label below joined number = record {
    label = s.label ∙ ap (λ (z : L × Forest L). z.0) whole_is;
    below = s.below ∙ ap (λ (z : L × Forest L). beside (without_spares (forest_of (take k now))) z.1) whole_is
        ∙ sym (beside-last (take k now) u (rewritten p d (suc k) n2 q2 later).1)
        ∙ ap (λ xs. beside (without_spares (forest_of xs)) (rewritten p d (suc k) n2 q2 later).1) (sym (take-set now k u h));
    number = omega (arith, number, left-few s v h e, ap (λ xs. nodes_in (forest_of xs)) (drop-past now k u h));
    within = omega (arith, length-set now k u h);
    done = omega (arith, number, s.done);
  }
    where
      later : Forest L
      later = without_spares (forest_of (drop (suc k) (set now k u)))

      length-set : {X : Type 0} (xs : List X) (i : ℕ) (y : X) → i < length xs → length (set xs i y) ≡ length xs
      length-set [] i y h = absurd (omega arith)
      length-set (z ∷ zs) zero y h = refl
      length-set (z ∷ zs) (suc i) y h = ap suc (length-set zs i y (omega arith))

      shown : without_spares (forest_of (drop k now)) ≡ more v.played v.label.0 (without_spares v.below) later
      shown = ap (λ xs. without_spares (forest_of xs)) (drop-next now k v h e)
          ∙ ap (λ xs. more v.played v.label.0 (without_spares v.below) (without_spares (forest_of xs))) (sym (drop-past now k u h))

      whole_is : rewritten p d k n q (without_spares (forest_of (drop k now)))
          ≡ ((rewritten p d (suc k) n2 q2 later).0, more u.played u.label.0 (without_spares u.below) (rewritten p d (suc k) n2 q2 later).1)
      whole_is = ap (rewritten p d k n q) shown ∙ go x entered label below joined
        where
          go : (x : L) → x ≡ p.entered d n q v.label.0 → u.label.0 ≡ (rewritten p (d + 1) 0 (n + 1) x (without_spares v.below)).0
              → without_spares u.below ≡ (rewritten p (d + 1) 0 (n + 1) x (without_spares v.below)).1
              → q2 ≡ p.joined d k q u.label.0
              → rewritten p d k n q (more v.played v.label.0 (without_spares v.below) later)
              ≡ ((rewritten p d (suc k) n2 q2 later).0, more u.played u.label.0 (without_spares u.below) (rewritten p d (suc k) n2 q2 later).1)
          go x ex el eb ej =
              let size : n2 ≡ n + 1 + nodes_in (without_spares v.below) = omega (arith, number, nodes_in-plain v.below) in
              rw (ej, el, eb, same, size, ex) refl

  pub left-more : {p : Pass L} {d : ℕ} {whole : L × Forest L} {first sum : ℕ} {now : List (Twig (L × ℕ))} {k n : ℕ} {q : L}
      → IsLeft p d whole first sum now (suc k) n q → IsLeft p d whole first sum now (k + 1) n q
  left-more {p} {d} {whole} {first} {sum} {now} {k} {n} {q} s =
      subst (λ j. IsLeft p d whole first sum now j n q) (let z : suc k ≡ k + 1 = omega arith in z) s

  pub left-none : {p : Pass L} {d : ℕ} {whole : L × Forest L} {first sum : ℕ} {now : List (Twig (L × ℕ))} {k n : ℕ} {q : L}
      → IsLeft p d whole first sum now k n q → length now ≤ k
      → (q ≡ whole.0) × (without_spares (forest_of now) ≡ whole.1) × (n ≡ sum)
  left-none {p} {d} {whole} {first} {sum} {now} {k} {n} {q} s h =
      let e = drop-end now k h in (
        sym (s.label ∙ ap (λ xs. (rewritten p d k n q (without_spares (forest_of xs))).0) e.0),
        sym (s.below ∙ ap (λ xs. beside (without_spares (forest_of (take k now))) (rewritten p d k n q (without_spares (forest_of xs))).1) e.0
            ∙ beside-none (without_spares (forest_of (take k now))) ∙ ap (λ xs. without_spares (forest_of xs)) e.1),
        omega (arith, s.number, ap (λ xs. nodes_in (forest_of xs)) e.0),
      )
