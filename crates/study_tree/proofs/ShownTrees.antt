-- The plain tree of a tree with its spare places.
use Rattle.std.proofs.Common.{◌≡◌, ℕ, ◌<◌, ◌≤◌, ◌+◌, List, [], ◌∷◌, length, Bool, true, false, IsTrue, Option, Some, None, refl, sym, ap, ◌∙◌, arith, zero, suc}
use Rattle.std.specs.Prelude.{is_some, if◌then◌else◌, not, nat_le}
use Rattle.std.specs.Option.{option_copied}
use Rattle.std.specs.Borrow.{Bor}
use Rattle.std.proofs.lemmas.Bool.{lt-leb, le-leb, leb-false}
use Rattle.study_tree.specs.declared.fault.TreeFault.TheVariants.{TreeFull, NoSuchNode, TooDeep}
use Rattle.study_tree.specs.Tree.{Plain, has_spot, size_of, child_refusal}
use Rattle.study_moves.specs.declared.moves.Move.{Move}
use Rattle.study_tree.specs.Forest.{Forest, none, more, Twig, forest_of, nodes_in, nodes_from}
use Rattle.study_tree.specs.Edits.{has_node, node_in, with_last, add_last, width, children_at, without_spares, place_edited, labelled_at, second, raised_at}

no-refusal : {F : Type 0} (found deep full : Bool) (a b d : F)
    → (if not found then Some a else (if deep then Some b else (if full then Some d else None))) ≡ None
    → (found ≡ true) × (deep ≡ false) × (full ≡ false)
no-refusal false deep full a b d h = let no : ⊥ = cc in absurd no
no-refusal true true full a b d h = let no : ⊥ = cc in absurd no
no-refusal true false true a b d h = let no : ⊥ = cc in absurd no
no-refusal true false false a b d h = (refl, refl, refl)

module _ {L : Type 0} where
  pub has_node-plain : (f : Forest (L × ℕ)) (ks : List ℕ) → has_node (without_spares f) ks ≡ has_node f ks
  has_node-plain f [] = refl
  has_node-plain none (k ∷ ks) = refl
  has_node-plain (more m p b r) (zero ∷ ks) = has_node-plain b ks
  has_node-plain (more m p b r) (suc k ∷ ks) = has_node-plain r (k ∷ ks)

  pub width-plain : (f : Forest (L × ℕ)) → width (without_spares f) ≡ width f
  width-plain none = refl
  width-plain (more m p b r) = ap (λ n. 1 + n) (width-plain r)

  pub children_at-plain : (f : Forest (L × ℕ)) (ks : List ℕ) → children_at (without_spares f) ks ≡ children_at f ks
  children_at-plain f [] = width-plain f
  children_at-plain none (k ∷ ks) = refl
  children_at-plain (more m p b r) (zero ∷ ks) = children_at-plain b ks
  children_at-plain (more m p b r) (suc k ∷ ks) = children_at-plain r (k ∷ ks)

  pub nodes_in-plain : (f : Forest (L × ℕ)) → nodes_in (without_spares f) ≡ nodes_in f
  nodes_in-plain none = refl
  nodes_in-plain (more m p b r) = omega (arith, nodes_in-plain b, nodes_in-plain r)

  -- the node without the number of spare places
  abbrev pub plain_twig : Option (Twig (L × ℕ)) → Option (Twig L)
  plain_twig None = None
  plain_twig (Some t) = Some (record { played = t.played; label = t.label.0; below = without_spares t.below })

  pub node_in-plain : (f : Forest (L × ℕ)) (k : ℕ) (ks : List ℕ) → node_in (without_spares f) k ks ≡ plain_twig (node_in f k ks)
  node_in-plain none k ks = refl
  node_in-plain (more m p b r) zero [] = refl
  node_in-plain (more m p b r) zero (j ∷ js) = node_in-plain b j js
  node_in-plain (more m p b r) (suc k) ks = node_in-plain r k ks

module _ {L : Type 0} where
  pub is_some-node_in : (f : Forest L) (k : ℕ) (ks : List ℕ) → is_some (node_in f k ks) ≡ has_node f (k ∷ ks)
  is_some-node_in none k ks = refl
  is_some-node_in (more m l b r) zero [] = refl
  is_some-node_in (more m l b r) zero (j ∷ js) = is_some-node_in b j js
  is_some-node_in (more m l b r) (suc k) ks = is_some-node_in r k ks

  pub width-le : (f : Forest L) → width f ≤ nodes_in f
  width-le none = omega arith
  width-le (more m l b r) = omega (arith, width-le r)

  pub children_at-le : (f : Forest L) (ks : List ℕ) → children_at f ks ≤ nodes_in f
  children_at-le f [] = width-le f
  children_at-le none (k ∷ ks) = omega arith
  children_at-le (more m l b r) (zero ∷ ks) = omega (arith, children_at-le b ks)
  children_at-le (more m l b r) (suc k ∷ ks) = omega (arith, children_at-le r (k ∷ ks))

  nodes_in-with_last : (m : Move) (l : L) (f : Forest L) → nodes_in (with_last m l f) ≡ nodes_in f + 1
  nodes_in-with_last m l none = refl
  nodes_in-with_last m l (more n k b r) = omega (arith, nodes_in-with_last m l r)

  pub nodes_in-add_last : (f : Forest L) (ks : List ℕ) (m : Move) (l : L) → IsTrue (has_node f ks) → nodes_in (add_last f ks m l) ≡ nodes_in f + 1
  nodes_in-add_last f [] m l h = nodes_in-with_last m l f
  nodes_in-add_last none (k ∷ ks) m l h = let no : ⊥ = cc in absurd no
  nodes_in-add_last (more n x b r) (zero ∷ ks) m l h = omega (arith, nodes_in-add_last b ks m l h)
  nodes_in-add_last (more n x b r) (suc k ∷ ks) m l h = omega (arith, nodes_in-add_last r (k ∷ ks) m l h)

  -- an edit at a place that keeps the number of nodes
  pub nodes_in-place_edited : (g : ℕ → Forest L → Forest L)
      → ((k : ℕ) (f : Forest L) → nodes_in (g k f) ≡ nodes_in f) → (f : Forest L) (k : ℕ) (ks : List ℕ)
      → nodes_in (place_edited g f k ks) ≡ nodes_in f
  nodes_in-place_edited g same f k [] = same k f
  nodes_in-place_edited g same none k (j ∷ js) = refl
  nodes_in-place_edited g same (more m l b r) zero (j ∷ js) = omega (arith, nodes_in-place_edited g same b j js)
  nodes_in-place_edited g same (more m l b r) (suc k) (j ∷ js) = omega (arith, nodes_in-place_edited g same r k (j ∷ js))

  pub nodes_in-labelled_at : (x : L) (k : ℕ) (f : Forest L) → nodes_in (labelled_at x k f) ≡ nodes_in f
  nodes_in-labelled_at x k none = refl
  nodes_in-labelled_at x zero (more m l b r) = refl
  nodes_in-labelled_at x (suc k) (more m l b r) = omega (arith, nodes_in-labelled_at x k r)

  nodes_in-second : (m : Move) (l : L) (b r : Forest L) → nodes_in (second m l b r) ≡ 1 + nodes_in b + nodes_in r
  nodes_in-second m l b none = refl
  nodes_in-second m l b (more n k d r) = omega arith

  pub nodes_in-raised_at : (k : ℕ) (f : Forest L) → nodes_in (raised_at k f) ≡ nodes_in f
  nodes_in-raised_at k none = refl
  nodes_in-raised_at zero (more m l b r) = refl
  nodes_in-raised_at (suc zero) (more m l b r) = nodes_in-second m l b r
  nodes_in-raised_at (suc (suc k)) (more m l b r) = omega (arith, nodes_in-raised_at (suc k) r)

pub is_some-copied : {X : Type 0} (o : Option (Bor X)) → is_some (option_copied o) ≡ is_some o
is_some-copied None = refl
is_some-copied (Some x) = refl

module _ {L : Type 0} where
  pub found_in : (f : Forest (L × ℕ)) (b : Forest L) (steps ks : List ℕ) → without_spares f ≡ b → steps ≡ ks → IsTrue (has_node b steps)
      → IsTrue (has_node f ks)
  found_in f b steps ks shown path found = sym (has_node-plain f ks) ∙ ap (λ x. has_node x ks) shown ∙ ap (has_node b) (sym path) ∙ found

  pub child_refusal-full : (t : Plain L) (steps : List ℕ) → has_spot t steps ≡ true → length steps < 256
      → 4096 ≤ size_of t → child_refusal t steps ≡ Some TreeFull
  child_refusal-full t steps found short full = rw (found, lt-leb 256 (length steps) short, le-leb 4096 (size_of t) full)

  pub child_refusal-none : (t : Plain L) (steps : List ℕ) → has_spot t steps ≡ true → length steps < 256 → size_of t < 4096 → child_refusal t steps ≡ None
  child_refusal-none t steps found short full = rw (found, lt-leb 256 (length steps) short, lt-leb 4096 (size_of t) full)

  pub size_of-shown : (f : Forest (L × ℕ)) (t : Plain L) (n : ℕ) → without_spares f ≡ t.below → n ≡ 1 + nodes_in f → n ≡ size_of t
  size_of-shown f t n shown count = omega (arith, ap nodes_in shown, nodes_in-plain f)

  -- the node at a path of the kept tree, and of the plain one
  pub has-step : (us vs : List (Twig (L × ℕ))) (b : Forest L) (k : ℕ) (ks steps : List ℕ)
      (o : Option (Twig (L × ℕ))) → vs ≡ us → without_spares (forest_of us) ≡ b → o ≡ node_in (forest_of vs) k ks
      → steps ≡ k ∷ ks
      → is_some o ≡ has_node b steps
  has-step us vs b k ks steps o same shown read path =
      rw (read, same, path, ← shown) (is_some-node_in (forest_of us) k ks ∙ sym (has_node-plain (forest_of us) (k ∷ ks)))

  pub size-added : (f h : Forest (L × ℕ)) (steps : List ℕ) (m : Move) (l : L) (n : ℕ) → IsTrue (has_node f steps)
      → without_spares h ≡ add_last (without_spares f) steps m l → n ≡ 1 + nodes_in f → n + 1 ≡ 1 + nodes_in h
  size-added f h steps m l n found added count =
      omega (arith, nodes_in-plain f, nodes_in-plain h, ap nodes_in added, nodes_in-add_last (without_spares f) steps m l (has_node-plain f steps ∙ found))

  pub size-same : (f h : Forest (L × ℕ)) (n : ℕ) → without_spares h ≡ without_spares f → n ≡ 1 + nodes_in f → n ≡ 1 + nodes_in h
  size-same f h n same count = omega (arith, nodes_in-plain f, nodes_in-plain h, ap nodes_in same)

  pub size-labelled : (f h : Forest (L × ℕ)) (k : ℕ) (ks : List ℕ) (x : L) (n : ℕ)
      → without_spares h ≡ place_edited (labelled_at x) (without_spares f) k ks → n ≡ 1 + nodes_in f → n ≡ 1 + nodes_in h
  size-labelled f h k ks x n edited count =
      omega (
        arith,
        nodes_in-plain f,
        nodes_in-plain h,
        ap nodes_in edited,
        nodes_in-place_edited (labelled_at x) (nodes_in-labelled_at x)
            (without_spares f) k ks,
      )

  pub size-raised : (f h : Forest (L × ℕ)) (k : ℕ) (ks : List ℕ) (n : ℕ)
      → without_spares h ≡ place_edited raised_at (without_spares f) k ks → n ≡ 1 + nodes_in f → n ≡ 1 + nodes_in h
  size-raised f h k ks n edited count =
      omega (arith, nodes_in-plain f, nodes_in-plain h, ap nodes_in edited, nodes_in-place_edited raised_at nodes_in-raised_at (without_spares f) k ks)

  -- a node removed: the remaining nodes, itself and those below it are all nodes there were
  pub counted-below : (f h : Forest (L × ℕ)) (t : Twig (L × ℕ)) (us vs : List (Twig (L × ℕ))) → vs ≡ us
      → 1 + nodes_in (forest_of us) ≡ nodes_from t → nodes_in h + nodes_from t ≡ nodes_in f
      → nodes_in h + (1 + nodes_in (forest_of vs)) ≡ nodes_in f
  counted-below f h t us vs same shown count = omega (arith, ap (λ xs. nodes_in (forest_of xs)) same, shown, count)

  -- the consequences of a child that is not refused
  pub child_refusal-open : (t : Plain L) (steps : List ℕ) → child_refusal t steps ≡ None → (has_spot t steps ≡ true) × (length steps < 256) × (size_of t < 4096)
  child_refusal-open t steps h =
      let open_to = no-refusal (has_spot t steps) (nat_le 256 (length steps)) (nat_le 4096 (size_of t)) NoSuchNode TooDeep TreeFull h in
      (open_to.0, leb-false 256 (length steps) open_to.1, leb-false 4096 (size_of t) open_to.2)

  pub room_for_child : (f : Forest (L × ℕ)) (t : Plain L) (steps : List ℕ) (n : ℕ) → without_spares f ≡ t.below
      → n ≡ 1 + nodes_in f → child_refusal t steps ≡ None → IsTrue (has_node f steps) × (n < 4096)
      × (length steps < 256)
  room_for_child f t steps n shown count h =
      let open_to = child_refusal-open t steps h in (
        found_in f t.below steps steps shown refl open_to.0,
        omega (arith, size_of-shown f t n shown count, open_to.2),
        open_to.1,
      )
