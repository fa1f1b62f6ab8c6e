-- The contents of a tree's nodes, read off its rows.
use Rattle.std.proofs.Common.{◌≡◌, ℕ, ◌<◌, ◌≤◌, List, [], ◌∷◌, ◌++◌, length, Some, None, refl, sym, ap}
use Rattle.std.proofs.Common.{◌∙◌, arith, zero, suc, append_assoc, append-nil, subst, length-append}
use Rattle.std.specs.Prelude.{if◌then◌else◌}
use Rattle.std.proofs.lemmas.Bool.{eq-eqb, ne_eqb}
use Rattle.study_moves.specs.declared.moves.Move.{Move}
use Rattle.study_tree.specs.Forest.{Forest, none, more, nodes_in}
use Rattle.study_tree.specs.Edits.{node_in, width}
use Rattle.study_tree.specs.Tree.{Plain, spot_at, twig_spot, size_of}
use Rattle.study_tree.specs.Rows.{Row, rows_in, rows, AreRows, AreRowsBelow, deeper, past, cut_at, count_at, first_spot}
use Rattle.study_tree.proofs.RowBlocks.{row, cut_below, cut-none, cut-here, cut-down, cut-next, deeper-split, past-split}

module _ {L : Type 0} where
  count-below : (d e : ℕ) (f : Forest L) (rs : List (Row L)) → d < e → count_at d (rows_in e f ++ rs) ≡ count_at d rs
  count-below d e none rs p = refl
  count-below d e (more m l b r) rs p =
      rw (ne_eqb e d (λ same. absurd (omega (arith, same, p))))
      (ap (count_at d) (append_assoc (rows_in (suc e) b) (rows_in e r) rs) ∙ count-below d (suc e) b (rows_in e r ++ rs) (omega arith) ∙ count-below d e r rs p)

  count-width : (d : ℕ) (f : Forest L) → count_at d (rows_in d f) ≡ width f
  count-width d none = refl
  count-width d (more m l b r) =
      ap (λ x. if x then suc (count_at d (rows_in (suc d) b ++ rows_in d r)) else count_at d (rows_in (suc d) b ++ rows_in d r)) (eq-eqb d d refl)
      ∙ ap suc (count-below d (suc d) b (rows_in d r) (omega arith) ∙ count-width d r) ∙ omega arith

  spot-below : (d : ℕ) (f : Forest L) (k : ℕ) (ks : List ℕ) → twig_spot (node_in f k ks) ≡ first_spot (cut_below d (rows_in d f) (k ∷ ks)).block
  spot-below d none k ks = ap (λ c. first_spot c.block) (sym (cut-none d k ks))
  spot-below d (more m l b r) zero [] =
      ap (λ n. Some (record { played = Some m; label = l; children = n })) (sym (count-width (suc d) b))
      ∙ ap (λ c. first_spot c.block) (sym (cut-here d m l b r))
  spot-below d (more m l b r) zero (j ∷ js) = spot-below (suc d) b j js ∙ ap (λ c. first_spot c.block) (sym (cut-down d m l b r j js))
  spot-below d (more m l b r) (suc k) ks = spot-below d r k ks ∙ ap (λ c. first_spot c.block) (sym (cut-next d m l b r k ks))

  pub spot-rows : (t : Plain L) (steps : List ℕ) → spot_at t steps ≡ first_spot (cut_at (rows t) steps).block
  spot-rows t [] = ap (λ n. Some (record { played = None; label = t.label; children = n })) (sym (count-width 1 t.below))
  spot-rows t (k ∷ ks) = spot-below 1 t.below k ks

  length-rows_in : (d : ℕ) (f : Forest L) → length (rows_in d f) ≡ nodes_in f
  length-rows_in d none = refl
  length-rows_in d (more m l b r) = omega (arith, length-append (rows_in (suc d) b) (rows_in d r), length-rows_in (suc d) b, length-rows_in d r)

  pub size-rows : (t : Plain L) → size_of t ≡ length (rows t)
  size-rows t = omega (arith, length-rows_in 1 t.below)

  below-are : (h d : ℕ) (f : Forest L) (rs : List (Row L)) → 1 ≤ d → d ≤ suc h → ((g : ℕ) → d ≤ suc g → AreRowsBelow g rs) → AreRowsBelow h (rows_in d f ++ rs)
  below-are h d none rs low high rest = rest h high
  below-are h d (more m l b r) rs low high rest = (
    low,
    high,
    refl,
    subst (AreRowsBelow d) (sym (append_assoc (rows_in (suc d) b) (rows_in d r) rs))
        (below-are d (suc d) b (rows_in d r ++ rs) (omega arith) (omega arith) (λ g p. below-are g d r rs low (omega (arith, p)) rest)),
  )

  pub are-rows : (t : Plain L) → AreRows (rows t)
  are-rows t = (refl, refl, subst (AreRowsBelow 0) (append-nil (rows_in 1 t.below)) (below-are 0 1 t.below [] (omega arith) (omega arith) (λ g p. tt)))

  same-more : (m n : Move) (l k : L) (b a r q : Forest L) → m ≡ n → l ≡ k → b ≡ a → r ≡ q → more m l b r ≡ more n k a q
  same-more m n l k b a r q h i j o = rw (h, i, j, o) refl

  same-forest : (d : ℕ) (f g : Forest L) → rows_in d f ≡ rows_in d g → f ≡ g
  same-forest d none none h = refl
  same-forest d none (more n k a q) h = let no : ⊥ = cc in absurd no
  same-forest d (more m l b r) none h = let no : ⊥ = cc in absurd no
  same-forest d (more m l b r) (more n k a q) h =
      let first : row d m l ≡ row d n k = cc in
      let rest : (rows_in (suc d) b ++ rows_in d r) ≡ (rows_in (suc d) a ++ rows_in d q) = cc in
      let shown : Some m ≡ Some n = ap (λ x. x.played) first in
      let same : m ≡ n = cc in
      same-more m n l k b a r q same (ap (λ x. x.label) first)
      (same-forest (suc d) b a (sym (deeper-split d b r) ∙ ap (deeper d) rest ∙ deeper-split d a q))
      (same-forest d r q (sym (past-split d b r) ∙ ap (past d) rest ∙ past-split d a q))

  abbrev plain_of : L → Forest L → Plain L
  plain_of l f = record { label = l; below = f }

  same-plain : (l k : L) (b a : Forest L) → l ≡ k → b ≡ a → plain_of l b ≡ plain_of k a
  same-plain l k b a h i = rw (h, i) refl

  abbrev root_row : L → Row L
  root_row l = record { depth = 0; played = None; label = l }

  pub same-tree : (t u : Plain L) → rows t ≡ rows u → t ≡ u
  same-tree t u h =
      let first : root_row t.label ≡ root_row u.label = cc in
      let rest : rows_in 1 t.below ≡ rows_in 1 u.below = cc in
      same-plain t.label u.label t.below u.below (ap (λ x. x.label) first) (same-forest 1 t.below u.below rest)
