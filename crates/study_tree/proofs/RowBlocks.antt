-- The rows of a tree, cut at the block of a node.
use Rattle.std.proofs.Common.{◌≡◌, ℕ, ◌<◌, List, [], ◌∷◌, ◌++◌, Some, refl, sym, ap, ◌∙◌, arith, zero, suc, append_assoc, append-nil}
use Rattle.std.specs.Prelude.{if◌then◌else◌}
use Rattle.std.proofs.lemmas.Bool.{lt-ltb, le-ltb, eq-eqb, ne_eqb}
use Rattle.study_moves.specs.declared.moves.Move.{Move}
use Rattle.study_tree.specs.Forest.{Forest, none, more}
use Rattle.study_tree.specs.Rows.{Row, Cut, rows_in, deeper, past, first_block, past_block, before_child, from_child, around, cut_at}

module _ {L : Type 0} where
  abbrev pub row : ℕ → Move → L → Row L
  row d m l = record { depth = d; played = Some m; label = l }

  -- the rows of nodes at depth d begin with one that is not deeper than d
  deeper-rows : (d : ℕ) (f : Forest L) → deeper d (rows_in d f) ≡ []
  deeper-rows d none = refl
  deeper-rows d (more m l b r) = rw (le-ltb d d (omega arith)) refl

  past-rows : (d : ℕ) (f : Forest L) → past d (rows_in d f) ≡ rows_in d f
  past-rows d none = refl
  past-rows d (more m l b r) = rw (le-ltb d d (omega arith)) refl

  -- the rows of nodes at a greater depth are all deeper
  deeper-below : (d e : ℕ) (f : Forest L) (rs : List (Row L)) → d < e → deeper d (rows_in e f ++ rs) ≡ rows_in e f ++ deeper d rs
  deeper-below d e none rs p = refl
  deeper-below d e (more m l b r) rs p =
      rw (lt-ltb d e p)
      (ap (λ xs. row e m l ∷ xs)
      (ap (deeper d) (append_assoc (rows_in (suc e) b) (rows_in e r) rs) ∙ deeper-below d (suc e) b (rows_in e r ++ rs) (omega arith)
      ∙ ap (λ xs. rows_in (suc e) b ++ xs) (deeper-below d e r rs p) ∙ sym (append_assoc (rows_in (suc e) b) (rows_in e r) (deeper d rs))))

  past-below : (d e : ℕ) (f : Forest L) (rs : List (Row L)) → d < e → past d (rows_in e f ++ rs) ≡ past d rs
  past-below d e none rs p = refl
  past-below d e (more m l b r) rs p =
      rw (lt-ltb d e p)
      (ap (past d) (append_assoc (rows_in (suc e) b) (rows_in e r) rs) ∙ past-below d (suc e) b (rows_in e r ++ rs) (omega arith) ∙ past-below d e r rs p)

  -- after a row: the rows below it, and those of its later siblings
  pub deeper-split : (d : ℕ) (b r : Forest L) → deeper d (rows_in (suc d) b ++ rows_in d r) ≡ rows_in (suc d) b
  deeper-split d b r = deeper-below d (suc d) b (rows_in d r) (omega arith) ∙ ap (λ xs. rows_in (suc d) b ++ xs)
      (deeper-rows d r) ∙ append-nil (rows_in (suc d) b)

  pub past-split : (d : ℕ) (b r : Forest L) → past d (rows_in (suc d) b ++ rows_in d r) ≡ rows_in d r
  past-split d b r = past-below d (suc d) b (rows_in d r) (omega arith) ∙ past-rows d r

  -- no rows deeper than d belong to a child at depth d
  before-below : (d e k : ℕ) (f : Forest L) (rs : List (Row L)) → d < e → before_child d k (rows_in e f ++ rs) ≡ rows_in e f ++ before_child d k rs
  before-below d e k none rs p = refl
  before-below d e zero (more m l b r) rs p =
      rw (ne_eqb e d (λ same. absurd (omega (arith, same, p))))
      (ap (λ xs. row e m l ∷ xs)
      (ap (before_child d zero) (append_assoc (rows_in (suc e) b) (rows_in e r) rs) ∙ before-below d (suc e) zero b (rows_in e r ++ rs) (omega arith)
      ∙ ap (λ xs. rows_in (suc e) b ++ xs) (before-below d e zero r rs p) ∙ sym (append_assoc (rows_in (suc e) b) (rows_in e r) (before_child d zero rs))))
  before-below d e (suc k) (more m l b r) rs p =
      rw (ne_eqb e d (λ same. absurd (omega (arith, same, p))))
      (ap (λ xs. row e m l ∷ xs)
      (ap (before_child d (suc k)) (append_assoc (rows_in (suc e) b) (rows_in e r) rs) ∙ before-below d (suc e) (suc k) b (rows_in e r ++ rs) (omega arith)
      ∙ ap (λ xs. rows_in (suc e) b ++ xs) (before-below d e (suc k) r rs p)
      ∙ sym (append_assoc (rows_in (suc e) b) (rows_in e r) (before_child d (suc k) rs))))

  from-below : (d e k : ℕ) (f : Forest L) (rs : List (Row L)) → d < e → from_child d k (rows_in e f ++ rs) ≡ from_child d k rs
  from-below d e k none rs p = refl
  from-below d e zero (more m l b r) rs p =
      rw (ne_eqb e d (λ same. absurd (omega (arith, same, p))))
      (ap (from_child d zero) (append_assoc (rows_in (suc e) b) (rows_in e r) rs) ∙ from-below d (suc e) zero b
      (rows_in e r ++ rs) (omega arith) ∙ from-below d e zero r rs p)
  from-below d e (suc k) (more m l b r) rs p =
      ap (λ x. from_child d (if x then k else suc k) ((rows_in (suc e) b ++ rows_in e r) ++ rs)) (ne_eqb e d (λ same. absurd (omega (arith, same, p))))
      ∙ ap (from_child d (suc k)) (append_assoc (rows_in (suc e) b) (rows_in e r) rs) ∙ from-below d (suc e) (suc k)
      b (rows_in e r ++ rs) (omega arith) ∙ from-below d e (suc k) r rs p

  before-next : (d : ℕ) (m : Move) (l : L) (b r : Forest L) (k : ℕ)
      → before_child d (suc k) (rows_in d (more m l b r)) ≡ (row d m l ∷ rows_in (suc d) b) ++ before_child d k
      (rows_in d r)
  before-next d m l b r k =
      ap (λ x. row d m l ∷ before_child d (if x then k else suc k) (rows_in (suc d) b ++ rows_in d r)) (eq-eqb d d refl)
      ∙ ap (λ xs. row d m l ∷ xs) (before-below d (suc d) k b (rows_in d r) (omega arith))

  from-next : (d : ℕ) (m : Move) (l : L) (b r : Forest L) (k : ℕ) → from_child d (suc k) (rows_in d (more m l b r)) ≡ from_child d k (rows_in d r)
  from-next d m l b r k =
      ap (λ x. from_child d (if x then k else suc k) (rows_in (suc d) b ++ rows_in d r)) (eq-eqb d d refl)
      ∙ from-below d (suc d) k b (rows_in d r) (omega arith)

  -- rows of siblings at depth d, cut at the block of the node at the path: its first place is among them
  abbrev pub cut_below : ℕ → List (Row L) → List ℕ → Cut L
  cut_below d rs [] = record { before = []; block = []; after = [] }
  cut_below d rs (k ∷ ks) = around (before_child d k rs) (cut_at (first_block (from_child d k rs)) ks) (past_block (from_child d k rs))

  -- more rows before a cut
  abbrev pub later : List (Row L) → Cut L → Cut L
  later x c = record { before = x ++ c.before; block = c.block; after = c.after }

  around-later : (x y : List (Row L)) (c : Cut L) (z : List (Row L)) → around (x ++ y) c z ≡ later x (around y c z)
  around-later x y c z = ap (λ xs. record { before = xs; block = c.block; after = c.after ++ z }) (append_assoc x y c.before)

  pub cut-none : (d k : ℕ) (ks : List ℕ) → cut_below d [] (k ∷ ks) ≡ record { before = []; block = []; after = [] }
  cut-none d zero [] = refl
  cut-none d zero (j ∷ js) = refl
  cut-none d (suc k) [] = refl
  cut-none d (suc k) (j ∷ js) = refl

  -- the node is the first of the siblings, or below it
  pub cut-first : (d : ℕ) (m : Move) (l : L) (b r : Forest L) (ks : List ℕ)
      → cut_below d (rows_in d (more m l b r)) (zero ∷ ks) ≡ around [] (cut_at (row d m l ∷ rows_in (suc d) b) ks) (rows_in d r)
  cut-first d m l b r ks =
      rw (eq-eqb d d refl, deeper-split d b r, past-split d b r) refl

  pub cut-here : (d : ℕ) (m : Move) (l : L) (b r : Forest L)
      → cut_below d (rows_in d (more m l b r)) (zero ∷ []) ≡ record { before = []; block = row d m l ∷ rows_in (suc d) b; after = rows_in d r }
  cut-here d m l b r = cut-first d m l b r []

  pub cut-down : (d : ℕ) (m : Move) (l : L) (b r : Forest L) (j : ℕ) (js : List ℕ)
      → cut_below d (rows_in d (more m l b r)) (zero ∷ j ∷ js) ≡ around (row d m l ∷ []) (cut_below (suc d) (rows_in (suc d) b) (j ∷ js)) (rows_in d r)
  cut-down d m l b r j js = cut-first d m l b r (j ∷ js)

  -- the node is a later sibling, or below one
  pub cut-next : (d : ℕ) (m : Move) (l : L) (b r : Forest L) (k : ℕ) (ks : List ℕ)
      → cut_below d (rows_in d (more m l b r)) (suc k ∷ ks) ≡ later (row d m l ∷ rows_in (suc d) b) (cut_below d (rows_in d r) (k ∷ ks))
  cut-next d m l b r k ks =
      ap (λ xs. around xs (cut_at (first_block (from_child d (suc k) (rows_in d (more m l b r)))) ks)
      (past_block (from_child d (suc k) (rows_in d (more m l b r))))) (before-next d m l b r k)
      ∙ ap (λ xs. around ((row d m l ∷ rows_in (suc d) b) ++ before_child d k (rows_in d r))
      (cut_at (first_block xs) ks) (past_block xs)) (from-next d m l b r k)
      ∙ around-later (row d m l ∷ rows_in (suc d) b) (before_child d k (rows_in d r))
      (cut_at (first_block (from_child d k (rows_in d r))) ks) (past_block (from_child d k (rows_in d r)))
