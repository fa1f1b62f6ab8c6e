-- An edit of a tree is the edit of its rows.
use Rattle.std.proofs.Common.{◌≡◌, ℕ, List, [], ◌∷◌, ◌++◌, Bool, true, false, IsTrue, Some, None}
use Rattle.std.proofs.Common.{refl, sym, ap, ◌∙◌, arith, zero, suc, append_assoc, append-nil}
use Rattle.study_moves.specs.declared.moves.Move.{Move}
use Rattle.study_tree.specs.Forest.{Forest, none, more}
use Rattle.study_tree.specs.Edits.{below_edited, with_last, add_last, place_edited, dropped_at, labelled_at, raised_at, last_place, has_node}
use Rattle.std.specs.Prelude.{if◌then◌else◌, not, nat_eq}
use Rattle.std.proofs.lemmas.Bool.{eqb-false}
use Rattle.study_tree.specs.declared.fault.TreeFault.TheVariants.{NoSuchNode, AlreadyFirst}
use Rattle.study_tree.specs.Tree.{Plain, with_child, without, with_label, moved_up, move_up_refusal}
use Rattle.study_tree.specs.Rows.{Row, Cut, rows_in, rows, around, cut_at, replaced, blocks_exchanged}
use Rattle.study_tree.specs.Rows.{with_last_row, with_first_label, rows_with_child, rows_without}
use Rattle.study_tree.specs.Rows.{rows_with_label, rows_moved_up, sibling_before, place_before}
use Rattle.study_tree.proofs.RowBlocks.{row, cut_below, later, cut-none, cut-here, cut-down, cut-next}

module _ {L : Type 0} where
  -- an edit of the node at a path, whose first place is k, that puts another block in place of the node's
  record BlockEdit (edit : Forest L → ℕ → List ℕ → Forest L) (block : List (Row L) → List (Row L)) : Type 0 where
    pub missing : block [] ≡ []
    pub at_none : (k : ℕ) (ks : List ℕ) → edit none k ks ≡ none
    pub at_here : (d : ℕ) (m : Move) (l : L) (b r : Forest L) → rows_in d (edit (more m l b r) zero []) ≡ block (row d m l ∷ rows_in (suc d) b) ++ rows_in d r
    pub at_down : (m : Move) (l : L) (b r : Forest L) (j : ℕ) (js : List ℕ) → edit (more m l b r) zero (j ∷ js) ≡ more m l (edit b j js) r
    pub at_next : (m : Move) (l : L) (b r : Forest L) (k : ℕ) (ks : List ℕ) → edit (more m l b r) (suc k) ks ≡ more m l b (edit r k ks)

  replaced-around : (block : List (Row L) → List (Row L)) (x : List (Row L)) (c : Cut L) (y : List (Row L))
      → x ++ (replaced block c ++ y) ≡ replaced block (around x c y)
  replaced-around block x c y =
      ap (λ xs. x ++ xs) (append_assoc c.before (block c.block ++ c.after) y ∙ ap (λ xs. c.before ++ xs) (append_assoc (block c.block) c.after y))
      ∙ sym (append_assoc x c.before (block c.block ++ (c.after ++ y)))

  replaced-later : (block : List (Row L) → List (Row L)) (x : List (Row L)) (c : Cut L) → x ++ replaced block c ≡ replaced block (later x c)
  replaced-later block x c = sym (append_assoc x c.before (block c.block ++ c.after))

  edited-rows : {edit : Forest L → ℕ → List ℕ → Forest L} {block : List (Row L) → List (Row L)}
      → BlockEdit edit block → (d : ℕ) (f : Forest L) (k : ℕ) (ks : List ℕ)
      → rows_in d (edit f k ks) ≡ replaced block (cut_below d (rows_in d f) (k ∷ ks))
  edited-rows {edit} {block} e d none k ks =
      ap (rows_in d) (e.at_none k ks) ∙ ap (λ xs. xs ++ []) (sym e.missing) ∙ ap (replaced block) (sym (cut-none d k ks))
  edited-rows {edit} {block} e d (more m l b r) zero [] = e.at_here d m l b r ∙ ap (replaced block) (sym (cut-here d m l b r))
  edited-rows {edit} {block} e d (more m l b r) zero (j ∷ js) =
      ap (rows_in d) (e.at_down m l b r j js)
      ∙ ap (λ xs. row d m l ∷ (xs ++ rows_in d r)) (edited-rows e (suc d) b j js)
      ∙ replaced-around block (row d m l ∷ []) (cut_below (suc d) (rows_in (suc d) b) (j ∷ js)) (rows_in d r)
      ∙ ap (replaced block) (sym (cut-down d m l b r j js))
  edited-rows {edit} {block} e d (more m l b r) (suc k) ks =
      ap (rows_in d) (e.at_next m l b r k ks)
      ∙ ap (λ xs. (row d m l ∷ rows_in (suc d) b) ++ xs) (edited-rows e d r k ks)
      ∙ replaced-later block (row d m l ∷ rows_in (suc d) b) (cut_below d (rows_in d r) (k ∷ ks))
      ∙ ap (replaced block) (sym (cut-next d m l b r k ks))

  place-none : (g : ℕ → Forest L → Forest L) → ((k : ℕ) → g k none ≡ none) → (k : ℕ) (ks : List ℕ) → place_edited g none k ks ≡ none
  place-none g empty k [] = empty k
  place-none g empty k (j ∷ js) = refl

  place-next : (g : ℕ → Forest L → Forest L)
      → ((m : Move) (l : L) (b r : Forest L) (k : ℕ) → g (suc k) (more m l b r) ≡ more m l b (g k r))
      → (m : Move) (l : L) (b r : Forest L) (k : ℕ) (ks : List ℕ)
      → place_edited g (more m l b r) (suc k) ks ≡ more m l b (place_edited g r k ks)
  place-next g next m l b r k [] = next m l b r k
  place-next g next m l b r k (j ∷ js) = refl

  dropped-none : (k : ℕ) → dropped_at {L = L} k none ≡ none
  dropped-none zero = refl
  dropped-none (suc k) = refl

  labelled-none : (x : L) (k : ℕ) → labelled_at x k none ≡ none
  labelled-none x zero = refl
  labelled-none x (suc k) = refl

  below-none : (g : Forest L → Forest L) (k : ℕ) (ks : List ℕ) → below_edited g none (k ∷ ks) ≡ none
  below-none g zero ks = refl
  below-none g (suc k) ks = refl

  pub rows-last : (m : Move) (l : L) (d : ℕ) (f : Forest L) → rows_in d (with_last m l f) ≡ rows_in d f ++ row d m l ∷ []
  rows-last m l d none = refl
  rows-last m l d (more n k b r) =
      ap (λ xs. row d n k ∷ xs) (ap (λ xs. rows_in (suc d) b ++ xs) (rows-last m l d r) ∙ sym (append_assoc (rows_in (suc d) b) (rows_in d r) (row d m l ∷ [])))

  dropped : BlockEdit (place_edited dropped_at) (λ block. [])
  dropped =
      record {
        missing = refl;
        at_none = place-none dropped_at dropped-none;
        at_here = λ d m l b r. refl;
        at_down = λ m l b r j js. refl;
        at_next = place-next dropped_at (λ m l b r k. refl);
      }

  labelled : (x : L) → BlockEdit (place_edited (labelled_at x)) (with_first_label x)
  labelled x =
      record {
        missing = refl;
        at_none = place-none (labelled_at x) (labelled-none x);
        at_here = λ d m l b r. refl;
        at_down = λ m l b r j js. refl;
        at_next = place-next (labelled_at x) (λ m l b r k. refl);
      }

  added : (x : Move) (y : L) → BlockEdit (λ f k ks. add_last f (k ∷ ks) x y) (with_last_row x y)
  added x y =
      record {
        missing = refl;
        at_none = λ k ks. below-none (with_last x y) k ks;
        at_here = λ d m l b r. ap (λ xs. row d m l ∷ (xs ++ rows_in d r)) (rows-last x y (suc d) b);
        at_down = λ m l b r j js. refl;
        at_next = λ m l b r k ks. refl;
      }

  abbrev pub root_row : L → Row L
  root_row l = record { depth = 0; played = None; label = l }

  pub child-rows : (t : Plain L) (steps : List ℕ) (m : Move) (l : L) → rows (with_child t steps m l) ≡ rows_with_child (rows t) steps m l
  child-rows t [] m l = ap (λ xs. root_row t.label ∷ xs) (rows-last m l 1 t.below) ∙ sym (append-nil _)
  child-rows t (k ∷ ks) m l = ap (λ xs. root_row t.label ∷ xs) (edited-rows (added m l) 1 t.below k ks)

  pub dropped-rows : (t : Plain L) (k : ℕ) (ks : List ℕ) → rows (without t (k ∷ ks)) ≡ rows_without (rows t) (k ∷ ks)
  dropped-rows t k ks = ap (λ xs. root_row t.label ∷ xs) (edited-rows dropped 1 t.below k ks)

  pub label-rows : (t : Plain L) (steps : List ℕ) (l : L) → rows (with_label t steps l) ≡ rows_with_label (rows t) steps l
  label-rows t [] l = sym (append-nil _)
  label-rows t (k ∷ ks) l = ap (λ xs. root_row t.label ∷ xs) (edited-rows (labelled l) 1 t.below k ks)

-- the path to the sibling before, by its first place and the rest
abbrev sibling_place : ℕ → List ℕ → ℕ
sibling_place k [] = place_before k
sibling_place k (j ∷ js) = k

abbrev sibling_rest : List ℕ → List ℕ
sibling_rest [] = []
sibling_rest (j ∷ js) = sibling_place j js ∷ sibling_rest js

sibling-parts : (k : ℕ) (ks : List ℕ) → sibling_before (k ∷ ks) ≡ sibling_place k ks ∷ sibling_rest ks
sibling-parts k [] = refl
sibling-parts k (j ∷ js) = ap (λ xs. k ∷ xs) (sibling-parts j js)

refusal-none : {F : Type 0} (found first : Bool) (a b : F)
    → (if not found then Some a else (if first then Some b else None)) ≡ None → (found ≡ true) × (first ≡ false)
refusal-none false first a b h = let no : ⊥ = cc in absurd no
refusal-none true true a b h = let no : ⊥ = cc in absurd no
refusal-none true false a b h = (refl, refl)

module _ {L : Type 0} where
  exchanged-around : (x : List (Row L)) (e c : Cut L) (y : List (Row L)) → x ++ (blocks_exchanged e c ++ y) ≡ blocks_exchanged (around x e y) (around x c y)
  exchanged-around x e c y =
      ap (λ xs. x ++ xs)
      (append_assoc e.before (c.block ++ (e.block ++ c.after)) y
      ∙ ap (λ xs. e.before ++ xs) (append_assoc c.block (e.block ++ c.after) y ∙ ap (λ xs. c.block ++ xs) (append_assoc e.block c.after y)))
      ∙ sym (append_assoc x e.before (c.block ++ (e.block ++ (c.after ++ y))))

  exchanged-later : (x : List (Row L)) (e c : Cut L) → x ++ blocks_exchanged e c ≡ blocks_exchanged (later x e) (later x c)
  exchanged-later x e c = sym (append_assoc x e.before (c.block ++ (e.block ++ c.after)))

  exchanged-same : (e a c b : Cut L) → e ≡ a → c ≡ b → blocks_exchanged e c ≡ blocks_exchanged a b
  exchanged-same e a c b p q = ap (λ x. blocks_exchanged x c) p ∙ ap (blocks_exchanged a) q

  raised-rows : (d : ℕ) (f : Forest L) (k : ℕ) (ks : List ℕ) → IsTrue (has_node f (k ∷ ks)) → (last_place k ks ≡ 0 → ⊥)
      → rows_in d (place_edited raised_at f k ks)
      ≡ blocks_exchanged (cut_below d (rows_in d f) (sibling_place k ks ∷ sibling_rest ks))
      (cut_below d (rows_in d f) (k ∷ ks))
  raised-rows d none k ks found up = let no : ⊥ = cc in absurd no
  raised-rows d (more m l b r) zero [] found up = absurd (up refl)
  raised-rows d (more m l b r) zero (j ∷ js) found up =
      ap (λ xs. row d m l ∷ (xs ++ rows_in d r)) (raised-rows (suc d) b j js found up)
      ∙ exchanged-around (row d m l ∷ [])
      (cut_below (suc d) (rows_in (suc d) b) (sibling_place j js ∷ sibling_rest js))
      (cut_below (suc d) (rows_in (suc d) b) (j ∷ js)) (rows_in d r)
      ∙ exchanged-same _ _ _ _ (sym (cut-down d m l b r (sibling_place j js) (sibling_rest js))) (sym (cut-down d m l b r j js))
  raised-rows d (more m l b none) (suc zero) [] found up = let no : ⊥ = cc in absurd no
  raised-rows d (more m l b (more n x a r)) (suc zero) [] found up =
      exchanged-same _ _ _ _ (sym (cut-here d m l b (more n x a r)))
      (ap (later (row d m l ∷ rows_in (suc d) b)) (sym (cut-here d n x a r)) ∙ sym (cut-next d m l b (more n x a r) zero []))
  raised-rows d (more m l b r) (suc (suc k)) [] found up =
      ap (λ xs. (row d m l ∷ rows_in (suc d) b) ++ xs) (raised-rows d r (suc k) [] found (λ z. absurd (omega (arith, z))))
      ∙ exchanged-later (row d m l ∷ rows_in (suc d) b) (cut_below d (rows_in d r) (k ∷ [])) (cut_below d (rows_in d r) (suc k ∷ []))
      ∙ exchanged-same _ _ _ _ (sym (cut-next d m l b r k [])) (sym (cut-next d m l b r (suc k) []))
  raised-rows d (more m l b r) (suc k) (j ∷ js) found up =
      ap (λ xs. (row d m l ∷ rows_in (suc d) b) ++ xs) (raised-rows d r k (j ∷ js) found up)
      ∙ exchanged-later (row d m l ∷ rows_in (suc d) b)
      (cut_below d (rows_in d r) (k ∷ sibling_place j js ∷ sibling_rest js))
      (cut_below d (rows_in d r) (k ∷ j ∷ js))
      ∙ exchanged-same _ _ _ _ (sym (cut-next d m l b r k (sibling_place j js ∷ sibling_rest js))) (sym (cut-next d m l b r k (j ∷ js)))

  pub moved-rows : (t : Plain L) (steps : List ℕ) → move_up_refusal t steps ≡ None → rows (moved_up t steps) ≡ rows_moved_up (rows t) steps
  moved-rows t [] h = let no : ⊥ = cc in absurd no
  moved-rows t (k ∷ ks) h =
      let open_to = refusal-none (has_node t.below (k ∷ ks)) (nat_eq (last_place k ks) 0) NoSuchNode AlreadyFirst h in
      ap (λ xs. root_row t.label ∷ xs) (raised-rows 1 t.below k ks open_to.0 (eqb-false (last_place k ks) 0 open_to.1))
      ∙ ap (λ p. blocks_exchanged (cut_at (rows t) p) (cut_at (rows t) (k ∷ ks))) (sym (sibling-parts k ks))
