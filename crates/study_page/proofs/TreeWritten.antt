-- The tree of the solution, child by child.
use Rattle.std.proofs.Common.{◌≡◌, ℕ, zero, suc, ◌+◌, ◌≤◌, Bool, true, false, not, List, [], ◌++◌, Option, Some, None, Result, Ok, Err, OnOk, IsOk}
use Rattle.std.proofs.Common.{refl, sym, ap, subst, ◌∙◌, arith, append_assoc, add-one, nat_lt, true≢false}
use Rattle.std.proofs.lemmas.Bool.{lt-ltb}
use Rattle.std.proofs.lemmas.List.{append-nil}
use Rattle.std.proofs.lemmas.Result.{on_ok_weaker}
use Rattle.study_board.specs.declared.men.Side.{Side}
use Rattle.study_notation.specs.declared.start.Start.{Start}
use Rattle.study_notation.specs.StartAfter.{start_after}
use Rattle.study_tree.specs.Forest.{Forest, none, more, Twig}
use Rattle.study_tree.specs.Edits.{node_in, width}
use Rattle.study_marks.specs.declared.mark.Mark.{Mark}
use Rattle.study_marks.proofs.PathWalks.{skip}
use Rattle.study_facts.specs.Nodes.{is_leaf}
use Rattle.study_html.specs.declared.element.Element.TheVariants.{Item}
use Rattle.study_html.specs.Elements.{element_text}
use Rattle.study_page.specs.Tree.{made_words, list_where, others_of, tree_words, item_words}

-- what holds of a result that is `Ok` holds
pub ok_holds : {T E P : Type 0} (r : Result T E) → IsOk r → OnOk r P → P
ok_holds (Ok x) e h = h
ok_holds (Err y) e h = absurd (true≢false (sym e))

abbrev twig_or : Twig Mark → Option (Twig Mark) → Twig Mark
twig_or x None = x
twig_or x (Some t) = t

skip_zero : (f : Forest Mark) → skip 0 f ≡ f
skip_zero none = refl
skip_zero (more m l b r) = refl

skip_all : (k : ℕ) (f : Forest Mark) → width f ≤ k → skip k f ≡ none
skip_all k none h = refl
skip_all zero (more m l b r) h = absurd (omega (arith, h))
skip_all (suc k) (more m l b r) h = skip_all k r (omega (arith, h))

others_skip : (f : Forest Mark) → skip 1 f ≡ others_of f
others_skip none = refl
others_skip (more m l b r) = skip_zero r

-- there are other moves beside the first
others_there : (f : Forest Mark) → nat_lt 1 (width f) ≡ not (is_leaf (skip 1 f))
others_there none = refl
others_there (more m l b none) = refl
others_there (more m l b (more n j c r)) = lt-ltb 1 (1 + (1 + width r)) (omega arith)

module _ (hero : Side) (s : Start) where
  -- ---- the first move

  abbrev first_text : Bool → Forest Mark → Option (Twig Mark) → List ℕ
  first_text first f None = []
  first_text first f (Some t) =
      made_words hero first s t.played t.label
      ++ (list_where (item_words hero s (skip 1 f)) ++ tree_words hero (not (is_leaf (skip 1 f))) (start_after s t.played) t.below)

  tree_is : (first : Bool) (f : Forest Mark) → tree_words hero first s f ≡ first_text first f (node_in f 0 [])
  tree_is first none = refl
  tree_is first (more m l b r) =
      ap (λ g. made_words hero first s m l ++ (list_where (item_words hero s g) ++ tree_words hero (not (is_leaf g)) (start_after s m) b))
      (sym (skip_zero r))

  tree_first : (first : Bool) (f : Forest Mark) (t : Twig Mark) → node_in f 0 [] ≡ Some t →
      tree_words hero first s f ≡ made_words hero first s t.played t.label
      ++ (list_where (item_words hero s (skip 1 f)) ++ tree_words hero (not (is_leaf (skip 1 f))) (start_after s t.played) t.below)
  tree_first first f t e = tree_is first f ∙ ap (first_text first f) e

  -- nothing follows
  pub no_tree : (first : Bool) (f : Forest Mark) (html : List ℕ) → width f ≡ 0 → html ≡ html ++ tree_words hero first s f
  no_tree first none html e = sym (append-nil html)
  no_tree first (more m l b r) html e = absurd (omega (arith, e))

  -- the first move is written
  pub first_written : {T E : Type 0} (first : Bool) (f : Forest Mark) (x : Twig Mark) (old new : List ℕ) (r : Result T E) → node_in f 0 [] ≡ Some x
      → OnOk r (new ≡ old ++ made_words hero first s x.played x.label)
      → (t : Twig Mark) → node_in f 0 [] ≡ Some t → OnOk r (new ≡ old ++ made_words hero first s t.played t.label)
  first_written first f x old new r ex put t e =
      subst (λ (y : Twig Mark). OnOk r (new ≡ old ++ made_words hero first s y.played y.label)) (ap (twig_or x) (sym ex ∙ e)) put

  -- ---- the others

  abbrev other_text : List ℕ → Option (Twig Mark) → List ℕ
  other_text rest None = rest
  other_text rest (Some t) = element_text Item (made_words hero true s t.played t.label ++ tree_words hero false (start_after s t.played) t.below) ++ rest

  items_are : (f : Forest Mark) (k : ℕ) → item_words hero s (skip k f) ≡ other_text (item_words hero s (skip (suc k) f)) (node_in f k [])
  items_are none k = refl
  items_are (more m l b r) zero =
      ap (λ g. element_text Item (made_words hero true s m l ++ tree_words hero false (start_after s m) b) ++ item_words hero s g) (sym (skip_zero r))
  items_are (more m l b r) (suc k) = items_are r k

  items_first : (f : Forest Mark) (k : ℕ) (t : Twig Mark) → node_in f k [] ≡ Some t →
      item_words hero s (skip k f) ≡ element_text Item (made_words hero true s t.played t.label ++ tree_words hero false (start_after s t.played) t.below)
      ++ item_words hero s (skip (suc k) f)
  items_first f k t e = items_are f k ∙ ap (other_text (item_words hero s (skip (suc k) f))) e

  items_done : (f : Forest Mark) (k : ℕ) → width f ≤ k → item_words hero s (skip k f) ≡ []
  items_done f k h = ap (item_words hero s) (skip_all k f h)

  module _ (f : Forest Mark) (k : ℕ) (t : Twig Mark) (next : Start) (en : next ≡ start_after s t.played) where
    -- an item is written: its move, what follows it, and then the item in the list
    pub item_written : (empty made item list whole : List ℕ) (grown : List ℕ) → node_in f k [] ≡ Some t → empty ≡ []
        → made ≡ empty ++ made_words hero true s t.played t.label → item ≡ made ++ tree_words hero false next t.below
        → grown ≡ list ++ element_text Item item → list ++ item_words hero s (skip k f) ≡ whole → grown ++ item_words hero s (skip (k + 1) f) ≡ whole
    item_written empty made item list whole grown e ee em ei eg h =
        let v = item_words hero s (skip (suc k) f) in
        let words : item ≡ made_words hero true s t.played t.label ++ tree_words hero false (start_after s t.played) t.below =
        ei ∙ ap (λ x. made ++ tree_words hero false x t.below) en
        ∙ ap (λ (x : List ℕ). x ++ tree_words hero false (start_after s t.played) t.below)
        (em ∙ ap (λ (x : List ℕ). x ++ made_words hero true s t.played t.label) ee) in
        ap (λ j. grown ++ item_words hero s (skip j f)) (add-one k) ∙ ap (λ (x : List ℕ). x ++ v) (eg ∙ ap (λ (x : List ℕ). list ++ element_text Item x) words)
        ∙ append_assoc list (element_text Item (made_words hero true s t.played t.label ++ tree_words hero false (start_after s t.played) t.below)) v
        ∙ ap (λ (x : List ℕ). list ++ x) (sym (items_first f k t e)) ∙ h

  -- all items are written
  items_all : (f : Forest Mark) (k : ℕ) (list : List ℕ) → width f ≤ k → list ++ item_words hero s (skip k f) ≡ item_words hero s (skip 1 f)
      → list ≡ item_words hero s (others_of f)
  items_all f k list few h =
      sym (append-nil list) ∙ ap (λ (x : List ℕ). list ++ x) (sym (items_done f k few)) ∙ h ∙ ap (item_words hero s) (others_skip f)

  pub list_written : {T E : Type 0} (f : Forest Mark) (k : ℕ) (old list new : List ℕ) (r : Result T E) → width f ≤ k
      → list ++ item_words hero s (skip k f) ≡ item_words hero s (skip 1 f) → OnOk r (new ≡ old ++ list_where list)
      → OnOk r (new ≡ old ++ list_where (item_words hero s (others_of f)))
  list_written f k old list new r few h put =
      on_ok_weaker r (λ e. e ∙ ap (λ (x : List ℕ). old ++ list_where x) (items_all f k list few h)) put

  module _ (first : Bool) (f : Forest Mark) (t : Twig Mark) (next : Start) (en : next ≡ start_after s t.played) where
    -- a ply of the main line is written: its move, and the list of the others
    pub ply_written : (old made listed whole : List ℕ) (wide : Bool) → node_in f 0 [] ≡ Some t
        → made ≡ old ++ made_words hero first s t.played t.label → listed ≡ made ++ list_where (item_words hero s (others_of f))
        → wide ≡ nat_lt 1 (width f) → old ++ tree_words hero first s f ≡ whole → listed ++ tree_words hero wide next t.below ≡ whole
    ply_written old made listed whole wide e em el ew h =
        let w = made_words hero first s t.played t.label in
        let l = list_where (item_words hero s (skip 1 f)) in
        let b = tree_words hero (not (is_leaf (skip 1 f))) (start_after s t.played) t.below in
        let after : tree_words hero wide next t.below ≡ b =
        ap (λ x. tree_words hero wide x t.below) en ∙ ap (λ x. tree_words hero x (start_after s t.played) t.below) (ew ∙ others_there f) in
        let both : listed ≡ (old ++ w) ++ l =
        el ∙ ap (λ g. made ++ list_where (item_words hero s g)) (sym (others_skip f)) ∙ ap (λ (x : List ℕ). x ++ l) em in
        ap (λ (x : List ℕ). listed ++ x) after ∙ ap (λ (x : List ℕ). x ++ b) both ∙ append_assoc (old ++ w) l b ∙ append_assoc old w (l ++ b)
        ∙ ap (λ (x : List ℕ). old ++ x) (sym (tree_first first f t e)) ∙ h
