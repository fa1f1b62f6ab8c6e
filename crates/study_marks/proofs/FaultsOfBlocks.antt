-- The faults of a node are those of its block of rows.
use Rattle.std.proofs.Common.{◌≡◌, ℕ, ◌+◌, ◌<◌, ◌≤◌, List, [], ◌∷◌, ◌++◌, length, Bool, true, false, Option}
use Rattle.std.proofs.Common.{Some, None, refl, sym, ap, ◌∙◌, arith, zero, suc, subst, append_assoc}
use Rattle.std.specs.Prelude.{if◌then◌else◌, nat_eq}
use Rattle.std.proofs.lemmas.Bool.{eq-eqb, ne_eqb, lt-ltb, le-ltb}
use Rattle.study_board.specs.Position.{Position}
use Rattle.study_moves.specs.declared.moves.Move.{Move}
use Rattle.study_moves.specs.Rules.{after}
use Rattle.study_values.specs.declared.value.Value.{Value}
use Rattle.study_tree.specs.Forest.{Forest, none, more, Twig}
use Rattle.study_tree.specs.Edits.{node_in, width}
use Rattle.study_tree.specs.Tree.{Spot, twig_spot}
use Rattle.study_tree.specs.Rows.{Row, rows_in, rows, cut_at}
use Rattle.study_tree.proofs.RowBlocks.{cut_below, cut-here, cut-down, cut-next}
use Rattle.study_marks.specs.declared.mark.Mark.{Mark}
use Rattle.study_marks.specs.declared.mark_rules.Aim.{Aim}
use Rattle.study_marks.specs.Goals.{aim_of, hero_moves}
use Rattle.study_marks.specs.Marks.{own_faults, faults_in}
use Rattle.study_marks.specs.Annotated.{AreAnnotated}
use Rattle.study_marks.specs.Blocks.{is_solution_step, fault_at, joined_faults, block_faults}
use Rattle.study_marks.specs.Laws.{FaultsAreOfRows}

-- the depth of the last of these rows, or p if there is none
last_of : ℕ → ℕ → Forest Mark → ℕ
last_of p e none = p
last_of p e (more m x b r) = last_of (last_of e (suc e) b) e r

last-least : (c p e : ℕ) (f : Forest Mark) → c ≤ p → c ≤ e → c ≤ last_of p e f
unfolding last_of
last-least c p e none h k = h
last-least c p e (more m x b r) h k = last-least c (last_of e (suc e) b) e r (last-least c e (suc e) b k (omega (arith, k))) k

-- the rows continue at depth c or above
GoesOn : ℕ → List (Row Mark) → Type 0
GoesOn c [] = Unit {0}
GoesOn c (x ∷ xs) = x.depth ≤ c

goes-later : (c e : ℕ) (f : Forest Mark) (rest : List (Row Mark)) → e ≤ c → GoesOn c rest → GoesOn c (rows_in e f ++ rest)
unfolding GoesOn
goes-later c e none rest k h = h
goes-later c e (more m x b r) rest k h = k

goes-higher : (c e : ℕ) (rest : List (Row Mark)) → c ≤ e → GoesOn c rest → GoesOn e rest
unfolding GoesOn
goes-higher c e [] k h = tt
goes-higher c e (x ∷ xs) k h = omega (arith, k, h)

module _ (a : Aim) where
  -- the rows below a step that is not a solution step have ended
  over : (c d : ℕ) (rest : List (Row Mark)) → GoesOn c rest → joined_faults a d (Some c) rest ≡ joined_faults a d None rest
  unfolding GoesOn
  over c d [] h = refl
  over c d (x ∷ xs) h =
      ap (λ b. if b then joined_faults a x.depth (Some c) xs
      else (if is_solution_step a d x.depth then fault_at a x.depth x.label.on_move + joined_faults a x.depth None
      xs else joined_faults a x.depth (Some x.depth) xs)) (le-ltb c x.depth h)

  -- nothing below it counts
  skip : (c p e : ℕ) (f : Forest Mark) (rest : List (Row Mark)) → c < e
      → joined_faults a p (Some c) (rows_in e f ++ rest) ≡ joined_faults a (last_of p e f) (Some c) rest
  unfolding last_of
  skip c p e none rest h = refl
  skip c p e (more m x b r) rest h =
      ap (λ t. if t then joined_faults a e (Some c) ((rows_in (suc e) b ++ rows_in e r) ++ rest)
      else (if is_solution_step a p e then fault_at a e x.on_move + joined_faults a e None
      ((rows_in (suc e) b ++ rows_in e r) ++ rest)
      else joined_faults a e (Some e) ((rows_in (suc e) b ++ rows_in e r) ++ rest)))
      (lt-ltb c e h)
      ∙ ap (joined_faults a e (Some c)) (append_assoc (rows_in (suc e) b) (rows_in e r) rest)
      ∙ skip c e (suc e) b (rows_in e r ++ rest) (omega (arith, h)) ∙ skip c (last_of e (suc e) b) e r rest h

  -- nor does a later child, if the hero moves
  later : (d p : ℕ) (f : Forest Mark) (rest : List (Row Mark)) → hero_moves a d ≡ true → d < p → GoesOn d rest
      → joined_faults a p None (rows_in (suc d) f ++ rest) ≡ joined_faults a (last_of p (suc d) f) None rest
  unfolding last_of
  later d p none rest hero h g = refl
  later d p (more m x b r) rest hero h g =
      let all : List (Row Mark) = (rows_in (suc (suc d)) b ++ rows_in (suc d) r) ++ rest in
      let step : is_solution_step a p (suc d) ≡ false = ap (λ t. if t then nat_eq p d else true) hero ∙ ne_eqb p d (λ e. absurd (omega (arith, h, e))) in
      ap (λ t. if t then fault_at a (suc d) x.on_move + joined_faults a (suc d) None all else joined_faults a (suc d) (Some (suc d)) all) step
      ∙ ap (joined_faults a (suc d) (Some (suc d))) (append_assoc (rows_in (suc (suc d)) b) (rows_in (suc d) r) rest)
      ∙ skip (suc d) (suc d) (suc (suc d)) b (rows_in (suc d) r ++ rest) (omega arith)
      ∙ over (suc d) (last_of (suc d) (suc (suc d)) b) (rows_in (suc d) r ++ rest)
      (goes-later (suc d) (suc d) r rest (omega arith) (goes-higher d (suc d) rest (omega arith) g))
      ∙ later d (last_of (suc d) (suc (suc d)) b) r rest hero
      (let least : suc d ≤ last_of (suc d) (suc (suc d)) b = last-least (suc d) (suc d) (suc (suc d)) b
      (omega arith) (omega arith) in let z : d < last_of (suc d) (suc (suc d)) b = omega (arith, least) in z) g

  -- the first child, and each child if the opponent moves, joins the rows below it
  join-child : (d p : ℕ) (m : Move) (x : Mark) (b r : Forest Mark) (rest : List (Row Mark)) → is_solution_step a p (suc d) ≡ true
      → joined_faults a (suc d) None (rows_in (suc (suc d)) b ++ (rows_in (suc d) r ++ rest)) ≡ faults_in a (suc d)
      b + joined_faults a (last_of (suc d) (suc (suc d)) b) None (rows_in (suc d) r ++ rest)
      → joined_faults a p None (rows_in (suc d) (more m x b r) ++ rest) ≡ own_faults (hero_moves a d) x.on_move
      + (faults_in a (d + 1) b + joined_faults a (last_of (suc d) (suc (suc d)) b) None
      (rows_in (suc d) r ++ rest))
  join-child d p m x b r rest step h =
      let all : List (Row Mark) = (rows_in (suc (suc d)) b ++ rows_in (suc d) r) ++ rest in
      ap (λ t. if t then fault_at a (suc d) x.on_move + joined_faults a (suc d) None all else joined_faults a (suc d) (Some (suc d)) all) step
      ∙ ap (λ n. own_faults (hero_moves a d) x.on_move + n)
      (ap (joined_faults a (suc d) None) (append_assoc (rows_in (suc (suc d)) b) (rows_in (suc d) r) rest) ∙ h
      ∙ ap (λ i. faults_in a i b + joined_faults a (last_of (suc d) (suc (suc d)) b) None
      (rows_in (suc d) r ++ rest)) (let z : suc d ≡ d + 1 = omega arith in z))

  joined : (d p : ℕ) (f : Forest Mark) (rest : List (Row Mark)) → (hero_moves a d ≡ true → p ≡ d) → GoesOn d rest
      → joined_faults a p None (rows_in (suc d) f ++ rest) ≡ faults_in a d f + joined_faults a (last_of p (suc d) f)
      None rest
  unfolding last_of
  joined d p none rest h g = omega arith
  joined d p (more m x b r) rest h g =
      go (hero_moves a d) refl
      (joined (suc d) (suc d) b (rows_in (suc d) r ++ rest) (λ e. refl)
      (goes-later (suc d) (suc d) r rest (omega arith) (goes-higher d (suc d) rest (omega arith) g)))
      (λ e. joined d (last_of (suc d) (suc (suc d)) b) r rest (λ t. let no : true ≡ false = sym t ∙ e in absurd cc) g)
    where
      go : (t : Bool) → hero_moves a d ≡ t
          → joined_faults a (suc d) None (rows_in (suc (suc d)) b ++ (rows_in (suc d) r ++ rest))
          ≡ faults_in a (suc d) b + joined_faults a (last_of (suc d) (suc (suc d)) b) None
          (rows_in (suc d) r ++ rest)
          → (hero_moves a d ≡ false
          → joined_faults a (last_of (suc d) (suc (suc d)) b) None (rows_in (suc d) r ++ rest)
          ≡ faults_in a d r + joined_faults a (last_of (last_of (suc d) (suc (suc d)) b) (suc d) r) None rest)
          → joined_faults a p None (rows_in (suc d) (more m x b r) ++ rest) ≡ faults_in a d (more m x b r)
          + joined_faults a (last_of p (suc d) (more m x b r)) None rest
      go true e below beside =
          let step : is_solution_step a p (suc d) ≡ true = ap (λ t. if t then nat_eq p d else true) e ∙ eq-eqb p d (h e) in
          let least : suc d ≤ last_of (suc d) (suc (suc d)) b = last-least (suc d) (suc d) (suc (suc d)) b (omega arith) (omega arith) in
          let others : (if hero_moves a d then 0 else faults_in a d r) ≡ 0 = ap (λ t. if t then 0 else faults_in a d r) e in
          let rests = later d (last_of (suc d) (suc (suc d)) b) r rest e (let z : d < last_of (suc d) (suc (suc d)) b = omega (arith, least) in z) g in
          omega (arith, join-child d p m x b r rest step below, others, rests)
      go false e below beside =
          let step : is_solution_step a p (suc d) ≡ true = ap (λ t. if t then nat_eq p d else true) e in
          let others : (if hero_moves a d then 0 else faults_in a d r) ≡ faults_in a d r = ap (λ t. if t then 0 else faults_in a d r) e in
          omega (arith, join-child d p m x b r rest step below, others, beside e)

  joined-all : (d : ℕ) (f : Forest Mark) → joined_faults a d None (rows_in (suc d) f) ≡ faults_in a d f
  unfolding GoesOn
  joined-all d f = ap (joined_faults a d None) (sym (append-none (rows_in (suc d) f))) ∙ joined d d f [] (λ e. refl) none-left ∙ omega arith
    where
      append-none : (xs : List (Row Mark)) → xs ++ [] ≡ xs
      append-none [] = refl
      append-none (x ∷ xs) = ap (λ ys. x ∷ ys) (append-none xs)

      none-left : GoesOn d []
      none-left = tt

-- the faults of an annotated node
abbrev spot_faults : Aim → ℕ → Option (Twig Mark) → Type 0
spot_faults a d None = Unit {0}
spot_faults a d (Some t) = t.label.faults ≡ own_faults (hero_moves a d) t.label.on_move + faults_in a (d + 1) t.below

annotated-at : (a : Aim) (d : ℕ) (p : Position) (v : Value) (f : Forest Mark) (k : ℕ) (ks : List ℕ)
    → AreAnnotated a d p v f → spot_faults a (d + length ks) (node_in f k ks)
annotated-at a d p v none k ks h = tt
annotated-at a d p v (more m x b r) zero [] h =
    subst (λ i. x.faults ≡ own_faults (hero_moves a i) x.on_move + faults_in a (i + 1) b)
    (let z : d ≡ d + 0 = omega arith in z) h.2
annotated-at a d p v (more m x b r) zero (j ∷ js) h =
    subst (λ i. spot_faults a i (node_in b j js))
    (let z : d + 1 + length js ≡ d + suc (length js) = omega arith in z)
    (annotated-at a (d + 1) (after p m) x.value b j js h.3)
annotated-at a d p v (more m x b r) (suc k) ks h = annotated-at a d p v r k ks h.4

-- the block of a node
block_of : (d : ℕ) (f : Forest Mark) (k : ℕ) (ks : List ℕ) (t : Twig Mark) → node_in f k ks ≡ Some t
    → (cut_below d (rows_in d f) (k ∷ ks)).block
    ≡ record { depth = d + length ks; played = Some t.played; label = t.label } ∷ rows_in (suc (d + length ks))
    t.below
block_of d none k ks t e = let no : ⊥ = cc in absurd no
block_of d (more m x b r) zero [] t e =
    ap (λ c. c.block) (cut-here d m x b r)
    ∙ ap (λ (u : Twig Mark). record { depth = d; played = Some u.played; label = u.label } ∷ rows_in (suc d)
    u.below) (let s : record { played = m; label = x; below = b } ≡ t = cc in s)
    ∙ ap (λ i. record { depth = i; played = Some t.played; label = t.label } ∷ rows_in (suc i) t.below) (let z : d ≡ d + 0 = omega arith in z)
block_of d (more m x b r) zero (j ∷ js) t e =
    ap (λ c. c.block) (cut-down d m x b r j js) ∙ block_of (suc d) b j js t e
    ∙ ap (λ i. record { depth = i; played = Some t.played; label = t.label } ∷ rows_in (suc i) t.below)
    (let z : suc d + length js ≡ d + suc (length js) = omega arith in z)
block_of d (more m x b r) (suc k) ks t e = ap (λ c. c.block) (cut-next d m x b r k ks) ∙ block_of d r k ks t e

pub faults-of-rows : FaultsAreOfRows
faults-of-rows s h [] x e =
    sym (ap (λ (y : Spot Mark). y.label.faults) (let same : record { played = None; label = s.tree.label; children = width s.tree.below } ≡ x = cc in same))
    ∙ h.faults ∙ sym (joined-all (aim_of s) 0 s.tree.below) ∙ omega arith
faults-of-rows s h (k ∷ ks) x e =
    go (node_in s.tree.below k ks) refl e
    (annotated-at (aim_of s) 0 s.start.position s.tree.label.value s.tree.below k ks h.below)
  where
    n : ℕ
    n = length ks

    go : (o : Option (Twig Mark)) → node_in s.tree.below k ks ≡ o → twig_spot o ≡ Some x
        → spot_faults (aim_of s) (0 + length ks) o
        → x.label.faults ≡ block_faults (aim_of s) (cut_at (rows s.tree) (k ∷ ks)).block
    go None is e f = let no : ⊥ = cc in absurd no
    go (Some t) is e f =
        let label : t.label ≡ x.label =
        ap (λ (y : Spot Mark). y.label)
        (let same : record { played = Some t.played; label = t.label; children = width t.below }
        ≡ x = cc in same) in
        let depth : 1 + length ks ≡ suc (length ks) = omega arith in
        sym (ap (λ (y : Mark). y.faults) label)
        ∙ subst (λ i. t.label.faults ≡ own_faults (hero_moves (aim_of s) i) t.label.on_move + faults_in (aim_of s)
        (i + 1) t.below) (let z : 0 + length ks ≡ length ks = omega arith in z) f
        ∙ ap (λ i. own_faults (hero_moves (aim_of s) (length ks)) t.label.on_move + faults_in (aim_of s) i t.below)
        (let z : length ks + 1 ≡ suc (length ks) = omega arith in z)
        ∙ ap (λ i. own_faults (hero_moves (aim_of s) (length ks)) t.label.on_move + i) (sym (joined-all (aim_of s) (suc (length ks)) t.below))
        ∙ ap (block_faults (aim_of s))
        (ap (λ i. record { depth = i; played = Some t.played; label = t.label } ∷ rows_in (suc i) t.below)
        (sym depth) ∙ sym (block_of 1 s.tree.below k ks t is))
