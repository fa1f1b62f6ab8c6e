-- The faults of the solution, one by one.
use Rattle.std.proofs.Common.{◌≡◌, ◌==◌, ℕ, ◌+◌, Bool, true, false, not, ◌&&◌, ◌||◌, List, [], ◌∷◌}
use Rattle.std.proofs.Common.{◌++◌, length, Option, Some, None, arith, refl, sym, ap, ◌∙◌, length-append}
use Rattle.std.specs.Prelude.{if◌then◌else◌}
use Rattle.study_moves.specs.declared.moves.Move.{Move}
use Rattle.study_tree.specs.Forest.{Forest, none, more}
use Rattle.study_marks.specs.declared.mark.Mark.{Mark}
use Rattle.study_marks.specs.declared.mark.MoveMark.{MoveMark}
use Rattle.study_marks.specs.declared.mark_rules.Aim.{Aim}
use Rattle.study_marks.specs.Goals.{aim_of, hero_moves}
use Rattle.study_marks.specs.Marks.{is_fault, own_faults, faults_in}
use Rattle.study_facts.specs.Faults.{Fault, in_solution, fault_of, faults_from, AreAtSolution, FaultsAreOfTheSolution}

own-listed : (hero : Bool) (path : List ℕ) (m : Move) (o : Option MoveMark) → length (fault_of hero path m o) ≡ own_faults hero o
own-listed hero path m None = refl
own-listed false path m (Some x) = refl
own-listed true path m (Some x) = go (is_fault x) refl
  where
    go : (b : Bool) → is_fault x ≡ b → length (fault_of true path m (Some x)) ≡ own_faults true (Some x)
    go true e = rw e refl
    go false e = rw e refl

or-none : (t : Bool) (xs : List Fault) (n : ℕ) → length xs ≡ n → length (if t then [] else xs) ≡ (if t then 0 else n)
or-none true xs n e = refl
or-none false xs n e = e

listed : (a : Aim) (d : ℕ) (path : List ℕ) (k : ℕ) (f : Forest Mark) → length (faults_from a d path k f) ≡ faults_in a d f
listed a d path k none = refl
listed a d path k (more m x b r) =
    let here = path ++ k ∷ [] in
    let own = fault_of (hero_moves a d) here m x.on_move in
    let below = faults_from a (d + 1) here 0 b in
    let rest = if hero_moves a d then [] else faults_from a d path (k + 1) r in
    let one : length (own ++ (below ++ rest)) ≡ length own + (length below + length rest) =
    length-append own (below ++ rest) ∙ ap (λ n. length own + n) (length-append below rest) in
    let e1 : length own ≡ own_faults (hero_moves a d) x.on_move = own-listed (hero_moves a d) here m x.on_move in
    let e2 : length below ≡ faults_in a (d + 1) b = listed a (d + 1) here 0 b in
    let e3 : length rest ≡ (if hero_moves a d then 0 else faults_in a d r) =
    or-none (hero_moves a d) (faults_from a d path (k + 1) r) (faults_in a d r) (listed a d path (k + 1) r) in
    omega (arith, one, e1, e2, e3)

-- ---- solution steps

pub step-on : (a : Aim) (d : ℕ) (path : List ℕ) (k : ℕ)
    → in_solution a d (path ++ k ∷ []) ≡ (in_solution a d path && (not (hero_moves a (d + length path)) || (k == 0)))
step-on a d [] k = ap (λ n. (not (hero_moves a n) || (k == 0)) && true) (let z : d ≡ d + 0 = omega arith in z)
    ∙ and-true (not (hero_moves a (d + 0)) || (k == 0))
  where
    and-true : (b : Bool) → (b && true) ≡ b
    and-true true = refl
    and-true false = refl
step-on a d (j ∷ js) k =
    ap (λ b. (not (hero_moves a d) || (j == 0)) && b) (step-on a (d + 1) js k)
    ∙ and-assoc (not (hero_moves a d) || (j == 0)) (in_solution a (d + 1) js) (not (hero_moves a (d + 1 + length js)) || (k == 0))
    ∙ ap (λ n. ((not (hero_moves a d) || (j == 0)) && in_solution a (d + 1) js) && (not (hero_moves a n) || (k == 0)))
    (let z : d + 1 + length js ≡ d + length (j ∷ js) = omega arith in z)
  where
    and-assoc : (x y z : Bool) → (x && (y && z)) ≡ ((x && y) && z)
    and-assoc true y z = refl
    and-assoc false y z = refl

at-append : (a : Aim) (xs ys : List Fault) → AreAtSolution a xs → AreAtSolution a ys → AreAtSolution a (xs ++ ys)
at-append a [] ys h j = j
at-append a (x ∷ xs) ys h j = (h.0, at-append a xs ys h.1 j)

own-at : (a : Aim) (hero : Bool) (path : List ℕ) (m : Move) (o : Option MoveMark) → in_solution a 0 path ≡ true → AreAtSolution a (fault_of hero path m o)
own-at a hero path m None h = tt
own-at a false path m (Some x) h = tt
own-at a true path m (Some x) h = go (is_fault x) refl
  where
    go : (b : Bool) → is_fault x ≡ b → AreAtSolution a (fault_of true path m (Some x))
    go true e = rw e (h, tt)
    go false e = rw e tt

first : (c : Bool) → (not c || (0 == 0)) ≡ true
first true = refl
first false = refl

or-none-at : (a : Aim) (c : Bool) (xs : List Fault) → (c ≡ false → AreAtSolution a xs) → AreAtSolution a (if c then [] else xs)
or-none-at a true xs h = tt
or-none-at a false xs h = h refl

-- below a node of the solution; of the hero's children only the first
at-from : (a : Aim) (d : ℕ) (path : List ℕ) (k : ℕ) (f : Forest Mark) → d ≡ length path → in_solution a 0 path ≡ true
    → (not (hero_moves a d) || (k == 0)) ≡ true → AreAtSolution a (faults_from a d path k f)
at-from a d path k none depth h t = tt
at-from a d path k (more m x b r) depth h t =
    let here = path ++ k ∷ [] in
    let turn : (not (hero_moves a (0 + length path)) || (k == 0)) ≡ true =
    ap (λ n. not (hero_moves a n) || (k == 0)) (let z : 0 + length path ≡ d = omega (arith, depth) in z) ∙ t in
    let on : in_solution a 0 here ≡ true =
    step-on a 0 path k ∙ ap (λ c. c && (not (hero_moves a (0 + length path)) || (k == 0))) h ∙ turn in
    let deep : d + 1 ≡ length here = let n = length-append path (k ∷ []) in omega (arith, n, depth) in
    at-append a (fault_of (hero_moves a d) here m x.on_move) (faults_from a (d + 1) here 0 b ++ (if hero_moves a d then [] else faults_from a d path (k + 1) r))
    (own-at a (hero_moves a d) here m x.on_move on)
    (at-append a (faults_from a (d + 1) here 0 b) (if hero_moves a d then [] else faults_from a d path (k + 1) r)
    (at-from a (d + 1) here 0 b deep on (first (hero_moves a (d + 1))))
    (or-none-at a (hero_moves a d) (faults_from a d path (k + 1) r)
    (λ e. at-from a d path (k + 1) r depth h (ap (λ c. not c || (k + 1 == 0)) e))))

pub faults-of-solution : FaultsAreOfTheSolution
faults-of-solution s h =
    let a = aim_of s in (
      listed a 0 [] 0 s.tree.below ∙ sym h.faults,
      at-from a 0 [] 0 s.tree.below refl refl (first (hero_moves a 0)),
    )
