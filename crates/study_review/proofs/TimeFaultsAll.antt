-- All faults of the solution lose time alone, or not all.
use Rattle.std.proofs.Common.{◌≡◌, ◌==◌, ◌↔◌, ℕ, ◌+◌, ◌≤◌, suc, zero, Bool, true, false, not, ◌&&◌, ◌||◌, List, [], ◌∷◌}
use Rattle.std.proofs.Common.{◌++◌, length, Option, Some, None, inl, inr, ◌⊎◌, refl, sym, ap, subst, ◌∙◌, arith, length-append, add-one}
use Rattle.std.specs.Prelude.{MatchOption, if◌then◌else◌}
use Rattle.std.proofs.lemmas.Bool.{false≢true, ne_eqb}
use Rattle.study_moves.specs.declared.moves.Move.{Move}
use Rattle.study_moves.specs.Laws.{EachHasAtMostOneValue}
use Rattle.study_tree.specs.Forest.{Forest, none, more, Twig}
use Rattle.study_tree.specs.Edits.{node_in}
use Rattle.study_tree.specs.Tree.{spot_at, twig_spot}
use Rattle.study_marks.specs.declared.mark.Mark.{Mark}
use Rattle.study_marks.specs.declared.mark.MoveMark.{MoveMark}
use Rattle.study_marks.specs.declared.mark.MoveMark.TheVariants.{Only, Dual, Mistake, Idle, Reply}
use Rattle.study_marks.specs.declared.mark_rules.Aim.{Aim}
use Rattle.study_marks.specs.Bench.{played_by, on_move_of}
use Rattle.study_marks.specs.FaultSums.{below_at, siblings_from}
use Rattle.study_marks.specs.Study.{Study, position_at}
use Rattle.study_marks.specs.Goals.{aim_of, hero_moves}
use Rattle.study_marks.specs.Marks.{own_faults, faults_in}
use Rattle.study_marks.proofs.PathWalks.{spot_last, below_entered}
use Rattle.study_facts.specs.declared.time_loss.Alternative.{Alternative}
use Rattle.study_facts.specs.Faults.{in_solution}
use Rattle.study_facts.specs.Line.{line_to}
use Rattle.study_facts.specs.Nodes.{parent_path, is_hero_move, is_dual, mark_at, is_solution_move}
use Rattle.study_facts.specs.Order.{paths_from, SumOfEach}
use Rattle.study_facts.specs.Time.{AreTimedAlternatives}
use Rattle.study_facts.specs.TimeFaults.{CountWhere, IsTimeFaultOf, IsTimeFault, all_lose_time}
use Rattle.study_review.specs.Laws.{has_fault, is_solution_fault, LosesTimeAt, EachLosesTime, TimeFaultsAreAll}
use Rattle.study_facts.proofs.FaultsListed.{step-on}
use Rattle.study_facts.proofs.OneFacts.{one-alternatives}

module _ (law : EachHasAtMostOneValue) (s : Study Mark) where
  -- 1 if the move to the node is a fault of the solution
  abbrev weight : List ℕ → ℕ
  weight path = if is_solution_fault s path then 1 else 0

  -- a number that is at most another, and equal to it exactly if the claim holds
  abbrev Counts : ℕ → ℕ → Type 0 → Type 0
  Counts n w So = (n ≤ w) × ((n ≡ w) ↔ So)

  -- ---- one node

  abbrev AtNode : List ℕ → Bool → Option MoveMark → Type 0
  AtNode path b o = (m : Move) → played_by (spot_at s.tree path) ≡ Some m → (b && has_fault o) ≡ true
      → (is_dual o ≡ true) × ((list : List Alternative)
      → AreTimedAlternatives (aim_of s) (length (parent_path path)) (line_to s (parent_path path)) (position_at s (parent_path path)) m list
      → all_lose_time list ≡ true)

  no-fault-there : (path : List ℕ) (b : Bool) (o : Option MoveMark) → has_fault o ≡ false → AtNode path b o
  no-fault-there path b o e m p h = absurd (false≢true (sym (and-false b (has_fault o) e) ∙ h))
    where
      and-false : (x y : Bool) → y ≡ false → (x && y) ≡ false
      and-false true y e = e
      and-false false y e = refl

  dual-node : (path : List ℕ) (m : Move) (k n : ℕ) → played_by (spot_at s.tree path) ≡ Some m → IsTimeFaultOf s path m (Some (Dual k)) n
      → Counts n 1 (AtNode path true (Some (Dual k)))
  dual-node path m k n p h = go (all_lose_time h.0) refl
    where
      go : (b : Bool) → all_lose_time h.0 ≡ b → Counts n 1 (AtNode path true (Some (Dual k)))
      go true e =
          let one : n ≡ 1 = h.2 ∙ ap (λ c. if c then 1 else 0) e in (
            omega (arith, one),
            (
              (λ same j q f. (
                refl,
                λ list alt.
                    let move : m ≡ j = let both : Some m ≡ Some j = sym p ∙ q in cc in
                    let other = subst (λ x. AreTimedAlternatives (aim_of s) (length (parent_path path)) (line_to s (parent_path path))
                    (position_at s (parent_path path)) x list)
                    (sym move) alt in
                    ap all_lose_time (one-alternatives law (aim_of s) (length (parent_path path)) (line_to s (parent_path path))
                    (position_at s (parent_path path)) m
                    list h.0 other h.1) ∙ e,
              )),
              (λ so. one),
            ),
          )
      go false e =
          let nought : n ≡ 0 = h.2 ∙ ap (λ c. if c then 1 else 0) e in (
            omega (arith, nought),
            (
              (λ same. absurd (omega (arith, same, nought))),
              (λ so. absurd (false≢true (sym e ∙ (so m p refl).1 h.0 h.1))),
            ),
          )

  fault-node : (path : List ℕ) (m : Move) (o : Option MoveMark) (n : ℕ) → played_by (spot_at s.tree path) ≡ Some m → IsTimeFaultOf s path m o n
      → Counts n (if has_fault o then 1 else 0) (AtNode path true o)
  fault-node path m None n p h = (omega (arith, h), ((λ e. no-fault-there path true None refl), (λ so. h)))
  fault-node path m (Some (Dual k)) n p h = dual-node path m k n p h
  fault-node path m (Some Mistake) n p h = (
    omega (arith, h),
    ((λ e. absurd (omega (arith, e, h))), (λ so. absurd (false≢true (so m p refl).0))),
  )
  fault-node path m (Some Only) n p h = (omega (arith, h), ((λ e. no-fault-there path true (Some Only) refl), (λ so. h)))
  fault-node path m (Some Idle) n p h = (omega (arith, h), ((λ e. no-fault-there path true (Some Idle) refl), (λ so. h)))
  fault-node path m (Some Reply) n p h = (omega (arith, h), ((λ e. no-fault-there path true (Some Reply) refl), (λ so. h)))

  played-node : (path : List ℕ) (m : Move) (n : ℕ) → played_by (spot_at s.tree path) ≡ Some m → IsTimeFault s path n
      → Counts n (weight path) (LosesTimeAt s path)
  played-node path m n p h = go (is_solution_move s path) h
    where
      go : (b : Bool) → CountWhere b (λ j. MatchOption (played_by (spot_at s.tree path)) (j ≡ 0) (λ i. IsTimeFaultOf s path i (mark_at s path) j)) n
          → Counts n (if b && has_fault (mark_at s path) then 1 else 0) (AtNode path b (mark_at s path))
      go true k =
          fault-node path m (mark_at s path) n p
          (subst (λ (o : Option Move). MatchOption o (n ≡ 0) (λ i. IsTimeFaultOf s path i (mark_at s path) n)) p k)
      go false k = (omega (arith, k), ((λ e j q f. absurd (false≢true f)), (λ so. k)))

  -- ---- some nodes

  abbrev total : List (List ℕ) → ℕ
  total [] = 0
  total (path ∷ paths) = weight path + total paths

  -- a move leads to each
  abbrev AreMoved : List (List ℕ) → Type 0
  AreMoved [] = Unit {0}
  AreMoved (path ∷ paths) = ((m : Move) × (played_by (spot_at s.tree path) ≡ Some m)) × AreMoved paths

  counts-all : (paths : List (List ℕ)) (n : ℕ) → AreMoved paths → SumOfEach (IsTimeFault s) paths n
      → Counts n (total paths) (EachLosesTime s paths)
  counts-all [] n moved h = (omega (arith, h), ((λ e. tt), (λ so. h)))
  counts-all (path ∷ paths) n moved h =
      let one = played-node path moved.0.0 h.0 moved.0.1 h.2 in
      let rest = counts-all paths h.1 moved.1 h.3 in
      let a = one.0 in
      let b = rest.0 in
      let sum = h.4 in (
        omega (arith, a, b, sum),
        (
          (λ e.
              let first : h.0 ≡ weight path = omega (arith, a, b, sum, e) in
              let more : h.1 ≡ total paths = omega (arith, a, b, sum, e) in
              ((one.1).0 first, (rest.1).0 more)),
          (λ so.
              let first = (one.1).1 so.0 in
              let more = (rest.1).1 so.1 in
              omega (arith, first, more, sum)),
        ),
      )

  moved-append : (xs ys : List (List ℕ)) → AreMoved xs → AreMoved ys → AreMoved (xs ++ ys)
  moved-append [] ys h k = k
  moved-append (x ∷ xs) ys h k = (h.0, moved-append xs ys h.1 k)

  total-append : (xs ys : List (List ℕ)) → total (xs ++ ys) ≡ total xs + total ys
  total-append [] ys = let z : total ys ≡ 0 + total ys = omega arith in z
  total-append (x ∷ xs) ys = let e = total-append xs ys in let z : weight x + total (xs ++ ys) ≡ weight x + total xs + total ys = omega (arith, e) in z

  -- ---- the nodes of the tree

  here-at : (g : Forest Mark) (k : ℕ) (m : Move) (x : Mark) (b r : Forest Mark) → siblings_from k g ≡ more m x b r
      → (node_in g k [] ≡ Some (record { played = m; label = x; below = b })) × (siblings_from (suc k) g ≡ r)
  here-at none zero m x b r e = absurd cc
  here-at none (suc k) m x b r e = absurd cc
  here-at (more n y c t) zero m x b r e =
      let h : (more n y c t) ≡ more m x b r = e in
      (ap (λ f. node_in f 0 []) h, ap (λ f. siblings_from 1 f) h)
  here-at (more n y c t) (suc k) m x b r e = here-at t k m x b r e

  made-last : (a : Aim) (path : List ℕ) (k : ℕ) → is_hero_move a (path ++ k ∷ []) ≡ hero_moves a (length path)
  made-last a [] k = refl
  made-last a (j ∷ js) k = ap (hero_moves a) (let n = length-append js (k ∷ []) in let z : length (js ++ k ∷ []) ≡ length (j ∷ js) = omega (arith, n) in z)

  all-moved : (path : List ℕ) (k : ℕ) (f : Forest Mark) → siblings_from k (below_at s.tree.below path) ≡ f → AreMoved (paths_from path k f)
  all-moved path k none e = tt
  all-moved path k (more m x b r) e =
      let here = path ++ k ∷ [] in
      let t : Twig Mark = record { played = m; label = x; below = b } in
      let at = here-at (below_at s.tree.below path) k m x b r e in (
        (m, ap played_by (spot_last s.tree path k ∙ ap twig_spot at.0)),
        moved-append (paths_from here 0 b) (paths_from path (k + 1) r)
            (all-moved here 0 b (below_entered s.tree.below path k t at.0))
            (all-moved path (k + 1) r (ap (λ j. siblings_from j (below_at s.tree.below path)) (add-one k) ∙ at.1)),
      )

  -- no fault of the solution is below a node outside it
  outside-weight : (path : List ℕ) → in_solution (aim_of s) 0 path ≡ false → weight path ≡ 0
  outside-weight path e = go (is_hero_move (aim_of s) path) (in_solution (aim_of s) 0 path) e
    where
      go : (a b : Bool) → b ≡ false → ◌≡◌ {A = ℕ} (if (a && b) && has_fault (mark_at s path) then 1 else 0) 0
      go true b e = ap (λ c. if c && has_fault (mark_at s path) then 1 else 0) e
      go false b e = refl

  step-outside : (path : List ℕ) (k : ℕ)
      → ((in_solution (aim_of s) 0 path ≡ false) ⊎ ((not (hero_moves (aim_of s) (length path)) || (k == 0)) ≡ false))
      → in_solution (aim_of s) 0 (path ++ k ∷ []) ≡ false
  step-outside path k (inl e) =
      step-on (aim_of s) 0 path k ∙ ap (λ b. b && (not (hero_moves (aim_of s) (0 + length path)) || (k == 0))) e
  step-outside path k (inr e) =
      let turn : (not (hero_moves (aim_of s) (0 + length path)) || (k == 0)) ≡ false =
      ap (λ n. not (hero_moves (aim_of s) n) || (k == 0)) (let z : 0 + length path ≡ length path = omega arith in z) ∙ e in
      step-on (aim_of s) 0 path k ∙ ap (λ b. in_solution (aim_of s) 0 path && b) turn ∙ and-none (in_solution (aim_of s) 0 path)
    where
      and-none : (b : Bool) → (b && false) ≡ false
      and-none true = refl
      and-none false = refl

  outside : (path : List ℕ) (k : ℕ) (f : Forest Mark)
      → ((in_solution (aim_of s) 0 path ≡ false) ⊎ ((j : ℕ) → (not (hero_moves (aim_of s) (length path)) || (k + j == 0)) ≡ false))
      → total (paths_from path k f) ≡ 0
  outside path k none h = refl
  outside path k (more m x b r) h =
      let here = path ++ k ∷ [] in
      let out : in_solution (aim_of s) 0 here ≡ false = step-outside path k (now h) in
      let own = outside-weight here out in
      let below = outside here 0 b (inl out) in
      let rest = outside path (k + 1) r (later h) in
      let sum = total-append (paths_from here 0 b) (paths_from path (k + 1) r) in
      omega (arith, own, below, rest, sum)
    where
      now : ((in_solution (aim_of s) 0 path ≡ false) ⊎ ((j : ℕ) → (not (hero_moves (aim_of s) (length path)) || (k + j == 0)) ≡ false))
          → ((in_solution (aim_of s) 0 path ≡ false) ⊎ ((not (hero_moves (aim_of s) (length path)) || (k == 0)) ≡ false))
      now (inl e) = inl e
      now (inr e) = inr (ap (λ i. not (hero_moves (aim_of s) (length path)) || (i == 0)) (let z : k ≡ k + 0 = omega arith in z) ∙ e 0)

      later : ((in_solution (aim_of s) 0 path ≡ false) ⊎ ((j : ℕ) → (not (hero_moves (aim_of s) (length path)) || (k + j == 0)) ≡ false))
          → ((in_solution (aim_of s) 0 path ≡ false) ⊎ ((j : ℕ) → (not (hero_moves (aim_of s) (length path)) || (k + 1 + j == 0)) ≡ false))
      later (inl e) = inl e
      later (inr e) = inr (λ j. ap (λ i. not (hero_moves (aim_of s) (length path)) || (i == 0)) (let z : k + 1 + j ≡ k + (1 + j) = omega arith in z)
          ∙ e (1 + j))

  own-weight : (path : List ℕ) (k d : ℕ) (x : Mark) → d ≡ length path → mark_at s (path ++ k ∷ []) ≡ x.on_move
      → in_solution (aim_of s) 0 (path ++ k ∷ []) ≡ true → weight (path ++ k ∷ []) ≡ own_faults (hero_moves (aim_of s) d) x.on_move
  own-weight path k d x depth mark on =
      let made : is_hero_move (aim_of s) (path ++ k ∷ []) ≡ hero_moves (aim_of s) d =
      made-last (aim_of s) path k ∙ ap (hero_moves (aim_of s)) (sym depth) in
      ap (λ b. if (b && in_solution (aim_of s) 0 (path ++ k ∷ [])) && has_fault (mark_at s (path ++ k ∷ [])) then 1 else 0) made
      ∙ ap (λ b. if (hero_moves (aim_of s) d && b) && has_fault (mark_at s (path ++ k ∷ [])) then 1 else 0) on
      ∙ ap (λ o. if (hero_moves (aim_of s) d && true) && has_fault o then 1 else 0) mark
      ∙ own (hero_moves (aim_of s) d) x.on_move
    where
      own : (hero : Bool) (o : Option MoveMark) → (if (hero && true) && has_fault o then 1 else 0) ≡ own_faults hero o
      own true None = refl
      own true (Some y) = refl
      own false None = refl
      own false (Some y) = refl

  inside : (path : List ℕ) (d k : ℕ) (f : Forest Mark) → siblings_from k (below_at s.tree.below path) ≡ f → d ≡ length path
      → in_solution (aim_of s) 0 path ≡ true → (not (hero_moves (aim_of s) d) || (k == 0)) ≡ true
      → total (paths_from path k f) ≡ faults_in (aim_of s) d f
  inside path d k none e depth on turn = refl
  inside path d k (more m x b r) e depth on turn =
      let here = path ++ k ∷ [] in
      let t : Twig Mark = record { played = m; label = x; below = b } in
      let at = here-at (below_at s.tree.below path) k m x b r e in
      let mark : mark_at s here ≡ x.on_move = ap on_move_of (spot_last s.tree path k ∙ ap twig_spot at.0) in
      let step : (not (hero_moves (aim_of s) (0 + length path)) || (k == 0)) ≡ true =
      ap (λ n. not (hero_moves (aim_of s) n) || (k == 0)) (let z : 0 + length path ≡ d = omega (arith, depth) in z) ∙ turn in
      let there : in_solution (aim_of s) 0 here ≡ true =
      step-on (aim_of s) 0 path k ∙ ap (λ c. c && (not (hero_moves (aim_of s) (0 + length path)) || (k == 0))) on ∙ step in
      let deep : d + 1 ≡ length here = let n = length-append path (k ∷ []) in omega (arith, n, depth) in
      let own = own-weight path k d x depth mark there in
      let below = inside here (d + 1) 0 b (below_entered s.tree.below path k t at.0) deep there (first (hero_moves (aim_of s) (d + 1))) in
      let left = ap (λ j. siblings_from j (below_at s.tree.below path)) (add-one k) ∙ at.1 in
      let rest = others (λ h. inside path d (k + 1) r left depth on (ap (λ c. not c || (k + 1 == 0)) h)) (hero_moves (aim_of s) d) refl in
      let sum = total-append (paths_from here 0 b) (paths_from path (k + 1) r) in
      omega (arith, own, below, rest, sum)
    where
      first : (c : Bool) → (not c || (0 == 0)) ≡ true
      first true = refl
      first false = refl

      others : (hero_moves (aim_of s) d ≡ false → total (paths_from path (k + 1) r) ≡ faults_in (aim_of s) d r)
          → (hero : Bool) → hero_moves (aim_of s) d ≡ hero → total (paths_from path (k + 1) r) ≡ (if hero then 0 else faults_in (aim_of s) d r)
      others later true h =
          outside path (k + 1) r (inr (λ j.
          let moves : hero_moves (aim_of s) (length path) ≡ true = ap (hero_moves (aim_of s)) (sym depth) ∙ h in
          ap (λ c. not c || (k + 1 + j == 0)) moves ∙ ne_eqb (k + 1 + j) 0 (λ z. absurd (omega (arith, z)))))
      others later false h = later h

pub all-or-not : EachHasAtMostOneValue → TimeFaultsAreAll
all-or-not law s n annotated h =
    let f = s.tree.below in
    let moved = all-moved law s [] 0 f refl in
    let count = counts-all law s (paths_from [] 0 f) h.1 moved h.3 in
    let number : total law s (paths_from [] 0 f) ≡ s.tree.label.faults = inside law s [] 0 0 f refl refl refl (first (hero_moves (aim_of s) 0))
    ∙ sym annotated.faults in
    let root : h.0 ≡ 0 = h.2 in
    let same : n ≡ h.1 = let sum = h.4 in omega (arith, sum, root) in (
      (λ e. (root-none, (count.1).0 (sym same ∙ e ∙ sym number))),
      (λ so. same ∙ (count.1).1 so.1 ∙ number),
    )
  where
    first : (c : Bool) → (not c || (0 == 0)) ≡ true
    first true = refl
    first false = refl

    root-none : LosesTimeAt s []
    root-none m p f = absurd (false≢true f)
