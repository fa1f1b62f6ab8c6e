-- Numbers of nodes in written order, added up.
use Rattle.std.proofs.Common.{◌≡◌, ℕ, ◌+◌, ◌≤◌, ◌<◌, ◌^◌, suc, Bool, true, false, List, [], ◌∷◌}
use Rattle.std.proofs.Common.{◌++◌, length, Option, Some, None, refl, sym, ap, subst, ◌∙◌, arith, length-append, add-one}
use Rattle.std.specs.Prelude.{MatchOption, if◌then◌else◌}
use Rattle.study_moves.specs.declared.moves.Move.{Move}
use Rattle.study_tree.specs.Forest.{Forest, none, more, nodes_in}
use Rattle.study_tree.specs.Edits.{width}
use Rattle.study_tree.specs.Tree.{size_of, spot_at}
use Rattle.study_marks.specs.declared.mark.Mark.{Mark}
use Rattle.study_marks.specs.declared.mark.MoveMark.{MoveMark}
use Rattle.study_marks.specs.declared.mark.MoveMark.TheVariants.{Only, Dual, Mistake, Idle, Reply}
use Rattle.study_marks.specs.Bench.{played_by}
use Rattle.study_marks.specs.FaultSums.{below_at, siblings_from}
use Rattle.study_marks.specs.Study.{Study}
use Rattle.study_marks.proofs.ChildFound.{skipped-end}
use Rattle.study_marks.proofs.PathWalks.{below_entered}
use Rattle.study_facts.specs.Made.{Rose}
use Rattle.study_facts.specs.Nodes.{mark_at, is_dual, is_solution_move}
use Rattle.study_facts.specs.Order.{paths_from, SumOfEach, AreTimeFaults, written_order}
use Rattle.study_facts.specs.TimeFaults.{CountWhere, IsTimeFaultOf, IsTimeFault, all_lose_time}
use Rattle.study_facts.proofs.WrittenOrder.{node-here}

module _ (P : List ℕ → ℕ → Type 0) where
  each-sum : (xs ys : List (List ℕ)) (m n : ℕ) → SumOfEach P xs m → SumOfEach P ys n → SumOfEach P (xs ++ ys) (m + n)
  each-sum [] ys m n h k = subst (λ w. SumOfEach P ys w) (let z : n ≡ m + n = omega (arith, h) in z) k
  each-sum (x ∷ xs) ys m n h k =
      (h.0, h.1 + n, h.2, each-sum xs ys h.1 n h.3 k, let z : m + n ≡ h.0 + (h.1 + n) = omega (arith, h.4) in z)

  -- since the loop's start the count rose such that it and any numbers of the remaining nodes add up to numbers of all
  abbrev pub SumGoesOn : List ℕ → Forest Mark → ℕ → ℕ → ℕ → Type 0
  SumGoesOn path f k initial now =
      (done : ℕ) × (initial + done < 2 ^ 32 → now ≡ initial + done)
      × ((rest : ℕ) → SumOfEach P (paths_from path k (siblings_from k f)) rest → SumOfEach P (paths_from path 0 f) (done + rest))

  pub none-summed : (path : List ℕ) (f : Forest Mark) (n : ℕ) → SumGoesOn path f 0 n n
  none-summed path f n = (
    0,
    λ few. (let z : n ≡ n + 0 = omega arith in z),
    λ rest h. subst (λ w. SumOfEach P (paths_from path 0 f) w) (let z : rest ≡ 0 + rest = omega arith in z) h,
  )

  rose-twice : (old mid new i j : ℕ) → (old + i < 2 ^ 32 → mid ≡ old + i) → (mid + j < 2 ^ 32 → new ≡ mid + j)
      → old + (i + j) < 2 ^ 32 → new ≡ old + (i + j)
  rose-twice old mid new i j h k few =
      let one : mid ≡ old + i = h (omega (arith, few)) in
      let two : new ≡ mid + j = k (omega (arith, few, one)) in
      omega (arith, one, two)

  pub child-summed : (f : Forest Mark) (steps path : List ℕ) (k : ℕ) (initial old new : ℕ) → path ≡ steps ++ k ∷ []
      → k < width (below_at f steps) → Rose (SumOfEach P (path ∷ paths_from path 0 (below_at f path))) old new
      → SumGoesOn steps (below_at f steps) k initial old → SumGoesOn steps (below_at f steps) (k + 1) initial new
  child-summed f steps path k initial old new e lt rose h =
      let g = below_at f steps in
      let x = node-here g k lt in
      let t = x.0 in
      let child = steps ++ k ∷ [] in
      let same : below_at f path ≡ t.below = ap (below_at f) e ∙ below_entered f steps k t x.1 in
      let one : SumOfEach P (child ∷ paths_from child 0 t.below) rose.0 =
      subst (λ (b : Forest Mark). SumOfEach P (child ∷ paths_from child 0 b) rose.0) same
      (subst (λ (p : List ℕ). SumOfEach P (p ∷ paths_from p 0 (below_at f path)) rose.0) e rose.1) in
      let here : paths_from steps k (siblings_from k g) ≡ (child ∷ paths_from child 0 t.below) ++ paths_from steps (k + 1) (siblings_from (suc k) g) =
      ap (paths_from steps k) x.2 in (
        h.0 + rose.0,
        rose-twice initial old new h.0 rose.0 h.1 rose.2,
        λ rest left.
            subst (λ w. SumOfEach P (paths_from steps 0 g) w) (let z : h.0 + (rose.0 + rest) ≡ h.0 + rose.0 + rest = omega arith in z)
            (h.2 (rose.0 + rest) (subst (λ (ps : List (List ℕ)). SumOfEach P ps (rose.0 + rest)) (sym here)
            (each-sum (child ∷ paths_from child 0 t.below) (paths_from steps (k + 1) (siblings_from (suc k) g)) rose.0 rest one
            (subst (λ j. SumOfEach P (paths_from steps (k + 1) (siblings_from j g)) rest) (add-one k) left)))),
      )

  -- the number of a node, and the numbers of the others after it
  pub both-summed : (path : List ℕ) (paths : List (List ℕ)) (t0 t1 t2 : ℕ) → Rose (P path) t0 t1 → Rose (SumOfEach P paths) t1 t2
      → Rose (SumOfEach P (path ∷ paths)) t0 t2
  both-summed path paths t0 t1 t2 x y = (x.0 + y.0, (x.0, y.0, x.1, y.1, refl), rose-twice t0 t1 t2 x.0 y.0 x.2 y.2)

  -- all children are counted
  pub below-summed : (f : Forest Mark) (steps : List ℕ) (k : ℕ) (old new : ℕ) → width (below_at f steps) ≤ k
      → SumGoesOn steps (below_at f steps) k old new → Rose (SumOfEach P (paths_from steps 0 (below_at f steps))) old new
  below-summed f steps k old new few h =
      let g = below_at f steps in
      let end : SumOfEach P (paths_from steps k (siblings_from k g)) 0 =
      subst (λ (r : Forest Mark). SumOfEach P (paths_from steps k r) 0) (sym (skipped-end k g few)) refl in
      (h.0, subst (λ w. SumOfEach P (paths_from steps 0 g) w) (let z : h.0 + 0 ≡ h.0 = omega arith in z) (h.2 0 end), h.1)

  -- all children are counted, after the node's own number
  pub all-summed : (f : Forest Mark) (steps : List ℕ) (k : ℕ) (old mid new : ℕ) → width (below_at f steps) ≤ k
      → Rose (P steps) old mid → SumGoesOn steps (below_at f steps) k mid new
      → Rose (SumOfEach P (steps ∷ paths_from steps 0 (below_at f steps))) old new
  all-summed f steps k old mid new few own h =
      both-summed steps (paths_from steps 0 (below_at f steps)) old mid new own (below-summed f steps k mid new few h)

  -- with at most one each, the total is at most the number of paths
  few-summed : ((path : List ℕ) (n : ℕ) → P path n → n ≤ 1) → (paths : List (List ℕ)) (n : ℕ) → SumOfEach P paths n → n ≤ length paths
  few-summed one [] n h = omega (arith, h)
  few-summed one (x ∷ xs) n h =
      let a = one x h.0 h.2 in
      let b = few-summed one xs h.1 h.3 in
      omega (arith, a, b, h.4)

-- as many paths as nodes
paths-counted : {L : Type 0} (path : List ℕ) (k : ℕ) (f : Forest L) → length (paths_from path k f) ≡ nodes_in f
paths-counted path k none = refl
paths-counted path k (more m l b r) =
    let here = path ++ k ∷ [] in
    let a = paths-counted here 0 b in
    let c = paths-counted path (k + 1) r in
    let e = length-append (paths_from here 0 b) (paths_from path (k + 1) r) in
    omega (arith, a, c, e)

module _ (s : Study Mark) where
  one-or-none : (b : Bool) (n : ℕ) → n ≡ (if b then 1 else 0) → n ≤ 1
  one-or-none true n e = omega (arith, e)
  one-or-none false n e = omega (arith, e)

  one-fault : (path : List ℕ) (m : Move) (mark : Option MoveMark) (n : ℕ) → IsTimeFaultOf s path m mark n → n ≤ 1
  one-fault path m None n h = omega (arith, h)
  one-fault path m (Some (Dual k)) n h = one-or-none (all_lose_time h.0) n h.2
  one-fault path m (Some Mistake) n h = omega (arith, h)
  one-fault path m (Some Only) n h = omega (arith, h)
  one-fault path m (Some Idle) n h = omega (arith, h)
  one-fault path m (Some Reply) n h = omega (arith, h)

  one-played : (path : List ℕ) (o : Option Move) (n : ℕ)
      → MatchOption o (n ≡ 0) (λ m. IsTimeFaultOf s path m (mark_at s path) n) → n ≤ 1
  one-played path None n h = omega (arith, h)
  one-played path (Some m) n h = one-fault path m (mark_at s path) n h

  one-time-fault : (path : List ℕ) (n : ℕ) → IsTimeFault s path n → n ≤ 1
  one-time-fault path n h = go (is_solution_move s path) h
    where
      go : (b : Bool) → CountWhere b (λ j. MatchOption (played_by (spot_at s.tree path)) (j ≡ 0) (λ m. IsTimeFaultOf s path m (mark_at s path) j)) n
          → n ≤ 1
      go true h = one-played path (played_by (spot_at s.tree path)) n h
      go false h = omega (arith, h)

  -- at most one for each node
  pub few-time-faults : (n : ℕ) → AreTimeFaults s n → n ≤ size_of s.tree
  few-time-faults n h =
      let few = few-summed (IsTimeFault s) one-time-fault (written_order s) n h in
      let all = paths-counted [] 0 s.tree.below in
      omega (arith, few, all)

  -- a move that is not a dual does not lose time alone
  plain-time : (path : List ℕ) (m : Move) (mark : Option MoveMark) → is_dual mark ≡ false → IsTimeFaultOf s path m mark 0
  plain-time path m None i = refl
  plain-time path m (Some Only) i = refl
  plain-time path m (Some (Dual k)) i = absurd cc
  plain-time path m (Some Mistake) i = refl
  plain-time path m (Some Idle) i = refl
  plain-time path m (Some Reply) i = refl

  time-where : (path : List ℕ) → MatchOption (played_by (spot_at s.tree path)) (◌≡◌ {A = ℕ} 0 0) (λ m. IsTimeFaultOf s path m (mark_at s path) 0)
      → IsTimeFault s path 0
  time-where path h = go (is_solution_move s path)
    where
      go : (b : Bool) → CountWhere b (λ j. MatchOption (played_by (spot_at s.tree path)) (j ≡ 0) (λ m. IsTimeFaultOf s path m (mark_at s path) j)) 0
      go true = h
      go false = refl

  stays : (path : List ℕ) (n : ℕ) → IsTimeFault s path 0 → Rose (IsTimeFault s path) n n
  stays path n h = (0, h, λ few. (let z : n ≡ n + 0 = omega arith in z))

  pub time-none : (path : List ℕ) (n : ℕ) (mark : Option MoveMark) → mark ≡ mark_at s path → is_dual mark ≡ false → Rose (IsTimeFault s path) n n
  time-none path n mark e i = stays path n (time-where path (go (played_by (spot_at s.tree path))))
    where
      go : (o : Option Move) → MatchOption o (◌≡◌ {A = ℕ} 0 0) (λ m. IsTimeFaultOf s path m (mark_at s path) 0)
      go None = refl
      go (Some m) = plain-time path m (mark_at s path) (ap is_dual (sym e) ∙ i)

  pub time-unplayed : (path : List ℕ) (n : ℕ) → played_by (spot_at s.tree path) ≡ None → Rose (IsTimeFault s path) n n
  time-unplayed path n e =
      stays path n (time-where path (subst (λ (o : Option Move). MatchOption o (◌≡◌ {A = ℕ} 0 0) (λ m. IsTimeFaultOf s path m (mark_at s path) 0)) (sym e)
      refl))

  -- no move leads to the root
  pub root-time : (n : ℕ) → Rose (IsTimeFault s []) n n
  root-time n = (0, refl, λ few. (let z : n ≡ n + 0 = omega arith in z))

  pub time-all : (p : List ℕ) (t0 t1 t2 : ℕ) → p ≡ [] → t1 ≡ t0 → Rose (SumOfEach (IsTimeFault s) (paths_from p 0 (below_at s.tree.below p))) t1 t2
      → Rose (AreTimeFaults s) t0 t2
  time-all p t0 t1 t2 e same h =
      both-summed (IsTimeFault s) [] (paths_from [] 0 s.tree.below) t0 t0 t2 (root-time t0)
      (subst (λ t. Rose (SumOfEach (IsTimeFault s) (paths_from [] 0 s.tree.below)) t t2) same
      (subst (λ (q : List ℕ). Rose (SumOfEach (IsTimeFault s) (paths_from q 0 (below_at s.tree.below q))) t1 t2) e h))

-- if the count begins at 0, it is the number of the faults that lose time alone
pub time-counted : (s : Study Mark) (size old new : ℕ) → old ≡ 0 → size ≡ size_of s.tree → size ≤ 4096
    → Rose (AreTimeFaults s) old new → AreTimeFaults s new
time-counted s size old new zero is few h =
    let at_most = few-time-faults s h.0 h.1 in
    let same : new ≡ old + h.0 = h.2 (let z : old + h.0 < 2 ^ 32 = omega (arith, zero, is, few, at_most) in z) in
    subst (λ n. AreTimeFaults s n) (let z : h.0 ≡ new = omega (arith, same, zero) in z) h.1
