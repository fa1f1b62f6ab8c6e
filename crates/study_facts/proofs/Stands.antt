-- A walk continues by one move.
use Rattle.std.proofs.Common.{◌≡◌, ◌==◌, ℕ, ◌+◌, ◌<◌, true, not, ◌&&◌, ◌||◌, List, [], ◌∷◌, ◌++◌}
use Rattle.std.proofs.Common.{Option, Some, None, length, refl, sym, ap, ◌∙◌, arith, length-append}
use Rattle.std.specs.Prelude.{IsTrue}
use Rattle.std.proofs.lemmas.Option.{same_Some, none-some}
use Rattle.study_board.specs.Position.{Position}
use Rattle.study_moves.specs.declared.moves.Move.{Move}
use Rattle.study_moves.specs.Rules.{after, is_legal}
use Rattle.study_tree.specs.Edits.{width}
use Rattle.study_tree.specs.Tree.{Spot, has_spot, spot_at, twig_spot}
use Rattle.study_marks.specs.declared.mark.Mark.{Mark}
use Rattle.study_marks.specs.declared.mark.MoveMark.{MoveMark}
use Rattle.study_marks.specs.declared.mark_rules.Aim.{Aim}
use Rattle.study_marks.specs.Bench.{played_by, on_move_of}
use Rattle.study_marks.specs.FaultSums.{below_at}
use Rattle.study_marks.specs.Study.{Study, position_at, IsPlayable}
use Rattle.study_marks.specs.Goals.{aim_of, hero_moves}
use Rattle.study_marks.proofs.MovesToNode.{legal-last, position-last}
use Rattle.study_marks.proofs.PathRenewed.{there-spot}
use Rattle.study_marks.proofs.PathWalks.{spot_last, width_some}
use Rattle.study_facts.specs.declared.walk_state.WalkState.{WalkState}
use Rattle.study_facts.specs.declared.walk_state.MoveToNode.{MoveToNode}
use Rattle.study_facts.specs.Faults.{in_solution}
use Rattle.study_facts.specs.Line.{line_to}
use Rattle.study_facts.specs.Nodes.{parent_path, has_no_idle_move, is_idle, is_mistake, is_try, is_solution_move, is_hero_move, mark_at, value_at}
use Rattle.study_facts.specs.Nodes.{value_of_spot}
use Rattle.study_facts.specs.WalkState.{arrival_by, arrival_of, IsStateAt, IsNodeAt}
use Rattle.study_facts.proofs.FaultsListed.{step-on}
use Rattle.study_facts.proofs.Lines.{line-last}
use Rattle.study_facts.proofs.NodesShown.{front-is, idle-last}
use Rattle.study_facts.proofs.WrittenOrder.{node-here}

-- the node with these contents
record Shows (o : Option (Spot Mark)) (by : MoveToNode) : Type 0 where
  pub spot : Spot Mark
  pub is : o ≡ Some spot
  pub played : spot.played ≡ Some by.played
  pub mark : spot.label ≡ by.mark
  pub children : spot.children ≡ by.children

shows : (o : Option (Spot Mark)) (by : MoveToNode) → arrival_of o ≡ Some by → Shows o by
shows None by e = absurd (none-some by e)
shows (Some s) by e = go s.played refl
  where
    go : (m : Option Move) → s.played ≡ m → Shows (Some s) by
    go None h = absurd (none-some by (ap (λ (x : Option Move). arrival_by x s.label s.children) (sym h) ∙ e))
    go (Some m) h =
        let same : (record { played = m; mark = s.label; children = s.children }) ≡ by =
        same_Some _ by (ap (λ (x : Option Move). arrival_by x s.label s.children) (sym h) ∙ e) in
        record {
          spot = s;
          is = refl;
          played = h ∙ ap (λ (x : MoveToNode). Some x.played) same;
          mark = ap (λ (x : MoveToNode). x.mark) same;
          children = ap (λ (x : MoveToNode). x.children) same;
        }

module _ (s : Study Mark) (steps : List ℕ) (by : MoveToNode) (e : arrival_of (spot_at s.tree steps) ≡ Some by) where
  shown : Shows (spot_at s.tree steps) by
  shown = shows (spot_at s.tree steps) by e

  pub arrival-played : played_by (spot_at s.tree steps) ≡ Some by.played
  arrival-played = ap played_by shown.is ∙ shown.played

  pub arrival-mark : by.mark.on_move ≡ mark_at s steps
  arrival-mark = sym (ap on_move_of shown.is ∙ ap (λ (x : Mark). x.on_move) shown.mark)

  pub arrival-value : by.mark.value ≡ value_at s steps
  arrival-value = sym (ap value_of_spot shown.is ∙ ap (λ (x : Mark). x.value) shown.mark)

  pub arrival-children : by.children ≡ width (below_at s.tree.below steps)
  arrival-children = sym (width_some s.tree steps shown.spot shown.is ∙ shown.children)

  pub arrival-there : IsTrue (has_spot s.tree steps)
  arrival-there = there-spot s.tree steps shown.spot shown.is

  module _ (front : List ℕ) (k : ℕ) (path : steps ≡ front ++ k ∷ []) (h : IsPlayable s.start.position s.tree.below) where
    pub arrival-legal : (before : WalkState) → IsStateAt s (parent_path steps) before → is_legal before.position by.played ≡ true
    arrival-legal before b =
        legal-last s.start.position before.position s.tree steps front k by.played path arrival-played h
        (b.position ∙ ap (position_at s) (sym (front-is steps front k path)))

    pub stand-after : (before here : WalkState) → IsStateAt s (parent_path steps) before → here.position ≡ after before.position by.played
        → here.children ≡ by.children
        → here.solution ≡ (before.solution && (not (hero_moves (aim_of s) (length front)) || (k == 0)))
        → here.quiet ≡ (before.quiet && not (is_idle by.mark.on_move)) → IsStateAt s steps here
    stand-after before here b p c so q =
        let same = sym (front-is steps front k path) in
        let at = b.position ∙ ap (position_at s) same in
        let turn = not (hero_moves (aim_of s) (length front)) || (k == 0) in
        record {
          position = p ∙ position-last s.start.position before.position s.tree steps front k by.played path arrival-played h at;
          children = c ∙ arrival-children;
          solution = so ∙ ap (λ b. b && turn) (b.solution ∙ ap (in_solution (aim_of s) 0) same)
              ∙ ap (λ n. in_solution (aim_of s) 0 front && (not (hero_moves (aim_of s) n) || (k == 0)))
              (let z : length front ≡ 0 + length front = omega arith in z)
              ∙ sym (step-on (aim_of s) 0 front k) ∙ ap (in_solution (aim_of s) 0) (sym path);
          quiet = q ∙ ap (λ b. b && not (is_idle by.mark.on_move)) (b.quiet ∙ ap (has_no_idle_move s.tree.below) same)
              ∙ ap (λ (o : Option MoveMark). has_no_idle_move s.tree.below front && not (is_idle o)) arrival-mark
              ∙ sym (idle-last s.tree steps front k path);
        }

    pub line-after : (before here : WalkState) (mid new : List Position) → IsStateAt s (parent_path steps) before → IsStateAt s steps here
        → mid ≡ line_to s (parent_path steps) → new ≡ mid ++ here.position ∷ [] → new ≡ line_to s steps
    line-after before here mid new b st m n =
        let same = sym (front-is steps front k path) in
        let at = b.position ∙ ap (position_at s) same in
        line-last s steps front k by.played before.position here.position mid new path arrival-played h at
        (st.position ∙ sym (position-last s.start.position before.position s.tree steps front k by.played path arrival-played h at))
        (m ∙ ap (line_to s) same) n

-- ---- the move to a node

made-by : (a : Aim) (steps front : List ℕ) (k : ℕ) → steps ≡ front ++ k ∷ [] → is_hero_move a steps ≡ hero_moves a (length front)
made-by a steps front k e = ap (is_hero_move a) e ∙ go front
  where
    go : (xs : List ℕ) → is_hero_move a (xs ++ k ∷ []) ≡ hero_moves a (length xs)
    go [] = refl
    go (x ∷ xs) = ap (hero_moves a) (let n : length (xs ++ k ∷ []) ≡ length (x ∷ xs) = omega (arith, length-append xs (k ∷ [])) in n)

record HasLast (steps : List ℕ) : Type 0 where
  pub front : List ℕ
  pub place : ℕ
  pub is : steps ≡ front ++ place ∷ []

has-last : (steps : List ℕ) → 0 < length steps → HasLast steps
has-last [] h = absurd (omega (arith, h))
has-last (k ∷ []) h = record { front = []; place = k; is = refl }
has-last (k ∷ j ∷ js) h =
    let r = has-last (j ∷ js) (let z : 0 < length (j ∷ js) = omega arith in z) in
    record { front = k ∷ r.front; place = r.place; is = ap (λ (l : List ℕ). k ∷ l) r.is }

module _ (s : Study Mark) (steps : List ℕ) (some : 0 < length steps) where
  last : HasLast steps
  last = has-last steps some

  front-same : last.front ≡ parent_path steps
  front-same = front-is steps last.front last.place last.is

  front-length : length (parent_path steps) + 1 ≡ length steps
  front-length =
      let n = length-append last.front (last.place ∷ []) in
      let same = ap length front-same in
      let long = ap length last.is in omega (arith, n, same, long)

  made-last : (a : Aim) (d : ℕ) → d + 1 ≡ length steps → is_hero_move a steps ≡ hero_moves a d
  made-last a d e =
      made-by a steps last.front last.place last.is
      ∙ ap (hero_moves a) (let z : length last.front ≡ d = omega (arith, front-length, ap length front-same, e) in z)

  pub solution-move : (a : Aim) (d : ℕ) (here : WalkState) → a ≡ aim_of s → d + 1 ≡ length steps → IsStateAt s steps here
      → (hero_moves a d && here.solution) ≡ is_solution_move s steps
  solution-move a d here e n h =
      ap (λ (x : Aim). hero_moves x d && here.solution) e
      ∙ ap (λ b. b && here.solution) (sym (made-last (aim_of s) d n)) ∙ ap (λ b. is_hero_move (aim_of s) steps && b) h.solution

  pub tried-move : (a : Aim) (d : ℕ) (mark : Option MoveMark) (before : WalkState) → a ≡ aim_of s → d + 1 ≡ length steps
      → mark ≡ mark_at s steps → IsStateAt s (parent_path steps) before
      → (hero_moves a d && (is_mistake mark || (is_idle mark && (before.solution && before.quiet)))) ≡ is_try s steps
  tried-move a d mark before e n m b =
      ap (λ (x : Aim). hero_moves x d && (is_mistake mark || (is_idle mark && (before.solution && before.quiet)))) e
      ∙ ap (λ c. c && (is_mistake mark || (is_idle mark && (before.solution && before.quiet)))) (sym (made-last (aim_of s) d n))
      ∙ ap (λ (o : Option MoveMark). is_hero_move (aim_of s) steps && (is_mistake o || (is_idle o && (before.solution && before.quiet)))) m
      ∙ ap (λ c. is_hero_move (aim_of s) steps && (is_mistake (mark_at s steps) || (is_idle (mark_at s steps) && (c && before.quiet)))) b.solution
      ∙ ap (λ c. is_hero_move (aim_of s) steps &&
      (is_mistake (mark_at s steps) || (is_idle (mark_at s steps) && (in_solution (aim_of s) 0 (parent_path steps) && c)))) b.quiet

  pub legal-before : (by : MoveToNode) → arrival_of (spot_at s.tree steps) ≡ Some by → IsPlayable s.start.position s.tree.below → (before : WalkState)
      → IsStateAt s (parent_path steps) before → is_legal before.position by.played ≡ true
  legal-before by e h before b = arrival-legal s steps by e last.front last.place last.is h before b

  pub node-before : (a : Aim) (d : ℕ) (before : WalkState) → a ≡ aim_of s → d + 1 ≡ length steps → IsStateAt s (parent_path steps) before
      → IsNodeAt s (parent_path steps) a d before.position
  node-before a d before e n b = record {
    aim = e;
    depth = (let z : d ≡ length (parent_path steps) = omega (arith, n, front-length) in z);
    position = b.position;
  }

-- there is a node at each place, and it is not the root
pub child-arrives : (s : Study Mark) (steps path : List ℕ) (k : ℕ) → path ≡ steps ++ k ∷ [] → k < width (below_at s.tree.below steps)
    → arrival_of (spot_at s.tree path) ≡ None → ⊥
child-arrives s steps path k e h none =
    let x = node-here (below_at s.tree.below steps) k h in
    let spot : spot_at s.tree path ≡ twig_spot (Some x.0) = ap (spot_at s.tree) e ∙ spot_last s.tree steps k ∙ ap twig_spot x.1 in
    none-some (record { played = x.0.played; mark = x.0.label; children = width x.0.below }) (sym none ∙ ap arrival_of spot)
