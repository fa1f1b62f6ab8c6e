-- The first mistake of the solution is found child by child.
use Rattle.std.proofs.Common.{◌≡◌, ℕ, zero, suc, ◌+◌, ◌-◌, ◌≤◌, ◌<◌, Bool, true, false, List, [], ◌∷◌, ◌++◌, length, Option, Some, None}
use Rattle.std.proofs.Common.{refl, sym, ap, subst, ◌∙◌, arith, add-one, length-append, true≢false}
use Rattle.std.specs.Prelude.{is_some, if◌then◌else◌}
use Rattle.study_board.specs.Position.{Position}
use Rattle.study_moves.specs.declared.moves.Move.{Move}
use Rattle.study_moves.specs.Rules.{after}
use Rattle.study_notation.specs.declared.start.Start.{Start}
use Rattle.study_tree.specs.Forest.{Forest, none, more, Twig}
use Rattle.study_tree.specs.Edits.{node_in, width, IsWithin}
use Rattle.study_tree.specs.Tree.{Plain}
use Rattle.study_marks.specs.declared.mark.Mark.{Mark}
use Rattle.study_marks.specs.declared.mark.MoveMark.{MoveMark}
use Rattle.study_marks.specs.declared.mark.MoveMark.TheVariants.{Only, Dual, Mistake, Idle, Reply}
use Rattle.study_marks.specs.declared.mark_rules.Aim.{Aim}
use Rattle.study_marks.specs.FaultSums.{below_at, siblings_from}
use Rattle.study_marks.specs.Study.{Study, moves_to, position_after, position_at}
use Rattle.study_marks.specs.Goals.{aim_of, hero_moves}
use Rattle.study_marks.proofs.PathWalks.{below_entered}
use Rattle.study_facts.specs.Faults.{Fault, fault_of, faults_from}
use Rattle.study_facts.specs.Nodes.{is_mistake}
use Rattle.study_facts.proofs.NodesShown.{front-is}
use Rattle.study_head.specs.declared.mistake.NamedMove.{NamedMove}
use Rattle.study_head.specs.Words.{number_at}
use Rattle.study_head.specs.Mistake.{mistake_among, fault_name, named_fault, first_mistake, or_else, own_mistake, mistake_below}

-- ---- siblings

pub within-child : (n : ℕ) (f : Forest Mark) (k : ℕ) (t : Twig Mark) → node_in f k [] ≡ Some t → IsWithin n f → (0 < n) × IsWithin (n - 1) t.below
within-child n none k t e h = let no : ⊥ = cc in absurd no
within-child zero (more m l b r) k t e h = absurd h
within-child (suc n) (more m l b r) zero t e h =
    let one : n ≡ suc n - 1 = omega arith in
    let same : record { played = m; label = l; below = b } ≡ t = cc in
    (omega arith, subst (λ i. IsWithin i t.below) one (subst (λ (u : Twig Mark). IsWithin n u.below) same h.0))
within-child (suc n) (more m l b r) (suc k) t e h = within-child (suc n) r k t e h.1

abbrev head_of : Forest Mark → Option (Twig Mark)
head_of none = None
head_of (more m x b r) = Some (record { played = m; label = x; below = b })

abbrev rest_of : Forest Mark → Forest Mark
rest_of none = none
rest_of (more m x b r) = r

node-head : (f : Forest Mark) (k : ℕ) → node_in f k [] ≡ head_of (siblings_from k f)
node-head none zero = refl
node-head none (suc k) = refl
node-head (more m x b r) zero = refl
node-head (more m x b r) (suc k) = node-head r k

rest-next : (f : Forest Mark) (k : ℕ) → siblings_from (suc k) f ≡ rest_of (siblings_from k f)
rest-next none zero = refl
rest-next none (suc k) = refl
rest-next (more m x b r) zero = refl
rest-next (more m x b r) (suc k) = rest-next r k

here-on : (f : Forest Mark) (k : ℕ) (t : Twig Mark) → node_in f k [] ≡ Some t
    → siblings_from k f ≡ more t.played t.label t.below (siblings_from (suc k) f)
here-on none k t e = let no : ⊥ = cc in absurd no
here-on (more m x b r) zero t e =
    let same : record { played = m; label = x; below = b } ≡ t = cc in
    ap (λ (u : Twig Mark). more u.played u.label u.below r) same
here-on (more m x b r) (suc k) t e = here-on r k t e

none-left : (f : Forest Mark) (k : ℕ) → width f ≤ k → siblings_from k f ≡ none
none-left none zero h = refl
none-left none (suc k) h = refl
none-left (more m x b r) zero h = absurd (omega (arith, h))
none-left (more m x b r) (suc k) h = none-left r k (omega (arith, h))

-- ---- one child after the other

pub some-first : (x y : Option NamedMove) → is_some x ≡ true → or_else x y ≡ x
some-first None y h = absurd (true≢false (sym h))
some-first (Some m) y h = refl

pub none-first : (x y : Option NamedMove) → is_some x ≡ false → or_else x y ≡ y
none-first None y h = refl
none-first (Some m) y h = absurd (true≢false h)

or-none : (x : Option NamedMove) → or_else x None ≡ x
or-none None = refl
or-none (Some m) = refl

module _ (a : Aim) (start : Start) (d : ℕ) (p : Position) (f : Forest Mark) (k : ℕ) where
  -- no mistake is below the node, up to the child at place k
  abbrev pub NoneYet : Type 0
  NoneYet = mistake_below a start d p f ≡ mistake_below a start d p (siblings_from k f)

  pub none-at-all : width f ≤ k → NoneYet → mistake_below a start d p f ≡ None
  none-at-all few h = h ∙ ap (mistake_below a start d p) (none-left f k few)

  module _ (t : Twig Mark) (e : node_in f k [] ≡ Some t) (h : NoneYet) where
    abbrev own : Option NamedMove
    own = own_mistake a start d p t.played t.label.on_move

    abbrev under : Option NamedMove
    under = mistake_below a start (d + 1) (after p t.played) t.below

    abbrev rest : Option NamedMove
    rest = if hero_moves a d then None else mistake_below a start d p (siblings_from (suc k) f)

    from-here : mistake_below a start d p f ≡ or_else own (or_else under rest)
    from-here = h ∙ ap (mistake_below a start d p) (here-on f k t e)

    -- the child's own move is the first
    pub own-is : (o : Option NamedMove) → o ≡ own → is_some o ≡ true → o ≡ mistake_below a start d p f
    own-is o eo some = eo ∙ sym (from-here ∙ some-first own (or_else under rest) (ap is_some (sym eo) ∙ some))

    after-own : (o : Option NamedMove) → o ≡ own → is_some o ≡ false → mistake_below a start d p f ≡ or_else under rest
    after-own o eo eno = from-here ∙ none-first own (or_else under rest) (ap is_some (sym eo) ∙ eno)

    -- the first is below the child
    pub below-is : (o u : Option NamedMove) → o ≡ own → is_some o ≡ false → u ≡ under → is_some u ≡ true → u ≡ mistake_below a start d p f
    below-is o u eo eno eu some = eu ∙ sym (after-own o eo eno ∙ some-first under rest (ap is_some (sym eu) ∙ some))

    -- the hero's other moves are no part of the solution
    pub hero-is : (o u : Option NamedMove) → o ≡ own → is_some o ≡ false → u ≡ under → hero_moves a d ≡ true → u ≡ mistake_below a start d p f
    hero-is o u eo eno eu hero =
        let no-rest : rest ≡ None = ap (λ (b : Bool). if b then None else mistake_below a start d p (siblings_from (suc k) f)) hero in
        eu ∙ sym (after-own o eo eno ∙ ap (or_else under) no-rest ∙ or-none under)

    -- there is none at this child
    pub none-here : (o u : Option NamedMove) → o ≡ own → is_some o ≡ false → u ≡ under → is_some u ≡ false → hero_moves a d ≡ false
        → mistake_below a start d p f ≡ mistake_below a start d p (siblings_from (k + 1) f)
    none-here o u eo eno eu left opponent =
        let others : rest ≡ mistake_below a start d p (siblings_from (suc k) f) =
        ap (λ (b : Bool). if b then None else mistake_below a start d p (siblings_from (suc k) f)) opponent in
        after-own o eo eno ∙ none-first under rest (ap is_some (sym eu) ∙ left) ∙ others
        ∙ ap (λ j. mistake_below a start d p (siblings_from j f)) (sym (add-one k))

-- ---- the first of the solution's faults

moves-last : (f : Forest Mark) (path : List ℕ) (k : ℕ) (t : Twig Mark) → node_in (below_at f path) k [] ≡ Some t
    → moves_to f (path ++ k ∷ []) ≡ moves_to f path ++ t.played ∷ []
moves-last none [] k t e = let no : ⊥ = cc in absurd no
moves-last none (j ∷ js) k t e = let no : ⊥ = cc in absurd no
moves-last (more m x b r) [] zero t e =
    let same : record { played = m; label = x; below = b } ≡ t = cc in
    ap (λ (u : Twig Mark). u.played ∷ []) same
moves-last (more m x b r) [] (suc k) t e = moves-last r [] k t e
moves-last (more m x b r) (zero ∷ js) k t e = ap (λ (ms : List Move). m ∷ ms) (moves-last b js k t e)
moves-last (more m x b r) (suc j ∷ js) k t e = moves-last r (j ∷ js) k t e

last-after : (p : Position) (ms : List Move) (m : Move) → position_after p (ms ++ m ∷ []) ≡ after (position_after p ms) m
last-after p [] m = refl
last-after p (n ∷ ms) m = last-after (after p n) ms m

module _ (s : Study Mark) where
  position-last : (path : List ℕ) (k : ℕ) (t : Twig Mark) → node_in (below_at s.tree.below path) k [] ≡ Some t
      → position_at s (path ++ k ∷ []) ≡ after (position_at s path) t.played
  position-last path k t e =
      ap (position_after s.start.position) (moves-last s.tree.below path k t e)
      ∙ last-after s.start.position (moves_to s.tree.below path) t.played

  first-append : (xs ys : List Fault)
      → named_fault s (mistake_among (xs ++ ys)) ≡ or_else (named_fault s (mistake_among xs)) (named_fault s (mistake_among ys))
  first-append [] ys = refl
  first-append (x ∷ xs) ys = go (is_mistake (Some x.mark)) refl (first-append xs ys)
    where
      go : (b : Bool) → is_mistake (Some x.mark) ≡ b
          → named_fault s (mistake_among (xs ++ ys)) ≡ or_else (named_fault s (mistake_among xs)) (named_fault s (mistake_among ys))
          → named_fault s (mistake_among ((x ∷ xs) ++ ys)) ≡ or_else (named_fault s (mistake_among (x ∷ xs))) (named_fault s (mistake_among ys))
      go true e ih = rw e refl
      go false e ih = rw e ih

  name-is : (d : ℕ) (path : List ℕ) (k : ℕ) (p : Position) (m : Move) (x : MoveMark) → d ≡ length path → p ≡ position_at s path
      → fault_name s (record { path = path ++ k ∷ []; played = m; mark = x }) ≡ record { number = number_at s.start d; position = p; played = m }
  name-is d path k p m x ed ep =
      ap (λ (u : List ℕ). record { number = number_at s.start (length u); position = position_at s u; played = m }) (sym (front-is (path ++ k ∷ []) path k refl))
      ∙ ap (λ (n : ℕ). record { number = number_at s.start n; position = position_at s path; played = m }) (sym ed)
      ∙ ap (λ (q : Position). record { number = number_at s.start d; position = q; played = m }) (sym ep)

  own-first : (d : ℕ) (path : List ℕ) (k : ℕ) (p : Position) (m : Move) (o : Option MoveMark) → d ≡ length path → p ≡ position_at s path
      → named_fault s (mistake_among (fault_of (hero_moves (aim_of s) d) (path ++ k ∷ []) m o)) ≡ own_mistake (aim_of s) s.start d p m o
  own-first d path k p m o ed ep = go (hero_moves (aim_of s) d) refl o
    where
      go : (h : Bool) → hero_moves (aim_of s) d ≡ h → (o : Option MoveMark)
          → named_fault s (mistake_among (fault_of (hero_moves (aim_of s) d) (path ++ k ∷ []) m o)) ≡ own_mistake (aim_of s) s.start d p m o
      go true e None = rw e refl
      go false e None = rw e refl
      go false e (Some x) = rw e refl
      go true e (Some Only) = rw e refl
      go true e (Some (Dual n)) = rw e refl
      go true e (Some Mistake) = rw e (ap (λ (n : NamedMove). Some n) (name-is d path k p m Mistake ed ep))
      go true e (Some Idle) = rw e refl
      go true e (Some Reply) = rw e refl

  or-first : (h : Bool) (xs : List Fault) (o : Option NamedMove) → named_fault s (mistake_among xs) ≡ o
      → named_fault s (mistake_among (if h then [] else xs)) ≡ (if h then None else o)
  or-first true xs o e = refl
  or-first false xs o e = e

  finds : (d : ℕ) (path : List ℕ) (k : ℕ) (f : Forest Mark) (p : Position) → d ≡ length path
      → siblings_from k (below_at s.tree.below path) ≡ f → p ≡ position_at s path
      → named_fault s (mistake_among (faults_from (aim_of s) d path k f)) ≡ mistake_below (aim_of s) s.start d p f
  finds d path k none p ed ef ep = refl
  finds d path k (more m x b r) p ed ef ep =
      let a = aim_of s in
      let here = path ++ k ∷ [] in
      let g = below_at s.tree.below path in
      let t : Twig Mark = record { played = m; label = x; below = b } in
      let node : node_in g k [] ≡ Some t = node-head g k ∙ ap head_of ef in
      let own = fault_of (hero_moves a d) here m x.on_move in
      let below = faults_from a (d + 1) here 0 b in
      let rest = if hero_moves a d then [] else faults_from a d path (k + 1) r in
      let deep : d + 1 ≡ length here = let n = length-append path (k ∷ []) in omega (arith, n, ed) in
      let there : siblings_from 0 (below_at s.tree.below here) ≡ b = below_entered s.tree.below path k t node in
      let at : after p m ≡ position_at s here = ap (λ q. after q m) ep ∙ sym (position-last path k t node) in
      let next : siblings_from (k + 1) g ≡ r = ap (λ j. siblings_from j g) (add-one k) ∙ rest-next g k ∙ ap rest_of ef in
      let one = own-first d path k p m x.on_move ed ep in
      let two = finds (d + 1) here 0 b (after p m) deep there at in
      let three = or-first (hero_moves a d) (faults_from a d path (k + 1) r) (mistake_below a s.start d p r) (finds d path (k + 1) r p ed next ep) in
      first-append own (below ++ rest)
      ∙ ap (λ o. or_else o (named_fault s (mistake_among (below ++ rest)))) one
      ∙ ap (or_else (own_mistake a s.start d p m x.on_move))
      (first-append below rest ∙ ap (λ o. or_else o (named_fault s (mistake_among rest))) two
      ∙ ap (or_else (mistake_below a s.start (d + 1) (after p m) b)) three)

solution-first : (s : Study Mark) → mistake_below (aim_of s) s.start 0 s.start.position s.tree.below ≡ first_mistake s
solution-first s = sym (finds s 0 [] 0 s.tree.below s.start.position refl refl refl)

pub found-first : (s : Study Mark) (a : Aim) (start : Start) (root : Plain Mark) → a ≡ aim_of s → start ≡ s.start → root ≡ s.tree
    → mistake_below a start 0 start.position root.below ≡ first_mistake s
found-first s a start root ea es er =
    ap (λ x. mistake_below x start 0 start.position root.below) ea ∙ ap (λ (x : Start). mistake_below (aim_of s) x 0 x.position root.below) es
    ∙ ap (λ (x : Plain Mark). mistake_below (aim_of s) s.start 0 s.start.position x.below) er ∙ solution-first s
