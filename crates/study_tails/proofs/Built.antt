-- Insertions in written order make a tree.
use Rattle.std.proofs.Common.{◌≡◌, ℕ, zero, suc, ◌+◌, ◌≤◌, ◌<◌, Bool, true, false, List, [], ◌∷◌, ◌++◌, length, nat_le, Some, None}
use Rattle.std.proofs.Common.{refl, sym, ap, subst, ◌∙◌, arith, append_assoc, length-append}
use Rattle.std.specs.Prelude.{if◌then◌else◌}
use Rattle.std.proofs.lemmas.Bool.{lt-leb}
use Rattle.study_board.specs.Position.{Position, IsValid}
use Rattle.study_moves.specs.declared.moves.Move.{Move}
use Rattle.study_moves.specs.Rules.{is_legal, after}
use Rattle.study_moves.proofs.AfterMove.{IsValid-after}
use Rattle.study_tree.specs.Forest.{none, more, nodes_in}
use Rattle.study_tree.specs.Edits.{has_node, width, with_last, below_edited, IsWithin}
use Rattle.study_tree.specs.Tree.{size_of}
use Rattle.study_marks.specs.Study.{same_move, place_from, place_at, moves_to, position_after, position_at, IsPlayable, AreOthers, AreDistinct}
use Rattle.study_marks.specs.Edits.{PlainStudy, with_insertion, insert_refusal}
use Rattle.study_marks.specs.FaultSums.{below_at}
use Rattle.study_marks.proofs.ChildFound.{place_at-below}
use Rattle.study_marks.proofs.DualCounts.{same_move-one}
use Rattle.study_wide.specs.Rules.{widen, wide_after}
use Rattle.study_wide.specs.Wide.{Wide}
use Rattle.study_wide.proofs.FewMen.{few_agree}
use Rattle.study_wide_text.proofs.SanAgrees.{san_agree}
use Rattle.study_tails.specs.Study.{Moves}
use Rattle.study_tails.specs.Lines.{insert_line, insert_lines}
use Rattle.study_tails.specs.Insertions.{Insertion, insertions, made_by, AllAccepted, plain_line, lines_for, root_alone, IsPlain, IsBuilt}

-- ---- siblings behind others

unfoldable pub joined : Moves → Moves → Moves
joined none f = f
joined (more m l b r) f = more m l b (joined r f)

pub joined_none : (c : Moves) → joined c none ≡ c
unfolding joined
joined_none none = refl
joined_none (more m l b r) = ap (more m l b) (joined_none r)

pub joined_assoc : (c d f : Moves) → joined (joined c d) f ≡ joined c (joined d f)
unfolding joined
joined_assoc none d f = refl
joined_assoc (more m l b r) d f = ap (more m l b) (joined_assoc r d f)

pub joined_width : (c d : Moves) → width (joined c d) ≡ width c + width d
unfolding joined
joined_width none d = omega arith
joined_width (more m l b r) d = omega (arith, joined_width r d)

pub joined_nodes : (c d : Moves) → nodes_in (joined c d) ≡ nodes_in c + nodes_in d
unfolding joined
joined_nodes none d = omega arith
joined_nodes (more m l b r) d = omega (arith, joined_nodes r d)

pub last_joined : (c : Moves) (m : Move) → with_last m tt c ≡ joined c (more m tt none none)
unfolding joined
last_joined none m = refl
last_joined (more n l b r) m = ap (more n l b) (last_joined r m)

-- what is put below the last child
pub below_last : (c b : Moves) (k : ℕ) (m : Move) → width c ≡ k
    → below_edited (λ d. joined d b) (joined c (more m tt none none)) (k ∷ []) ≡ joined c (more m tt b none)
unfolding joined
below_last none b zero m e = refl
below_last none b (suc k) m e = absurd (omega (arith, e))
below_last (more n l d r) b zero m e = absurd (omega (arith, e))
below_last (more n l d r) b (suc k) m e = ap (more n l d) (below_last r b k m (omega (arith, e)))

-- ---- edits at a node

pub has_edited : (g : Moves → Moves) (f : Moves) (ks : List ℕ) → has_node f ks ≡ true → has_node (below_edited g f ks) ks ≡ true
has_edited g f [] h = refl
has_edited g none (k ∷ ks) h = h
has_edited g (more m l b r) (zero ∷ ks) h = has_edited g b ks h
has_edited g (more m l b r) (suc k ∷ ks) h = has_edited g r (k ∷ ks) h

pub at_edited : (g : Moves → Moves) (f : Moves) (ks : List ℕ) → has_node f ks ≡ true → below_at (below_edited g f ks) ks ≡ g (below_at f ks)
at_edited g f [] h = refl
at_edited g none (k ∷ ks) h = let no : ⊥ = cc in absurd no
at_edited g (more m l b r) (zero ∷ ks) h = at_edited g b ks h
at_edited g (more m l b r) (suc k ∷ ks) h = at_edited g r (k ∷ ks) h

pub edit_same : (g h : Moves → Moves) (f : Moves) (ks : List ℕ) → g (below_at f ks) ≡ h (below_at f ks) → below_edited g f ks ≡ below_edited h f ks
edit_same g h f [] e = e
edit_same g h none (k ∷ ks) e = refl
edit_same g h (more m l b r) (zero ∷ ks) e = ap (λ (x : Moves). more m l x r) (edit_same g h b ks e)
edit_same g h (more m l b r) (suc k ∷ ks) e = ap (more m l b) (edit_same g h r (k ∷ ks) e)

pub edit_twice : (g h : Moves → Moves) (f : Moves) (ks : List ℕ) → below_edited g (below_edited h f ks) ks ≡ below_edited (λ c. g (h c)) f ks
edit_twice g h f [] = refl
edit_twice g h none (k ∷ ks) = refl
edit_twice g h (more m l b r) (zero ∷ ks) = ap (λ (x : Moves). more m l x r) (edit_twice g h b ks)
edit_twice g h (more m l b r) (suc k ∷ ks) = ap (more m l b) (edit_twice g h r (k ∷ ks))

pub edit_child : (g : Moves → Moves) (f : Moves) (ks : List ℕ) (k : ℕ) → below_edited g f (ks ++ k ∷ []) ≡ below_edited (λ c. below_edited g c (k ∷ [])) f ks
edit_child g f [] k = refl
edit_child g none (j ∷ js) k = refl
edit_child g (more m l b r) (zero ∷ js) k = ap (λ (x : Moves). more m l x r) (edit_child g b js k)
edit_child g (more m l b r) (suc j ∷ js) k = ap (more m l b) (edit_child g r (j ∷ js) k)

pub edit_none : (g : Moves → Moves) (f : Moves) (ks : List ℕ) → g (below_at f ks) ≡ below_at f ks → below_edited g f ks ≡ f
edit_none g f [] e = e
edit_none g none (k ∷ ks) e = refl
edit_none g (more m l b r) (zero ∷ ks) e = ap (λ (x : Moves). more m l x r) (edit_none g b ks e)
edit_none g (more m l b r) (suc k ∷ ks) e = ap (more m l b) (edit_none g r (k ∷ ks) e)

moves_edited : (g : Moves → Moves) (f : Moves) (ks : List ℕ) → moves_to (below_edited g f ks) ks ≡ moves_to f ks
moves_edited g f [] = refl
moves_edited g none (k ∷ ks) = refl
moves_edited g (more m l b r) (zero ∷ ks) = ap (λ (x : List Move). m ∷ x) (moves_edited g b ks)
moves_edited g (more m l b r) (suc k ∷ ks) = moves_edited g r (k ∷ ks)

pub nodes_edited : (g : Moves → Moves) (f : Moves) (ks : List ℕ) (n : ℕ) → has_node f ks ≡ true → nodes_in (g (below_at f ks)) ≡ nodes_in (below_at f ks) + n
    → nodes_in (below_edited g f ks) ≡ nodes_in f + n
nodes_edited g f [] n h e = e
nodes_edited g none (k ∷ ks) n h e = let no : ⊥ = cc in absurd no
nodes_edited g (more m l b r) (zero ∷ ks) n h e = omega (arith, nodes_edited g b ks n h e)
nodes_edited g (more m l b r) (suc k ∷ ks) n h e = omega (arith, nodes_edited g r (k ∷ ks) n h e)

-- ---- the last child

-- a last child: it is there, nothing is below it, and its move is the last of those that lead to it
pub record IsLastChild (f : Moves) (ks : List ℕ) (m : Move) : Type 0 where
  pub found : has_node f ks ≡ true
  pub bare : below_at f ks ≡ none

last_there : (c : Moves) (k : ℕ) (m : Move) → width c ≡ k → IsLastChild (joined c (more m tt none none)) (k ∷ []) m
unfolding joined
last_there none zero m e = record { found = refl; bare = refl }
last_there none (suc k) m e = absurd (omega (arith, e))
last_there (more n l d r) zero m e = absurd (omega (arith, e))
last_there (more n l d r) (suc k) m e = let i = last_there r k m (omega (arith, e)) in record { found = i.found; bare = i.bare }

last_move : (c : Moves) (k : ℕ) (m : Move) → width c ≡ k → moves_to (joined c (more m tt none none)) (k ∷ []) ≡ m ∷ []
unfolding joined
last_move none zero m e = refl
last_move none (suc k) m e = absurd (omega (arith, e))
last_move (more n l d r) zero m e = absurd (omega (arith, e))
last_move (more n l d r) (suc k) m e = last_move r k m (omega (arith, e))

child_there : (g : Moves → Moves) (f : Moves) (ks : List ℕ) (k : ℕ) (m : Move) → has_node f ks ≡ true → IsLastChild (g (below_at f ks)) (k ∷ []) m
    → IsLastChild (below_edited g f ks) (ks ++ k ∷ []) m
child_there g f [] k m h i = i
child_there g none (j ∷ js) k m h i = let no : ⊥ = cc in absurd no
child_there g (more n l b r) (zero ∷ js) k m h i = let c = child_there g b js k m h i in record { found = c.found; bare = c.bare }
child_there g (more n l b r) (suc j ∷ js) k m h i = let c = child_there g r (j ∷ js) k m h i in record { found = c.found; bare = c.bare }

child_moves : (g : Moves → Moves) (f : Moves) (ks : List ℕ) (k : ℕ) (m : Move) → has_node f ks ≡ true → moves_to (g (below_at f ks)) (k ∷ []) ≡ m ∷ []
    → moves_to (below_edited g f ks) (ks ++ k ∷ []) ≡ moves_to f ks ++ m ∷ []
child_moves g f [] k m h i = i
child_moves g none (j ∷ js) k m h i = let no : ⊥ = cc in absurd no
child_moves g (more n l b r) (zero ∷ js) k m h i = ap (λ (x : List Move). n ∷ x) (child_moves g b js k m h i)
child_moves g (more n l b r) (suc j ∷ js) k m h i = child_moves g r (j ∷ js) k m h i

after_last : (p : Position) (ms : List Move) (m : Move) → position_after p (ms ++ m ∷ []) ≡ after (position_after p ms) m
after_last p [] m = refl
after_last p (n ∷ ms) m = after_last (after p n) ms m

-- ---- insertions, one list after another

made_append : (s : PlainStudy) (xs ys : List Insertion) → made_by s (xs ++ ys) ≡ made_by (made_by s xs) ys
made_append s [] ys = refl
made_append s (x ∷ xs) ys = made_append (with_insertion s x.0 x.1) xs ys

accepted_append : (A : Type 0) (s : PlainStudy) (xs ys : List Insertion) → AllAccepted A s xs → AllAccepted A (made_by s xs) ys → AllAccepted A s (xs ++ ys)
accepted_append A s [] ys h i = i
accepted_append A s (x ∷ xs) ys h i = (h.0, accepted_append A (with_insertion s x.0 x.1) xs ys h.1 i)

lines_append : (s : PlainStudy) (xs ys : List Insertion) → lines_for s (xs ++ ys) ≡ lines_for s xs ++ lines_for (made_by s xs) ys
lines_append s [] ys = refl
lines_append s (x ∷ xs) ys =
    let own = plain_line (position_at s x.0) x.0 x.1 in
    ap (λ (l : List ℕ). own ++ l) (lines_append (with_insertion s x.0 x.1) xs ys)
    ∙ sym (append_assoc own (lines_for (with_insertion s x.0 x.1) xs) (lines_for (made_by (with_insertion s x.0 x.1) xs) ys))

-- ---- no child so far has the move of one that comes

unfoldable pub AllNew : Moves → Moves → Type 0
AllNew c none = Unit {0}
AllNew c (more m l b r) = (place_from 0 m c ≡ None) × AllNew c r

pub all_new_first : (f : Moves) → AllNew none f
unfolding AllNew
all_new_first none = tt
all_new_first (more m l b r) = (refl, all_new_first r)

not_last : (j : ℕ) (x m : Move) (c b : Moves) → place_from j x c ≡ None → same_move x m ≡ false → place_from j x (joined c (more m tt b none)) ≡ None
unfolding joined
not_last j x m none b e d = rw d refl
not_last j x m (more n l d r) b e other = go (same_move x n) (λ later. not_last (suc j) x m r b later other) e
  where
    go : (v : Bool) → (place_from (suc j) x r ≡ None → place_from (suc j) x (joined r (more m tt b none)) ≡ None)
        → (if v then Some j else place_from (suc j) x r) ≡ None → (if v then Some j else place_from (suc j) x (joined r (more m tt b none))) ≡ None
    go true rest e = let no : ⊥ = cc in absurd no
    go false rest e = rest e

differs : (x m : Move) → (m ≡ x → ⊥) → same_move x m ≡ false
differs x m h = go (same_move x m) refl
  where
    go : (v : Bool) → same_move x m ≡ v → same_move x m ≡ false
    go true e = absurd (h (sym (same_move-one x m e)))
    go false e = e

pub all_new_later : (c b : Moves) (m : Move) (f : Moves) → AllNew c f → AreOthers m f → AllNew (joined c (more m tt b none)) f
unfolding AllNew
all_new_later c b m none h o = tt
all_new_later c b m (more n l d r) h o = (not_last 0 n m c b h.0 (differs n m o.0), all_new_later c b m r h.1 o.1)

-- ---- all of them

with_below : PlainStudy → Moves → PlainStudy
with_below s f = record s { tree = record { label = tt; below = f } }

-- a node at which siblings are inserted, the first of which gets the place k
record IsReady (s : PlainStudy) (at : List ℕ) (k : ℕ) (p : Position) (d : ℕ) (f : Moves) : Type 0 where
  found : has_node s.tree.below at ≡ true
  place : width (below_at s.tree.below at) ≡ k
  here : position_at s at ≡ p
  valid : IsValid p
  playable : IsPlayable p f
  distinct : AreDistinct f
  new : AllNew (below_at s.tree.below at) f
  depth : length at + d ≤ 256
  shallow : IsWithin d f
  few : 1 + nodes_in s.tree.below + nodes_in f ≤ 4096

record IsDone (A : Type 0) (s : PlainStudy) (at : List ℕ) (k : ℕ) (p : Position) (f : Moves) : Type 0 where
  accepted : AllAccepted A s (insertions at k f)
  made : made_by s (insertions at k f) ≡ with_below s (below_edited (λ c. joined c f) s.tree.below at)
  lines : lines_for s (insertions at k f) ≡ insert_lines [] (widen p) at k f

pub le_false : (m n : ℕ) → n < m → nat_le m n ≡ false
le_false m n h = lt-leb m n h

pub at_least_one : (d : ℕ) (m : Move) (l : Unit {0}) (b r : Moves) → IsWithin d (more m l b r) → 1 ≤ d
at_least_one zero m l b r h = absurd h
at_least_one (suc d) m l b r h = omega arith

is_accepted : (A : Type 0) (s : PlainStudy) (at : List ℕ) (k : ℕ) (p : Position) (d : ℕ) (m : Move) (l : Unit {0}) (b r : Moves)
    → IsReady s at k p d (more m l b r) → insert_refusal {A = A} s at m ≡ None
unfolding AllNew
is_accepted A s at k p d m l b r h =
    let legal : is_legal (position_at s at) m ≡ true = ap (λ (q : Position). is_legal q m) h.here ∙ h.playable.0 in
    let fresh : place_at s.tree.below at m ≡ None = place_at-below s.tree.below at m ∙ h.new.0 in
    let one = at_least_one d m l b r h.shallow in
    let short : nat_le 256 (length at) ≡ false = le_false 256 (length at) (omega (arith, h.depth, one)) in
    let room : nat_le 4096 (size_of s.tree) ≡ false = le_false 4096 (size_of s.tree) (omega (arith, h.few)) in
    rw (h.found, legal, fresh, short, room) refl

line_same : (p : Position) (at : List ℕ) (m : Move) → IsValid p → is_legal p m ≡ true → plain_line p at m ≡ insert_line [] (widen p) at m
unfolding insert_line
line_same p at m valid legal = rw (san_agree.written p m valid legal) refl

ready_below : (s : PlainStudy) (at : List ℕ) (k : ℕ) (p : Position) (d : ℕ) (m : Move) (l : Unit {0}) (b r : Moves)
    → IsReady s at k p (suc d) (more m l b r)
    → IsReady (with_below s (below_edited (λ c. joined c (more m tt none none)) s.tree.below at)) (at ++ k ∷ []) 0 (after p m) d b
unfolding with_below AllNew
ready_below s at k p d m l b r h =
    let f = s.tree.below in
    let c = below_at f at in
    let g : Moves → Moves = λ x. joined x (more m tt none none) in
    let there = child_there g f at k m h.found (last_there c k m h.place) in
    let count : nodes_in (below_edited g f at) ≡ nodes_in f + 1 = nodes_edited g f at 1 h.found (joined_nodes c (more m tt none none)) in
    record {
      found = there.found;
      place = ap width there.bare;
      here =
          ap (position_after s.start.position) (child_moves g f at k m h.found (last_move c k m h.place))
          ∙ after_last s.start.position (moves_to f at) m ∙ ap (λ (q : Position). after q m) h.here;
      valid = IsValid-after p m h.valid h.playable.0;
      playable = h.playable.1;
      distinct = h.distinct.1;
      new = subst (λ (x : Moves). AllNew x b) (sym there.bare) (all_new_first b);
      depth = omega (arith, h.depth, length-append at (k ∷ []));
      shallow = h.shallow.0;
      few = omega (arith, h.few, count);
    }

ready_after : (s : PlainStudy) (at : List ℕ) (k : ℕ) (p : Position) (d : ℕ) (m : Move) (l : Unit {0}) (b r : Moves)
    → IsReady s at k p (suc d) (more m l b r)
    → IsReady (with_below s (below_edited (λ c. joined c (more m tt b none)) s.tree.below at)) at (suc k) p (suc d) r
unfolding with_below AllNew
ready_after s at k p d m l b r h =
    let f = s.tree.below in
    let c = below_at f at in
    let g : Moves → Moves = λ x. joined x (more m tt b none) in
    let there : below_at (below_edited g f at) at ≡ g c = at_edited g f at h.found in
    let wide : width (below_at (below_edited g f at) at) ≡ width c + 1 = ap width there ∙ joined_width c (more m tt b none) in
    let own : nodes_in (g c) ≡ nodes_in c + (1 + nodes_in b) = joined_nodes c (more m tt b none) ∙ omega arith in
    let count : nodes_in (below_edited g f at) ≡ nodes_in f + (1 + nodes_in b) = nodes_edited g f at (1 + nodes_in b) h.found own in
    record {
      found = has_edited g f at h.found;
      place = omega (arith, wide, h.place);
      here = ap (position_after s.start.position) (moves_edited g f at) ∙ h.here;
      valid = h.valid;
      playable = h.playable.2;
      distinct = h.distinct.2;
      new = subst (λ (x : Moves). AllNew x r) (sym there) (all_new_later c b m r h.new.1 h.distinct.0);
      depth = h.depth;
      shallow = h.shallow.1;
      few = omega (arith, h.few, count);
    }

-- the study after the insertion of one child
added_last : (s : PlainStudy) (at : List ℕ) (m : Move)
    → with_insertion s at m ≡ with_below s (below_edited (λ c. joined c (more m tt none none)) s.tree.below at)
unfolding with_below
added_last s at m =
    ap (with_below s) (edit_same (with_last m tt) (λ c. joined c (more m tt none none)) s.tree.below at (last_joined (below_at s.tree.below at) m))

-- what is put below it
filled_last : (s : PlainStudy) (at : List ℕ) (k : ℕ) (m : Move) (b : Moves) → width (below_at s.tree.below at) ≡ k
    → below_edited (λ c. joined c b) (below_edited (λ c. joined c (more m tt none none)) s.tree.below at) (at ++ k ∷ [])
    ≡ below_edited (λ c. joined c (more m tt b none)) s.tree.below at
filled_last s at k m b e =
    let f = s.tree.below in
    let h : Moves → Moves = λ c. joined c (more m tt none none) in
    let g : Moves → Moves = λ c. joined c b in
    edit_child g (below_edited h f at) at k
    ∙ edit_twice (λ c. below_edited g c (k ∷ [])) h f at
    ∙ edit_same (λ c. below_edited g (h c) (k ∷ [])) (λ c. joined c (more m tt b none)) f at (below_last (below_at f at) b k m e)

done_all : (A : Type 0) (s : PlainStudy) (at : List ℕ) (k : ℕ) (p : Position) (d : ℕ) (f : Moves) → IsReady s at k p d f → IsDone A s at k p f
unfolding with_below joined
done_all A s at k p d none h = record {
  accepted = tt;
  made = sym (ap (with_below s) (edit_none (λ c. joined c none) s.tree.below at (joined_none (below_at s.tree.below at))));
  lines = refl;
}
done_all A s at k p zero (more m l b r) h = absurd h.shallow
done_all A s at k p (suc d) (more m l b r) h =
    let f = s.tree.below in
    let c = below_at f at in
    let x = insertions (at ++ k ∷ []) 0 b in
    let y = insertions at (suc k) r in
    let t1 = with_below s (below_edited (λ c. joined c (more m tt none none)) f at) in
    let t2 = with_below s (below_edited (λ c. joined c (more m tt b none)) f at) in
    let i1 = done_all A t1 (at ++ k ∷ []) 0 (after p m) d b (ready_below s at k p d m l b r h) in
    let i2 = done_all A t2 at (suc k) p (suc d) r (ready_after s at k p d m l b r h) in
    let is1 : with_insertion s at m ≡ t1 = added_last s at m in
    let is2 : made_by t1 x ≡ t2 = i1.made ∙ ap (with_below s) (filled_last s at k m b h.place) in
    let own : plain_line (position_at s at) at m ≡ insert_line [] (widen p) at m =
    ap (λ (q : Position). plain_line q at m) h.here ∙ line_same p at m h.valid h.playable.0 in
    let rest : lines_for (with_insertion s at m) (x ++ y)
    ≡ insert_lines [] (wide_after (widen p) m) (at ++ k ∷ []) 0 b ++ insert_lines [] (widen p) at (suc k) r =
    ap (λ (t : PlainStudy). lines_for t (x ++ y)) is1
    ∙ lines_append t1 x y
    ∙ ap (λ (ls : List ℕ). ls ++ lines_for (made_by t1 x) y) (i1.lines ∙ ap (λ (g : Wide). insert_lines [] g (at ++ k ∷ []) 0 b) (sym ((few_agree p).after m)))
    ∙ ap (λ (t : PlainStudy). insert_lines [] (wide_after (widen p) m) (at ++ k ∷ []) 0 b ++ lines_for t y) is2
    ∙ ap (λ (ls : List ℕ). insert_lines [] (wide_after (widen p) m) (at ++ k ∷ []) 0 b ++ ls) i2.lines in
    record {
      accepted = (
        is_accepted A s at k p (suc d) m l b r h,
        subst (λ (t : PlainStudy). AllAccepted A t (x ++ y)) (sym is1)
            (accepted_append A t1 x y i1.accepted (subst (λ (t : PlainStudy). AllAccepted A t y) (sym is2) i2.accepted)),
      );
      made =
          ap (λ (t : PlainStudy). made_by t (x ++ y)) is1
          ∙ made_append t1 x y
          ∙ ap (λ (t : PlainStudy). made_by t y) is2
          ∙ i2.made
          ∙ ap (with_below s)
          (edit_twice (λ c. joined c r) (λ c. joined c (more m tt b none)) f at
          ∙ edit_same (λ c. joined (joined c (more m tt b none)) r) (λ c. joined c (more m l b r)) f at (joined_assoc c (more m tt b none) r));
      lines =
          ap (λ (ls : List ℕ). ls ++ lines_for (with_insertion s at m) (x ++ y)) own
          ∙ ap (λ (ls : List ℕ). insert_line [] (widen p) at m ++ ls) rest;
    }

pub built : (A : Type 0) (u : PlainStudy) → IsPlain u → IsBuilt A u
unfolding with_below joined
built A u h =
    let d = done_all A (root_alone u) [] 0 u.start.position 256 u.tree.below (record {
      found = refl;
      place = refl;
      here = refl;
      valid = h.valid;
      playable = h.playable;
      distinct = h.distinct;
      new = all_new_first u.tree.below;
      depth = omega arith;
      shallow = h.shallow;
      few = omega (arith, h.few);
    }) in
    record { accepted = d.accepted; made = d.made; lines = sym d.lines }
