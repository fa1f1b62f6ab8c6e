-- The moves of a study with any number of men, made one after the other in written order, make its tree.
use Rattle.std.proofs.Common.{◌≡◌, ℕ, zero, suc, ◌+◌, ◌≤◌, true, false, List, [], ◌∷◌, ◌++◌, length, nat_le, Option, Some, None, Result}
use Rattle.std.proofs.Common.{refl, sym, ap, ◌∙◌, arith, length-append}
use Rattle.study_moves.specs.declared.moves.Move.{Move}
use Rattle.study_notation.specs.declared.fault.SanFault.{SanFault}
use Rattle.study_tree.specs.Forest.{none, more, nodes_in}
use Rattle.study_tree.specs.Edits.{has_node, width, with_last, below_edited, IsWithin}
use Rattle.study_tree.specs.Tree.{size_of}
use Rattle.study_marks.specs.Study.{place_from, place_at, AreDistinct}
use Rattle.study_marks.specs.FaultSums.{below_at}
use Rattle.study_marks.proofs.ChildFound.{place_at-below}
use Rattle.study_wide.specs.Wide.{Wide, IsWide}
use Rattle.study_wide.specs.Rules.{wide_after}
use Rattle.study_wide_text.specs.declared.start.WideStart.{WideStart}
use Rattle.study_wide_text.specs.StartAfter.{wide_start_after}
use Rattle.study_wide_text.specs.SanSpelling.{wide_move_text}
use Rattle.study_wide_text.proofs.WideMoveAgain.{move_again}
use Rattle.study_tails.specs.Study.{Moves, WideStudy, Node, node_from, node_at, IsWidePlayable, IsWideStudy}
use Rattle.study_tails.specs.Moves.{with_wide_insertion, wide_moved_by, wide_after_san, wide_after_text_at, wide_after_move_text}
use Rattle.study_tails.proofs.Built.{joined, joined_none, joined_assoc, joined_width, joined_nodes, last_joined, below_last, edit_same, edit_twice}
use Rattle.study_tails.proofs.Built.{edit_child, edit_none, nodes_edited, AllNew, all_new_first, all_new_later, le_false, at_least_one}
use Rattle.study_import.specs.ReadBack.{study_moved}
use Rattle.study_import.proofs.WideSound.{wide_sound}

-- ---- nodes after an edit

has_of : (t : WideStart) (f : Moves) (ks : List ℕ) (n : Node) → node_from t f ks ≡ Some n → has_node f ks ≡ true
has_of t f [] n e = refl
has_of t none (k ∷ ks) n e = let no : ⊥ = cc in absurd no
has_of t (more m l b r) (zero ∷ ks) n e = has_of (wide_start_after t m) b ks n e
has_of t (more m l b r) (suc k ∷ ks) n e = has_of t r (k ∷ ks) n e

below_of : (t : WideStart) (f : Moves) (ks : List ℕ) (n : Node) → node_from t f ks ≡ Some n → n.below ≡ below_at f ks
below_of t f [] n e = let same : record { start = t; below = f } ≡ n = cc in ap (λ (x : Node). x.below) (sym same)
below_of t none (k ∷ ks) n e = let no : ⊥ = cc in absurd no
below_of t (more m l b r) (zero ∷ ks) n e = below_of (wide_start_after t m) b ks n e
below_of t (more m l b r) (suc k ∷ ks) n e = below_of t r (k ∷ ks) n e

abbrev edited_node : (Moves → Moves) → Node → Node
edited_node g n = record { start = n.start; below = g n.below }

node_edited : (g : Moves → Moves) (t : WideStart) (f : Moves) (ks : List ℕ) (n : Node) → node_from t f ks ≡ Some n
    → node_from t (below_edited g f ks) ks ≡ Some (edited_node g n)
node_edited g t f [] n e = let same : record { start = t; below = f } ≡ n = cc in ap (λ (x : Node). Some (edited_node g x)) same
node_edited g t none (k ∷ ks) n e = let no : ⊥ = cc in absurd no
node_edited g t (more m l b r) (zero ∷ ks) n e = node_edited g (wide_start_after t m) b ks n e
node_edited g t (more m l b r) (suc k ∷ ks) n e = node_edited g t r (k ∷ ks) n e

node_below_it : (t : WideStart) (f : Moves) (ks : List ℕ) (k : ℕ) (n : Node) → node_from t f ks ≡ Some n
    → node_from t f (ks ++ k ∷ []) ≡ node_from n.start n.below (k ∷ [])
node_below_it t f [] k n e =
    let same : record { start = t; below = f } ≡ n = cc in ap (λ (x : Node). node_from x.start x.below (k ∷ [])) same
node_below_it t none (j ∷ js) k n e = let no : ⊥ = cc in absurd no
node_below_it t (more m l b r) (zero ∷ js) k n e = node_below_it (wide_start_after t m) b js k n e
node_below_it t (more m l b r) (suc j ∷ js) k n e = node_below_it t r (j ∷ js) k n e

last_node : (t : WideStart) (c : Moves) (k : ℕ) (m : Move) → width c ≡ k
    → node_from t (joined c (more m tt none none)) (k ∷ []) ≡ Some (record { start = wide_start_after t m; below = none })
unfolding joined
last_node t none zero m e = refl
last_node t none (suc k) m e = absurd (omega (arith, e))
last_node t (more n l d r) zero m e = absurd (omega (arith, e))
last_node t (more n l d r) (suc k) m e = last_node t r k m (omega (arith, e))

-- ---- the moves of a tree in written order, each with the path of its node and its text

abbrev pub Told : Type 0
Told = List ℕ × List ℕ

unfoldable pub moves_told : Wide → List ℕ → ℕ → Moves → List Told
moves_told g at k none = []
moves_told g at k (more m l b r) = (at, wide_move_text g m) ∷ (moves_told (wide_after g m) (at ++ k ∷ []) 0 b ++ moves_told g at (suc k) r)

abbrev pub with_move : Option WideStudy → Told → Option WideStudy
with_move None x = None
with_move (Some s) x = study_moved (wide_after_move_text s x.0 x.1)

unfoldable pub with_moves : Option WideStudy → List Told → Option WideStudy
with_moves o [] = o
with_moves o (x ∷ xs) = with_moves (with_move o x) xs

moves_append : (o : Option WideStudy) (xs ys : List Told) → with_moves o (xs ++ ys) ≡ with_moves (with_moves o xs) ys
unfolding with_moves
moves_append o [] ys = refl
moves_append o (x ∷ xs) ys = moves_append (with_move o x) xs ys

abbrev with_below : WideStudy → Moves → WideStudy
with_below s f = record { start = s.start; stipulation = s.stipulation; tags = s.tags; tree = record { label = tt; below = f } }

-- a node at which siblings are inserted, the first of which gets the place k
record IsReady (s : WideStudy) (at : List ℕ) (k : ℕ) (n : Node) (d : ℕ) (f : Moves) : Type 0 where
  here : node_at s at ≡ Some n
  place : width n.below ≡ k
  valid : IsWide n.start.position
  playable : IsWidePlayable n.start.position f
  distinct : AreDistinct f
  new : AllNew n.below f
  depth : length at + d ≤ 256
  shallow : IsWithin d f
  few : 1 + nodes_in s.tree.below + nodes_in f ≤ 4096

moved_by : (s : WideStudy) (at : List ℕ) (m : Move) → place_at s.tree.below at m ≡ None → nat_le 256 (length at) ≡ false → nat_le 4096 (size_of s.tree) ≡ false
    → study_moved (wide_moved_by s at m) ≡ Some (with_wide_insertion s at m)
unfolding wide_moved_by
moved_by s at m fresh short room = rw (fresh, short, room) refl

is_moved : (s : WideStudy) (at : List ℕ) (k : ℕ) (n : Node) (d : ℕ) (m : Move) (l : Unit {0}) (b r : Moves) → IsReady s at k n d (more m l b r)
    → with_move (Some s) (at, wide_move_text n.start.position m) ≡ Some (with_wide_insertion s at m)
unfolding wide_after_move_text AllNew
is_moved s at k n d m l b r h =
    let here = h.here in
    let bare : n.below ≡ below_at s.tree.below at = below_of s.start s.tree.below at n here in
    let fresh : place_at s.tree.below at m ≡ None =
    place_at-below s.tree.below at m ∙ ap (place_from 0 m) (sym bare) ∙ h.new.0 in
    let one = at_least_one d m l b r h.shallow in
    let short : nat_le 256 (length at) ≡ false = le_false 256 (length at) (omega (arith, h.depth, one)) in
    let room : nat_le 4096 (size_of s.tree) ≡ false = le_false 4096 (size_of s.tree) (omega (arith, h.few)) in
    let san = wide_move_text n.start.position m in
    ap (λ (o : Option Node). study_moved (wide_after_text_at s at san o)) here
    ∙ ap (λ (x : Result Move SanFault). study_moved (wide_after_san s at x)) (move_again n.start.position m h.valid h.playable.0)
    ∙ moved_by s at m fresh short room

-- the study after the insertion of one child
added_last : (s : WideStudy) (at : List ℕ) (m : Move)
    → with_wide_insertion s at m ≡ with_below s (below_edited (λ c. joined c (more m tt none none)) s.tree.below at)
added_last s at m =
    ap (with_below s) (edit_same (with_last m tt) (λ c. joined c (more m tt none none)) s.tree.below at (last_joined (below_at s.tree.below at) m))

-- what is put below it
filled_last : (s : WideStudy) (at : List ℕ) (k : ℕ) (m : Move) (b : Moves) → width (below_at s.tree.below at) ≡ k
    → below_edited (λ c. joined c b) (below_edited (λ c. joined c (more m tt none none)) s.tree.below at) (at ++ k ∷ [])
    ≡ below_edited (λ c. joined c (more m tt b none)) s.tree.below at
filled_last s at k m b e =
    let f = s.tree.below in
    let h : Moves → Moves = λ c. joined c (more m tt none none) in
    let g : Moves → Moves = λ c. joined c b in
    edit_child g (below_edited h f at) at k
    ∙ edit_twice (λ c. below_edited g c (k ∷ [])) h f at
    ∙ edit_same (λ c. below_edited g (h c) (k ∷ [])) (λ c. joined c (more m tt b none)) f at (below_last (below_at f at) b k m e)

abbrev child : Node → Move → Node
child n m = record { start = wide_start_after n.start m; below = none }

ready_below : (s : WideStudy) (at : List ℕ) (k : ℕ) (n : Node) (d : ℕ) (m : Move) (l : Unit {0}) (b r : Moves) → IsReady s at k n (suc d) (more m l b r)
    → IsReady (with_below s (below_edited (λ c. joined c (more m tt none none)) s.tree.below at)) (at ++ k ∷ []) 0 (child n m) d b
unfolding AllNew wide_start_after
ready_below s at k n d m l b r h =
    let f = s.tree.below in
    let g : Moves → Moves = λ c. joined c (more m tt none none) in
    let found = has_of s.start f at n h.here in
    let edited = node_edited g s.start f at n h.here in
    let count : nodes_in (below_edited g f at) ≡ nodes_in f + 1 = nodes_edited g f at 1 found (joined_nodes (below_at f at) (more m tt none none)) in
    record {
      here =
          node_below_it s.start (below_edited g f at) at k (edited_node g n) edited
          ∙ last_node n.start n.below k m h.place;
      place = refl;
      valid = wide_sound n.start.position m h.valid h.playable.0;
      playable = h.playable.1;
      distinct = h.distinct.1;
      new = all_new_first b;
      depth = omega (arith, h.depth, length-append at (k ∷ []));
      shallow = h.shallow.0;
      few = omega (arith, h.few, count);
    }

ready_after : (s : WideStudy) (at : List ℕ) (k : ℕ) (n : Node) (d : ℕ) (m : Move) (l : Unit {0}) (b r : Moves) → IsReady s at k n (suc d) (more m l b r)
    → IsReady (with_below s (below_edited (λ c. joined c (more m tt b none)) s.tree.below at)) at (suc k) (edited_node (λ c. joined c (more m tt b none)) n) (suc d) r
unfolding AllNew
ready_after s at k n d m l b r h =
    let f = s.tree.below in
    let g : Moves → Moves = λ c. joined c (more m tt b none) in
    let found = has_of s.start f at n h.here in
    let own : nodes_in (g (below_at f at)) ≡ nodes_in (below_at f at) + (1 + nodes_in b) = joined_nodes (below_at f at) (more m tt b none) ∙ omega arith in
    let count : nodes_in (below_edited g f at) ≡ nodes_in f + (1 + nodes_in b) = nodes_edited g f at (1 + nodes_in b) found own in
    record {
      here = node_edited g s.start f at n h.here;
      place = omega (arith, joined_width n.below (more m tt b none), h.place);
      valid = h.valid;
      playable = h.playable.2;
      distinct = h.distinct.2;
      new = all_new_later n.below b m r h.new.1 h.distinct.0;
      depth = h.depth;
      shallow = h.shallow.1;
      few = omega (arith, h.few, count);
    }

abbrev IsDone : WideStudy → List ℕ → ℕ → Node → Moves → Type 0
IsDone s at k n f =
    with_moves (Some s) (moves_told n.start.position at k f) ≡ Some (with_below s (below_edited (λ c. joined c f) s.tree.below at))

done_all : (s : WideStudy) (at : List ℕ) (k : ℕ) (n : Node) (d : ℕ) (f : Moves) → IsReady s at k n d f → IsDone s at k n f
unfolding joined moves_told with_moves wide_start_after
done_all s at k n d none h =
    ap (λ (f : Moves). Some (with_below s f)) (sym (edit_none (λ c. joined c none) s.tree.below at (joined_none (below_at s.tree.below at))))
done_all s at k n zero (more m l b r) h = absurd h.shallow
done_all s at k n (suc d) (more m l b r) h =
    let f = s.tree.below in
    let x = moves_told (wide_after n.start.position m) (at ++ k ∷ []) 0 b in
    let y = moves_told n.start.position at (suc k) r in
    let t1 = with_below s (below_edited (λ c. joined c (more m tt none none)) f at) in
    let t2 = with_below s (below_edited (λ c. joined c (more m tt b none)) f at) in
    let bare : n.below ≡ below_at f at = below_of s.start f at n h.here in
    let i1 = done_all t1 (at ++ k ∷ []) 0 (child n m) d b (ready_below s at k n d m l b r h) in
    let i2 = done_all t2 at (suc k) (edited_node (λ c. joined c (more m tt b none)) n) (suc d) r (ready_after s at k n d m l b r h) in
    let is2 : with_moves (Some t1) x ≡ Some t2 =
    i1 ∙ ap (λ (z : Moves). Some (with_below s z)) (filled_last s at k m b (ap width (sym bare) ∙ h.place)) in
    ap (λ (o : Option WideStudy). with_moves o (x ++ y)) (is_moved s at k n (suc d) m l b r h ∙ ap (λ (z : WideStudy). Some z) (added_last s at m))
    ∙ moves_append (Some t1) x y
    ∙ ap (λ (o : Option WideStudy). with_moves o y) is2
    ∙ i2
    ∙ ap (λ (z : Moves). Some (with_below s z))
    (edit_twice (λ c. joined c r) (λ c. joined c (more m tt b none)) f at
    ∙ edit_same (λ c. joined (joined c (more m tt b none)) r) (λ c. joined c (more m l b r)) f at (joined_assoc (below_at f at) (more m tt b none) r))

-- the study with the root alone
abbrev pub rooted : WideStudy → WideStudy
rooted s = record { start = s.start; stipulation = s.stipulation; tags = s.tags; tree = record { label = tt; below = none } }

pub rebuilt : (s : WideStudy) → IsWideStudy s → IsWithin 256 s.tree.below → size_of s.tree ≤ 4096
    → with_moves (Some (rooted s)) (moves_told s.start.position [] 0 s.tree.below) ≡ Some s
unfolding joined
rebuilt s h shallow few =
    done_all (rooted s) [] 0 (record { start = s.start; below = none }) 256 s.tree.below (record {
      here = refl;
      place = refl;
      valid = h.sound;
      playable = h.playable;
      distinct = h.distinct;
      new = all_new_first s.tree.below;
      depth = omega arith;
      shallow = shallow;
      few = omega (arith, few);
    })
