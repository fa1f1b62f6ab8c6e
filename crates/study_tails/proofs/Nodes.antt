-- Nodes, their children, and one more child.
use Rattle.std.proofs.Common.{◌≡◌, ℕ, zero, suc, true, false, List, [], ◌∷◌, Some, None, refl, sym, ap, subst, ◌∙◌}
use Rattle.std.specs.Prelude.{if◌then◌else◌}
use Rattle.study_moves.specs.declared.moves.Move.{Move}
use Rattle.study_tree.specs.Forest.{none, more, Twig}
use Rattle.study_tree.specs.Edits.{node_in, has_node, with_last, add_last}
use Rattle.study_marks.specs.Study.{same_move, place_from, place_at}
use Rattle.study_marks.specs.FaultSums.{siblings_from}
use Rattle.study_wide.specs.Wide.{Wide}
use Rattle.study_wide.specs.Rules.{is_wide_legal, wide_after}
use Rattle.study_wide_text.specs.declared.start.WideStart.{WideStart}
use Rattle.study_wide_text.specs.StartAfter.{wide_start_after}
use Rattle.study_tails.specs.Study.{Moves, Node, node_from, IsWidePlayable}
use Rattle.study_tails.specs.Moves.{IsLegalAt}

abbrev pub Branch : Type 0
Branch = Twig (Unit {0})

-- ---- children

pub node_none : (s : WideStart) (f : Moves) (k : ℕ) (ks : List ℕ) → node_in f k [] ≡ None → node_from s f (k ∷ ks) ≡ None
node_none s none k ks e = refl
node_none s (more m l b r) zero ks e = let no : ⊥ = cc in absurd no
node_none s (more m l b r) (suc k) ks e = node_none s r k ks e

pub node_child : (s : WideStart) (f : Moves) (k : ℕ) (ks : List ℕ) (t : Branch) → node_in f k [] ≡ Some t
    → node_from s f (k ∷ ks) ≡ node_from (wide_start_after s t.played) t.below ks
node_child s none k ks t e = let no : ⊥ = cc in absurd no
node_child s (more m l b r) zero ks t e =
    let same : record { played = m; label = l; below = b } ≡ t = cc in
    ap (λ (u : Branch). node_from (wide_start_after s u.played) u.below ks) same
node_child s (more m l b r) (suc k) ks t e = node_child s r k ks t e

pub playable_child : (g : Wide) (f : Moves) (k : ℕ) (t : Branch) → node_in f k [] ≡ Some t → IsWidePlayable g f
    → (is_wide_legal g t.played ≡ true) × IsWidePlayable (wide_after g t.played) t.below
playable_child g none k t e h = let no : ⊥ = cc in absurd no
playable_child g (more m l b r) zero t e h =
    let same : record { played = m; label = l; below = b } ≡ t = cc in
    subst (λ (u : Branch). (is_wide_legal g u.played ≡ true) × IsWidePlayable (wide_after g u.played) u.below) same (h.0, h.1)
playable_child g (more m l b r) (suc k) t e h = playable_child g r k t e h.2

pub playable_after : (s : WideStart) (m : Move) (u : WideStart) (b : Moves) → u ≡ wide_start_after s m → IsWidePlayable (wide_after s.position m) b
    → IsWidePlayable u.position b
unfolding wide_start_after
playable_after s m u b e h = subst (λ (v : WideStart). IsWidePlayable v.position b) (sym e) h

-- one step down a path
pub stepped : (s : WideStart) (f : Moves) (steps : List ℕ) (k : ℕ) (ks : List ℕ) (t : Branch) (u : WideStart) → steps ≡ k ∷ ks → node_in f k [] ≡ Some t
    → u ≡ wide_start_after s t.played → node_from s f steps ≡ node_from u t.below ks
stepped s f steps k ks t u path e after =
    ap (node_from s f) path ∙ node_child s f k ks t e ∙ ap (λ (v : WideStart). node_from v t.below ks) (sym after)

-- the siblings from a child on
pub from_child : (f : Moves) (k : ℕ) (t : Branch) → node_in f k [] ≡ Some t
    → siblings_from k f ≡ more t.played t.label t.below (siblings_from (suc k) f)
from_child none k t e = let no : ⊥ = cc in absurd no
from_child (more m l b r) zero t e =
    let same : record { played = m; label = l; below = b } ≡ t = cc in
    ap (λ (u : Branch). more u.played u.label u.below r) same
from_child (more m l b r) (suc k) t e = from_child r k t e

pub from_end : (f : Moves) (k : ℕ) → node_in f k [] ≡ None → siblings_from k f ≡ none
from_end none zero e = refl
from_end none (suc k) e = refl
from_end (more m l b r) zero e = let no : ⊥ = cc in absurd no
from_end (more m l b r) (suc k) e = from_end r k e

-- the child at this place has the move, or one after it may
looked_at : (f : Moves) (k : ℕ) (t : Branch) (m : Move) → node_in f k [] ≡ Some t
    → place_from k m (siblings_from k f) ≡ (if same_move m t.played then Some k else place_from (suc k) m (siblings_from (suc k) f))
looked_at f k t m e = ap (place_from k m) (from_child f k t e)

pub found_here : (f : Moves) (k : ℕ) (t : Branch) (m : Move) → node_in f k [] ≡ Some t → same_move m t.played ≡ true
    → Some k ≡ place_from k m (siblings_from k f)
found_here f k t m e same = sym (looked_at f k t m e ∙ ap (λ b. if b then Some k else place_from (suc k) m (siblings_from (suc k) f)) same)

pub found_later : (f : Moves) (k next : ℕ) (t : Branch) (m : Move) → next ≡ suc k → node_in f k [] ≡ Some t → same_move m t.played ≡ false
    → place_from next m (siblings_from next f) ≡ place_from k m (siblings_from k f)
found_later f k next t m one e differs =
    ap (λ (j : ℕ). place_from j m (siblings_from j f)) one
    ∙ sym (looked_at f k t m e ∙ ap (λ b. if b then Some k else place_from (suc k) m (siblings_from (suc k) f)) differs)

-- ---- a node that is there

pub node_has : (s : WideStart) (f : Moves) (ks : List ℕ) (n : Node) → node_from s f ks ≡ Some n → has_node f ks ≡ true
node_has s f [] n e = refl
node_has s none (k ∷ ks) n e = let no : ⊥ = cc in absurd no
node_has s (more m l b r) (zero ∷ ks) n e = node_has (wide_start_after s m) b ks n e
node_has s (more m l b r) (suc k ∷ ks) n e = node_has s r (k ∷ ks) n e

pub node_place : (s : WideStart) (f : Moves) (ks : List ℕ) (n : Node) (m : Move) → node_from s f ks ≡ Some n → place_at f ks m ≡ place_from 0 m n.below
node_place s f [] n m e = let same : record { start = s; below = f } ≡ n = cc in ap (λ (u : Node). place_from 0 m u.below) same
node_place s none (k ∷ ks) n m e = let no : ⊥ = cc in absurd no
node_place s (more o l b r) (zero ∷ ks) n m e = node_place (wide_start_after s o) b ks n m e
node_place s (more o l b r) (suc k ∷ ks) n m e = node_place s r (k ∷ ks) n m e

-- ---- one more child

playable_last : (g : Wide) (f : Moves) (m : Move) → IsWidePlayable g f → is_wide_legal g m ≡ true → IsWidePlayable g (with_last m tt f)
playable_last g none m h e = (e, tt, tt)
playable_last g (more n l b r) m h e = (h.0, h.1, playable_last g r m h.2 e)

pub playable_added : (s : WideStart) (f : Moves) (ks : List ℕ) (m : Move) → IsWidePlayable s.position f → IsLegalAt m (node_from s f ks)
    → IsWidePlayable s.position (add_last f ks m tt)
unfolding wide_start_after
playable_added s f [] m h e = playable_last s.position f m h e
playable_added s none (k ∷ ks) m h e = tt
playable_added s (more n l b r) (zero ∷ ks) m h e = (h.0, playable_added (wide_start_after s n) b ks m h.1 e, h.2)
playable_added s (more n l b r) (suc k ∷ ks) m h e = (h.0, h.1, playable_added s r (k ∷ ks) m h.2 e)
