-- A node that is reached from one on its path.
use Rattle.std.proofs.Common.{◌≡◌, ℕ, zero, suc, List, [], ◌∷◌, ◌++◌, Option, Some, None, refl, sym, ap, subst, ◌∙◌}
use Rattle.std.specs.Option.{option_map}
use Rattle.std.specs.Prelude.{Result, Ok, Err, OnOk, OnErr}
use Rattle.study_moves.specs.declared.moves.Move.{Move}
use Rattle.study_tree.specs.Forest.{none, more}
use Rattle.study_tree.specs.Edits.{node_in, with_last, add_last}
use Rattle.study_marks.specs.FaultSums.{below_at}
use Rattle.study_wide_text.specs.declared.start.WideStart.{WideStart}
use Rattle.study_wide_text.specs.StartAfter.{wide_start_after}
use Rattle.study_tails.specs.Study.{Moves, WideStudy, Node, node_from, node_at, IsWidePlayable}
use Rattle.study_tails.specs.Moves.{with_wide_insertion}
use Rattle.study_tails.specs.Laws.{wide_start_at}
use Rattle.study_tails.proofs.Nodes.{Branch}
use Rattle.study_tails.proofs.TailStudies.{node_append}

pub below_step : (f : Moves) (k : ℕ) (ks : List ℕ) (t : Branch) → node_in f k [] ≡ Some t → below_at f (k ∷ ks) ≡ below_at t.below ks
below_step none k ks t e = let no : ⊥ = cc in absurd no
below_step (more m l b r) zero ks t e =
    let same : record { played = m; label = l; below = b } ≡ t = cc in ap (λ (u : Branch). below_at u.below ks) same
below_step (more m l b r) (suc k) ks t e = below_step r k ks t e

node_below : (s : WideStart) (f : Moves) (path : List ℕ) (n : Node) → node_from s f path ≡ Some n → n.below ≡ below_at f path
node_below s f [] n e = let same : record { start = s; below = f } ≡ n = cc in sym (ap (λ (u : Node). u.below) same)
node_below s none (k ∷ ks) n e = let no : ⊥ = cc in absurd no
node_below s (more m l b r) (zero ∷ ks) n e = node_below (wide_start_after s m) b ks n e
node_below s (more m l b r) (suc k ∷ ks) n e = node_below s r (k ∷ ks) n e

node_playable : (s : WideStart) (f : Moves) (path : List ℕ) (n : Node) → node_from s f path ≡ Some n → IsWidePlayable s.position f
    → IsWidePlayable n.start.position n.below
unfolding wide_start_after
node_playable s f [] n e h =
    let same : record { start = s; below = f } ≡ n = cc in subst (λ (u : Node). IsWidePlayable u.start.position u.below) same h
node_playable s none (k ∷ ks) n e h = let no : ⊥ = cc in absurd no
node_playable s (more m l b r) (zero ∷ ks) n e h = node_playable (wide_start_after s m) b ks n e h.1
node_playable s (more m l b r) (suc k ∷ ks) n e h = node_playable s r (k ∷ ks) n e h.2

-- the node at a path, from the start there and what is below it
at_remembered : (s : WideStudy) (path : List ℕ) (start : WideStart) → wide_start_at s path ≡ Some start
    → node_at s path ≡ Some (record { start = start; below = below_at s.tree.below path })
at_remembered s path start e = go (node_at s path) refl e
  where
    go : (o : Option Node) → node_at s path ≡ o → option_map (λ (n : Node). n.start) o ≡ Some start
        → node_at s path ≡ Some (record { start = start; below = below_at s.tree.below path })
    go None found e = let no : ⊥ = cc in absurd no
    go (Some n) found e =
        let first : n.start ≡ start = cc in
        let second : n.below ≡ below_at s.tree.below path = node_below s.start s.tree.below path n found in
        found
        ∙ ap (λ (w : WideStart). Some (record { start = w; below = n.below })) first
        ∙ ap (λ (b : Moves). Some (record { start = start; below = b })) second

pub resumed : (s : WideStudy) (steps first rest : List ℕ) (start : WideStart) (below : Moves) → steps ≡ first ++ rest → wide_start_at s first ≡ Some start
    → below ≡ below_at s.tree.below first → node_at s steps ≡ node_from start below rest
resumed s steps first rest start below path e tree =
    ap (node_at s) path
    ∙ node_append s.start s.tree.below first rest (record { start = start; below = below_at s.tree.below first }) (at_remembered s first start e)
    ∙ ap (λ (b : Moves). node_from start b rest) (sym tree)

pub resumed_playable : (s : WideStudy) (first : List ℕ) (start : WideStart) (below : Moves) → IsWidePlayable s.start.position s.tree.below
    → wide_start_at s first ≡ Some start → below ≡ below_at s.tree.below first → IsWidePlayable start.position below
resumed_playable s first start below h e tree =
    subst (λ (b : Moves). IsWidePlayable start.position b) (sym tree)
    (node_playable s.start s.tree.below first (record { start = start; below = below_at s.tree.below first }) (at_remembered s first start e) h)

-- ---- one more child

abbrev start_from : WideStart → Moves → List ℕ → Option WideStart
start_from s f path = option_map (λ (n : Node). n.start) (node_from s f path)

start_last : (s : WideStart) (f : Moves) (m : Move) (path : List ℕ) (st : WideStart) → start_from s f path ≡ Some st
    → start_from s (with_last m tt f) path ≡ Some st
start_last s f m [] st e = e
start_last s none m (k ∷ ks) st e = let no : ⊥ = cc in absurd no
start_last s (more n l b r) m (zero ∷ ks) st e = e
start_last s (more n l b r) m (suc k ∷ ks) st e = start_last s r m (k ∷ ks) st e

start_added : (s : WideStart) (f : Moves) (at : List ℕ) (m : Move) (path : List ℕ) (st : WideStart) → start_from s f path ≡ Some st
    → start_from s (add_last f at m tt) path ≡ Some st
start_added s f [] m path st e = start_last s f m path st e
start_added s none (k ∷ ks) m path st e = e
start_added s (more n l b r) (zero ∷ ks) m [] st e = e
start_added s (more n l b r) (zero ∷ ks) m (zero ∷ ps) st e = start_added (wide_start_after s n) b ks m ps st e
start_added s (more n l b r) (zero ∷ ks) m (suc p ∷ ps) st e = e
start_added s (more n l b r) (suc k ∷ ks) m [] st e = e
start_added s (more n l b r) (suc k ∷ ks) m (zero ∷ ps) st e = e
start_added s (more n l b r) (suc k ∷ ks) m (suc p ∷ ps) st e = start_added s r (k ∷ ks) m (p ∷ ps) st e

pub still_there : {T E : Type 0} (s new : WideStudy) (at : List ℕ) (m : Move) (r : Result T E) (path : List ℕ) (st : WideStart)
    → OnOk r (new ≡ with_wide_insertion s at m) → OnErr r (new ≡ s) → wide_start_at s path ≡ Some st → wide_start_at new path ≡ Some st
still_there s new at m (Ok x) path st grown same e =
    ap (λ (u : WideStudy). wide_start_at u path) grown ∙ start_added s.start s.tree.below at m path st e
still_there s new at m (Err x) path st grown same e = ap (λ (u : WideStudy). wide_start_at u path) same ∙ e
