-- Starts along a path, and the line of a node.
use Rattle.std.proofs.Common.{◌≡◌, ℕ, List, [], ◌∷◌, ◌++◌, Option, Some, None, Bool, true, false, IsTrue, if◌then◌else◌, refl, sym, ap, ◌∙◌}
use Rattle.std.proofs.lemmas.List.{append-nil}
use Rattle.std.specs.Prelude.{IfSome}
use Rattle.std.specs.Option.{option_map_or}
use Rattle.study_moves.specs.declared.moves.Move.{Move}
use Rattle.study_moves.specs.Rules.{is_legal, after}
use Rattle.study_notation.specs.declared.start.Start.{Start}
use Rattle.study_notation.specs.StartAfter.{start_after}
use Rattle.study_tree.specs.Tree.{Spot, spot_at, has_spot}
use Rattle.study_marks.specs.declared.mark.Mark.{Mark}
use Rattle.study_marks.specs.Bench.{played_by, start_at}
use Rattle.study_marks.specs.Study.{Study, moves_to, position_after, position_at, start_along, IsPlayable}
use Rattle.study_marks.proofs.PathRenewed.{there-spot}
use Rattle.study_marks.proofs.MovesToNode.{start-legal-last}
use Rattle.study_facts.specs.Nodes.{parent_path}
use Rattle.study_facts.proofs.NodesShown.{front-is}
use Rattle.study_view.specs.Words.{node_words}
use Rattle.study_view.specs.View.{start_to, node_line}

after-position : (s : Start) (m : Move) → (start_after s m).position ≡ after s.position m
unfolding start_after
after-position s m = refl

along-position : (s : Start) (ms : List Move) → (start_along s ms).position ≡ position_after s.position ms
along-position s [] = refl
along-position s (m ∷ ms) = along-position (start_after s m) ms ∙ ap (λ p. position_after p ms) (after-position s m)

-- the position of the start at a node
pub start-position : {L : Type 0} (s : Study L) (path : List ℕ) → (start_to s path).position ≡ position_at s path
start-position s path = along-position s.start (moves_to s.tree.below path)

pub position-of : {L : Type 0} (s : Study L) (path : List ℕ) (b : Start) → b ≡ start_to s path → b.position ≡ position_at s path
position-of s path b e = ap (λ (x : Start). x.position) e ∙ start-position s path

-- the start before the last move
pub before-front : {L : Type 0} (s : Study L) (steps front : List ℕ) (k : ℕ) (b : Start) → steps ≡ front ++ k ∷ []
    → b ≡ start_to s (parent_path steps) → b ≡ start_along s.start (moves_to s.tree.below front)
before-front s steps front k b e h = h ∙ ap (start_to s) (sym (front-is steps front k e))

-- conversely: from the start at a node to that before a move from it
pub after-front : {L : Type 0} (s : Study L) (steps front : List ℕ) (k : ℕ) (b : Start) → steps ≡ front ++ k ∷ []
    → b ≡ start_to s front → b ≡ start_to s (parent_path steps)
after-front s steps front k b e h = h ∙ ap (start_to s) (front-is steps front k e)

last-of : (k : ℕ) (ks : List ℕ) → (j : ℕ) × (k ∷ ks ≡ parent_path (k ∷ ks) ++ j ∷ [])
last-of k [] = (k, refl)
last-of k (i ∷ is) = let r = last-of i is in (r.0, ap (λ (l : List ℕ). k ∷ l) r.1)

legal-there : (s : Study Mark) (steps : List ℕ) (b : Start) (m : Move) → IsPlayable s.start.position s.tree.below
    → played_by (spot_at s.tree steps) ≡ Some m → b ≡ start_to s (parent_path steps) → is_legal b.position m ≡ true
legal-there s [] b m playable e h = let no : None ≡ Some m = e in absurd cc
legal-there s (k ∷ ks) b m playable e h =
    let l = last-of k ks in
    start-legal-last s.start b s.tree (k ∷ ks) (parent_path (k ∷ ks)) l.0 m l.1 e playable h

-- the move that led to a node is legal before it
pub led-legal : (s : Study Mark) (steps : List ℕ) (x : Spot Mark) (b : Start) → IsPlayable s.start.position s.tree.below
    → spot_at s.tree steps ≡ Some x → b ≡ start_to s (parent_path steps) → IfSome x.played (λ m. is_legal b.position m ≡ true)
led-legal s steps x b playable e h = go x.played refl
  where
    go : (o : Option Move) → x.played ≡ o → IfSome o (λ m. is_legal b.position m ≡ true)
    go None q = tt
    go (Some m) q = legal-there s steps b m playable (ap played_by e ∙ q) h

pub own-line : (s : Study Mark) (steps : List ℕ) (x : Spot Mark) (b h : Start) → spot_at s.tree steps ≡ Some x
    → b ≡ start_to s (parent_path steps) → h ≡ start_to s steps → node_words steps b.position x h ≡ node_line s steps
own-line s steps x b h e eb eh =
    ap (λ q. node_words steps q x h) (position-of s (parent_path steps) b eb)
    ∙ ap (λ q. node_words steps (position_at s (parent_path steps)) x q) eh
    ∙ ap (λ o. option_map_or (λ (y : Spot Mark). node_words steps (position_at s (parent_path steps)) y (start_to s steps)) o []) (sym e)

pub no-line : (s : Study Mark) (steps : List ℕ) (text : List ℕ) → spot_at s.tree steps ≡ None → text ≡ text ++ node_line s steps
no-line s steps text e =
    sym (append-nil text)
    ∙ ap (λ o. text ++ option_map_or (λ (y : Spot Mark). node_words steps (position_at s (parent_path steps)) y (start_to s steps)) o []) (sym e)

-- there is a start exactly if there is a node
pub start-found : {L : Type 0} (s : Study L) (path : List ℕ) (x : Start) → Some x ≡ start_at s path → IsTrue (has_spot s.tree path)
start-found s path x h = go (has_spot s.tree path) refl
  where
    go : (b : Bool) → has_spot s.tree path ≡ b → IsTrue (has_spot s.tree path)
    go true e = e
    go false e = let no : Some x ≡ None = h ∙ ap (λ b. if b then Some (start_to s path) else None) e in absurd cc

pub start-gone : {L : Type 0} (s : Study L) (path : List ℕ) → None ≡ start_at s path → spot_at s.tree path ≡ None
start-gone {L = L} s path h = go (spot_at s.tree path) refl
  where
    go : (o : Option (Spot L)) → spot_at s.tree path ≡ o → spot_at s.tree path ≡ None
    go None e = e
    go (Some x) e =
        let there : has_spot s.tree path ≡ true = there-spot s.tree path x e in
        let no : None ≡ Some (start_to s path) = h ∙ ap (λ b. if b then Some (start_to s path) else None) there in absurd cc
