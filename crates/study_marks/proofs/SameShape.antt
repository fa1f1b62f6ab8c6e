-- Other labels keep the shape.
use Rattle.std.proofs.Common.{◌≡◌, ℕ, List, [], ◌∷◌, Some, refl, ap, ◌∙◌, arith, zero, suc}
use Rattle.std.specs.Prelude.{if◌then◌else◌}
use Rattle.study_board.specs.Position.{Position}
use Rattle.study_moves.specs.declared.moves.Move.{Move}
use Rattle.study_moves.specs.Rules.{after}
use Rattle.study_tree.specs.Forest.{Forest, none, more, nodes_in}
use Rattle.study_tree.specs.Edits.{IsWithin, has_node, width, with_last, place_edited, dropped_at, raised_at, children_at, add_last}
use Rattle.study_tree.specs.Tree.{Plain, with_child, without, moved_up}
use Rattle.study_marks.specs.Study.{mapped, mapped_tree, moves_to, place_from, place_at, IsPlayable, AreOthers, AreDistinct, same_move}

module _ {L M : Type 0} (g : L → M) where
  pub mapped-with_last : (m : Move) (l : L) (f : Forest L) → mapped g (with_last m l f) ≡ with_last m (g l) (mapped g f)
  mapped-with_last m l none = refl
  mapped-with_last m l (more n k b r) = ap (more n (g k) (mapped g b)) (mapped-with_last m l r)

  pub mapped-add_last : (f : Forest L) (ks : List ℕ) (m : Move) (l : L) → mapped g (add_last f ks m l) ≡ add_last (mapped g f) ks m (g l)
  mapped-add_last f [] m l = mapped-with_last m l f
  mapped-add_last none (k ∷ ks) m l = refl
  mapped-add_last (more n x b r) (zero ∷ ks) m l = ap (λ y. more n (g x) y (mapped g r)) (mapped-add_last b ks m l)
  mapped-add_last (more n x b r) (suc k ∷ ks) m l = ap (more n (g x) (mapped g b)) (mapped-add_last r (k ∷ ks) m l)

  pub mapped-dropped_at : (k : ℕ) (f : Forest L) → mapped g (dropped_at k f) ≡ dropped_at k (mapped g f)
  mapped-dropped_at k none = refl
  mapped-dropped_at zero (more n l b r) = refl
  mapped-dropped_at (suc k) (more n l b r) = ap (more n (g l) (mapped g b)) (mapped-dropped_at k r)

  pub mapped-raised_at : (k : ℕ) (f : Forest L) → mapped g (raised_at k f) ≡ raised_at k (mapped g f)
  mapped-raised_at k none = refl
  mapped-raised_at zero (more n l b r) = refl
  mapped-raised_at (suc zero) (more n l b none) = refl
  mapped-raised_at (suc zero) (more n l b (more n2 l2 b2 r2)) = refl
  mapped-raised_at (suc (suc k)) (more n l b r) = ap (more n (g l) (mapped g b)) (mapped-raised_at (suc k) r)

  pub mapped-place_edited : (e : ℕ → Forest L → Forest L) (e' : ℕ → Forest M → Forest M) → ((k : ℕ) (f : Forest L) → mapped g (e k f) ≡ e' k (mapped g f))
      → (f : Forest L) (k : ℕ) (ks : List ℕ) → mapped g (place_edited e f k ks) ≡ place_edited e' (mapped g f) k ks
  mapped-place_edited e e' same f k [] = same k f
  mapped-place_edited e e' same none k (j ∷ js) = refl
  mapped-place_edited e e' same (more m l b r) zero (j ∷ js) = ap (λ y. more m (g l) y (mapped g r)) (mapped-place_edited e e' same b j js)
  mapped-place_edited e e' same (more m l b r) (suc k) (j ∷ js) = ap (more m (g l) (mapped g b)) (mapped-place_edited e e' same r k (j ∷ js))

  pub mapped-with_child : (t : Plain L) (ks : List ℕ) (m : Move) (l : L) → mapped_tree g (with_child t ks m l) ≡ with_child (mapped_tree g t) ks m (g l)
  mapped-with_child t ks m l = ap (λ f. record { label = g t.label; below = f }) (mapped-add_last t.below ks m l)

  pub mapped-without : (t : Plain L) (ks : List ℕ) → mapped_tree g (without t ks) ≡ without (mapped_tree g t) ks
  mapped-without t [] = refl
  mapped-without t (k ∷ ks) = ap (λ f. record { label = g t.label; below = f }) (mapped-place_edited dropped_at dropped_at mapped-dropped_at t.below k ks)

  pub mapped-moved_up : (t : Plain L) (ks : List ℕ) → mapped_tree g (moved_up t ks) ≡ moved_up (mapped_tree g t) ks
  mapped-moved_up t [] = refl
  mapped-moved_up t (k ∷ ks) = ap (λ f. record { label = g t.label; below = f }) (mapped-place_edited raised_at raised_at mapped-raised_at t.below k ks)

  pub has_node-mapped : (f : Forest L) (ks : List ℕ) → has_node (mapped g f) ks ≡ has_node f ks
  has_node-mapped f [] = refl
  has_node-mapped none (k ∷ ks) = refl
  has_node-mapped (more m l b r) (zero ∷ ks) = has_node-mapped b ks
  has_node-mapped (more m l b r) (suc k ∷ ks) = has_node-mapped r (k ∷ ks)

  pub nodes_in-mapped : (f : Forest L) → nodes_in (mapped g f) ≡ nodes_in f
  nodes_in-mapped none = refl
  nodes_in-mapped (more m l b r) = omega (arith, nodes_in-mapped b, nodes_in-mapped r)

  pub width-mapped : (f : Forest L) → width (mapped g f) ≡ width f
  width-mapped none = refl
  width-mapped (more m l b r) = omega (arith, width-mapped r)

  pub children_at-mapped : (f : Forest L) (ks : List ℕ) → children_at (mapped g f) ks ≡ children_at f ks
  children_at-mapped f [] = width-mapped f
  children_at-mapped none (k ∷ ks) = refl
  children_at-mapped (more m l b r) (zero ∷ ks) = children_at-mapped b ks
  children_at-mapped (more m l b r) (suc k ∷ ks) = children_at-mapped r (k ∷ ks)

  pub moves_to-mapped : (f : Forest L) (ks : List ℕ) → moves_to (mapped g f) ks ≡ moves_to f ks
  moves_to-mapped f [] = refl
  moves_to-mapped none (k ∷ ks) = refl
  moves_to-mapped (more m l b r) (zero ∷ ks) = ap (λ ms. m ∷ ms) (moves_to-mapped b ks)
  moves_to-mapped (more m l b r) (suc k ∷ ks) = moves_to-mapped r (k ∷ ks)

  pub place_from-mapped : (k : ℕ) (m : Move) (f : Forest L) → place_from k m (mapped g f) ≡ place_from k m f
  place_from-mapped k m none = refl
  place_from-mapped k m (more n l b r) = ap (λ x. if same_move m n then Some k else x) (place_from-mapped (suc k) m r)

  pub place_at-mapped : (f : Forest L) (ks : List ℕ) (m : Move) → place_at (mapped g f) ks m ≡ place_at f ks m
  place_at-mapped f [] m = place_from-mapped 0 m f
  place_at-mapped none (k ∷ ks) m = refl
  place_at-mapped (more n l b r) (zero ∷ ks) m = place_at-mapped b ks m
  place_at-mapped (more n l b r) (suc k ∷ ks) m = place_at-mapped r (k ∷ ks) m

  pub IsPlayable-mapped : (p : Position) (f : Forest L) → IsPlayable p (mapped g f) → IsPlayable p f
  IsPlayable-mapped p none h = tt
  IsPlayable-mapped p (more m l b r) h = (h.0, IsPlayable-mapped (after p m) b h.1, IsPlayable-mapped p r h.2)

  pub mapped-IsPlayable : (p : Position) (f : Forest L) → IsPlayable p f → IsPlayable p (mapped g f)
  mapped-IsPlayable p none h = tt
  mapped-IsPlayable p (more m l b r) h = (h.0, mapped-IsPlayable (after p m) b h.1, mapped-IsPlayable p r h.2)

  AreOthers-mapped : (m : Move) (f : Forest L) → AreOthers m (mapped g f) → AreOthers m f
  AreOthers-mapped m none h = tt
  AreOthers-mapped m (more n l b r) h = (h.0, AreOthers-mapped m r h.1)

  mapped-AreOthers : (m : Move) (f : Forest L) → AreOthers m f → AreOthers m (mapped g f)
  mapped-AreOthers m none h = tt
  mapped-AreOthers m (more n l b r) h = (h.0, mapped-AreOthers m r h.1)

  pub AreDistinct-mapped : (f : Forest L) → AreDistinct (mapped g f) → AreDistinct f
  AreDistinct-mapped none h = tt
  AreDistinct-mapped (more m l b r) h = (AreOthers-mapped m r h.0, AreDistinct-mapped b h.1, AreDistinct-mapped r h.2)

  pub mapped-AreDistinct : (f : Forest L) → AreDistinct f → AreDistinct (mapped g f)
  mapped-AreDistinct none h = tt
  mapped-AreDistinct (more m l b r) h = (mapped-AreOthers m r h.0, mapped-AreDistinct b h.1, mapped-AreDistinct r h.2)

  pub IsWithin-mapped : (n : ℕ) (f : Forest L) → IsWithin n (mapped g f) → IsWithin n f
  IsWithin-mapped n none h = tt
  IsWithin-mapped zero (more m l b r) h = h
  IsWithin-mapped (suc n) (more m l b r) h = (IsWithin-mapped n b h.0, IsWithin-mapped (suc n) r h.1)

  pub mapped-IsWithin : (n : ℕ) (f : Forest L) → IsWithin n f → IsWithin n (mapped g f)
  mapped-IsWithin n none h = tt
  mapped-IsWithin zero (more m l b r) h = h
  mapped-IsWithin (suc n) (more m l b r) h = (mapped-IsWithin n b h.0, mapped-IsWithin (suc n) r h.1)

pub mapped-mapped : {L M N : Type 0} (g : L → M) (h : M → N) (f : Forest L) → mapped h (mapped g f) ≡ mapped (λ l. h (g l)) f
mapped-mapped g h none = refl
mapped-mapped g h (more m l b r) = ap (λ x. more m (h (g l)) x (mapped h (mapped g r))) (mapped-mapped g h b)
    ∙ ap (more m (h (g l)) (mapped (λ l. h (g l)) b)) (mapped-mapped g h r)
