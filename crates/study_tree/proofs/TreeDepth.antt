-- The depth of the nodes of a tree while it is edited.
use Rattle.std.proofs.Common.{◌≡◌, ℕ, ◌<◌, ◌≤◌, List, [], ◌∷◌, length, IsTrue, sym, subst, arith, zero, suc}
use Rattle.study_moves.specs.declared.moves.Move.{Move}
use Rattle.study_tree.specs.Forest.{Forest, none, more}
use Rattle.study_tree.specs.Edits.{IsWithin, has_node, with_last, add_last, place_edited, labelled_at, dropped_at, raised_at, without_spares}

module _ {L : Type 0} where
  pub within-length : (n : ℕ) (f : Forest L) (ks : List ℕ) → IsWithin n f → IsTrue (has_node f ks) → length ks ≤ n
  within-length n f [] w h = omega arith
  within-length n none (k ∷ ks) w h = let no : ⊥ = cc in absurd no
  within-length zero (more m l b r) (k ∷ ks) w h = absurd w
  within-length (suc n) (more m l b r) (zero ∷ ks) w h = omega (arith, within-length n b ks w.0 h)
  within-length (suc n) (more m l b r) (suc k ∷ ks) w h = omega (arith, within-length (suc n) r (k ∷ ks) w.1 h)

  IsWithin-with_last : (n : ℕ) (f : Forest L) (m : Move) (x : L) → IsWithin (suc n) f → IsWithin (suc n) (with_last m x f)
  IsWithin-with_last n none m x h = (tt, tt)
  IsWithin-with_last n (more o l b r) m x h = (h.0, IsWithin-with_last n r m x h.1)

  pub IsWithin-add_last : (n : ℕ) (f : Forest L) (ks : List ℕ) (m : Move) (x : L) → IsWithin n f → length ks < n → IsWithin n (add_last f ks m x)
  IsWithin-add_last zero f ks m x h w = absurd (omega arith)
  IsWithin-add_last (suc n) f [] m x h w = IsWithin-with_last n f m x h
  IsWithin-add_last (suc n) none (k ∷ ks) m x h w = tt
  IsWithin-add_last (suc n) (more o l b r) (zero ∷ ks) m x h w = (IsWithin-add_last n b ks m x h.0 (omega arith), h.1)
  IsWithin-add_last (suc n) (more o l b r) (suc k ∷ ks) m x h w = (h.0, IsWithin-add_last (suc n) r (k ∷ ks) m x h.1 w)

pub IsWithin-place : {L : Type 0} (e : ℕ → Forest L → Forest L) → ((n : ℕ) (k : ℕ) (f : Forest L) → IsWithin n f → IsWithin n (e k f))
    → (n : ℕ) (f : Forest L) (k : ℕ) (ks : List ℕ) → IsWithin n f → IsWithin n (place_edited e f k ks)
IsWithin-place e keeps n f k [] h = keeps n k f h
IsWithin-place e keeps n none k (j ∷ js) h = h
IsWithin-place e keeps zero (more m l b r) k (j ∷ js) h = absurd h
IsWithin-place e keeps (suc n) (more m l b r) zero (j ∷ js) h = (IsWithin-place e keeps n b j js h.0, h.1)
IsWithin-place e keeps (suc n) (more m l b r) (suc k) (j ∷ js) h = (h.0, IsWithin-place e keeps (suc n) r k (j ∷ js) h.1)

pub IsWithin-dropped_at : {L : Type 0} (n k : ℕ) (f : Forest L) → IsWithin n f → IsWithin n (dropped_at k f)
IsWithin-dropped_at n k none h = h
IsWithin-dropped_at zero k (more m l b r) h = absurd h
IsWithin-dropped_at (suc n) zero (more m l b r) h = h.1
IsWithin-dropped_at (suc n) (suc k) (more m l b r) h = (h.0, IsWithin-dropped_at (suc n) k r h.1)

pub IsWithin-raised_at : {L : Type 0} (n k : ℕ) (f : Forest L) → IsWithin n f → IsWithin n (raised_at k f)
IsWithin-raised_at n k none h = h
IsWithin-raised_at zero k (more m l b r) h = absurd h
IsWithin-raised_at (suc n) zero (more m l b r) h = h
IsWithin-raised_at (suc n) (suc zero) (more m l b none) h = h
IsWithin-raised_at (suc n) (suc zero) (more m l b (more m2 l2 b2 r2)) h = (h.1.0, (h.0, h.1.1))
IsWithin-raised_at (suc n) (suc (suc k)) (more m l b r) h = (h.0, IsWithin-raised_at (suc n) (suc k) r h.1)

IsWithin-labelled_at : {L : Type 0} (x : L) (n k : ℕ) (f : Forest L) → IsWithin n f → IsWithin n (labelled_at x k f)
IsWithin-labelled_at x n k none h = h
IsWithin-labelled_at x zero k (more m l b r) h = absurd h
IsWithin-labelled_at x (suc n) zero (more m l b r) h = h
IsWithin-labelled_at x (suc n) (suc k) (more m l b r) h = (h.0, IsWithin-labelled_at x (suc n) k r h.1)

-- The same for the result of an edit: the nodes were f before it, and are g after it.
module _ {L : Type 0} (n : ℕ) (f g : Forest (L × ℕ)) where
  pub within-same : without_spares g ≡ without_spares f → IsWithin n (without_spares f) → IsWithin n (without_spares g)
  within-same same h = subst (IsWithin n) (sym same) h

  pub within-added : (ks : List ℕ) (m : Move) (x : L) → without_spares g ≡ add_last (without_spares f) ks m x → length ks < n
      → IsWithin n (without_spares f) → IsWithin n (without_spares g)
  within-added ks m x same near h = subst (IsWithin n) (sym same) (IsWithin-add_last n (without_spares f) ks m x h near)

  pub within-labelled : (k : ℕ) (ks : List ℕ) (x : L) → without_spares g ≡ place_edited (labelled_at x) (without_spares f) k ks
      → IsWithin n (without_spares f) → IsWithin n (without_spares g)
  within-labelled k ks x same h = subst (IsWithin n) (sym same) (IsWithin-place (labelled_at x) (IsWithin-labelled_at x) n (without_spares f) k ks h)

  pub within-dropped : (k : ℕ) (ks : List ℕ) → without_spares g ≡ place_edited dropped_at (without_spares f) k ks → IsWithin n (without_spares f)
      → IsWithin n (without_spares g)
  within-dropped k ks same h = subst (IsWithin n) (sym same) (IsWithin-place dropped_at IsWithin-dropped_at n (without_spares f) k ks h)

  pub within-raised : (k : ℕ) (ks : List ℕ) → without_spares g ≡ place_edited raised_at (without_spares f) k ks → IsWithin n (without_spares f)
      → IsWithin n (without_spares g)
  within-raised k ks same h = subst (IsWithin n) (sym same) (IsWithin-place raised_at IsWithin-raised_at n (without_spares f) k ks h)
