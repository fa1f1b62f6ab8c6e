-- Edits of a tree that keep its moves legal, distinct and not too deep.
use Rattle.std.proofs.Common.{◌≡◌, ℕ, List, [], ◌∷◌, Bool, true, false, Option, Some, None, refl, sym, ◌∙◌, zero, suc, subst}
use Rattle.std.specs.Prelude.{if◌then◌else◌}
use Rattle.std.proofs.lemmas.Bool.{false≢true, and_from, eq-eqb}
use Rattle.study_board.specs.declared.men.Kind.{Kind}
use Rattle.study_board.specs.declared.men.Kind.TheVariants.{King, Queen, Rook, Bishop, Knight, Pawn}
use Rattle.study_board.specs.Position.{Position}
use Rattle.study_moves.specs.declared.moves.Move.{Move}
use Rattle.study_moves.specs.Rules.{is_legal, after}
use Rattle.study_notation.specs.Matching.{same_promotion}
use Rattle.study_tree.specs.Forest.{Forest, none, more}
use Rattle.study_tree.specs.Edits.{with_last, add_last}
use Rattle.study_marks.specs.Study.{moves_to, position_after, place_from, place_at, same_move, IsPlayable, AreOthers, AreDistinct}

same_promotion-refl : (o : Option Kind) → same_promotion o o ≡ true
same_promotion-refl None = refl
same_promotion-refl (Some King) = refl
same_promotion-refl (Some Queen) = refl
same_promotion-refl (Some Rook) = refl
same_promotion-refl (Some Bishop) = refl
same_promotion-refl (Some Knight) = refl
same_promotion-refl (Some Pawn) = refl

pub same_move-refl : (m : Move) → same_move m m ≡ true
same_move-refl m = and_from _ _ (and_from _ _ (eq-eqb m.origin m.origin refl) (eq-eqb m.target m.target refl)) (same_promotion-refl m.promoted)

differs : (m n : Move) → same_move m n ≡ false → m ≡ n → ⊥
differs m n e same = false≢true (sym (subst (λ x. same_move m x ≡ false) (sym same) e) ∙ same_move-refl m)

module _ {L : Type 0} where
  -- one more child
  IsPlayable-with_last : (p : Position) (f : Forest L) (m : Move) (x : L) → IsPlayable p f → is_legal p m ≡ true → IsPlayable p (with_last m x f)
  IsPlayable-with_last p none m x h e = (e, tt, tt)
  IsPlayable-with_last p (more n l b r) m x h e = (h.0, h.1, IsPlayable-with_last p r m x h.2 e)

  pub IsPlayable-add_last : (p : Position) (f : Forest L) (ks : List ℕ) (m : Move) (x : L) → IsPlayable p f
      → is_legal (position_after p (moves_to f ks)) m ≡ true → IsPlayable p (add_last f ks m x)
  IsPlayable-add_last p f [] m x h e = IsPlayable-with_last p f m x h e
  IsPlayable-add_last p none (k ∷ ks) m x h e = tt
  IsPlayable-add_last p (more n l b r) (zero ∷ ks) m x h e = (h.0, IsPlayable-add_last (after p n) b ks m x h.1 e, h.2)
  IsPlayable-add_last p (more n l b r) (suc k ∷ ks) m x h e = (h.0, h.1, IsPlayable-add_last p r (k ∷ ks) m x h.2 e)

  AreOthers-with_last : (n : Move) (f : Forest L) (m : Move) (x : L) → AreOthers n f → (n ≡ m → ⊥) → AreOthers n (with_last m x f)
  AreOthers-with_last n none m x h e = (e, tt)
  AreOthers-with_last n (more o l b r) m x h e = (h.0, AreOthers-with_last n r m x h.1 e)

  AreDistinct-with_last : (f : Forest L) (k : ℕ) (m : Move) (x : L) → AreDistinct f → place_from k m f ≡ None → AreDistinct (with_last m x f)
  AreDistinct-with_last none k m x h e = (tt, tt, tt)
  AreDistinct-with_last (more n l b r) k m x h e = go (same_move m n) refl e (AreDistinct-with_last r (suc k) m x h.2)
    where
      go : (c : Bool) → same_move m n ≡ c → (if c then Some k else place_from (suc k) m r) ≡ None
          → (place_from (suc k) m r ≡ None → AreDistinct (with_last m x r))
          → AreDistinct (with_last m x (more n l b r))
      go true s e rest = let no : ⊥ = cc in absurd no
      go false s e rest = (AreOthers-with_last n r m x h.0 (λ same. differs m n s (sym same)), h.1, rest e)

  pub AreDistinct-add_last : (f : Forest L) (ks : List ℕ) (m : Move) (x : L) → AreDistinct f → place_at f ks m ≡ None → AreDistinct (add_last f ks m x)
  AreDistinct-add_last f [] m x h e = AreDistinct-with_last f 0 m x h e
  AreDistinct-add_last none (k ∷ ks) m x h e = tt
  AreDistinct-add_last (more n l b r) (zero ∷ ks) m x h e = (h.0, AreDistinct-add_last b ks m x h.1 e, h.2)
  AreDistinct-add_last (more n l b r) (suc k ∷ ks) m x h e = (others k ks n r h.0, h.1, AreDistinct-add_last r (k ∷ ks) m x h.2 e)
    where
      others : (k : ℕ) (ks : List ℕ) (n : Move) (r : Forest L) → AreOthers n r → AreOthers n (add_last r (k ∷ ks) m x)
      others k ks n none h = tt
      others zero ks n (more o l b r) h = h
      others (suc k) ks n (more o l b r) h = (h.0, others k ks n r h.1)
