-- The key of an image is the image of the key, and it captures or gives check if and only if the key does.
use Rattle.std.proofs.Common.{◌≡◌, ℕ, true, Option, Some, None, refl, sym, ap, subst, ◌∙◌}
use Rattle.std.specs.Prelude.{length, nat_lt, not, ◌&&◌}
use Rattle.study_board.specs.declared.symmetry.Symmetry.{Symmetry}
use Rattle.study_board.specs.Position.{Position, IsValid, in_check}
use Rattle.study_board.specs.Symmetry.{image, turned_men}
use Rattle.study_board.specs.Images.{back}
use Rattle.study_board.proofs.ImagesValid.{length-turned}
use Rattle.study_board.proofs.ImagesOfImages.{IsTurnable, IsTurnable-image, IsTurnable-back, image_back}
use Rattle.study_moves.specs.declared.moves.Move.{Move}
use Rattle.study_moves.specs.EnPassant.{without_idle_passed_square}
use Rattle.study_moves.specs.Rules.{is_legal, after}
use Rattle.study_moves.specs.Symmetry.{image_move}
use Rattle.study_moves.specs.Game.{IsLegal, IsWon, IsLost, IsDrawn}
use Rattle.study_moves.specs.Laws.{AllAgreeWithBare}
use Rattle.study_moves.proofs.RulesOfImages.{after-turned, IsTurnable-after, image_legal, in_check-image}
use Rattle.study_moves.proofs.ImageMates.{legal_back, move_back, MatesWithin-image, IsMatedWithin-image, MatesWithin-from_image, IsMatedWithin-from_image}
use Rattle.study_search.specs.declared.only_moves.Outcome.{Outcome}
use Rattle.study_search.specs.declared.only_moves.Outcome.TheVariants.{Win, Draw}
use Rattle.study_search.specs.OnlyMoves.{Has, Holds, IsOnlyMove, IsKey}
use Rattle.study_listing.specs.declared.filters.Filters.{Filters}
use Rattle.study_listing.specs.Filters.{is_capture, gives_check, is_let_through, promotes_as_wanted, HasKeyLetThrough, HasWantedKey, HasWantedResult}
use Rattle.study_listing.proofs.PlacedImages.{bare-men}

-- ---- images

module _ (s : Symmetry) (p : Position) (t : IsTurnable s p) where
  won-image : (k : ℕ) → IsWon p k → IsWon (image s p) k
  won-image k w = (MatesWithin-image k s p t w.0, λ i l x. w.1 i l (MatesWithin-from_image s p t i x))

  won-from : (k : ℕ) → IsWon (image s p) k → IsWon p k
  won-from k w = (MatesWithin-from_image s p t k w.0, λ i l x. w.1 i l (MatesWithin-image i s p t x))

  lost-image : (k : ℕ) → IsLost p k → IsLost (image s p) k
  lost-image k w = (IsMatedWithin-image k s p t w.0, λ i l x. w.1 i l (IsMatedWithin-from_image s p t i x))

  drawn-image : IsDrawn p → IsDrawn (image s p)
  drawn-image d k = ((λ x. (d k).0 (MatesWithin-from_image s p t k x)), (λ x. (d k).1 (IsMatedWithin-from_image s p t k x)))

Has-image : (o : Outcome) (s : Symmetry) (p : Position) → IsTurnable s p → Has o p → Has o (image s p)
Has-image Win s p t h = (h.0, won-image s p t h.0 h.1)
Has-image Draw s p t h = drawn-image s p t h

Holds-image : (o : Outcome) (s : Symmetry) (p : Position) → IsTurnable s p → Holds o p → Holds o (image s p)
Holds-image Win s p t h = (h.0, lost-image s p t h.0 h.1)
Holds-image Draw s p t h = λ k w. h k (won-from s p t k w)

Holds-from : (o : Outcome) (s : Symmetry) (p : Position) → IsTurnable s p → Holds o (image s p) → Holds o p
Holds-from o s p t h = subst (Holds o) (image_back s p t) (Holds-image o (back s) (image s p) (IsTurnable-image s (back s) p t (IsTurnable-back s p t)) h)

only-image : (o : Outcome) (s : Symmetry) (p : Position) → IsTurnable s p → (m : Move) → IsOnlyMove o p m → IsOnlyMove o (image s p) (image_move s m)
only-image o s p t m y = record {
  legal = image_legal s p t m y.legal;
  holds = subst (Holds o) (sym (after-turned s p t m y.legal)) (Holds-image o s (after p m) (IsTurnable-after s p t m y.legal) y.holds);
  alone = λ k l h.
      let q = image_move (back s) k in
      let legal = legal_back s p t k l in
      let ends : image s (after p q) ≡ after (image s p) k = sym (after-turned s p t q legal) ∙ ap (after (image s p)) (move_back s p t k l) in
      let holds = Holds-from o s (after p q) (IsTurnable-after s p t q legal) (subst (Holds o) (sym ends) h) in
      sym (move_back s p t k l) ∙ ap (image_move s) (y.alone q legal holds);
}

key-image : (o : Outcome) (s : Symmetry) (p : Position) → IsTurnable s p → (m : Move) → IsKey o p m → IsKey o (image s p) (image_move s m)
key-image o s p t m k = (Has-image o s p t k.0, only-image o s p t m k.1)

module _ (s : Symmetry) (p : Position) (t : IsTurnable s p) (m : Move) (l : IsLegal p m) where
  capture-image : is_capture (image s p) (image_move s m) ≡ is_capture p m
  capture-image =
      ap (λ (q : Position). nat_lt (length q.men) (length (turned_men s p.men))) (after-turned s p t m l)
      ∙ ap (λ n. nat_lt n (length (turned_men s p.men))) (length-turned s (after p m).men)
      ∙ ap (λ n. nat_lt (length (after p m).men) n) (length-turned s p.men)

  check-image : gives_check (image s p) (image_move s m) ≡ gives_check p m
  check-image =
      ap (λ (q : Position). in_check q.men q.to_move) (after-turned s p t m l) ∙ in_check-image s (after p m) (IsTurnable-after s p t m l)

  through-image : (f : Filters) → is_let_through f (image s p) (image_move s m) ≡ is_let_through f p m
  through-image f = rw (capture-image, check-image) refl

-- ---- a passed square is irrelevant if no legal move captures on it

module _ (law : AllAgreeWithBare) (p : Position) (valid : IsValid p) where
  Has-bare : (o : Outcome) → Has o p → Has o (without_idle_passed_square p)
  Has-bare Win h = (h.0, ((law p valid).value.won h.0).0 h.1)
  Has-bare Draw h = (law p valid).value.drawn.0 h

  ends-bare : (m : Move) → IsLegal p m → after p m ≡ after (without_idle_passed_square p) m
  ends-bare m l = sym ((law p valid).after m l)

  legal-bare : (m : Move) → IsLegal p m → IsLegal (without_idle_passed_square p) m
  legal-bare m l = (law p valid).legal m ∙ l

  only-bare : (o : Outcome) (m : Move) → IsOnlyMove o p m → IsOnlyMove o (without_idle_passed_square p) m
  only-bare o m y = record {
    legal = legal-bare m y.legal;
    holds = subst (Holds o) (ends-bare m y.legal) y.holds;
    alone = λ k l h.
        let legal : is_legal p k ≡ true = sym ((law p valid).legal k) ∙ l in
        y.alone k legal (subst (Holds o) ((law p valid).after k legal) h);
  }

  through-bare : (f : Filters) (m : Move) → IsLegal p m → is_let_through f (without_idle_passed_square p) m ≡ is_let_through f p m
  through-bare f m l =
      ap (λ (q : Position). not (f.no_capture && nat_lt (length q.men) (length (without_idle_passed_square p).men))
      && (not (f.no_check && in_check q.men q.to_move) && promotes_as_wanted f.promoted m.promoted)) (sym (ends-bare m l))
      ∙ ap (λ n. not (f.no_capture && nat_lt (length (after p m).men) n)
      && (not (f.no_check && in_check (after p m).men (after p m).to_move) && promotes_as_wanted f.promoted m.promoted))
      (ap (λ xs. length xs) (bare-men p))

  -- the key of the position is that of an image of its bare form
  let-through : (s : Symmetry) → IsTurnable s (without_idle_passed_square p) → (f : Filters) → HasKeyLetThrough f p
      → HasKeyLetThrough f (image s (without_idle_passed_square p))
  let-through s t f (m, (o, k), e) =
      let only = only-bare o m k.1 in (
        image_move s m,
        (o, key-image o s (without_idle_passed_square p) t m (Has-bare o k.0, only)),
        through-image s (without_idle_passed_square p) t m only.legal f ∙ through-bare f m k.1.legal ∙ e,
      )

  pub wanted-image : (s : Symmetry) → IsTurnable s (without_idle_passed_square p) → (f : Filters) → HasWantedKey f p
      → HasWantedKey f (image s (without_idle_passed_square p))
  wanted-image s t f h asked = let-through s t f (h asked)

  pub result-image : (s : Symmetry) → IsTurnable s (without_idle_passed_square p) → (o : Option Outcome) → HasWantedResult o p
      → HasWantedResult o (image s (without_idle_passed_square p))
  result-image s t None h = tt
  result-image s t (Some o) h = Has-image o s (without_idle_passed_square p) t (Has-bare o h)
