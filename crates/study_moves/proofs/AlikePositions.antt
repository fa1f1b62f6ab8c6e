-- Moves and mates are kept along positions that are alike.
use Rattle.study_board.specs.Men.{is_pawn}
use Rattle.std.proofs.Common.{◌≡◌, Bool, true, false, not, cond, ◌||◌, List, [], ◌∷◌, refl, sym, ◌∙◌, ap, subst}
use Rattle.std.specs.List.{list_any, filter}
use Rattle.std.proofs.lemmas.Bool.{false≢true}
use Rattle.study_board.specs.declared.men.Man.{Man}
use Rattle.study_board.specs.declared.symmetry.Symmetry.{Symmetry}
use Rattle.study_board.specs.Position.{Position, IsValid}
use Rattle.study_board.specs.Symmetry.{image, admits, keeps_pawns}
use Rattle.study_board.proofs.ImagesValid.{list_any-insert_man}
use Rattle.study_board.proofs.ImagesOfImages.{IsTurnable-from_valid, IsImage-sym}
use Rattle.study_moves.specs.declared.moves.Move.{Move}
use Rattle.study_moves.specs.Rules.{is_legal, after, men_after, survives, moved_man, reaches_last_rank}
use Rattle.study_moves.specs.Symmetry.{image_move}
use Rattle.study_moves.specs.Game.{IsLegal, IsMate}
use Rattle.study_moves.specs.EnPassant.{has_legal_en_passant, without_passed, without_idle_passed_square}
use Rattle.study_moves.specs.Alike.{AreAlike, Leads}
use Rattle.study_moves.proofs.NoMoveBetween.{HasMover-from_is_legal}
use Rattle.study_moves.proofs.RulesOfImages.{after-turned, image_legal, moved_pawn}
use Rattle.study_moves.proofs.ImageMates.{IsMate-image}
use Rattle.study_moves.proofs.BarePassing.{found_any, AgreesWithBare-from_valid}
use Rattle.study_moves.proofs.BareImages.{bare_image}

none-filter : (p q : Man → Bool) (xs : List Man) → list_any p xs ≡ false → list_any p (filter q xs) ≡ false
none-filter p q [] e = refl
none-filter p q (x ∷ xs) e = by_test (q x) (p x) refl e (λ k. none-filter p q xs k)
  where
    by_test : (b c : Bool) → p x ≡ c → (c || list_any p xs) ≡ false
        → (list_any p xs ≡ false → list_any p (filter q xs) ≡ false)
        → list_any p (cond b (x ∷ filter q xs) (filter q xs)) ≡ false
    by_test b true f e rest = absurd (false≢true (sym e))
    by_test true false f e rest = rw f (rest e)
    by_test false false f e rest = rest e

-- a legal move creates no pawn
no_pawn_after : (p : Position) (m : Move) → is_legal p m ≡ true → list_any is_pawn p.men ≡ false → list_any is_pawn (after p m).men ≡ false
unfolding after men_after
no_pawn_after p m l e =
    let h = HasMover-from_is_legal p m l in
    let none : is_pawn (moved_man h.man m) ≡ false =
    no_pawn (is_pawn (moved_man h.man m)) (λ k. moved_pawn h.man m (reaches_last_rank h.man m.target) h.moves.choice k)
    (is_pawn h.man) (λ k. found_any is_pawn p.men m.origin h.man h.here k) in
    rw (h.here, list_any-insert_man is_pawn (moved_man h.man m) (filter (survives p.passed h.man m.target) p.men), none)
    (none-filter is_pawn (survives p.passed h.man m.target) p.men e)
  where
    no_pawn : (b : Bool) → ((b ≡ true) → is_pawn (HasMover-from_is_legal p m l).man ≡ true) → (c : Bool)
        → (is_pawn (HasMover-from_is_legal p m l).man ≡ true → list_any is_pawn p.men ≡ true) → b ≡ false
    no_pawn true f c g = absurd (false≢true (sym e ∙ g (f refl)))
    no_pawn false f c g = refl

pub admits_after : (s : Symmetry) (p : Position) (m : Move) → is_legal p m ≡ true → admits p s ≡ true → admits (after p m) s ≡ true
admits_after s p m l a = by_pawn (list_any is_pawn p.men) refl (list_any is_pawn (after p m).men) refl a
  where
    or_true : (b : Bool) → (b || true) ≡ true
    or_true true = refl
    or_true false = refl

    by_pawn : (b : Bool) → list_any is_pawn p.men ≡ b → (c : Bool) → list_any is_pawn (after p m).men ≡ c
        → (not b || keeps_pawns s) ≡ true → (not c || keeps_pawns s) ≡ true
    by_pawn true e c f k = rw k (or_true (not c))
    by_pawn false e c f k = let none : c ≡ false = sym f ∙ no_pawn_after p m l e in rw none

pub admits_bare : (s : Symmetry) (p : Position) → admits (without_idle_passed_square p) s ≡ admits p s
admits_bare s p = by_live (has_legal_en_passant p)
  where
    by_live : (b : Bool) → admits (cond b p (without_passed p)) s ≡ admits p s
    by_live true = refl
    by_live false = refl

pub AreAlike-back : (p q : Position) → AreAlike p q → AreAlike q p
AreAlike-back p q h = record {
  left = h.right;
  right = h.left;
  images = IsImage-sym (without_idle_passed_square p) (without_idle_passed_square q)
      (AgreesWithBare-from_valid p h.left).valid h.images;
}

pub AreAlike-mated : (p q : Position) → AreAlike p q → IsMate p → IsMate q
AreAlike-mated p q h mate =
    let b = AgreesWithBare-from_valid p h.left in
    let c = AgreesWithBare-from_valid q h.right in
    let t = IsTurnable-from_valid h.images.by (without_idle_passed_square p) b.valid h.images.admitted in
    c.game.mate.1 (subst IsMate (sym h.images.is) (IsMate-image h.images.by (without_idle_passed_square p) t (b.game.mate.0 mate)))

-- given that a legal move leads to a valid position
module _ (valid_after : (p : Position) (m : Move) → IsValid p → is_legal p m ≡ true → IsValid (after p m)) where
  pub AreAlike-move : (p q p' : Position) → AreAlike p q → Leads p p' → (q' : Position) × Leads q q' × AreAlike p' q'
  AreAlike-move p q p' h l =
      let s = h.images.by in
      let m = l.0 in
      let b = AgreesWithBare-from_valid p h.left in
      let c = AgreesWithBare-from_valid q h.right in
      let t = IsTurnable-from_valid s (without_idle_passed_square p) b.valid h.images.admitted in
      let lb : IsLegal (without_idle_passed_square p) m = b.legal m ∙ l.1 in
      let m' = image_move s m in
      let lq : IsLegal (without_idle_passed_square q) m' = subst (λ (x : Position). IsLegal x m') (sym h.images.is)
      (image_legal s (without_idle_passed_square p) t m lb) in
      let l' : IsLegal q m' = sym (c.legal m') ∙ lq in
      let same : after q m' ≡ image s p' =
      sym (c.after m' l') ∙ ap (λ x. after x m') h.images.is ∙ after-turned s (without_idle_passed_square p) t m lb ∙ ap (image s) (b.after m l.1 ∙ l.2) in
      let v : IsValid p' = subst IsValid l.2 (valid_after p m h.left l.1) in
      let w : IsValid (after q m') = valid_after q m' h.right l' in
      let a : admits p' s ≡ true = subst (λ (x : Position). admits x s ≡ true) l.2 (admits_after s p m l.1 (sym (admits_bare s p) ∙ h.images.admitted)) in (
        after q m',
        (m', l', refl),
        record {
          left = v;
          right = w;
          images = record {
            by = s;
            admitted = admits_bare s p' ∙ a;
            is = ap without_idle_passed_square same
                ∙ bare_image s p' (IsTurnable-from_valid s p' v a);
          };
        },
      )
