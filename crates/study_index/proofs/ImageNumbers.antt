-- A position and its image have the same index.
use Rattle.study_board.specs.Men.{is_pawn}
use Rattle.std.proofs.Common.{◌≡◌, ℕ, Bool, true, false, cond, Some, refl, sym, ◌∙◌, ap, subst}
use Rattle.study_board.specs.declared.symmetry.Symmetry.{Symmetry}
use Rattle.study_board.specs.Position.{Position, IsValid}
use Rattle.study_board.specs.Symmetry.{image, admits}
use Rattle.study_board.specs.Images.{differ, composition, back}
use Rattle.study_board.proofs.ImagesValid.{any_turned, seats, valid_image}
use Rattle.study_board.proofs.ImagesOfImages.{IsTurnable-from_valid, image_joined, image_back, admits_image, admits_joined, admits_back}
use Rattle.study_moves.specs.EnPassant.{has_legal_en_passant, without_passed, without_idle_passed_square}
use Rattle.study_material.specs.Lists.{Lists, lists, is_swapped}
use Rattle.study_material.proofs.ClassOfImage.{turned_lists, lists-image, swapped-image}
use Rattle.study_values.specs.Slots.{IsFilling}
use Rattle.study_values.specs.Number.{has_pawn, number, IsNumber, IsLeastNumber}

-- if the two lists are equal the colours are kept
abbrev pub Keeps : Symmetry → Position → Type 0
Keeps u p = (lists p.men).white ≡ (lists p.men).black → u.colours ≡ false

differ_twice : (a b : Bool) → differ a (differ a b) ≡ b
differ_twice true true = refl
differ_twice true false = refl
differ_twice false b = refl

pub has_pawn-image : (u : Symmetry) (p : Position) → IsValid p → admits p u ≡ true → has_pawn (image u p).men ≡ has_pawn p.men
has_pawn-image u p v a = any_turned u is_pawn is_pawn (λ m _. refl) p.men (seats u p v a)

-- a number of the image is a number of the position
IsNumber-image : (u : Symmetry) (p : Position) (n : ℕ) → IsValid p → admits p u ≡ true → Keeps u p → IsNumber (image u p) n → IsNumber p n
IsNumber-image u p n v au k h =
    let t = h.by in
    let a : admits p t ≡ true = sym (admits_image u t p v au) ∙ h.admitted in
    let same : image t (image u p) ≡ image (composition u t) p = image_joined u t p (IsTurnable-from_valid u p v au) (IsTurnable-from_valid t p v a) in
    record {
      by = composition u t;
      admitted = admits_joined u t p au a;
      colours = ap (λ c. differ u.colours c) (h.colours ∙ swapped-image u p.men k) ∙ differ_twice u.colours (is_swapped p.men);
      filling = h.filling;
      fills = subst (λ (r : Position). IsFilling false r.men h.filling) same h.fills;
      is = subst (λ b. number b (image (composition u t) p).to_move h.filling ≡ Some n) (has_pawn-image u p v au)
          (subst (λ (r : Position). number (has_pawn (image u p).men) r.to_move h.filling ≡ Some n) same h.is);
    }

Keeps-back : (u : Symmetry) (p : Position) → Keeps u p → Keeps (back u) (image u p)
Keeps-back u p k e = k (by_colours u.colours (lists p.men) (subst (λ (l : Lists). l.white ≡ l.black) (lists-image u p.men) e))
  where
    by_colours : (c : Bool) (l : Lists) → (turned_lists c l).white ≡ (turned_lists c l).black → l.white ≡ l.black
    by_colours true l e = sym e
    by_colours false l e = e

pub IsLeastNumber-image : (u : Symmetry) (p : Position) (n : ℕ) → IsValid p → admits p u ≡ true → Keeps u p → IsLeastNumber p n → IsLeastNumber (image u p) n
IsLeastNumber-image u p n v au k h =
    let w = valid_image u p v au in
    let ab : admits (image u p) (back u) ≡ true = admits_image u (back u) p v au ∙ admits_back u p au in
    let again : image (back u) (image u p) ≡ p = image_back u p (IsTurnable-from_valid u p v au) in
    record {
      number = IsNumber-image (back u) (image u p) n w ab (Keeps-back u p k) (subst (λ (r : Position). IsNumber r n) (sym again) h.number);
      least = λ m l. h.least m (IsNumber-image u p m v au k l);
    }

-- the passed square is ignored
IsNumber-passed : (p q : Position) (n : ℕ) → p.men ≡ q.men → p.to_move ≡ q.to_move → IsNumber p n → IsNumber q n
IsNumber-passed p q n e f h =
    let t = h.by in
    record {
      by = t;
      admitted = rw (← e) h.admitted;
      colours = rw (← e) h.colours;
      filling = h.filling;
      fills = rw (← e) h.fills;
      is = rw (← e, ← f) h.is;
    }

pub IsLeastNumber-passed : (p q : Position) (n : ℕ) → p.men ≡ q.men → p.to_move ≡ q.to_move → IsLeastNumber p n → IsLeastNumber q n
IsLeastNumber-passed p q n e f h = record { number = IsNumber-passed p q n e f h.number; least = λ m k. h.least m (IsNumber-passed q p m (sym e) (sym f) k) }

pub bare_men : (p : Position) → (without_idle_passed_square p).men ≡ p.men
bare_men p = by_live (has_legal_en_passant p)
  where
    by_live : (b : Bool) → (cond b p (without_passed p)).men ≡ p.men
    by_live true = refl
    by_live false = refl

pub bare_to_move : (p : Position) → (without_idle_passed_square p).to_move ≡ p.to_move
bare_to_move p = by_live (has_legal_en_passant p)
  where
    by_live : (b : Bool) → (cond b p (without_passed p)).to_move ≡ p.to_move
    by_live true = refl
    by_live false = refl
