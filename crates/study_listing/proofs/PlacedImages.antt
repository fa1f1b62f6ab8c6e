-- If a position has men on the wanted squares, so has an image of the position that its number reads as.
use Rattle.std.proofs.Common.{◌≡◌, Bool, true, false, List, Option, Some, refl, sym, ap, subst, ◌∙◌}
use Rattle.std.specs.Prelude.{if◌then◌else◌}
use Rattle.std.proofs.lemmas.Bool.{false≢true}
use Rattle.study_board.specs.declared.men.Man.{Man}
use Rattle.study_board.specs.Position.{Position, IsValid}
use Rattle.study_board.specs.declared.symmetry.Symmetry.{Symmetry}
use Rattle.study_board.specs.Symmetry.{image, admits}
use Rattle.study_board.specs.Images.{back, differ}
use Rattle.study_board.proofs.ImagesOfImages.{IsTurnable-from_valid, image_back, admits_back, admits_image}
use Rattle.study_moves.specs.EnPassant.{has_legal_en_passant, without_idle_passed_square, without_passed}
use Rattle.study_moves.specs.Laws.{AllAgreeWithBare}
use Rattle.study_material.specs.declared.class.Class.{Class}
use Rattle.study_material.specs.Class.{IsOf}
use Rattle.study_material.specs.Lists.{Lists, lists, ordered_lists, lists_exchanged, is_exchanged, is_swapped}
use Rattle.study_material.proofs.ClassOfImage.{swapped-image}
use Rattle.study_values.specs.Index.{index_of}
use Rattle.study_index.specs.Computed.{position_numbered}
use Rattle.study_index.proofs.ClassLaws.{entry, numbered, alike_back}
use Rattle.study_index.proofs.ComputedIndex.{IsIndex-index_of, numbered_of_decoded}
use Rattle.study_listing.specs.declared.filters.Placed.{Placed}
use Rattle.study_listing.specs.Filters.{are_placed, HasImagePlaced}
use Rattle.study_listing.specs.Laws.{PlacedAreShown}
use Rattle.study_listing.proofs.OneList.{same-some}
use Rattle.study_listing.proofs.Shown.{has-some}

ordered_lists-same : (l : Lists) → l.white ≡ l.black → (ordered_lists l).white ≡ (ordered_lists l).black
ordered_lists-same l e = go (is_exchanged l)
  where
    go : (b : Bool) → (if b then lists_exchanged l else l).white ≡ (if b then lists_exchanged l else l).black
    go false = e
    go true = sym e

same-flag : (c b : Bool) → differ c b ≡ false → c ≡ b
same-flag false false f = refl
same-flag false true f = absurd (false≢true (sym f))
same-flag true false f = absurd (false≢true (sym f))
same-flag true true f = refl

pub bare-men : (p : Position) → (without_idle_passed_square p).men ≡ p.men
bare-men p = by_live (has_legal_en_passant p)
  where
    by_live : (b : Bool) → (if b then p else without_passed p).men ≡ p.men
    by_live true = refl
    by_live false = refl

-- q is an image of the bare position that keeps the colours
pub record IsKept (p q : Position) : Type 0 where
  pub by : Symmetry
  pub colours : by.colours ≡ false
  pub admitted : admits (without_idle_passed_square p) by ≡ true
  pub is : q ≡ image by (without_idle_passed_square p)

module _ (law : AllAgreeWithBare) (c : Class) (p q : Position) (valid : IsValid p) (home : IsOf c p) (unswapped : is_swapped p.men ≡ false)
    (reported : position_numbered c (index_of p) ≡ Some q) where
  pub kept : IsKept p q
  kept =
      let n = index_of p in
      let r = numbered c p n valid home (IsIndex-index_of p valid) in
      let e = entry c n r.0 r.1 in
      let alike = alike_back c r.0 p r.2 in
      let by = alike.alike.images.by in
      let same : r.0 ≡ q = same-some r.0 q (sym (numbered_of_decoded c n r.0 r.1) ∙ reported) in
      let is : r.0 ≡ image by (without_idle_passed_square p) = sym e.is_bare ∙ alike.alike.images.is in
      let keeps : (lists (without_idle_passed_square p).men).white ≡ (lists (without_idle_passed_square p).men).black → by.colours ≡ false =
      (λ like. alike.kept (ap (λ l. l.white) home ∙ ordered_lists-same (lists p.men) (subst (λ xs. (lists xs).white ≡ (lists xs).black) (bare-men p) like)
      ∙ sym (ap (λ l. l.black) home))) in
      record {
        by = by;
        colours =
            same-flag by.colours (is_swapped (without_idle_passed_square p).men) (sym (swapped-image by (without_idle_passed_square p).men keeps)
            ∙ sym (ap (λ x. is_swapped x.men) is) ∙ e.in_order)
            ∙ ap (λ xs. is_swapped xs) (bare-men p) ∙ unswapped;
        admitted = alike.alike.images.admitted;
        is = sym same ∙ is;
      }

  pub image-placed : (ws : List (Option Placed)) → are_placed ws p ≡ true → HasImagePlaced ws q
  image-placed ws there =
      let k = kept in
      let sound = (law p valid).valid in
      let again : image (back k.by) q ≡ without_idle_passed_square p =
      ap (λ x. image (back k.by) x) k.is ∙ image_back k.by (without_idle_passed_square p)
      (IsTurnable-from_valid k.by (without_idle_passed_square p) sound k.admitted) in
      record {
        by = back k.by;
        colours = k.colours;
        admitted = ap (λ x. admits x (back k.by)) k.is ∙ admits_image k.by (back k.by) (without_idle_passed_square p) sound k.admitted
            ∙ admits_back k.by (without_idle_passed_square p) k.admitted;
        placed = ap (λ x. are_placed ws x) again
            ∙ subst (λ (men : List Man). are_placed ws (record { men = men; to_move = p.to_move; passed = p.passed }) ≡ true) (sym (bare-men p)) there;
      }

pub placed-shown : AllAgreeWithBare → PlacedAreShown
placed-shown law s p q valid home unswapped plain there reported =
    has-some s q plain (image-placed law s.search.class p q valid home unswapped reported s.filters.men there)
