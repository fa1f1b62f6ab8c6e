-- Each position that has a theme is found by its index, and by no other number.
use Rattle.std.proofs.Common.{◌≡◌, Bool, true, false, not, ◌||◌, List, Some, refl, sym, ap, ◌∙◌, subst}
use Rattle.std.specs.List.{list_any}
use Rattle.std.specs.Prelude.{if◌then◌else◌}
use Rattle.std.proofs.lemmas.Bool.{false≢true}
use Rattle.study_board.specs.declared.men.Kind.{Kind}
use Rattle.study_board.specs.declared.men.Side.{Side}
use Rattle.study_board.specs.declared.men.Side.TheVariants.{White, Black}
use Rattle.study_board.specs.Men.{is_pawn, same_side, other_side}
use Rattle.study_board.specs.Position.{Position, IsValid}
use Rattle.study_board.specs.Symmetry.{image, admits, turned_side}
use Rattle.study_board.specs.Images.{differ}
use Rattle.study_board.proofs.ImagesValid.{valid_image}
use Rattle.study_board.proofs.ImagesOfImages.{IsTurnable-from_valid}
use Rattle.study_moves.specs.EnPassant.{has_legal_en_passant, without_idle_passed_square, without_passed}
use Rattle.study_moves.specs.Laws.{AllAgreeWithBare}
use Rattle.study_material.specs.Class.{IsOf, lists_of}
use Rattle.study_material.specs.Lists.{Lists, lists, ordered_lists, lists_exchanged, is_exchanged, is_swapped, comes_before}
use Rattle.study_material.proofs.ClassOfImage.{compare_lists, black_first, white_first, equal, ordered_lists-image, swapped-image}
use Rattle.study_values.specs.Index.{index_of}
use Rattle.study_index.proofs.ClassLaws.{entry, numbered, alike_back, same_index}
use Rattle.study_index.proofs.ComputedIndex.{IsIndex-index_of, index_of-only, numbered_of_decoded, decoded_of_numbered}
use Rattle.study_search.specs.declared.finding.Search.{Search}
use Rattle.study_search.specs.Themes.{HasTheme}
use Rattle.study_search.specs.Finding.{is_for}
use Rattle.study_search.specs.Laws.{IsFoundOnce, EachIsFoundOnce, OneOfTwoImagesIsFound, colours_swapped, image_for}
use Rattle.study_search.proofs.ThemeImages.{theme-image, theme-bare}

ordered_lists-same : (l : Lists) → l.white ≡ l.black → (ordered_lists l).white ≡ (ordered_lists l).black
ordered_lists-same l e = go (is_exchanged l)
  where
    go : (b : Bool) → (if b then lists_exchanged l else l).white ≡ (if b then lists_exchanged l else l).black
    go false = e
    go true = sym e

same-flag : (c b : Bool) → differ c b ≡ false → c ≡ b
same-flag false false f = refl
same-flag false true f = absurd (false≢true (sym f))
same-flag true false f = absurd (false≢true (sym f))
same-flag true true f = refl

bare-men : (p : Position) → (without_idle_passed_square p).men ≡ p.men
bare-men p = by_live (has_legal_en_passant p)
  where
    by_live : (b : Bool) → (if b then p else without_passed p).men ≡ p.men
    by_live true = refl
    by_live false = refl

bare-side : (p : Position) → (without_idle_passed_square p).to_move ≡ p.to_move
bare-side p = by_live (has_legal_en_passant p)
  where
    by_live : (b : Bool) → (if b then p else without_passed p).to_move ≡ p.to_move
    by_live true = refl
    by_live false = refl

module _ (law : AllAgreeWithBare) (s : Search) (p : Position) (valid : IsValid p) (home : IsOf s.class p) where
  pub found-once : is_for s.side (turned_side (is_swapped p.men) p.to_move) ≡ true → HasTheme s.theme p → IsFoundOnce s p
  found-once side h =
      let c = s.class in
      let n = index_of p in
      let r = numbered c p n valid home (IsIndex-index_of p valid) in
      let q = r.0 in
      let e = entry c n q r.1 in
      let alike = alike_back c q p r.2 in
      let by = alike.alike.images.by in
      let is : q ≡ image by (without_idle_passed_square p) = sym e.is_bare ∙ alike.alike.images.is in
      let keeps : (lists (without_idle_passed_square p).men).white ≡ (lists (without_idle_passed_square p).men).black → by.colours ≡ false =
      (λ same. alike.kept (ap (λ l. l.white) home ∙ ordered_lists-same (lists p.men) (subst (λ xs. (lists xs).white ≡ (lists xs).black) (bare-men p) same)
      ∙ sym (ap (λ l. l.black) home))) in
      let colours : by.colours ≡ is_swapped (without_idle_passed_square p).men =
      same-flag by.colours (is_swapped (without_idle_passed_square p).men) (sym (swapped-image by (without_idle_passed_square p).men keeps)
      ∙ sym (ap (λ x. is_swapped x.men) is) ∙ e.in_order) in
      let to_move : q.to_move ≡ turned_side (is_swapped p.men) p.to_move =
      ap (λ x. x.to_move) is ∙ ap (λ b. turned_side b (without_idle_passed_square p).to_move) (colours ∙ ap (λ xs. is_swapped xs) (bare-men p))
      ∙ ap (λ x. turned_side (is_swapped p.men) x) (bare-side p) in
      let turnable = IsTurnable-from_valid by (without_idle_passed_square p) (law p valid).valid alike.alike.images.admitted in
      record {
        found = (
          q,
          numbered_of_decoded c n q r.1,
          (
            ap (λ x. is_for s.side x) to_move ∙ side,
            subst (HasTheme s.theme) (sym is) (theme-image s.theme by (without_idle_passed_square p) turnable (theme-bare law p valid s.theme h)),
          ),
        );
        once = λ m x reported alike.
            index_of-only p m valid (same_index c x p m (alike_back c p x alike) (entry c m x (decoded_of_numbered c m x reported)).of_class
            (entry c m x (decoded_of_numbered c m x reported)).index);
      }

pub each-found : AllAgreeWithBare → EachIsFoundOnce
each-found law s p valid home side h = found-once law s p valid home side h

-- ---- classes whose sides have the same men

-- if both sides have the same men the colours are not swapped to reach the class
like-unswapped : (l : Lists) → (ordered_lists l).white ≡ (ordered_lists l).black → is_exchanged l ≡ false
like-unswapped l e =
    elim (compare_lists l) [ black_first f g ↦ absurd (clash l.white l.black (sym (same (is_exchanged l) f e)) f g) | white_first f g ↦ f | equal f g s ↦ f ]
  where
    same : (b : Bool) → b ≡ true → (if b then lists_exchanged l else l).white ≡ (if b then lists_exchanged l else l).black → l.black ≡ l.white
    same true f h = h
    same false f h = absurd (false≢true f)

    clash : (xs ys : List Kind) → xs ≡ ys → comes_before ys xs ≡ true → comes_before xs ys ≡ false → ⊥
    clash xs ys s f g = false≢true (sym g ∙ ap (λ z. comes_before z ys) s ∙ sym (ap (λ z. comes_before ys z) s) ∙ f)

pub colours-admitted : (p : Position) → admits p colours_swapped ≡ true
colours-admitted p = go (list_any is_pawn p.men)
  where
    go : (b : Bool) → (not b || true) ≡ true
    go true = refl
    go false = refl

module _ (law : AllAgreeWithBare) (s : Search) (like : (lists_of s.class).white ≡ (lists_of s.class).black) (white : s.side ≡ Some White) where
  white-found : (q : Position) → IsValid q → IsOf s.class q → q.to_move ≡ White → HasTheme s.theme q → IsFoundOnce s q
  white-found q valid home e h =
      let unswapped : is_swapped q.men ≡ false = like-unswapped (lists q.men) (ap (λ l. l.white) (sym home) ∙ like ∙ ap (λ l. l.black) home) in
      let side : is_for s.side (turned_side (is_swapped q.men) q.to_move) ≡ true =
      ap (λ x. is_for x (turned_side (is_swapped q.men) q.to_move)) white ∙ ap (λ b. same_side (turned_side b q.to_move) White) unswapped
      ∙ ap (λ y. same_side y White) e in
      found-once law s q valid home side h

  by-side : (x : Side) (p : Position) → p.to_move ≡ x → IsValid p → IsOf s.class p → HasTheme s.theme p → IsFoundOnce s (image_for x p)
  by-side White p e valid home h = white-found p valid home e h
  by-side Black p e valid home h =
      white-found (image colours_swapped p) (valid_image colours_swapped p valid (colours-admitted p))
      (home ∙ sym (ordered_lists-image colours_swapped p.men)) (ap (λ y. other_side y) e)
      (theme-image s.theme colours_swapped p (IsTurnable-from_valid colours_swapped p valid (colours-admitted p)) h)

pub one-of-two : AllAgreeWithBare → OneOfTwoImagesIsFound
one-of-two law s p valid home like white h = by-side law s like white p.to_move p refl valid home h
