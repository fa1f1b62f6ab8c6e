-- The listed image has men on the wanted squares, and there is one if some image has.
use Rattle.std.proofs.Common.{◌≡◌, ◌⊎◌, Bool, true, false, List, [], ◌∷◌, Option, Some, None, is_some, inl, inr, refl, sym, ap, subst, ◌∙◌}
use Rattle.std.specs.List.{list_any}
use Rattle.std.specs.Prelude.{◌&&◌, ◌||◌, not, if◌then◌else◌, Result, Ok, Err, IfOk, IfSome}
use Rattle.study_board.specs.declared.symmetry.Symmetry.{Symmetry}
use Rattle.study_board.specs.Men.{is_pawn}
use Rattle.study_board.specs.Position.{Position, IsValid}
use Rattle.study_board.specs.declared.men.Side.{Side}
use Rattle.study_board.specs.declared.men.Side.TheVariants.{White, Black}
use Rattle.study_board.proofs.ImagesOfImages.{image_unturned}
use Rattle.study_board.proofs.ImagesValid.{valid_image}
use Rattle.study_board.specs.Symmetry.{image, admits}
use Rattle.study_material.specs.declared.class.Class.{Class}
use Rattle.study_material.specs.Needs.{IsNeeded, NeedsClass}
use Rattle.study_zugzwang.specs.Zugzwang.{handed_on}
use Rattle.study_search.specs.Faults.{NeedsNoMore}
use Rattle.study_search.specs.Laws.{colours_swapped, image_for, with_white_to_move}
use Rattle.study_search.specs.Pairs.{counterpart}
use Rattle.study_search.proofs.Faults.{needs-image, needs-across}
use Rattle.study_listing.specs.declared.filters.Placed.{Placed}
use Rattle.study_listing.specs.declared.filters.Selection.{Selection}
use Rattle.study_listing.specs.Filters.{no_filters, are_placed, turned_by, turns, or_else, image_placed, first_placed, HasImagePlaced}
use Rattle.study_listing.specs.Lists.{is_paired, second_placed, hero_image, listed_image}
use Rattle.study_listing.specs.Laws.{HasImageShown, IsShownRightly, ImagesAreShown}

-- ---- wanted men

pub both : (x y : Bool) → (x && y) ≡ true → (x ≡ true) × (y ≡ true)
both true y e = (refl, e)
both false y e = absurd cc

pub and : (x y : Bool) → x ≡ true → y ≡ true → (x && y) ≡ true
and x y e f = rw (e, f) refl

if-some : {A : Type 0} (b : Bool) (x : A) → is_some (if b then Some x else None) ≡ true → b ≡ true
if-some true x e = refl
if-some false x e = absurd cc

some-if : {A : Type 0} (b : Bool) (x : A) → b ≡ true → is_some (if b then Some x else None) ≡ true
some-if true x e = refl
some-if false x e = absurd cc

if-is : {A : Type 0} (b : Bool) (x y : A) → (if b then Some x else None) ≡ Some y → (b ≡ true) × (x ≡ y)
if-is true x y e = (refl, cc)
if-is false x y e = absurd cc

either : {A : Type 0} (a b : Option A) → is_some (or_else a b) ≡ true → (is_some a ≡ true) ⊎ (is_some b ≡ true)
either None b e = inr e
either (Some x) b e = inl refl

first-there : {A : Type 0} (a b : Option A) → is_some a ≡ true → is_some (or_else a b) ≡ true
first-there None b e = absurd cc
first-there (Some x) b e = refl

second-there : {A : Type 0} (a b : Option A) → is_some b ≡ true → is_some (or_else a b) ≡ true
second-there None b e = e
second-there (Some x) b e = refl

either-is : {A : Type 0} (a b : Option A) (x : A) → or_else a b ≡ Some x → (a ≡ Some x) ⊎ (b ≡ Some x)
either-is None b x e = inr e
either-is (Some y) b x e = inl e

none-there : {A : Type 0} (x : A) → None ≡ Some x → ⊥
none-there x e = cc

-- ---- images

-- all images but the first
abbrev later : List Symmetry
later =
    turned_by true false false ∷ turned_by false true false ∷ turned_by true true false
    ∷ turned_by false false true ∷ turned_by true false true ∷ turned_by false true true ∷ turned_by true true true ∷ []

abbrev KeepColours : List Symmetry → Type 0
KeepColours [] = Unit {0}
KeepColours (g ∷ gs) = (g.colours ≡ false) × KeepColours gs

abbrev IsAmong : Symmetry → List Symmetry → Type 0
IsAmong g [] = ⊥
IsAmong g (h ∷ hs) = (g ≡ h) ⊎ IsAmong g hs

among : (files ranks diagonal : Bool) → IsAmong (turned_by files ranks diagonal) turns
unfolding turns
among false false false = inl refl
among true false false = inr (inl refl)
among false true false = inr (inr (inl refl))
among true true false = inr (inr (inr (inl refl)))
among false false true = inr (inr (inr (inr (inl refl))))
among true false true = inr (inr (inr (inr (inr (inl refl)))))
among false true true = inr (inr (inr (inr (inr (inr (inl refl))))))
among true true true = inr (inr (inr (inr (inr (inr (inr (inl refl)))))))

is-turn : (g : Symmetry) → g.colours ≡ false → g ≡ turned_by g.files g.ranks g.diagonal
is-turn g e = ap (λ (c : Bool). (let h : Symmetry = record { files = g.files; ranks = g.ranks; diagonal = g.diagonal; colours = c } in h)) e

module _ (ws : List (Option Placed)) (p : Position) where
  image-has : (g : Symmetry) → g.colours ≡ false → is_some (image_placed ws p g) ≡ true → HasImagePlaced ws p
  image-has g k h =
      let two = both (admits p g) (are_placed ws (image g p)) (if-some (admits p g && are_placed ws (image g p)) (image g p) h) in
      record { by = g; colours = k; admitted = two.0; placed = two.1 }

  first-has : (gs : List Symmetry) → KeepColours gs → is_some (first_placed ws p gs) ≡ true → HasImagePlaced ws p
  first-has [] keep e = absurd cc
  first-has (g ∷ gs) keep e = elim (either (image_placed ws p g) (first_placed ws p gs) e) [
    | inl here ↦ image-has g keep.0 here
    | inr behind ↦ first-has gs keep.1 behind
  ]

  has-first : (g : Symmetry) (gs : List Symmetry) → IsAmong g gs → is_some (image_placed ws p g) ≡ true → is_some (first_placed ws p gs) ≡ true
  has-first g [] x h = absurd x
  has-first g (f ∷ fs) (inl same) h =
      first-there (image_placed ws p f) (first_placed ws p fs) (subst (λ (s : Symmetry). is_some (image_placed ws p s) ≡ true) same h)
  has-first g (f ∷ fs) (inr x) h = second-there (image_placed ws p f) (first_placed ws p fs) (has-first g fs x h)

  pub shown-has : is_some (first_placed ws p turns) ≡ true → HasImagePlaced ws p
  unfolding turns
  shown-has e = first-has turns (refl, (refl, (refl, (refl, (refl, (refl, (refl, (refl, tt)))))))) e

  pub has-shown : HasImagePlaced ws p → is_some (first_placed ws p turns) ≡ true
  has-shown h =
      let g = h.by in
      has-first g turns
      (subst (λ (s : Symmetry). IsAmong s turns) (sym (is-turn g h.colours)) (among g.files g.ranks g.diagonal))
      (some-if (admits p g && are_placed ws (image g p)) (image g p) (and (admits p g) (are_placed ws (image g p)) h.admitted h.placed))

  first-is : (gs : List Symmetry) (q : Position) → first_placed ws p gs ≡ Some q → are_placed ws q ≡ true
  first-is [] q e = absurd (none-there q e)
  first-is (g ∷ gs) q e = elim (either-is (image_placed ws p g) (first_placed ws p gs) q e) [
    | inl here ↦
        let is = if-is (admits p g && are_placed ws (image g p)) (image g p) q here in
        subst (λ (r : Position). are_placed ws r ≡ true) is.1 (both (admits p g) (are_placed ws (image g p)) is.0).1
    | inr behind ↦ first-is gs q behind
  ]

-- if the filters name no man the first image is the position itself
first-alone : (p : Position) (b : Option Position) → IsValid p → or_else (first_placed no_filters.men p turns) b ≡ Some p
unfolding turns
first-alone p b valid = go (not (list_any is_pawn p.men)) ∙ ap (λ (q : Position). Some q) (image_unturned p valid.ordered)
  where
    go : (x : Bool) → or_else (or_else (if (x || true) && true then Some (image (turned_by false false false) p) else None)
        (first_placed no_filters.men p later)) b ≡ Some (image (turned_by false false false) p)
    go true = refl
    go false = refl

-- the colour image is valid
admits-swapped : (p : Position) → admits p colours_swapped ≡ true
admits-swapped p = go (not (list_any is_pawn p.men))
  where
    go : (x : Bool) → (x || true) ≡ true
    go true = refl
    go false = refl

white-valid : (p : Position) (side : Side) → IsValid p → IsValid (image_for side p)
white-valid p White valid = valid
white-valid p Black valid = valid_image colours_swapped p valid (admits-swapped p)

module _ (s : Selection) (p : Position) where
  second-has : (b : Bool) → is_some (if b then first_placed s.filters.men (counterpart p) turns else None) ≡ true
      → (b ≡ true) × HasImagePlaced s.filters.men (counterpart p)
  second-has true e = (refl, shown-has s.filters.men (counterpart p) e)
  second-has false e = absurd cc

  has-second : (b : Bool) → b ≡ true → HasImagePlaced s.filters.men (counterpart p)
      → is_some (if b then first_placed s.filters.men (counterpart p) turns else None) ≡ true
  has-second true e h = has-shown s.filters.men (counterpart p) h
  has-second false e h = absurd cc

  second-is : (b : Bool) (q : Position) → (if b then first_placed s.filters.men (counterpart p) turns else None) ≡ Some q
      → are_placed s.filters.men q ≡ true
  second-is true q e = first-is s.filters.men (counterpart p) turns q e
  second-is false q e = absurd (none-there q e)

  some-shown : is_some (listed_image s p) ≡ true → HasImageShown s p
  some-shown e = elim (either (first_placed s.filters.men (hero_image s p) turns) (second_placed s p) e) [
    | inl here ↦ inl (shown-has s.filters.men (hero_image s p) here)
    | inr other ↦ inr (second-has (is_paired s.search) other)
  ]

  shown-some : HasImageShown s p → is_some (listed_image s p) ≡ true
  shown-some (inl h) = first-there (first_placed s.filters.men (hero_image s p) turns) (second_placed s p) (has-shown s.filters.men (hero_image s p) h)
  shown-some (inr h) = second-there (first_placed s.filters.men (hero_image s p) turns) (second_placed s p) (has-second (is_paired s.search) h.0 h.1)

  pub has-some : s.filters.as_white ≡ false → HasImagePlaced s.filters.men p → is_some (listed_image s p) ≡ true
  has-some plain h = shown-some (inl (subst (λ (q : Position). HasImagePlaced s.filters.men q)
      (sym (ap (λ (b : Bool). if b then with_white_to_move p else p) plain)) h))

  shown-placed : (q : Position) → listed_image s p ≡ Some q → are_placed s.filters.men q ≡ true
  shown-placed q e = elim (either-is (first_placed s.filters.men (hero_image s p) turns) (second_placed s p) q e) [
    | inl here ↦ first-is s.filters.men (hero_image s p) turns q here
    | inr other ↦ second-is (is_paired s.search) q other
  ]

  hero-valid : IsValid p → (b : Bool) → IsValid (if b then with_white_to_move p else p)
  hero-valid valid true = white-valid p p.to_move valid
  hero-valid valid false = valid

  shown-alone : IsValid p → s.filters.men ≡ no_filters.men → listed_image s p ≡ Some (hero_image s p)
  shown-alone valid none =
      subst (λ (ws : List (Option Placed)). or_else (first_placed ws (hero_image s p) turns) (second_placed s p) ≡ Some (hero_image s p)) (sym none)
      (first-alone (hero_image s p) (second_placed s p) (hero-valid valid s.filters.as_white))

  shown-rightly : IsShownRightly s p
  shown-rightly = record { some = (some-shown, shown-some); placed = shown-placed; alone = shown-alone }

pub images-listed_image : ImagesAreShown
images-listed_image s p = shown-rightly s p

-- ---- the classes that an image needs

needs-of : (ws : List (Option Placed)) (p q : Position) (gs : List Symmetry) → first_placed ws p gs ≡ Some q → NeedsNoMore p q
needs-of ws p q [] e = absurd (cc e)
needs-of ws p q (g ∷ gs) e = go (admits p g && are_placed ws (image g p)) (λ later. needs-of ws p q gs later) e
  where
    go : (b : Bool) → (first_placed ws p gs ≡ Some q → NeedsNoMore p q)
        → or_else (if b then Some (image g p) else None) (first_placed ws p gs) ≡ Some q → NeedsNoMore p q
    go true rest same = needs-image p q g (cc same)
    go false rest later = rest later

pub placed-needs : (ws : List (Option Placed)) (p : Position) (r : Option Position) (gs : List Symmetry) → r ≡ first_placed ws p gs
    → IfSome r (λ q. NeedsNoMore p q)
placed-needs ws p None gs e = tt
placed-needs ws p (Some q) gs e = needs-of ws p q gs (sym e)

-- the same of a position that needs no more
pub further-needs : (p h : Position) (r : Option Position) → NeedsNoMore p h → IfSome r (λ q. NeedsNoMore h q) → IfSome r (λ q. NeedsNoMore p q)
further-needs p h None less e = tt
further-needs p h (Some q) less e = λ c n. less c (e c n)

-- the same of the image of a position with the other side to move
pub counterpart-needs : (p o q : Position) (r : Option Position) → o ≡ handed_on p → q ≡ image colours_swapped o → IfSome r (λ x. NeedsNoMore q x)
    → IfSome r (λ x. NeedsNoMore p x)
counterpart-needs p o q None e f h = tt
counterpart-needs p o q (Some x) e f h = λ c n. needs-across p o e c (needs-image o q colours_swapped f c (h c n))

-- and of a position of a class
pub image-needs : {E : Type 0} (class : Class) (p : Position) (r : Result (Option Position) E) → ((c : Class) → NeedsClass p c → IsNeeded class c)
    → IfOk r (λ at. IfSome at (λ q. NeedsNoMore p q)) → IfOk r (λ at. IfSome at (λ q. (c : Class) → NeedsClass q c → IsNeeded class c))
image-needs class p (Err e) of h = tt
image-needs class p (Ok None) of h = tt
image-needs class p (Ok (Some q)) of h = λ c n. of c (h c n)
