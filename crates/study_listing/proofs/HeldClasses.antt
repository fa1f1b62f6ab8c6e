-- The classes that are held among those of a list.
use Rattle.std.proofs.Common.{◌≡◌, Bool, true, false, ℕ, zero, suc, ◌+◌, ◌<◌, List, [], ◌∷◌, ◌++◌, length, take, drop}
use Rattle.std.proofs.Common.{take-suc, slice_index_or, refl, ap, subst, sym, ◌∙◌, arith}
use Rattle.std.specs.List.{AllByRecursion}
use Rattle.std.proofs.lemmas.List.Elements.{Contains-get_or}
use Rattle.study_material.specs.declared.class.Class.{Class}
use Rattle.study_material.specs.Needs.{IsNeeded}
use Rattle.study_listing.specs.declared.request.Request.{Request}
use Rattle.study_listing.specs.Requests.{class_of_request, needs_one_table}
use Rattle.study_listing.specs.Pieces.{AreThese, AreLookedAt}

all-more : {A : Type 0} (P : A → Type 0) (xs : List A) (x : A) → AllByRecursion P xs → P x → AllByRecursion P (xs ++ x ∷ [])
all-more P [] x h is = (is, tt)
all-more P (y ∷ ys) x h is = (h.0, all-more P ys x h.1 is)

-- one more of a list has the property
pub next-held : {A : Type 0} (P : A → Type 0) (xs : List A) (k : ℕ) (d : A) → k < length xs → AllByRecursion P (take k xs) → P (slice_index_or xs k d)
    → AllByRecursion P (take (k + 1) xs)
next-held P xs k d lt h is =
    subst (AllByRecursion P) (sym (ap (λ (n : ℕ). take n xs) {x = k + 1} {y = suc k} (omega arith) ∙ take-suc xs k d lt))
    (all-more P (take k xs) (slice_index_or xs k d) h is)

-- a list up to one of it, that one, and the rest
pub parted-at : {A : Type 0} (xs : List A) (k : ℕ) (d : A) → k < length xs → xs ≡ take k xs ++ slice_index_or xs k d ∷ drop (suc k) xs
parted-at [] k d lt = absurd (omega (arith, lt))
parted-at (x ∷ xs) zero d lt = refl
parted-at (x ∷ xs) (suc k) d lt = ap (λ l. x ∷ l) (parted-at xs k d (omega (arith, lt)))

-- ---- the classes that a request looks at

these-needed : (alone : Bool) (c : Class) (classes : List Class) (k : ℕ) (d : Class) → AreThese alone c classes → k < length classes
    → IsNeeded c (slice_index_or classes k d)
these-needed true c classes zero d e lt = subst (λ (l : List Class). IsNeeded c (slice_index_or l 0 d)) (sym e) (0, refl)
these-needed true c classes (suc k) d e lt =
    let one : length classes ≡ 1 = ap (λ (l : List Class). length l) e in
    absurd (omega (arith, one, lt))
these-needed false c classes k d order lt = (order.each (slice_index_or classes k d)).0 (Contains-get_or classes k d lt)

-- the class needs each
pub looked-at-needed : (r : Request) (classes : List Class) (k : ℕ) (d : Class) → AreLookedAt r classes → k < length classes
    → IsNeeded (class_of_request r) (slice_index_or classes k d)
looked-at-needed r classes k d looked lt = these-needed (needs_one_table r) (class_of_request r) classes k d looked lt
