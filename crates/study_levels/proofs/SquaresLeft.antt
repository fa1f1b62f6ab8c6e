-- A set of squares, taken one by one from the first.
use Rattle.std.proofs.Common.{◌≡◌, ℕ, ◌<◌, ◌==◌, Bool, true, false, not, ◌&&◌, refl, sym, subst, ◌∙◌, inl, inr}
use Rattle.std.proofs.lemmas.Bool.{false≢true, cases_Bool, eqb-true}
use Rattle.study_board.specs.Sets.{has}
use Rattle.study_board.proofs.SquareLists.{IsFirstOf}

-- a member of one set and not of another
pub in-one : (a b : Bool) → (a && not b) ≡ true → a ≡ true
in-one true b e = refl
in-one false b e = absurd (false≢true e)

pub not-other : (a b : Bool) → (a && not b) ≡ true → b ≡ false
not-other true false e = refl
not-other true true e = absurd (false≢true e)
not-other false b e = absurd (false≢true e)

pub in-one-alone : (a b : Bool) → a ≡ true → b ≡ false → (a && not b) ≡ true
in-one-alone a b e f = rw (e, f) refl

taken-one : (a b : Bool) → a ≡ true → (a && not b) ≡ false → b ≡ true
taken-one a true there gone = refl
taken-one a false there gone = absurd (false≢true (sym gone ∙ rw there refl))

-- a property of the squares of a set that have been taken, after one more
module _ (all set x rest : ℕ) (f : IsFirstOf set x rest) where
  pub still-among : ((y : ℕ) → y < 64 → has set y ≡ true → has all y ≡ true) → (y : ℕ) → y < 64 → has rest y ≡ true → has all y ≡ true
  still-among among y on e = among y on (in-one _ _ (sym (f.left y on) ∙ e))

  pub taken-too : (Q : ℕ → Type 0) → ((y : ℕ) → y < 64 → has all y ≡ true → has set y ≡ false → Q y) → Q x
      → (y : ℕ) → y < 64 → has all y ≡ true → has rest y ≡ false → Q y
  taken-too Q before here y on e out = elim (cases_Bool (has set y)) [
    | inl there ↦ subst Q (eqb-true x y (taken-one (has set y) (x == y) there (sym (f.left y on) ∙ out))) here
    | inr gone ↦ before y on e gone
  ]
