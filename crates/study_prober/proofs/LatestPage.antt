-- The last used page, and the cells of a page.
use Rattle.std.proofs.Common.{◌≡◌, ℕ, List, [], ◌∷◌, Option, Some, None, IfSome, Contains, sym, slice_get, slice_index}
use Rattle.std.proofs.lemmas.Option.{get_or_from_slice_get}

pub slice_get-first : {X : Type 0} (xs : List X) (x : X) → Some x ≡ slice_get xs 0 → (older : List X) × (xs ≡ x ∷ older)
slice_get-first [] x h = cc
slice_get-first (y ∷ ys) x h = (ys, cc)

-- a cell of a cached page, if the page has one
module _ {K V : Type 0} (cells : V → List ℕ) (es : List (K × V)) (k : K) (v : V) (at : ℕ) (kept : Contains es (k, v)) where
  cell-if : (o : Option ℕ) → slice_get (cells v) at ≡ o → IfSome o (λ x. (w : V) × Contains es (k, w) × (x ≡ slice_index (cells w) at))
  cell-if None h = tt
  cell-if (Some x) h = (v, kept, sym (get_or_from_slice_get (cells v) at x 0 h))

  pub kept-cell : (o : Option ℕ) → o ≡ slice_get (cells v) at → IfSome o (λ x. (w : V) × Contains es (k, w) × (x ≡ slice_index (cells w) at))
  kept-cell o h = cell-if o (sym h)
