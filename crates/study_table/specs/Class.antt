-- Not part of any public contract: the laws of a class's numbers.
use Rattle.std.specs.Prelude.{◌≡◌, ℕ, ◌<◌, Option, Some, Bool, true, false}
use Rattle.study_values.specs.Cells.{distance_of}
use Rattle.study_values.specs.declared.value.Value.{Value}

pub record IsClass {P : Type 0} (leads : P → P → Type 0) (mate : P → Type 0) (known : P → Type 0) (home : P → Bool) (index : P → ℕ)
    (outside : P → Value) (position : ℕ → Option P) (size : ℕ) (image : P → P → Type 0) : Type 0 where
  pub stuck : (p q : P) → mate p → leads p q → ⊥
  pub below : (n : ℕ) (p : P) → position n ≡ Some p → n < size
  pub decoded : (n : ℕ) (p : P) → position n ≡ Some p → known p × (home p ≡ true) × (index p ≡ n)
  pub numbered : (p : P) → known p → home p ≡ true → (q : P) × (position (index p) ≡ Some q) × image q p
  pub closed : (p q : P) → known p → home p ≡ true → leads p q → known q
  pub back : (p q : P) → image p q → image q p
  pub move : (p q p' : P) → image p q → leads p p' → (q' : P) × leads q q' × image p' q'
  pub mated : (p q : P) → image p q → mate p → mate q
  pub same_home : (p q : P) → known p → image p q → home p ≡ home q
  pub same_index : (p q : P) → known p → home p ≡ true → image p q → index p ≡ index q
  pub same_known : (p q : P) → known p → image p q → known q
  pub near_outside : (p : P) → known p → home p ≡ false → distance_of (outside p) < 255
