-- Not part of any public contract: forced mate over any positions `P`, given the moves between positions and the positions that are mates.
use Rattle.std.specs.Prelude.{◌≡◌, ℕ, zero, suc, ◌<◌, ◌≤◌, ◌⊎◌, Bool, false}
use Rattle.study_values.specs.declared.value.Value.{Value}
use Rattle.study_values.specs.declared.value.Value.TheVariants.{Win, Loss, Draw}

abbrev mutual
  -- the side to move is mated within n plies, whatever it plays
  pub Mated : {P : Type 0} → (P → P → Type 0) → (P → Type 0) → P → ℕ → Type 0
  Mated {P} leads mate p zero = mate p
  Mated {P} leads mate p (suc n) = mate p ⊎ ((q : P) × leads p q) × ((q : P) → leads p q → Mates leads mate q n)

  -- the side to move mates within n plies, whatever the other side plays
  pub Mates : {P : Type 0} → (P → P → Type 0) → (P → Type 0) → P → ℕ → Type 0
  Mates {P} leads mate p zero = ⊥
  Mates {P} leads mate p (suc n) = (q : P) × leads p q × Mated leads mate q n

-- n is the least number of plies within which p's mover mates
pub record IsWin {P : Type 0} (leads : P → P → Type 0) (mate : P → Type 0) (p : P) (n : ℕ) : Type 0 where
  pub forced : Mates leads mate p n
  pub least : (m : ℕ) → Mates leads mate p m → n ≤ m

-- n is the least number of plies within which p's mover is mated
pub record IsLoss {P : Type 0} (leads : P → P → Type 0) (mate : P → Type 0) (p : P) (n : ℕ) : Type 0 where
  pub forced : Mated leads mate p n
  pub least : (m : ℕ) → Mated leads mate p m → n ≤ m

-- neither side forces mate within any number of plies
pub record IsDraw {P : Type 0} (leads : P → P → Type 0) (mate : P → Type 0) (p : P) : Type 0 where
  pub no_win : (n : ℕ) → Mates leads mate p n → ⊥
  pub no_loss : (n : ℕ) → Mated leads mate p n → ⊥

-- the game's value of a position
abbrev pub IsGame : {P : Type 0} → (P → P → Type 0) → (P → Type 0) → P → Value → Type 0
IsGame leads mate p (Win n) = IsWin leads mate p n
IsGame leads mate p (Loss n) = IsLoss leads mate p n
IsGame leads mate p Draw = IsDraw leads mate p

-- a move leads to a position lost in n, and no move to one lost sooner
pub record HasLoss {P : Type 0} (leads : P → P → Type 0) (labels : P → Value) (p : P) (n : ℕ) : Type 0 where
  pub to : P
  pub move : leads p to
  pub is : labels to ≡ Loss n
  pub least : (q : P) (m : ℕ) → leads p q → labels q ≡ Loss m → n ≤ m

-- each move leads to a won position, one of them to a position won in n, and none to one won later
pub record HasOnlyWins {P : Type 0} (leads : P → P → Type 0) (labels : P → Value) (p : P) (n : ℕ) : Type 0 where
  pub to : P
  pub move : leads p to
  pub is : labels to ≡ Win n
  pub each : (q : P) → leads p q → (m : ℕ) × (labels q ≡ Win m) × (m ≤ n)

-- no move leads to a lost position, and one leads to a drawn position, or there is no move and no mate
pub record HasDraw {P : Type 0} (leads : P → P → Type 0) (mate : P → Type 0) (labels : P → Value) (p : P) : Type 0 where
  pub no_loss : (q : P) (m : ℕ) → leads p q → labels q ≡ Loss m → ⊥
  pub holds : ((q : P) × leads p q × (labels q ≡ Draw)) ⊎ ((mate p → ⊥) × ((q : P) → leads p q → ⊥))

-- v is the value of p, from the labels of the positions after p's moves
abbrev pub GivesValue : {P : Type 0} → (P → P → Type 0) → (P → Type 0) → (P → Value) → P → Value → Type 0
GivesValue leads mate labels p (Win zero) = ⊥
GivesValue leads mate labels p (Win (suc n)) = HasLoss leads labels p n
GivesValue leads mate labels p (Loss zero) = mate p
GivesValue leads mate labels p (Loss (suc n)) = HasOnlyWins leads labels p n
GivesValue leads mate labels p Draw = HasDraw leads mate labels p

-- v is right about every forced mate in fewer than k plies
pub record IsRightBelow {P : Type 0} (leads : P → P → Type 0) (mate : P → Type 0) (k : ℕ) (p : P) (v : Value) : Type 0 where
  pub wins : (m : ℕ) → m < k → Mates leads mate p m → (n : ℕ) × (v ≡ Win n) × (n ≤ m)
  pub loses : (m : ℕ) → m < k → Mated leads mate p m → (n : ℕ) × (v ≡ Loss n) × (n ≤ m)
  pub won : (n : ℕ) → n < k → v ≡ Win n → Mates leads mate p n
  pub lost : (n : ℕ) → n < k → v ≡ Loss n → Mated leads mate p n

-- a legal move leads from p to q
abbrev pub LeadsBy : {P M : Type 0} → (P → M → Type 0) → (P → M → P) → P → P → Type 0
LeadsBy {P} {M} legal after p q = (m : M) × legal p m × (after p m ≡ q)

-- v is the value of p, from the moves that leave the class alone
abbrev pub GivesOutside : {P : Type 0} → (P → P → Type 0) → (P → Bool) → (P → Value) → P → Value → Type 0
GivesOutside leads home labels p v = GivesValue (λ a b. leads a b × (home b ≡ false)) (λ a. ⊥) labels p v
