-- The values that an edit probes, and the refusals that come from them.
use Rattle.std.specs.Prelude.{◌≡◌, ℕ, ◌<◌, Bool, true, false, ◌⊎◌, List, [], ◌∷◌, ◌++◌, map, zero, suc, Result, Ok, Err, if◌then◌else◌}
use Rattle.study_board.specs.Position.{Position}
use Rattle.study_moves.specs.Rules.{after}
use Rattle.study_material.specs.declared.class.Class.{Class}
use Rattle.study_material.specs.Class.{IsOf}
use Rattle.study_moves.specs.LegalList.{legal_list}
use Rattle.study_values.specs.Values.{page_number}
use Rattle.study_values.specs.declared.values.ProbeFault.{ProbeFault}
use Rattle.study_values.specs.declared.values.ProbeFault.TheVariants as probe
use Rattle.study_tree.specs.Forest.{Forest, none, more}
use Rattle.study_text.specs.Counts.{next_count}
use Rattle.study_marks.specs.declared.refusal.Refusal.{Refusal}
use Rattle.study_marks.specs.declared.refusal.Refusal.TheVariants.{NoSuchNode, RootNotAllowed, AlreadyFirst, IllegalMove}
use Rattle.study_marks.specs.declared.refusal.Refusal.TheVariants.{AlreadyThere, TooDeep, TreeFull, ShiftBroken, TagText}
use Rattle.study_marks.specs.declared.refusal.Refusal.TheVariants.{OutOfMemory, NoTable, TableRead}
use Rattle.study_marks.specs.Study.{Study}

-- the position, then the positions after its legal moves, in order
abbrev pub asked_at : Position → List Position
asked_at p = p ∷ map (after p) (legal_list p)

module _ {L : Type 0} where
  -- the positions probed for each node, in written order
  abbrev pub asked_below : Position → Forest L → List Position
  asked_below p none = []
  asked_below p (more m l b r) = asked_at (after p m) ++ (asked_below (after p m) b ++ asked_below p r)

  abbrev pub positions_asked : Study L → List Position
  positions_asked s = asked_at s.start.position ++ asked_below s.start.position s.tree.below

-- a table of the position's class is loaded
abbrev pub IsTableHeld : (Class → Bool) → Position → Type 0
IsTableHeld held p = (c : Class) → IsOf c p → held c ≡ true

abbrev pub AreTablesHeld : (Class → Bool) → List Position → Type 0
AreTablesHeld held [] = Unit {0}
AreTablesHeld held (p ∷ ps) = IsTableHeld held p × AreTablesHeld held ps

-- tables of the classes of all these positions are loaded
pub record AllHeld (held : Class → Bool) (asked : List Position) : Type 0 where
  pub each : AreTablesHeld held asked

-- the class of the first position whose table is not loaded
abbrev pub IsFirstMissing : (Class → Bool) → List Position → Class → Type 0
IsFirstMissing held [] c = ⊥
IsFirstMissing held (p ∷ ps) c = (IsOf c p × (held c ≡ false)) ⊎ (IsTableHeld held p × IsFirstMissing held ps c)

-- a fault that is possible instead of a position's value: a device's fault, or damage of the page with its cell
abbrev pub IsFaultAt : Position → ProbeFault → Type 0
IsFaultAt p (probe.NoTable c) = ⊥
IsFaultAt p (probe.TableRead f) = Unit {0}
IsFaultAt p (probe.PageDamaged c n) = IsOf c p × (n ≡ page_number p)

-- the fault of the first position whose value cannot be read; its table, and the tables of all positions before it, are loaded
abbrev pub IsFirstUnread : (Class → Bool) → List Position → ProbeFault → Type 0
IsFirstUnread held [] f = ⊥
IsFirstUnread held (p ∷ ps) f = IsTableHeld held p × (IsFaultAt p f ⊎ IsFirstUnread held ps f)

module _ {A : Type 0} where
  -- the refusals after the plain study's own reasons: for want of memory, or of the first of these values that could not be read
  abbrev pub IsOutside : (Class → Bool) → List Position → Refusal A → Type 0
  IsOutside held asked OutOfMemory = Unit {0}
  IsOutside held asked (NoTable c) = IsFirstMissing held asked c
  IsOutside held asked (TableRead f) = IsFirstUnread held asked f
  IsOutside held asked NoSuchNode = ⊥
  IsOutside held asked RootNotAllowed = ⊥
  IsOutside held asked AlreadyFirst = ⊥
  IsOutside held asked IllegalMove = ⊥
  IsOutside held asked (AlreadyThere k) = ⊥
  IsOutside held asked TooDeep = ⊥
  IsOutside held asked TreeFull = ⊥
  IsOutside held asked (ShiftBroken steps) = ⊥
  IsOutside held asked TagText = ⊥

  -- a value was probed and could not be read
  abbrev pub is_of_tables : Refusal A → Bool
  is_of_tables (NoTable c) = true
  is_of_tables (TableRead f) = true
  is_of_tables NoSuchNode = false
  is_of_tables RootNotAllowed = false
  is_of_tables AlreadyFirst = false
  is_of_tables IllegalMove = false
  is_of_tables (AlreadyThere k) = false
  is_of_tables TooDeep = false
  is_of_tables TreeFull = false
  is_of_tables (ShiftBroken steps) = false
  is_of_tables TagText = false
  is_of_tables OutOfMemory = false

  -- a device or a page failed
  abbrev pub is_of_device : Refusal A → Bool
  is_of_device (TableRead f) = true
  is_of_device (NoTable c) = false
  is_of_device NoSuchNode = false
  is_of_device RootNotAllowed = false
  is_of_device AlreadyFirst = false
  is_of_device IllegalMove = false
  is_of_device (AlreadyThere k) = false
  is_of_device TooDeep = false
  is_of_device TreeFull = false
  is_of_device (ShiftBroken steps) = false
  is_of_device TagText = false
  is_of_device OutOfMemory = false

-- a count, increased k times
abbrev pub counted_up_by : ℕ → ℕ → ℕ
counted_up_by zero n = n
counted_up_by (suc k) n = counted_up_by k (next_count n)

-- values were probed up to one that could not be read, after some that were; or none was probed
abbrev pub HasStopped : Bool → ℕ → ℕ → ℕ → Type 0
HasStopped true n old new = (k : ℕ) × (k < n) × (new ≡ counted_up_by (suc k) old)
HasStopped false n old new = new ≡ old

module _ {T A : Type 0} where
  -- the number of probes: all n; or at least one and at most n if a value could not be read; or none if the edit was refused before
  abbrev pub HasAsked : ℕ → Result T (Refusal A) → ℕ → ℕ → Type 0
  HasAsked n (Ok x) old new = new ≡ counted_up_by n old
  HasAsked n (Err e) old new = HasStopped (is_of_tables e) n old new

  -- the count of failures rises exactly if the refusal is a device's
  abbrev pub failures_after : Result T (Refusal A) → ℕ → ℕ
  failures_after (Ok x) old = old
  failures_after (Err e) old = if is_of_device e then next_count old else old
