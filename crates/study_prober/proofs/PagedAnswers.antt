-- The answers of paged tables are possible answers of the source of the position's class.
use Rattle.std.proofs.Common.{◌≡◌, ℕ, ◌/◌, ◌<◌, List, refl, sym, ap}
use Rattle.std.specs.Prelude.{Option, Some, None, Result, Ok, Err, IfOk, IfErr, IsErrOf}
use Rattle.study_board.specs.Position.{Position}
use Rattle.study_material.specs.Class.{IsOf}
use Rattle.study_values.specs.Index.{index_of}
use Rattle.study_table.specs.Table.{Table, IsComplete}
use Rattle.study_material.specs.declared.class.Class.{Class}
use Rattle.study_values.specs.declared.fault.SourceFault.{SourceFault}
use Rattle.study_tablefile.specs.PageSource.{Question, of_page}
use Rattle.study_prober.specs.declared.open_table.OpenTable.{OpenTable}
use Rattle.study_values.specs.declared.values.ProbeFault.TheVariants.{NoTable, TableRead, PageDamaged}
use Rattle.study_values.specs.Values.{ProbeAnswer, IsNotDamage}
use Rattle.study_values.specs.Size.{pages_of}
use Rattle.study_prober.specs.Sources.{GivesOf, GiveAlike, HonestOf, HasBadPage, IsReadFrom}
use Rattle.study_prober.specs.PagedTables.{IsHeldAnswer, IsSameSource, MayFail, SourcesAreRight, held_of}
use Rattle.study_prober.proofs.HeldSources.{some_none}

pub answered : {S : Type 0} (gives : S → Question → Result (List ℕ) SourceFault → Type 0) (c : Class) (n : ℕ) (o : Option (OpenTable S)) (r : ProbeAnswer)
    → ((d : Class) → IsErrOf r (NoTable d) → o ≡ None)
    → (o ≡ None → r ≡ Err (NoTable c))
    → ((h : OpenTable S) → o ≡ Some h → IfOk r (IsReadFrom gives h n))
    → ((h : OpenTable S) (f : SourceFault) → o ≡ Some h → IsErrOf r (TableRead f) → gives h.source (of_page (n / 4096)) (Err f))
    → ((d : Class) (page : ℕ) → IsErrOf r (PageDamaged d page) → (d ≡ c) × (page ≡ n / 4096))
    → ((h : OpenTable S) (page : ℕ) → o ≡ Some h → IsErrOf r (PageDamaged c page) → HasBadPage gives h page)
    → IsHeldAnswer gives o c n r
answered gives c n None r no_table none read unread damaged bad = none refl
answered gives c n (Some h) (Ok v) no_table none read unread damaged bad = read h refl
answered gives c n (Some h) (Err (NoTable d)) no_table none read unread damaged bad =
    absurd (let contrary : ⊥ = some_none h (sym (no_table d refl)) in contrary)
answered gives c n (Some h) (Err (TableRead f)) no_table none read unread damaged bad = unread h f refl refl
answered gives c n (Some h) (Err (PageDamaged d page)) no_table none read unread damaged bad =
    let at = damaged d page refl in (at.0, at.1, bad h page refl (ap (λ (x : Class). Err (PageDamaged x page)) at.0))

-- sources that return right tables report no damage
pub undamaged : {S : Type 0} (honest : HonestOf S) (sources : List (Option (OpenTable S))) (p : Position) (r : ProbeAnswer)
    → SourcesAreRight honest sources
    → ((c : Class) → (IsOf c p × (held_of sources c ≡ None)) → IsErrOf r (NoTable c))
    → ((c : Class) (h : OpenTable S) (t : Table) (n : ℕ) → IsOf c p → held_of sources c ≡ Some h → honest h.source t h.header.version
    → t.class ≡ c → IsComplete t → IsErrOf r (PageDamaged c n) → ⊥)
    → ((c : Class) (n : ℕ) → IsErrOf r (PageDamaged c n) → IsOf c p × (n ≡ index_of p / 4096)) → IfErr r IsNotDamage
undamaged honest sources p (Ok v) all none whole damaged = tt
undamaged honest sources p (Err (NoTable c)) all none whole damaged = tt
undamaged honest sources p (Err (TableRead f)) all none whole damaged = tt
undamaged {S = S} honest sources p (Err (PageDamaged c n)) all none whole damaged = go (held_of sources c) refl (damaged c n refl).0
  where
    go : (o : Option (OpenTable S)) → held_of sources c ≡ o → IsOf c p → ⊥
    go None e of = let contrary : ◌≡◌ {A = ProbeAnswer} (Err (PageDamaged c n)) (Err (NoTable c)) = none c (of, e) in cc
    go (Some h) e of = let right = all.right c h e in whole c h right.table n of e right.is_honest right.of_class right.complete refl

-- ---- faults of a device

-- a reported fault is one of the source of the class
pub failed_so : {S : Type 0} (gives : GivesOf S) (c : Class) (n : ℕ) (f : SourceFault) (o : Option (OpenTable S)) (r : ProbeAnswer)
    → (o ≡ None → r ≡ Err (NoTable c))
    → ((h : OpenTable S) → o ≡ Some h → gives h.source (of_page n) (Err f)) → n < pages_of c → IsErrOf r (TableRead f) → MayFail gives o c f
failed_so gives c n f None r none unread inside reported = absurd (let e = none refl in let contrary : ⊥ = cc in contrary)
failed_so gives c n f (Some h) r none unread inside reported = (n, inside, unread h refl)

-- the same source fails as before
pub fails_as_before : {S : Type 0} (gives : GivesOf S) (honest : HonestOf S) (c : Class) (f : SourceFault) (old new : Option (OpenTable S))
    → IsSameSource honest old new
    → ((h k : OpenTable S) → old ≡ Some h → new ≡ Some k → GiveAlike gives h.source k.source) → MayFail gives new c f → MayFail gives old c f
fails_as_before gives honest c f None None same alike may = may
fails_as_before gives honest c f None (Some k) same alike may = absurd same
fails_as_before gives honest c f (Some h) None same alike may = absurd same
fails_as_before gives honest c f (Some h) (Some k) same alike may = (may.0, may.1, (alike h k refl refl).back (of_page may.0) (Err f) may.2)
