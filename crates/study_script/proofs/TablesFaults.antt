-- The fault of the first value that could not be read, for tables of either kind.
use Rattle.std.proofs.Common.{◌≡◌, false, List, [], ◌∷◌, Option, Some, None, is_some, Result, Ok, Err, IfErr, refl, sym, subst, inl, inr}
use Rattle.study_board.specs.Position.{Position}
use Rattle.study_material.specs.declared.class.Class.{Class}
use Rattle.study_values.specs.declared.fault.SourceFault.{SourceFault}
use Rattle.study_values.specs.Values.{ValueSource}
use Rattle.study_prober.specs.Sources.{GivesOf, HonestOf}
use Rattle.study_prober.specs.declared.open_table.OpenTable.{OpenTable}
use Rattle.study_values.specs.declared.values.ProbeFault.{ProbeFault}
use Rattle.study_values.specs.declared.values.ProbeFault.TheVariants as probe
use Rattle.study_prober.specs.WholeTables.{Whole, whole_source}
use Rattle.study_prober.specs.PagedTables.{Paged, MayFail, held_of, paged_source}
use Rattle.study_marks.specs.declared.refusal.Refusal.{Refusal as EditRefusal}
use Rattle.study_marks.specs.declared.refusal.Refusal.TheVariants as edit
use Rattle.study_marks.specs.Answers.{IsFirstFault, TellsFirstFault}
use Rattle.study_script.specs.declared.tables.Tables.{Tables}
use Rattle.study_script.specs.declared.tables.Tables.TheVariants as held
use Rattle.study_script.specs.Replies.{MayFailAmong}
use Rattle.study_script.specs.SessionHolds.{tables_may_fail, tables_source, tables_held, IsFailingTable}

module _ {P : Type 0} (honest : HonestOf P) (gives : GivesOf P) where
  whole_first : (A : Type 0) (old new : Whole) (ps : List Position) (f : ProbeFault)
      → IsFirstFault whole_source old ps f new
      → IsFirstFault (tables_source {A = A} honest gives) (held.Whole old) ps f (held.Whole new)
  whole_first A old new [] f h = absurd h
  whole_first A old new (p ∷ ps) f (inl a) = inl (record {
    valid = a.valid;
    given = a.given;
    asked = a.asked;
    failed_so = a.failed_so;
    fails_as_before = a.fails_as_before;
  })
  whole_first A old new (p ∷ ps) f (inr h) = inr (
    h.0,
    held.Whole h.1,
    record {
      valid = h.2.valid;
      given = h.2.given;
      asked = h.2.asked;
      failed_so = h.2.failed_so;
      fails_as_before = h.2.fails_as_before;
    },
    whole_first A h.1 new ps f h.3,
  )

  whole_tells : {A : Type 0} (old new : Whole) (ps : List Position) (r : EditRefusal A)
      → TellsFirstFault whole_source old ps new r
      → TellsFirstFault (tables_source {A = A} honest gives) (held.Whole old) ps (held.Whole new) r
  whole_tells {A = A} old new ps (edit.NoTable c) h = whole_first A old new ps (probe.NoTable c) h
  whole_tells {A = A} old new ps (edit.TableRead f) h = whole_first A old new ps f h
  whole_tells old new ps edit.NoSuchNode h = tt
  whole_tells old new ps edit.RootNotAllowed h = tt
  whole_tells old new ps edit.AlreadyFirst h = tt
  whole_tells old new ps edit.IllegalMove h = tt
  whole_tells old new ps (edit.AlreadyThere k) h = tt
  whole_tells old new ps edit.TooDeep h = tt
  whole_tells old new ps edit.TreeFull h = tt
  whole_tells old new ps (edit.ShiftBroken steps) h = tt
  whole_tells old new ps edit.TagText h = tt
  whole_tells old new ps edit.OutOfMemory h = tt

  pub whole_reported : {A T : Type 0} (t : Tables P A) (old new : Whole) (ps : List Position) (r : Result T (EditRefusal A)) → t ≡ held.Whole old
      → IfErr r (TellsFirstFault whole_source old ps new)
      → IfErr r (TellsFirstFault (tables_source honest gives) t ps (held.Whole new))
  whole_reported t old new ps (Ok x) is h = tt
  whole_reported {A = A} t old new ps (Err x) is h =
      subst (λ (u : Tables P A). TellsFirstFault (tables_source honest gives) u ps (held.Whole new) x) (sym is)
      (whole_tells old new ps x h)

  paged_first : (A : Type 0) (old new : Paged P) (ps : List Position) (f : ProbeFault)
      → IsFirstFault (paged_source honest gives) old ps f new
      → IsFirstFault (tables_source {A = A} honest gives) (held.Paged old) ps f (held.Paged new)
  paged_first A old new [] f h = absurd h
  paged_first A old new (p ∷ ps) f (inl a) = inl (record {
    valid = a.valid;
    given = a.given;
    asked = a.asked;
    failed_so = a.failed_so;
    fails_as_before = a.fails_as_before;
  })
  paged_first A old new (p ∷ ps) f (inr h) = inr (
    h.0,
    held.Paged h.1,
    record {
      valid = h.2.valid;
      given = h.2.given;
      asked = h.2.asked;
      failed_so = h.2.failed_so;
      fails_as_before = h.2.fails_as_before;
    },
    paged_first A h.1 new ps f h.3,
  )

  paged_tells : {A : Type 0} (old new : Paged P) (ps : List Position) (r : EditRefusal A)
      → TellsFirstFault (paged_source honest gives) old ps new r
      → TellsFirstFault (tables_source {A = A} honest gives) (held.Paged old) ps (held.Paged new) r
  paged_tells {A = A} old new ps (edit.NoTable c) h = paged_first A old new ps (probe.NoTable c) h
  paged_tells {A = A} old new ps (edit.TableRead f) h = paged_first A old new ps f h
  paged_tells old new ps edit.NoSuchNode h = tt
  paged_tells old new ps edit.RootNotAllowed h = tt
  paged_tells old new ps edit.AlreadyFirst h = tt
  paged_tells old new ps edit.IllegalMove h = tt
  paged_tells old new ps (edit.AlreadyThere k) h = tt
  paged_tells old new ps edit.TooDeep h = tt
  paged_tells old new ps edit.TreeFull h = tt
  paged_tells old new ps (edit.ShiftBroken steps) h = tt
  paged_tells old new ps edit.TagText h = tt
  paged_tells old new ps edit.OutOfMemory h = tt

  pub paged_reported : {A T : Type 0} (t : Tables P A) (old new : Paged P) (ps : List Position) (r : Result T (EditRefusal A)) → t ≡ held.Paged old
      → IfErr r (TellsFirstFault (paged_source honest gives) old ps new)
      → IfErr r (TellsFirstFault (tables_source honest gives) t ps (held.Paged new))
  paged_reported t old new ps (Ok x) is h = tt
  paged_reported {A = A} t old new ps (Err x) is h =
      subst (λ (u : Tables P A). TellsFirstFault (tables_source honest gives) u ps (held.Paged new) x) (sym is)
      (paged_tells old new ps x h)

-- without a table nothing may fail
module _ {P : Type 0} (gives : GivesOf P) where
  pub none_fails : {A : Type 0} (t : Tables P A) (c : Class) (f : SourceFault) → tables_held t c ≡ false → tables_may_fail gives t c f → ⊥
  none_fails (held.Whole w) c f none m = m
  none_fails (held.Paged w) c f none m = go (held_of w.sources c) none m
    where
      go : (o : Option (OpenTable P)) → is_some o ≡ false → MayFail gives o c f → ⊥
      go None e k = k
      go (Some h) e k = let contrary : ⊥ = cc in contrary

-- the first value that could not be read is of a class whose table may fail so
module _ {V : Type 0} (source : ValueSource V)
    (known : Class → SourceFault → Type 0) where
  failing-among : (old new : V) (ps : List Position) (f : SourceFault) → ((c : Class) (g : SourceFault) → source.may_fail old c g → known c g)
      → IsFirstFault source old ps (probe.TableRead f) new → MayFailAmong known ps f
  failing-among old new [] f knows h = absurd h
  failing-among old new (p ∷ ps) f knows (inl a) = inl (λ c of. knows c f (a.failed_so c f of refl))
  failing-among old new (p ∷ ps) f knows (inr h) = inr (failing-among h.1 new ps f (λ c g m. knows c g (h.2.fails_as_before c g m)) h.3)

  pub failing_known : {A : Type 0} (old new : V) (asked : List Position) (r : EditRefusal A)
      → ((c : Class) (g : SourceFault) → source.may_fail old c g → known c g)
      → TellsFirstFault source old asked new r → IsFailingTable known asked r
  failing_known old new asked (edit.TableRead (probe.TableRead f)) knows h = failing-among old new asked f knows h
  failing_known old new asked (edit.TableRead (probe.NoTable c)) knows h = tt
  failing_known old new asked (edit.TableRead (probe.PageDamaged c n)) knows h = tt
  failing_known old new asked (edit.NoTable c) knows h = tt
  failing_known old new asked edit.NoSuchNode knows h = tt
  failing_known old new asked edit.RootNotAllowed knows h = tt
  failing_known old new asked edit.AlreadyFirst knows h = tt
  failing_known old new asked edit.IllegalMove knows h = tt
  failing_known old new asked (edit.AlreadyThere k) knows h = tt
  failing_known old new asked edit.TooDeep knows h = tt
  failing_known old new asked edit.TreeFull knows h = tt
  failing_known old new asked (edit.ShiftBroken steps) knows h = tt
  failing_known old new asked edit.TagText knows h = tt
  failing_known old new asked edit.OutOfMemory knows h = tt
