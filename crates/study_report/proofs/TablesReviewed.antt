-- The tables of a script, after a review with them.
use Rattle.std.proofs.Common.{◌≡◌, true, false, Result, Err, refl, sym, subst, arith}
use Rattle.study_board.specs.Position.{Position, IsValid}
use Rattle.study_material.specs.declared.class.Class.{Class}
use Rattle.study_values.specs.declared.fault.SourceFault.{SourceFault}
use Rattle.study_prober.specs.Sources.{GivesOf, HonestOf}
use Rattle.study_values.specs.declared.values.ProbeFault.{ProbeFault}
use Rattle.study_prober.specs.WholeTables.{Whole, whole_source}
use Rattle.study_prober.specs.PagedTables.{Paged, paged_source}
use Rattle.study_facts.specs.declared.fault.ReviewFault.{ReviewFault}
use Rattle.study_facts.specs.declared.fault.ReviewFault.TheVariants.{Values}
use Rattle.study_facts.specs.Asked.{within}
use Rattle.study_facts.specs.Order.{HasReviewed}
use Rattle.study_script.specs.declared.tables.Tables.{Tables}
use Rattle.study_script.specs.declared.tables.Tables.TheVariants as held
use Rattle.study_script.specs.SessionHolds.{tables_honest, tables_held, tables_may_fail, are_paged}
use Rattle.study_report.specs.Reported.{IsValueFaultBy}
use Rattle.study_report.proofs.Reviewed.{reviewed-fails, reviewed-honest, reviewed-tables, reviewed-why}

module _ {P : Type 0} (honest_of : HonestOf P) (gives : GivesOf P) (p : Position) (valid : IsValid p) where
  -- why a value could not be read, and what is unchanged
  pub record TablesReviewed {T A : Type 0} (old : Tables P A) (r : Result T ReviewFault) (new : Tables P A) : Type 0 where
    pub why : (fault : ProbeFault) → tables_honest honest_of old → r ≡ Err (Values fault)
        → IsValueFaultBy (tables_held old) (are_paged old) (tables_may_fail gives old) p fault
    pub honest : tables_honest honest_of old → tables_honest honest_of new
    pub tables : (c : Class) → tables_held new c ≡ tables_held old c
    pub fails : (c : Class) (f : SourceFault) → tables_may_fail gives new c f → tables_may_fail gives old c f
    pub mode : are_paged new ≡ are_paged old

  abbrev pub WholeReviewed : {T : Type 0} → Whole → Result T ReviewFault → Whole → Type 0
  WholeReviewed {T = T} old r new = HasReviewed (within p whole_source) {T = T} old r new

  abbrev pub PagedReviewed : {T : Type 0} → Paged P → Result T ReviewFault → Paged P → Type 0
  PagedReviewed {T = T} old r new = HasReviewed (within p (paged_source honest_of gives)) {T = T} old r new

  pub whole-reviewed : {T A : Type 0} (t : Tables P A) (old new : Whole) (r : Result T ReviewFault) → t ≡ held.Whole old
      → WholeReviewed {T = T} old r new → TablesReviewed {T = T} {A = A} t r (held.Whole new)
  whole-reviewed {T = T} {A = A} t old new r e h = subst (λ (x : Tables P A). TablesReviewed {T = T} {A = A} x r (held.Whole new)) (sym e) (record {
    why = λ fault right is. reviewed-why whole_source p valid false old new r fault right (λ f n. absurd (omega (arith, n))) h is;
    honest = reviewed-honest (within p whole_source) old new r h;
    tables = reviewed-tables (within p whole_source) old new r h;
    fails = reviewed-fails (within p whole_source) old new r h;
    mode = refl;
  })

  pub paged-reviewed : {T A : Type 0} (t : Tables P A) (old new : Paged P) (r : Result T ReviewFault) → t ≡ held.Paged old
      → PagedReviewed {T = T} old r new → TablesReviewed {T = T} {A = A} t r (held.Paged new)
  paged-reviewed {T = T} {A = A} t old new r e h = subst (λ (x : Tables P A). TablesReviewed {T = T} {A = A} x r (held.Paged new)) (sym e) (record {
    why = λ fault right is. reviewed-why (paged_source honest_of gives) p valid true old new r fault right (λ f n. refl) h is;
    honest = reviewed-honest (within p (paged_source honest_of gives)) old new r h;
    tables = reviewed-tables (within p (paged_source honest_of gives)) old new r h;
    fails = reviewed-fails (within p (paged_source honest_of gives)) old new r h;
    mode = refl;
  })
