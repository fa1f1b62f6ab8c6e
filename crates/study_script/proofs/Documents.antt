-- The state after a reply, by the document.
use Rattle.std.proofs.Common.{◌≡◌, ℕ, Result, Ok, Err, refl, sym, ap, subst, ◌∙◌}
use Rattle.std.specs.Prelude.{OnOk}
use Rattle.study_material.specs.declared.class.Class.{Class}
use Rattle.study_prober.specs.Sources.{GivesOf}
use Rattle.study_values.specs.declared.fault.SourceFault.{SourceFault}
use Rattle.study_table.specs.Table.{Table}
use Rattle.study_notation.specs.declared.start.Start.{Start}
use Rattle.study_marks.specs.Study.{plain_study}
use Rattle.study_marks.specs.BenchState.{BenchState, marked_study, IsKeptRight}
use Rattle.study_marks.specs.Edits.{PlainStudy}
use Rattle.study_script.specs.declared.tables.Tables.{Tables}
use Rattle.study_script.specs.declared.document.Document.{Document as HeldDocument}
use Rattle.study_script.specs.declared.document.Document.TheVariants as held
use Rattle.study_command.specs.Documents.{start, study}
use Rattle.study_script.specs.State.{State}
use Rattle.study_script.specs.Replies.{with_study}
use Rattle.study_script.specs.SessionHolds.{document_seen, Holds, tables_honest, tables_held, tables_may_fail, are_paged}

module _ {P A : Type 0} where
  -- the state, if the document is known
  pub holds_of : (honest : P → Table → ℕ → Type 0) (gives : GivesOf P) (b c : HeldDocument A) (t : Tables P A) (s : State) → b ≡ c → Holds honest gives b t s
      → Holds honest gives c t s
  holds_of honest gives b c t s e h = subst (λ (x : HeldDocument A). Holds honest gives x t s) e h

  pub seen_of : (honest : P → Table → ℕ → Type 0) (gives : GivesOf P) (b c : HeldDocument A) (t : Tables P A) (s : State) → b ≡ c → Holds honest gives b t s
      → document_seen c ≡ s.document
  seen_of honest gives b c t s e h = ap document_seen (sym e) ∙ h.document

  -- a start is set
  pub start_held : (honest : P → Table → ℕ → Type 0) (gives : GivesOf P) (b c : HeldDocument A) (t : Tables P A) (s : State) (new : Start)
      → c ≡ held.Start new → Holds honest gives b t s → Holds honest gives c t (record s { document = start new })
  start_held honest gives b c t s new e h = holds_of honest gives (held.Start new) c t (record s { document = start new }) (sym e)
      (record { document = refl; marks = tt; values = h.values; classes = h.classes; paged = h.paged; faults = h.faults })

  -- a study is set without probing a table
  pub study_held : (honest : P → Table → ℕ → Type 0) (gives : GivesOf P) (old k : BenchState) (t : Tables P A) (s : State) (new : PlainStudy)
      → plain_study (marked_study k) ≡ new → IsKeptRight k → Holds honest gives (held.Study old) t s
      → Holds honest gives (held.Study k) t (with_study s new)
  study_held honest gives old k t s new e r h = record {
    document = ap study e;
    marks = r;
    values = h.values;
    classes = h.classes;
    paged = h.paged;
    faults
        = h.faults;
  }

module _ {P A : Type 0} where
  -- a study is made by probing tables
  pub study_made : (honest : P → Table → ℕ → Type 0) (gives : GivesOf P) (b : HeldDocument A) (k : BenchState) (t u : Tables P A) (s : State)
      (new : PlainStudy) → Holds honest gives b t s → plain_study (marked_study k) ≡ new → IsKeptRight k → tables_honest honest u
      → ((c : Class) → tables_held u c ≡ tables_held t c) → are_paged u ≡ are_paged t
      → ((c : Class) (f : SourceFault) → tables_may_fail gives u c f → tables_may_fail gives t c f) → Holds honest gives (held.Study k) u (with_study s new)
  study_made honest gives b k t u s new h e r v same mode fails =
      record {
        document = ap study e;
        marks = r;
        values = v;
        classes = λ c. same c ∙ h.classes c;
        paged = mode
            ∙ h.paged;
        faults = λ c f m. h.faults c f (fails c f m);
      }

  -- the document stays, and tables were probed
  pub document_same : (honest : P → Table → ℕ → Type 0) (gives : GivesOf P) (b : HeldDocument A) (t u : Tables P A) (s : State)
      → Holds honest gives b t s → tables_honest honest u → ((c : Class) → tables_held u c ≡ tables_held t c)
      → are_paged u ≡ are_paged t
      → ((c : Class) (f : SourceFault) → tables_may_fail gives u c f → tables_may_fail gives t c f) → Holds honest gives b u s
  document_same honest gives b t u s h v same mode fails = record {
    document = h.document;
    marks = h.marks;
    values = v;
    classes = λ c. same c ∙ h.classes c;
    paged
        = mode ∙ h.paged;
    faults = λ c f m. h.faults c f (fails c f m);
  }

pub on_ok_known : {E T : Type 0} (r : Result T E) {P : Type 0} → P → OnOk r P
on_ok_known (Ok b) h = h
on_ok_known (Err e) h = tt
