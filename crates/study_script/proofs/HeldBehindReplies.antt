-- The state after a reply.
use Rattle.std.proofs.Common.{◌≡◌, ℕ, ◌+◌, ◌*◌, ◌<◌, ◌≤◌, List, Option, Some, None, refl, sym, ap, subst, ◌∙◌}
use Rattle.std.specs.Prelude.{IfSome, IfNone}
use Rattle.study_board.specs.Position.{Position}
use Rattle.study_moves.specs.Game.{MatesWithin}
use Rattle.study_marks.specs.Study.{plain_study}
use Rattle.study_marks.specs.BenchState.{BenchState, marked_study, IsKeptRight}
use Rattle.study_notation.specs.declared.start.Start.{Start}
use Rattle.study_marks.specs.Edits.{PlainStudy}
use Rattle.std.specs.Option.{option_map}
use Rattle.study_material.specs.declared.class.Class.{Class}
use Rattle.study_prober.specs.Sources.{GivesOf}
use Rattle.study_values.specs.declared.fault.SourceFault.{SourceFault}
use Rattle.study_table.specs.Table.{Table}
use Rattle.study_tree.specs.Tree.{Spot}
use Rattle.study_marks.specs.declared.mark.Mark.{Mark}
use Rattle.study_reply.specs.declared.refusal.Refusal.TheVariants.{NoSuchNode}
use Rattle.study_script.specs.declared.tables.Tables.{Tables}
use Rattle.study_reply.specs.Words.{mark_text}
use Rattle.study_script.specs.declared.document.Document.{Document as HeldDocument}
use Rattle.study_script.specs.declared.document.Document.TheVariants as held
use Rattle.study_command.specs.Documents.{empty, start, study}
use Rattle.study_script.specs.State.{State}
use Rattle.study_script.specs.Replies.{accepted_reply, refused_reply, with_study, marked_reply, IsSolution}
use Rattle.study_script.specs.SessionHolds.{document_seen, Holds, tables_honest, tables_held, tables_may_fail, are_paged, HoldsDocument}
use Rattle.study_script.specs.SessionHolds.{HoldsFrom, HoldsBench, HoldsBenchFrom}

module _ {A : Type 0} where
  pub document_kept : (b : HeldDocument A) (s : State) → HoldsDocument b s → HoldsFrom s b s
  document_kept b s h = record { holds = h; classes = refl; paged = refl; shelf = refl }

  -- the document determines the state of the code
  pub empty_seen : (b : HeldDocument A) (s : State) → b ≡ held.Empty → HoldsDocument b s → empty ≡ s.document
  empty_seen b s e h = ap document_seen (sym e) ∙ h.document

  pub start_seen : (b : HeldDocument A) (from : Start) (s : State) → b ≡ held.Start from → HoldsDocument b s → start from ≡ s.document
  start_seen b from s e h = ap document_seen (sym e) ∙ h.document

  pub study_seen : (b : HeldDocument A) (k : BenchState) (s : State) → b ≡ held.Study k → HoldsDocument b s → study (plain_study (marked_study k)) ≡ s.document
  study_seen b k s e h = ap document_seen (sym e) ∙ h.document

  -- a document that is a study is kept as a study
  pub bench_of : (b : HeldDocument A) (k : BenchState) (s : State) → b ≡ held.Study k → HoldsDocument b s → HoldsBench k s
  bench_of b k s e h = let t = subst (λ (x : HeldDocument A). HoldsDocument x s) e h in record { document = t.document; marks = t.marks }

  pub document_of : (b : HeldDocument A) (k : BenchState) (old s : State) → b ≡ held.Study k → HoldsBenchFrom old k s → HoldsFrom old b s
  document_of b k old s e h =
      record {
        holds = subst (λ (x : HeldDocument A). HoldsDocument x s) (sym e)
            (record { document = h.holds.document; marks = h.holds.marks });
        classes = h.classes;
        paged = h.paged;
        shelf = h.shelf;
      }

pub bench_kept : (k : BenchState) (s : State) → HoldsBench k s → HoldsBenchFrom s k s
bench_kept k s h = record { holds = h; classes = refl; paged = refl; shelf = refl }

-- an edited study is kept after an accepted edit
pub bench_edited : (k : BenchState) (s : State) (new : PlainStudy) → plain_study (marked_study k) ≡ new → IsKeptRight k → HoldsBenchFrom s k (with_study s new)
bench_edited k s new e r = record { holds = record { document = ap study e; marks = r }; classes = refl; paged = refl; shelf = refl }

-- an unchanged study is kept after a refused edit
pub bench_same : (k old : BenchState) (s : State) → k ≡ old → HoldsBench old s → HoldsBenchFrom s k s
bench_same k old s e h = record { holds = subst (λ (x : BenchState). HoldsBench x s) (sym e) h; classes = refl; paged = refl; shelf = refl }

-- the clauses of `solve`
pub solution_of : (p : Position) (count : ℕ) (plies : Option ℕ) → IfSome plies (λ n. MatesWithin n p)
    → IfSome plies (λ n. (k : ℕ) → k < n → ¬ (MatesWithin k p)) → IfSome plies (λ n. n + 1 ≤ 2 * count)
    → IfNone plies ((n : ℕ) → n + 1 ≤ 2 * count → ¬ (MatesWithin n p)) → IsSolution p count plies
solution_of p count None forced least within none = none
solution_of p count (Some n) forced least within none = ((forced, least), within)

-- `mark` reports the mark of the node
pub mark_reported : (s : State) (steps : List ℕ) (spot : Option (Spot Mark)) (m : Mark)
    → Some m ≡ option_map (λ (x : Spot Mark). x.label) spot
    → accepted_reply s (mark_text steps m) ≡ marked_reply s steps spot
mark_reported s steps None m e = absurd cc
mark_reported s steps (Some x) m e = let same : m ≡ x.label = cc in ap (λ (l : Mark). accepted_reply s (mark_text steps l)) same

pub mark_missing : (s : State) (steps : List ℕ) (spot : Option (Spot Mark))
    → ◌≡◌ {A = Option Mark} None (option_map (λ (x : Spot Mark). x.label) spot)
    → refused_reply s NoSuchNode ≡ marked_reply s steps spot
mark_missing s steps None e = refl
mark_missing s steps (Some x) e = absurd cc

module _ {P A : Type 0} where
  -- a study that was edited, and tables that were probed
  pub study_edited : (honest : P → Table → ℕ → Type 0) (gives : GivesOf P) (old k : BenchState) (t u : Tables P A) (s : State) (new : PlainStudy)
      → Holds honest gives (held.Study old) t s → plain_study (marked_study k) ≡ new → IsKeptRight k → tables_honest honest u
      → ((c : Class) → tables_held u c ≡ tables_held t c) → are_paged u ≡ are_paged t
      → ((c : Class) (f : SourceFault) → tables_may_fail gives u c f → tables_may_fail gives t c f) → Holds honest gives (held.Study k) u (with_study s new)
  study_edited honest gives old k t u s new h e r v same mode fails =
      record {
        document = ap study e;
        marks = r;
        values = v;
        classes = λ c. same c ∙ h.classes c;
        paged = mode
            ∙ h.paged;
        faults = λ c f m. h.faults c f (fails c f m);
      }

  -- a study that stays, and tables that were probed
  pub study_same : (honest : P → Table → ℕ → Type 0) (gives : GivesOf P) (old k : BenchState) (t u : Tables P A) (s : State)
      → Holds honest gives (held.Study old) t s → k ≡ old → tables_honest honest u
      → ((c : Class) → tables_held u c ≡ tables_held t c) → are_paged u ≡ are_paged t
      → ((c : Class) (f : SourceFault) → tables_may_fail gives u c f → tables_may_fail gives t c f) → Holds honest gives (held.Study k) u s
  study_same honest gives old k t u s h e v same mode fails =
      record {
        document = subst (λ (x : BenchState). study (plain_study (marked_study x)) ≡ s.document) (sym e) h.document;
        marks = subst IsKeptRight (sym e) h.marks;
        values = v;
        classes = λ c. same c ∙ h.classes c;
        paged = mode
            ∙ h.paged;
        faults = λ c f m. h.faults c f (fails c f m);
      }
