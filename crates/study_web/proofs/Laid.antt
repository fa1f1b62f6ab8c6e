-- A finished file among other bytes.
use Rattle.std.proofs.Common.{◌≡◌, ◌≢◌, ◌⊎◌, ◌==◌, ℕ, ◌+◌, ◌≤◌, Bool, true, false, List, [], ◌∷◌, ◌++◌, length, take, drop}
use Rattle.std.proofs.Common.{Option, Some, None, Ok, inl, inr, arith, refl, sym, ap, subst, ◌∙◌}
use Rattle.std.proofs.lemmas.Bool.{cases_Bool, eq-eqb, ne_eqb, le-leb}
use Rattle.std.proofs.lemmas.List.{append-nil, length-append, length-drop, take-append-le, drop-append-le}
use Rattle.std.proofs.Math.Seq.{take-append_seam, drop-append_seam}
use Rattle.study_material.specs.declared.class.Class.{Class}
use Rattle.study_material.specs.Class.{class_number}
use Rattle.study_table.specs.Table.{Table, IsComplete}
use Rattle.study_table.specs.Sound.{IsRight}
use Rattle.study_tablefile.specs.Format.{IsVersionOf, table_text, written_version}
use Rattle.study_tablefile.specs.Reading.{table_read}
use Rattle.study_prober.proofs.HeldSources.{same_class}
use Rattle.study_web.specs.declared.file_spans.FileSpan.{FileSpan}
use Rattle.study_web.specs.Laid.{span_after, HasNoneOf, AreWithin, OpensAsTable, MadeFilesOpen, MadeFilesJoinOthers}
use Rattle.study_web.specs.Making.{IsRightFileOf}
use Rattle.study_web.specs.Spans.{file_in, IsHonestIn}

-- ---- spans

passed-over : (c : Class) (ahead more : List FileSpan) (bytes : List ℕ) → HasNoneOf c ahead → file_in (ahead ++ more) bytes c ≡ file_in more bytes c
passed-over c [] more bytes h = refl
passed-over c (s ∷ ahead) more bytes h = rw (ne_eqb s.class (class_number c) h.0) (passed-over c ahead more bytes h.1)

laid-first : (c : Class) (file before after : List ℕ) (behind : List FileSpan)
    → file_in (span_after before c file ∷ behind) (before ++ (file ++ after)) c ≡ Some file
laid-first c file before after behind =
    let enough : length before + length file ≤ length (before ++ (file ++ after)) =
    omega (arith, length-append before (file ++ after), length-append file after) in
    rw (
      eq-eqb (class_number c) (class_number c) refl,
      le-leb (length before + length file) (length (before ++ (file ++ after))) enough,
      drop-append_seam before (file ++ after),
      take-append_seam file after,
    ) refl

-- a span within some bytes has the same content if more bytes follow
same-bytes : (start n : ℕ) (bytes more : List ℕ) → start + n ≤ length bytes → take n (drop start (bytes ++ more)) ≡ take n (drop start bytes)
same-bytes start n bytes more le =
    ap (take n) (drop-append-le start bytes more (omega arith)) ∙ take-append-le n (drop start bytes) more (omega (arith, length-drop start bytes))

module _ (P : Option (List ℕ) → Type 0) (d : Class) (bytes more : List ℕ) (last : List FileSpan) where
  beside : (spans : List FileSpan) → AreWithin spans bytes → P (file_in spans bytes d) → P (file_in last (bytes ++ more) d)
      → P (file_in (spans ++ last) (bytes ++ more) d)
  beside [] w h k = k
  beside (s ∷ spans) w h k =
      let le = w.0 in
      let short = le-leb (s.start + s.length) (length bytes) le in
      let long = le-leb (s.start + s.length) (length (bytes ++ more)) (omega (arith, length-append bytes more)) in
      elim (cases_Bool (s.class == class_number d)) [
        | inl t ↦ rw (t, long, same-bytes s.start s.length bytes more le) (rw (t, short) at h)
        | inr f ↦ rw f (beside spans w.1 (rw f at h) k)
      ]

-- ---- files

abbrev ReadAgain : Type 0
ReadAgain = (t : Table) (v : ℕ) → IsComplete t → IsVersionOf t.class v → table_read (table_text t v) ≡ Ok t

version-known : (c : Class) → IsVersionOf c written_version
version-known c = (refl, refl)

made-reads : ReadAgain → (c : Class) (file : List ℕ) (made : IsRightFileOf c file) → table_read file ≡ Ok made.table
made-reads again c file made = rw made.written (again made.table written_version made.complete (version-known made.table.class))

right-read : (t u : Table) → table_read (table_text t written_version) ≡ Ok t → table_read (table_text t written_version) ≡ Ok u → IsRight t → IsRight u
right-read t u e f right = let same : Ok t ≡ Ok u = sym e ∙ f in let one : t ≡ u = cc in subst IsRight one right

pub honest-made : ReadAgain → (by_pages : Bool) (c : Class) (file : List ℕ) → IsRightFileOf c file → IsHonestIn by_pages (Some file)
honest-made again true c file made = record {
  table = made.table;
  version = written_version;
  known = version-known made.table.class;
  complete = made.complete;
  right = made.right;
  text = made.written;
}
honest-made again false c file made = λ u e.
    let first = again made.table written_version made.complete (version-known made.table.class) in
    right-read made.table u first (rw made.written at e) made.right

honest-none : (by_pages : Bool) → IsHonestIn by_pages None
honest-none true = tt
honest-none false = tt

pub made-open : ReadAgain → MadeFilesOpen
made-open again c file made ahead behind before after none =
    subst (OpensAsTable c made.table) (sym (passed-over c ahead (span_after before c file ∷ behind) (before ++ (file ++ after)) none
    ∙ laid-first c file before after behind))
    (made.of_class, made.right, made-reads again c file made, λ by_pages. honest-made again by_pages c file made)

pub made-join : ReadAgain → MadeFilesJoinOthers
made-join again by_pages c file spans bytes made within right d =
    beside (IsHonestIn by_pages) d bytes file (span_after bytes c file ∷ []) spans within (right d) (last (same_class c d))
  where
    own : IsHonestIn by_pages (file_in (span_after bytes c file ∷ []) (bytes ++ file) c)
    own = subst (IsHonestIn by_pages)
        (sym (subst (λ (f : List ℕ). file_in (span_after bytes c file ∷ []) (bytes ++ f) c ≡ Some file) (append-nil file)
        (laid-first c file bytes [] []))) (honest-made again by_pages c file made)

    last : (c ≡ d) ⊎ (class_number c ≢ class_number d) → IsHonestIn by_pages (file_in (span_after bytes c file ∷ []) (bytes ++ file) d)
    last (inl e) = subst (λ (k : Class). IsHonestIn by_pages (file_in (span_after bytes c file ∷ []) (bytes ++ file) k)) e own
    last (inr far) = rw (ne_eqb (class_number c) (class_number d) far) (honest-none by_pages)
