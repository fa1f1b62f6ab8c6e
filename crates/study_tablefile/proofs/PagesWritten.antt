-- The pages of a table, written one by one.
use Rattle.std.proofs.Common.{◌≡◌, ℕ, zero, suc, ◌+◌, ◌*◌, ◌<◌, ◌≤◌, min, List, length, length-drop, take, drop, Option, refl, ap, ◌∙◌, arith}
use Rattle.std.specs.Io.KnownBytes.{Appends}
use Rattle.study_material.specs.declared.class.Class.{Class}
use Rattle.study_table.specs.Table.{Table}
use Rattle.study_values.specs.Number.{cells_of}
use Rattle.study_text.specs.Taken.{TakesPrefix}
use Rattle.study_tablefile.specs.Format.{written_version, fields_text, header_text, page_cells_of, page_text, pages_text, table_text}
use Rattle.study_values.specs.Size.{pages_of}
use Rattle.study_text.proofs.TextTaken.{Wrote, Wrote-first, Wrote-cut, Wrote-all, Wrote-stops_at, stops_first}
use Rattle.study_values.proofs.ClassBounds.{pages_hold, pages_full, few_pages}
use Rattle.study_tablefile.proofs.Lists.{next_page, next_rest}

pub header_stops : (old new : Option (List ℕ)) (t : Table) (c : Class) → c ≡ t.class
    → TakesPrefix old new (header_text c written_version) → TakesPrefix old new (table_text t written_version)
unfolding table_text
header_stops old new t c e h = stops_first old new (table_text t written_version) (header_text c written_version)
    (header_text t.class written_version) (pages_text (fields_text t.class written_version) 0 (pages_of t.class)
    t.cells) refl (ap (λ d. header_text d written_version) e) h

-- so many pages are left
pub record Left (old new : Option (List ℕ)) (t : Table) (n : ℕ) (rest : List ℕ) (k : ℕ) : Type 0 where
  pub wrote : Wrote old new (table_text t written_version) (pages_text (fields_text t.class written_version) n k rest)
  pub counted : n + k ≡ pages_of t.class
  pub hold : length rest ≤ 4096 * k
  pub full : 4096 * k < length rest + 4096

pub header_wrote : (old new : Option (List ℕ)) (t : Table) (c : Class) (cells : List ℕ) → c ≡ t.class
    → cells ≡ t.cells → length cells ≡ cells_of t.class → Appends old new (header_text c written_version)
    → (k : ℕ) × Left old new t 0 cells k
unfolding table_text
header_wrote old new t c cells e f size h =
    let hold = pages_hold t.class in
    let full = pages_full t.class in (
      pages_of t.class,
      record {
        wrote =
            rw f (Wrote-first old new (table_text t written_version) (header_text c written_version)
            (header_text t.class written_version)
            (pages_text (fields_text t.class written_version) 0 (pages_of t.class) t.cells) refl
            (ap (λ d. header_text d written_version) e) h);
        counted = omega arith;
        hold = omega arith;
        full = omega arith;
      },
    )

pub page_wrote : (old mid new : Option (List ℕ)) (t : Table) (n k m : ℕ) (fields rest front back : List ℕ) → Left old mid t n rest k → 0 < length rest
    → fields ≡ fields_text t.class written_version → m ≡ min (length rest) 4096 → front ≡ take m rest → back ≡ drop m rest
    → Appends mid new (page_text fields n (page_cells_of front)) → (j : ℕ) × Left old new t (n + 1) back j
page_wrote old mid new t n zero m fields rest front back l some f me fe be h = let hold = l.hold in absurd (omega arith)
page_wrote old mid new t n (suc j) m fields rest front back l some f me fe be h =
    let cells : page_cells_of front ≡ page_cells_of rest = ap page_cells_of fe ∙ next_page rest m me in
    let after : back ≡ drop 4096 rest = be ∙ next_rest rest m me in
    let text : page_text fields n (page_cells_of front) ≡ page_text (fields_text t.class written_version) n (page_cells_of rest) = rw f (rw cells refl) in
    let size = length-drop 4096 rest in
    let counted = l.counted in
    let hold = l.hold in
    let full = l.full in
    rw after (
      j,
      record {
        wrote =
            Wrote-cut old mid new (table_text t written_version)
            (pages_text (fields_text t.class written_version) n (suc j) rest)
            (page_text (fields_text t.class written_version) n (page_cells_of rest))
            (pages_text (fields_text t.class written_version) (n + 1) j (drop 4096 rest)) l.wrote refl
            (rw text at h);
        counted = omega arith;
        hold = omega arith;
        full = omega arith;
      },
    )

pub page_stops : (old mid new : Option (List ℕ)) (t : Table) (n k m : ℕ) (fields rest front : List ℕ) → Left old mid t n rest k → 0 < length rest
    → fields ≡ fields_text t.class written_version → m ≡ min (length rest) 4096 → front ≡ take m rest
    → TakesPrefix mid new (page_text fields n (page_cells_of front)) → TakesPrefix old new (table_text t written_version)
page_stops old mid new t n zero m fields rest front l some f me fe h = let hold = l.hold in absurd (omega arith)
page_stops old mid new t n (suc j) m fields rest front l some f me fe h =
    let cells : page_cells_of front ≡ page_cells_of rest = ap page_cells_of fe ∙ next_page rest m me in
    let text : page_text fields n (page_cells_of front) ≡ page_text (fields_text t.class written_version) n (page_cells_of rest) = rw f (rw cells refl) in
    Wrote-stops_at old mid new (table_text t written_version)
    (pages_text (fields_text t.class written_version) n (suc j) rest)
    (page_text (fields_text t.class written_version) n (page_cells_of rest))
    (pages_text (fields_text t.class written_version) (n + 1) j (drop 4096 rest)) l.wrote refl (rw text at h)

pub number_fits : (old new : Option (List ℕ)) (t : Table) (n k : ℕ) (rest : List ℕ) → Left old new t n rest k → n ≤ 8192
number_fits old new t n k rest l = let few = few_pages t.class in let counted = l.counted in omega arith

pub none_left : (old new : Option (List ℕ)) (t : Table) (n k : ℕ) (rest : List ℕ) → Left old new t n rest k
    → length rest ≡ 0 → Appends old new (table_text t written_version)
none_left old new t n zero rest l none = Wrote-all old new (table_text t written_version) l.wrote
none_left old new t n (suc k) rest l none = let full = l.full in absurd (omega arith)
