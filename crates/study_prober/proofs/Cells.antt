-- A cell of a table is a byte of its page.
use Rattle.std.specs.Prelude.{Result, Ok, Err, IfOk}
use Rattle.std.proofs.Common.{true, ◌≡◌, ℕ, ◌+◌, ◌-◌, ◌*◌, ◌/◌, ◌%◌, ◌<◌, inl, inr, List, length, take, drop}
use Rattle.std.proofs.Common.{replicate, get_or, refl, sym, ap, ◌∙◌, arith, length-append, length-take}
use Rattle.std.proofs.lemmas.List.{take_at, length-replicate, get_or-replicate, get_or_append_left, get_or-append_right, get_or-take, get_or-drop, get_or_past}
use Rattle.std.proofs.lemmas.Bool.{cases_lt}
use Rattle.study_material.specs.declared.class.Class.{Class}
use Rattle.study_values.specs.Number.{cells_of}
use Rattle.study_values.specs.declared.value.Value.{Value}
use Rattle.study_values.specs.Cells.{value_of}
use Rattle.study_table.specs.Table.{Table, IsComplete}
use Rattle.study_tablefile.specs.Format.{fields_text, page_cells_of, page_digest, page_text}
use Rattle.study_values.specs.Size.{pages_of}
use Rattle.study_tablefile.specs.declared.page_source.Header.{Header}
use Rattle.study_tablefile.specs.PageSource.{is_whole_page, page_of}
use Rattle.study_tablefile.proofs.ReadAgain.{whole_again}
use Rattle.study_values.specs.declared.values.ProbeFault.{ProbeFault}
use Rattle.study_prober.specs.Sources.{IsHeaderOf, cells_on_page}

-- zeros, and places beyond them, read as 0
zero_read : (m i : ℕ) → get_or {A = ℕ} (replicate m 0) i 0 ≡ 0
zero_read m i = elim (cases_lt i m) [
  | inl within ↦ get_or-replicate m i 0 0 within
  | inr past ↦ get_or_past {X = ℕ} (replicate m 0) i 0 (omega (arith, length-replicate {A = ℕ} m 0))
]

-- a page has the next 4,096 cells, and zeros if there are fewer
page_reads : (xs : List ℕ) (k : ℕ) → k < 4096 → get_or (page_cells_of xs) k 0 ≡ get_or xs k 0
unfolding page_cells_of
page_reads xs k small = elim (cases_lt k (length xs)) [
  | inl within ↦ get_or_append_left (take 4096 xs) (replicate (4096 - length xs) 0) 0 k (omega (arith, length-take 4096 xs)) ∙ get_or-take 4096 xs k 0 small
  | inr past ↦
      get_or-append_right (take 4096 xs) (replicate (4096 - length xs) 0) (length (take 4096 xs)) k 0 refl (omega (arith, length-take 4096 xs))
      ∙ zero_read (4096 - length xs) (k - length (take 4096 xs)) ∙ sym (get_or_past xs k 0 past)
]

cells_length : (xs : List ℕ) → length (page_cells_of xs) ≡ 4096
unfolding page_cells_of
cells_length xs = length-append (take 4096 xs) (replicate (4096 - length xs) 0)
    ∙ omega (arith, length-take 4096 xs, length-replicate {A = ℕ} (4096 - length xs) 0)

page_reads_cells : (t : Table) (n k : ℕ) → k < 4096 → get_or (cells_on_page t n) k 0 ≡ get_or t.cells (4096 * n + k) 0
page_reads_cells t n k small = page_reads (drop (4096 * n) t.cells) k small ∙ get_or-drop (4096 * n) t.cells k 0

-- the cells of a page's text
pub cells_of_text : (t : Table) (v n : ℕ) → take 4096 (page_of t v n) ≡ cells_on_page t n
unfolding page_text
cells_of_text t v n =
    let cells = page_cells_of (drop (4096 * n) t.cells) in
    take_at cells (page_digest (fields_text t.class v) n cells) 4096 (cells_length (drop (4096 * n) t.cells))

-- cell i of a table is byte i mod 4,096 of its page i / 4,096
pub cell_of_page : (t : Table) (i : ℕ) → get_or (cells_on_page t (i / 4096)) (i % 4096) 0 ≡ get_or t.cells i 0
cell_of_page t i =
    let whole : 4096 * (i / 4096) + i % 4096 ≡ i = omega arith in
    let small : i % 4096 < 4096 = omega arith in
    page_reads_cells t (i / 4096) (i % 4096) small ∙ ap (λ (m : ℕ). get_or t.cells m 0) whole

-- the page of a cell is one of the class
pub page_of_cell : (c : Class) (i : ℕ) → i < cells_of c → i / 4096 < pages_of c
unfolding pages_of
page_of_cell c i small = omega arith

-- a page of a complete table is whole by the header of its class
pub whole_read : (t : Table) (h : Header) (n : ℕ) (page : List ℕ) → IsHeaderOf h h.class → t.class ≡ h.class
    → IsComplete t → page ≡ page_of t h.version n → is_whole_page h.fields h.cells n page ≡ true
whole_read t h n page header same complete e =
    let fields : h.fields ≡ fields_text t.class h.version = header.fields ∙ ap (λ c. fields_text c h.version) (sym same) in
    let cells : h.cells ≡ cells_of t.class = header.cells ∙ ap cells_of (sym same) in
    rw fields (rw cells (rw e (whole_again t h.version n complete)))

pub value_of_cell : (t : Table) (i : ℕ) (r : Result Value ProbeFault)
    → IfOk r (λ v. v ≡ value_of (get_or (cells_on_page t (i / 4096)) (i % 4096) 0))
    → IfOk r (λ v. v ≡ value_of (get_or t.cells i 0))
value_of_cell t i (Ok v) reported = reported ∙ ap value_of (cell_of_page t i)
value_of_cell t i (Err fault) reported = reported
