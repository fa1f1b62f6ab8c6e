-- The rest of a file's bytes when a fault is reported.
use Rattle.std.proofs.Common.{◌≡◌, ℕ, ◌+◌, ◌*◌, ◌≤◌, List, length, drop, Option, Some, refl, sym, ap, ◌∙◌, arith}
use Rattle.std.specs.Io.KnownBytes.{Consumes, Keeps, IsAtEnd}
use Rattle.std.proofs.lemmas.List.{drop_all, drop-drop}
use Rattle.study_values.specs.declared.fault.FileFault.TheVariants.{Cut, Device, PageDamaged, TrailingBytes}
use Rattle.study_tablefile.specs.Reading.{IsReportedAt}
use Rattle.study_tablefile.proofs.BytesGiven.{left_after, left_kept, left_none}

-- a file that is cut off has nothing left
pub cut_at : (a b c : Option (List ℕ)) (front none bytes : List ℕ) (from n pages : ℕ) → length front ≡ n → Consumes a b front → a ≡ Some (drop from bytes)
    → Consumes b c none → IsAtEnd c → IsReportedAt bytes pages c Cut
cut_at a b c front none bytes from n pages size read e more end =
    let rest = left_after a b front bytes from n size read e in (
      length bytes,
      omega arith,
      left_none b c none (drop (from + n) bytes) more end rest ∙ ap (λ (l : List ℕ). Some l) (sym (drop_all (length bytes) bytes (omega arith))),
    )

-- a device fails before the buffer is full
pub failed_at : (a b c : Option (List ℕ)) (front bytes : List ℕ) (from n size pages : ℕ) → length front ≡ n → Consumes a b front → a ≡ Some (drop from bytes)
    → Keeps b c → n ≤ size → from + size ≤ 64 + 4128 * pages → IsReportedAt bytes pages c Device
failed_at a b c front bytes from n size pages long read e kept few within =
    (from + n, omega arith, left_kept b c (drop (from + n) bytes) kept (left_after a b front bytes from n long read e))

-- after a page the next one begins
pub next_page_at : (bytes : List ℕ) (n : ℕ) → drop 4128 (drop (64 + 4128 * n) bytes) ≡ drop (64 + 4128 * (n + 1)) bytes
next_page_at bytes n =
    let same : 64 + 4128 * n + 4128 ≡ 64 + 4128 * (n + 1) = omega arith in
    drop-drop 4128 (64 + 4128 * n) bytes ∙ ap (λ (m : ℕ). drop m bytes) same

-- a page is read, and is damaged
pub damaged_at : (a b : Option (List ℕ)) (page bytes : List ℕ) (n pages : ℕ) → length page ≡ 4128 → Consumes a b page
    → a ≡ Some (drop (64 + 4128 * n) bytes) → IsReportedAt bytes pages b (PageDamaged n)
damaged_at a b page bytes n pages size read e =
    let same : 64 + 4128 * n + 4128 ≡ 64 + 4128 * (n + 1) = omega arith in
    (64 + 4128 * (n + 1), refl, left_after a b page bytes (64 + 4128 * n) 4128 size read e ∙ ap (λ (m : ℕ). Some (drop m bytes)) same)

-- a byte is read after the end of the file's text
pub trailing_at : (a b : Option (List ℕ)) (next bytes : List ℕ) (pages : ℕ) → length next ≡ 1 → Consumes a b next
    → a ≡ Some (drop (64 + 4128 * pages) bytes) → IsReportedAt bytes pages b TrailingBytes
trailing_at a b next bytes pages size read e =
    (64 + 4128 * pages + 1, refl, left_after a b next bytes (64 + 4128 * pages) 1 size read e)

-- a device fails at the end of the file's text
pub end_failed_at : (a b : Option (List ℕ)) (bytes : List ℕ) (pages : ℕ) → Keeps a b → a ≡ Some (drop (64 + 4128 * pages) bytes)
    → IsReportedAt bytes pages b Device
end_failed_at a b bytes pages kept e = (64 + 4128 * pages, omega arith, left_kept a b (drop (64 + 4128 * pages) bytes) kept e)
