-- Reading bytes as a table: from front to back, up to the first fault.
use Rattle.std.specs.Prelude.{◌≡◌, ℕ, zero, suc, ◌+◌, ◌*◌, ◌<◌, ◌≤◌, ◌==◌, nat_lt, not, ◌&&◌, List, [], ◌++◌, length, take, drop}
use Rattle.std.specs.Prelude.{replicate, codes, find, Option, Some, None, Result, Ok, Err, if◌then◌else◌, ⊤}
use Rattle.std.specs.Str.{bytes_eq}
use Rattle.sha2.specs.Sha256.{sha256}
use Rattle.byteorder.specs.Endian.{little_number}
use Rattle.study_material.specs.declared.class.Class.{Class}
use Rattle.study_material.specs.Class.{class_list}
use Rattle.study_values.specs.Number.{cells_of}
use Rattle.study_table.specs.Table.{Table}
use Rattle.study_values.specs.declared.fault.FileFault.{FileFault}
use Rattle.study_values.specs.declared.fault.FileFault.TheVariants.{Cut, NotATable, Version, ClassUnknown}
use Rattle.study_values.specs.declared.fault.FileFault.TheVariants.{HeaderDamaged, PageDamaged, Padding}
use Rattle.study_values.specs.declared.fault.FileFault.TheVariants.{TrailingBytes, OutOfMemory, Device}
use Rattle.study_tablefile.specs.Format.{class_field, is_version, is_known_version, fields_text, page_digest}
use Rattle.study_values.specs.Size.{pages_of}

-- the class whose name is in the 8 bytes, among the classes of files of the version
unfoldable pub class_named : ℕ → List ℕ → Option Class
class_named v field = find (λ c. is_known_version v c && bytes_eq field (class_field c)) class_list

-- the header compared with that of its class: the fields, and their digest
abbrev pub class_checked : ℕ → List ℕ → Option Class → Result Class FileFault
class_checked v header None = Err ClassUnknown
class_checked v header (Some c) =
    if bytes_eq (take 32 header) (fields_text c v) && bytes_eq (take 32 (drop 32 header)) (sha256 (fields_text c v)) then Ok c else Err HeaderDamaged

-- the version of a header
abbrev pub version_of : List ℕ → ℕ
version_of header = little_number 2 (drop 8 header)

-- the class of a header, or the first fault: of its mark, its version, its class, and the rest, which follows from these
unfoldable pub class_read : List ℕ → Result Class FileFault
class_read header =
    if not (bytes_eq (take 8 header) (codes "STUDYDTM")) then Err NotATable
    else if not (is_version (version_of header)) then Err (Version (version_of header))
    else class_checked (version_of header) header (class_named (version_of header) (take 8 (drop 16 header)))

-- the fault of the page at the start of the bytes
unfoldable pub page_fault : List ℕ → ℕ → List ℕ → Option FileFault
page_fault fields n bytes =
    if nat_lt (length bytes) 4128 then Some Cut
    else if bytes_eq (take 32 (drop 4096 bytes)) (page_digest fields n (take 4096 bytes)) then None
    else Some (PageDamaged n)

-- after the last page: the cells, and the rest of the bytes
unfoldable pub table_end : Class → List ℕ → List ℕ → Result Table FileFault
table_end c cells rest =
    if not (bytes_eq (drop (cells_of c) cells) (replicate (length (drop (cells_of c) cells)) 0)) then Err Padding
    else if not (length rest == 0) then Err TrailingBytes
    else Ok (record { class = c; cells = take (cells_of c) cells })

-- the fault if there is one, otherwise the answer
abbrev pub unless : Option FileFault → Result Table FileFault → Result Table FileFault
unless (Some fault) answer = Err fault
unless None answer = answer

-- so many pages from page n on, after the cells of the pages before them
abbrev pub pages_read : Class → ℕ → ℕ → ℕ → List ℕ → List ℕ → Result Table FileFault
pages_read c v n zero cells bytes = table_end c cells bytes
pages_read c v n (suc k) cells bytes =
    unless (page_fault (fields_text c v) n bytes) (pages_read c v (n + 1) k (cells ++ take 4096 bytes) (drop 4128 bytes))

-- the pages after a header of a version
abbrev pub table_behind : ℕ → Result Class FileFault → List ℕ → Result Table FileFault
table_behind v (Err fault) bytes = Err fault
table_behind v (Ok c) bytes = pages_read c v 0 (pages_of c) [] bytes

-- the table whose text the bytes are, or the first fault
unfoldable pub table_read : List ℕ → Result Table FileFault
table_read bytes = if nat_lt (length bytes) 64 then Err Cut else table_behind (version_of (take 64 bytes)) (class_read (take 64 bytes)) (drop 64 bytes)

-- fewer bytes than these are left, if that is known
abbrev pub IsShort : Option (List ℕ) → ℕ → Type 0
IsShort None n = ⊤
IsShort (Some bytes) n = length bytes < n

-- the bytes begin with the header of a class
abbrev pub HasHeader : List ℕ → Type 0
HasHeader bytes = (c : Class) × (class_read (take 64 bytes) ≡ Ok c)

-- the number of pages after a header, by its class
abbrev pub pages_after : Result Class FileFault → ℕ
pages_after (Err fault) = 0
pages_after (Ok c) = pages_of c

-- n bytes of a file of so many pages have been read when a fault is reported: a file that is cut off is read to its end, any other up to the end of the
-- faulty part; a device fails within the header and the pages, or at their end
abbrev pub IsReadBefore : List ℕ → ℕ → FileFault → ℕ → Type 0
IsReadBefore bytes pages Cut n = length bytes ≤ n
IsReadBefore bytes pages NotATable n = n ≡ 64
IsReadBefore bytes pages (Version v) n = n ≡ 64
IsReadBefore bytes pages ClassUnknown n = n ≡ 64
IsReadBefore bytes pages HeaderDamaged n = n ≡ 64
IsReadBefore bytes pages OutOfMemory n = n ≡ 64
IsReadBefore bytes pages (PageDamaged p) n = n ≡ 64 + 4128 * (p + 1)
IsReadBefore bytes pages Padding n = n ≡ 64 + 4128 * pages
IsReadBefore bytes pages TrailingBytes n = n ≡ 64 + 4128 * pages + 1
IsReadBefore bytes pages Device n = n ≤ 64 + 4128 * pages

-- the bytes of a file of so many pages that are left when a fault is reported
abbrev pub IsReportedAt : List ℕ → ℕ → Option (List ℕ) → FileFault → Type 0
IsReportedAt bytes pages left fault = (n : ℕ) × IsReadBefore bytes pages fault n × (left ≡ Some (drop n bytes))
