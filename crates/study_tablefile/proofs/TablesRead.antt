-- Bytes that are read as a table are the text of that table.
use Rattle.std.proofs.Common.{◌≡◌, ℕ, zero, suc, ◌+◌, ◌-◌, ◌*◌, ◌≤◌, ◌<◌, Bool, true, false, not, ◌&&◌, ◌==◌}
use Rattle.std.proofs.Common.{nat_lt, List, [], ◌∷◌, ◌++◌, length, take, drop, replicate, codes, Option, Some}
use Rattle.std.proofs.Common.{None, Result, Ok, Err, if◌then◌else◌, refl, sym, ap, ◌∙◌, arith, append_assoc}
use Rattle.std.proofs.Common.{append-nil, length-append, length-drop, take-append-drop, length-take-le}
use Rattle.std.specs.List.{All}
use Rattle.std.specs.Str.{bytes_eq}
use Rattle.std.proofs.lemmas.Bool.{ltb-false, eqb-true, and_parts}
use Rattle.std.proofs.lemmas.Slice.Eq.{bytes_eq-Decides}
use Rattle.std.proofs.lemmas.List.Elements.{All-append, All-take, All-drop}
use Rattle.sha2.specs.Sha256.{sha256}
use Rattle.study_material.specs.declared.class.Class.{Class}
use Rattle.study_values.specs.Number.{cells_of}
use Rattle.study_table.specs.Table.{Table, IsComplete}
use Rattle.study_values.specs.declared.fault.FileFault.{FileFault}
use Rattle.study_values.specs.declared.fault.FileFault.TheVariants.{Cut, NotATable, Version, HeaderDamaged, PageDamaged, Padding, TrailingBytes}
use Rattle.study_tablefile.specs.Format.{is_version, IsVersionOf, fields_text, header_text, page_cells_of}
use Rattle.study_tablefile.specs.Format.{page_digest, page_text, pages_text, table_text}
use Rattle.study_values.specs.Size.{pages_of}
use Rattle.study_tablefile.specs.Reading.{class_named, class_checked, version_of, class_read, page_fault}
use Rattle.study_tablefile.specs.Reading.{pages_read, table_behind, table_end, table_read, unless}
use Rattle.study_values.proofs.ClassBounds.{pages_hold, pages_full}
use Rattle.std.proofs.lemmas.List.{take_all, take_at, drop_at, drop-drop}
use Rattle.study_tablefile.proofs.BytesGiven.{named_known}
use Rattle.study_tablefile.proofs.ReadAgain.{cells_length, padded_cells}

-- ---- tests on the way to an answer

-- a fault that does not occur
passed : {A E : Type 0} (b : Bool) (e : E) (r : Result A E) (x : A) → (if b then Err e else r) ≡ Ok x → (b ≡ false) × (r ≡ Ok x)
passed true e r x h = cc
passed false e r x h = (refl, h)

-- a fault that occurs if a test fails
admitted : {A E : Type 0} (b : Bool) (e : E) (r : Result A E) (x : A) → (if not b then Err e else r) ≡ Ok x → (b ≡ true) × (r ≡ Ok x)
admitted true e r x h = (refl, h)
admitted false e r x h = cc

-- an answer after a test
answered : {A E : Type 0} (b : Bool) (e : E) (r : Result A E) (x : A) → (if b then r else Err e) ≡ Ok x → (b ≡ true) × (r ≡ Ok x)
answered true e r x h = (refl, h)
answered false e r x h = cc

-- no fault of a page
no_fault : (b d : Bool) (e f : FileFault) → (if b then Some e else if d then None else Some f) ≡ None → (b ≡ false) × (d ≡ true)
no_fault true d e f h = cc
no_fault false true e f h = (refl, refl)
no_fault false false e f h = cc

no_fault_before : (o : Option FileFault) (r : Result Table FileFault) (t : Table) → unless o r ≡ Ok t → (o ≡ None) × (r ≡ Ok t)
no_fault_before None r t h = (refl, h)
no_fault_before (Some e) r t h = cc

same_answer : (t u : Table) (r : Result Table FileFault) → r ≡ Ok t → r ≡ Ok u → u ≡ t
same_answer t u r h g = cc

-- ---- a header

checked_is : (v : ℕ) (header : List ℕ) (o : Option Class) (c : Class) → class_checked v header o ≡ Ok c
    → (o ≡ Some c) × (take 32 header ≡ fields_text c v) × (take 32 (drop 32 header) ≡ sha256 (fields_text c v))
checked_is v header None c h = cc
checked_is v header (Some d) c h =
    let front = bytes_eq (take 32 header) (fields_text d v) in
    let back = bytes_eq (take 32 (drop 32 header)) (sha256 (fields_text d v)) in
    let test = answered (front && back) HeaderDamaged (Ok d) c h in
    let same : d ≡ c = cc in
    let both = and_parts front back test.0 in (
      ap (λ (x : Class). Some x) same,
      (bytes_eq-Decides (take 32 header) (fields_text d v)).0 both.0 ∙ ap (λ (x : Class). fields_text x v) same,
      (bytes_eq-Decides (take 32 (drop 32 header)) (sha256 (fields_text d v))).0 both.1 ∙ ap (λ (x : Class). sha256 (fields_text x v)) same,
    )

-- a class that is read is one of the classes of the version
pub known_is : (header : List ℕ) (c : Class) → class_read header ≡ Ok c → IsVersionOf c (version_of header)
unfolding class_read
known_is header c h =
    let v = version_of header in
    let mark = admitted (bytes_eq (take 8 header) (codes "STUDYDTM")) NotATable _ c h in
    let version = admitted (is_version v) (Version v) _ c mark.1 in
    (version.0, named_known v (take 8 (drop 16 header)) c (checked_is v header (class_named v (take 8 (drop 16 header))) c version.1).0)

pub header_is : (header : List ℕ) (c : Class) → length header ≡ 64 → class_read header ≡ Ok c
    → (header ≡ header_text c (version_of header)) × IsVersionOf c (version_of header)
unfolding class_read header_text
header_is header c size h =
    let v = version_of header in
    let mark = admitted (bytes_eq (take 8 header) (codes "STUDYDTM")) NotATable _ c h in
    let version = admitted (is_version v) (Version v) _ c mark.1 in
    let (named, front, back) = checked_is v header (class_named v (take 8 (drop 16 header))) c version.1 in
    let whole : take 32 (drop 32 header) ≡ drop 32 header = take_all 32 (drop 32 header) (omega (arith, length-drop 32 header, size)) in (
      sym (take-append-drop 32 header) ∙ ap (λ (l : List ℕ). take 32 header ++ l) (sym whole ∙ back) ∙ ap (λ (l : List ℕ). l ++ sha256 (fields_text c v)) front,
      (version.0, named_known v (take 8 (drop 16 header)) c named),
    )

-- ---- pages

-- a full page, whatever follows it
page_full : (front more : List ℕ) → length front ≡ 4096 → page_cells_of (front ++ more) ≡ front
unfolding page_cells_of
page_full front more e =
    let size = length-append front more in
    let none : 4096 - length (front ++ more) ≡ 0 = omega (arith, size, e) in
    rw none (rw (take_at front more 4096 e) (append-nil front))

page_is : (fields bytes : List ℕ) (n : ℕ) → page_fault fields n bytes ≡ None
    → (length (take 4096 bytes) ≡ 4096) × (bytes ≡ page_text fields n (take 4096 bytes) ++ drop 4128 bytes)
unfolding page_fault page_text
page_is fields bytes n h =
    let cells = take 4096 bytes in
    let tail = drop 4096 bytes in
    let tests = no_fault (nat_lt (length bytes) 4128) (bytes_eq (take 32 tail) (page_digest fields n cells)) Cut (PageDamaged n) h in
    let long : 4128 ≤ length bytes = ltb-false (length bytes) 4128 tests.0 in
    let digest : take 32 tail ≡ page_digest fields n cells = (bytes_eq-Decides (take 32 tail) (page_digest fields n cells)).0 tests.1 in
    let after : drop 4128 bytes ≡ drop 32 tail = sym (drop-drop 32 4096 bytes) in (
      length-take-le 4096 bytes (omega arith),
      sym (take-append-drop 4096 bytes) ∙ ap (λ (l : List ℕ). cells ++ l) (sym (take-append-drop 32 tail))
          ∙ sym (append_assoc cells (take 32 tail) (drop 32 tail))
          ∙ ap (λ (l : List ℕ). (cells ++ l) ++ drop 32 tail) digest ∙ ap (λ (l : List ℕ). (cells ++ page_digest fields n cells) ++ l) (sym after),
    )

end_is : (c : Class) (all rest : List ℕ) (t : Table) → table_end c all rest ≡ Ok t
    → (drop (cells_of c) all ≡ replicate (length (drop (cells_of c) all)) 0) × (rest ≡ []) × (t ≡ record { class = c; cells = take (cells_of c) all })
unfolding table_end
end_is c all rest t h =
    let padding = drop (cells_of c) all in
    let zeros = admitted (bytes_eq padding (replicate (length padding) 0)) Padding _ t h in
    let none = admitted (length rest == 0) TrailingBytes _ t zeros.1 in (
      (bytes_eq-Decides padding (replicate (length padding) 0)).0 zeros.0,
      empty rest (eqb-true (length rest) 0 none.0),
      same_answer (record { class = c; cells = take (cells_of c) all }) t _ refl none.1,
    )
  where
    empty : (xs : List ℕ) → length xs ≡ 0 → xs ≡ []
    empty [] e = refl
    empty (x ∷ xs) e = absurd (omega arith)

-- the cells of pages that are read
pub record Pages (c : Class) (v n k : ℕ) (before bytes : List ℕ) (t : Table) : Type 0 where
  pub cells : List ℕ
  pub size : length cells ≡ 4096 * k
  pub text : bytes ≡ pages_text (fields_text c v) n k cells
  pub end : table_end c (before ++ cells) [] ≡ Ok t
  pub small : All (λ b. b < 256) bytes → All (λ b. b < 256) cells

pages_are : (c : Class) (v n k : ℕ) (before bytes : List ℕ) (t : Table) → pages_read c v n k before bytes ≡ Ok t → Pages c v n k before bytes t
pages_are c v n zero before bytes t h =
    let none : bytes ≡ [] = (end_is c before bytes t h).1 in
    record {
      cells = [];
      size = refl;
      text = none;
      end = ap (λ (l : List ℕ). table_end c l []) (append-nil before) ∙ ap (λ (l : List ℕ). table_end c before l) (sym none) ∙ h;
      small = λ all. All-take (λ b. b < 256) 0 bytes all;
    }
pages_are c v n (suc k) before bytes t h =
    let fields = fields_text c v in
    let front = take 4096 bytes in
    let (good, more) = no_fault_before (page_fault fields n bytes) (pages_read c v (n + 1) k (before ++ front) (drop 4128 bytes)) t h in
    let (full, page) = page_is fields bytes n good in
    let rest = pages_are c v (n + 1) k (before ++ front) (drop 4128 bytes) t more in
    record {
      cells = front ++ rest.cells;
      size = length-append front rest.cells ∙ omega (arith, full, rest.size);
      text = page ∙ ap (λ (l : List ℕ). page_text fields n front ++ l) rest.text
          ∙ ap (λ (l : List ℕ). page_text fields n l ++ pages_text fields (n + 1) k rest.cells) (sym (page_full front rest.cells full))
          ∙ ap (λ (l : List ℕ). page_text fields n (page_cells_of (front ++ rest.cells)) ++ pages_text fields
          (n + 1) k l) (sym (drop_at front rest.cells 4096 full));
      end = ap (λ (l : List ℕ). table_end c l []) (sym (append_assoc before front rest.cells)) ∙ rest.end;
      small = λ all. All-append (λ b. b < 256) front rest.cells (All-take (λ b. b < 256) 4096 bytes all) (rest.small (All-drop (λ b. b < 256) 4128 bytes all));
    }

-- zero bytes after the last cell change no page
pages_padded : (fields : List ℕ) (n k : ℕ) (cells : List ℕ) → length cells ≤ 4096 * k → 4096 * k < length cells + 4096
    → pages_text fields n k (cells ++ replicate (4096 * k - length cells) 0) ≡ pages_text fields n k cells
pages_padded fields n zero cells hold full = refl
pages_padded fields n (suc k) cells hold full =
    let front = page_cells_of cells in
    let rest = drop 4096 cells in
    let zeros = replicate {A = ℕ} (4096 * k - length rest) 0 in
    let size : length rest ≡ length cells - 4096 = length-drop 4096 cells in
    rw (sym (padded_cells k cells hold full)) (
    ap (λ (l : List ℕ). page_text fields n l ++ pages_text fields (n + 1) k (drop 4096 (front ++ (rest ++ zeros))))
    (page_full front (rest ++ zeros) (cells_length cells))
    ∙ ap (λ (l : List ℕ). page_text fields n front ++ pages_text fields (n + 1) k l) (drop_at front (rest ++ zeros) 4096 (cells_length cells))
    ∙ ap (λ (l : List ℕ). page_text fields n front ++ l)
    (pages_padded fields (n + 1) k (drop 4096 cells) (omega (arith, size, hold)) (omega (arith, size, full)))
    )

-- ---- a table

-- the properties of bytes that are read as a table
pub record Text (bytes : List ℕ) (t : Table) : Type 0 where
  pub version : ℕ
  pub is_version : IsVersionOf t.class version
  pub text : bytes ≡ table_text t version
  pub size : length t.cells ≡ cells_of t.class
  pub small : All (λ b. b < 256) bytes → All (λ b. b < 256) t.cells

behind_is : (bytes : List ℕ) (r : Result Class FileFault) (t : Table) → r ≡ class_read (take 64 bytes) → length (take 64 bytes) ≡ 64
    → table_behind (version_of (take 64 bytes)) r (drop 64 bytes) ≡ Ok t → Text bytes t
unfolding table_text
behind_is bytes (Err e) t same front h = cc
behind_is bytes (Ok c) t same front h =
    let v = version_of (take 64 bytes) in
    let (header, known) = header_is (take 64 bytes) c front (sym same) in
    let pages = pages_are c v 0 (pages_of c) [] (drop 64 bytes) t h in
    let (zeros, none, table) = end_is c pages.cells [] t pages.end in
    let m = cells_of c in
    let hold = pages_hold c in
    let full = pages_full c in
    let count : length (take m pages.cells) ≡ m = length-take-le m pages.cells (omega (arith, pages.size)) in
    let left : length (drop m pages.cells) ≡ 4096 * pages_of c - length (take m pages.cells) = length-drop m pages.cells ∙ omega (arith, pages.size, count) in
    let split : pages.cells ≡ take m pages.cells ++ replicate (4096 * pages_of c - length (take m pages.cells)) 0 =
    sym (take-append-drop m pages.cells) ∙ ap (λ (l : List ℕ). take m pages.cells ++ l) (zeros ∙ ap (λ (j : ℕ). replicate {A = ℕ} j 0) left) in
    let padded = pages_padded (fields_text c v) 0 (pages_of c) (take m pages.cells) (omega arith) (omega arith) in
    rw table (
    record {
      version = v;
      is_version = known;
      text = sym (take-append-drop 64 bytes) ∙ ap (λ (l : List ℕ). l ++ drop 64 bytes) header
          ∙ ap (λ (l : List ℕ). header_text c v ++ l) (pages.text ∙ ap (λ (l : List ℕ). pages_text (fields_text c v) 0 (pages_of c) l) split ∙ padded);
      size = count;
      small = λ all. All-take (λ b. b < 256) m pages.cells (pages.small (All-drop (λ b. b < 256) 64 bytes all));
    }
    )

pub text_is : (bytes : List ℕ) (t : Table) → table_read bytes ≡ Ok t → Text bytes t
unfolding table_read
text_is bytes t h =
    let (long, behind) = passed (nat_lt (length bytes) 64) Cut (table_behind (version_of (take 64 bytes)) (class_read (take 64 bytes)) (drop 64 bytes)) t h in
    let enough : 64 ≤ length bytes = ltb-false (length bytes) 64 long in
    behind_is bytes (class_read (take 64 bytes)) t refl (length-take-le 64 bytes enough) behind

pub text_of_read : (bytes : List ℕ) (t : Table) → table_read bytes ≡ Ok t → (v : ℕ) × IsVersionOf t.class v × (bytes ≡ table_text t v)
text_of_read bytes t h = let r = text_is bytes t h in (r.version, r.is_version, r.text)

pub complete_when_read : (bytes : List ℕ) (t : Table) → All (λ b. b < 256) bytes → table_read bytes ≡ Ok t → IsComplete t
complete_when_read bytes t all h = let is = text_is bytes t h in record { size = is.size; bytes = is.small all }
