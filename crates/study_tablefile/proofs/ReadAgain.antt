-- Written tables are read back.
use Rattle.std.proofs.Common.{◌≡◌, ℕ, zero, suc, ◌+◌, ◌-◌, ◌*◌, ◌<◌, ◌≤◌, ◌==◌, ◌⊎◌, inl, inr, min, true}
use Rattle.std.proofs.Common.{subst, List, [], ◌∷◌, ◌++◌, length, take, drop, replicate, Option, Some}
use Rattle.std.proofs.Common.{None, Result, Ok, Err, OnOk, refl, sym, ap, ◌∙◌, arith, append_assoc, append-nil}
use Rattle.std.proofs.Common.{length-append, length-drop, length-take, take-append-drop}
use Rattle.std.specs.Str.{bytes_eq}
use Rattle.std.proofs.lemmas.Result.{on_ok_weaker}
use Rattle.std.proofs.lemmas.List.{length-replicate, take_all, take_at, drop_all, drop_at, drop-drop}
use Rattle.std.proofs.lemmas.Bool.{cases_lt, false≢true, eqb-true, or_cases}
use Rattle.std.proofs.lemmas.Slice.Eq.{bytes_eq-Decides}
use Rattle.sha2.specs.Sha256.{sha256}
use Rattle.sha2.proofs.Facts256.{length-sha256}
use Rattle.study_material.specs.declared.class.Class.{Class}
use Rattle.study_material.specs.declared.class.Class.TheVariants.{KK, KQK, KRK, KBK, KNK, KPK, KQQK, KQRK, KQBK}
use Rattle.study_material.specs.declared.class.Class.TheVariants.{KQNK, KQPK, KRRK, KRBK, KRNK, KRPK, KBBK}
use Rattle.study_material.specs.declared.class.Class.TheVariants.{KBNK, KBPK, KNNK, KNPK, KPPK, KQKQ, KQKR}
use Rattle.study_material.specs.declared.class.Class.TheVariants.{KQKB, KQKN, KQKP, KRKR, KRKB, KRKN, KRKP}
use Rattle.study_material.specs.declared.class.Class.TheVariants.{KBKB, KBKN, KBKP, KNKN, KNKP, KPKP}
use Rattle.study_material.specs.Class.{name_of}
use Rattle.study_values.specs.Number.{cells_of}
use Rattle.study_table.specs.Table.{Table, IsComplete}
use Rattle.study_values.specs.declared.fault.FileFault.{FileFault}
use Rattle.study_tablefile.specs.Format.{class_field, is_version, is_known_version, IsVersionOf, fields_text, header_text}
use Rattle.study_tablefile.specs.Format.{page_cells_of, page_digest, page_text, pages_text, table_text}
use Rattle.study_values.specs.Size.{pages_of}
use Rattle.study_tablefile.specs.Reading.{class_named, class_checked, version_of, class_read, page_fault, pages_read, table_end, table_read, unless}
use Rattle.study_values.specs.declared.fault.SourceFault.{SourceFault}
use Rattle.study_tablefile.specs.PageSource.{is_whole_page, page_of, IsAnswerOf, of_page}
use Rattle.study_values.proofs.ClassBounds.{pages_hold, pages_full}
use Rattle.study_tablefile.proofs.BytesGiven.{long_enough, page_reported}

-- ---- lengths

fields_length : (c : Class) (v : ℕ) → length (fields_text c v) ≡ 32
unfolding fields_text class_field name_of
fields_length KK v = refl
fields_length KQK v = refl
fields_length KRK v = refl
fields_length KBK v = refl
fields_length KNK v = refl
fields_length KPK v = refl
fields_length KQQK v = refl
fields_length KQRK v = refl
fields_length KQBK v = refl
fields_length KQNK v = refl
fields_length KQPK v = refl
fields_length KRRK v = refl
fields_length KRBK v = refl
fields_length KRNK v = refl
fields_length KRPK v = refl
fields_length KBBK v = refl
fields_length KBNK v = refl
fields_length KBPK v = refl
fields_length KNNK v = refl
fields_length KNPK v = refl
fields_length KPPK v = refl
fields_length KQKQ v = refl
fields_length KQKR v = refl
fields_length KQKB v = refl
fields_length KQKN v = refl
fields_length KQKP v = refl
fields_length KRKR v = refl
fields_length KRKB v = refl
fields_length KRKN v = refl
fields_length KRKP v = refl
fields_length KBKB v = refl
fields_length KBKN v = refl
fields_length KBKP v = refl
fields_length KNKN v = refl
fields_length KNKP v = refl
fields_length KPKP v = refl

pub header_length : (c : Class) (v : ℕ) → length (header_text c v) ≡ 64
unfolding header_text
header_length c v = length-append (fields_text c v) (sha256 (fields_text c v)) ∙ omega (arith, fields_length c v, length-sha256 (fields_text c v))

pub cells_length : (cells : List ℕ) → length (page_cells_of cells) ≡ 4096
unfolding page_cells_of
cells_length cells = length-append (take 4096 cells) (replicate (4096 - length cells) 0)
    ∙ omega (arith, length-take 4096 cells, length-replicate {A = ℕ} (4096 - length cells) 0)

digest_length : (fields : List ℕ) (n : ℕ) (cells : List ℕ) → length (page_digest fields n cells) ≡ 32
unfolding page_digest
digest_length fields n cells = length-sha256 _

page_length : (fields : List ℕ) (n : ℕ) (cells : List ℕ) → length (page_text fields n (page_cells_of cells)) ≡ 4128
unfolding page_text
page_length fields n cells =
    length-append (page_cells_of cells) (page_digest fields n (page_cells_of cells))
    ∙ omega (arith, cells_length cells, digest_length fields n (page_cells_of cells))

pages_length : (fields : List ℕ) (n k : ℕ) (cells : List ℕ) → length (pages_text fields n k cells) ≡ 4128 * k
pages_length fields n zero cells = refl
pages_length fields n (suc k) cells =
    length-append (page_text fields n (page_cells_of cells)) (pages_text fields (n + 1) k (drop 4096 cells))
    ∙ omega (arith, page_length fields n cells, pages_length fields (n + 1) k (drop 4096 cells))

pub text_length : (t : Table) (c : Class) (v : ℕ) → t.class ≡ c → length (table_text t v) ≡ 64 + 4128 * pages_of c
unfolding table_text
text_length t c v e =
    length-append (header_text t.class v) (pages_text (fields_text t.class v) 0 (pages_of t.class) t.cells)
    ∙ omega (arith, header_length t.class v, pages_length (fields_text t.class v) 0 (pages_of t.class) t.cells) ∙ ap (λ d. 64 + 4128 * pages_of d) e

-- ---- a header

same_bytes : (xs ys : List ℕ) → xs ≡ ys → bytes_eq xs ys ≡ true
same_bytes xs ys e = (bytes_eq-Decides xs ys).1 e

first_again : (c : Class) → is_known_version 1 c ≡ true → class_read (header_text c 1) ≡ class_checked 1 (header_text c 1) (Some c)
unfolding class_read class_named header_text fields_text class_field name_of
first_again KK h = refl
first_again KQK h = refl
first_again KRK h = refl
first_again KBK h = refl
first_again KNK h = refl
first_again KPK h = refl
first_again KQQK h = refl
first_again KQRK h = refl
first_again KQBK h = refl
first_again KQNK h = refl
first_again KQPK h = refl
first_again KRRK h = refl
first_again KRBK h = refl
first_again KRNK h = refl
first_again KRPK h = refl
first_again KBBK h = refl
first_again KBNK h = refl
first_again KBPK h = refl
first_again KNNK h = refl
first_again KNPK h = refl
first_again KPPK h = refl
first_again KQKQ h = refl
first_again KQKR h = refl
first_again KQKB h = refl
first_again KQKN h = refl
first_again KQKP h = refl
first_again KRKR h = refl
first_again KRKB h = refl
first_again KRKN h = refl
first_again KRKP h = refl
first_again KBKB h = refl
first_again KBKN h = refl
first_again KBKP h = refl
first_again KNKN h = refl
first_again KNKP h = refl
first_again KPKP h = absurd (false≢true h)

second_again : (c : Class) → class_read (header_text c 2) ≡ class_checked 2 (header_text c 2) (Some c)
unfolding class_read class_named header_text fields_text class_field name_of
second_again KK = refl
second_again KQK = refl
second_again KRK = refl
second_again KBK = refl
second_again KNK = refl
second_again KPK = refl
second_again KQQK = refl
second_again KQRK = refl
second_again KQBK = refl
second_again KQNK = refl
second_again KQPK = refl
second_again KRRK = refl
second_again KRBK = refl
second_again KRNK = refl
second_again KRPK = refl
second_again KBBK = refl
second_again KBNK = refl
second_again KBPK = refl
second_again KNNK = refl
second_again KNPK = refl
second_again KPPK = refl
second_again KQKQ = refl
second_again KQKR = refl
second_again KQKB = refl
second_again KQKN = refl
second_again KQKP = refl
second_again KRKR = refl
second_again KRKB = refl
second_again KRKN = refl
second_again KRKP = refl
second_again KBKB = refl
second_again KBKN = refl
second_again KBKP = refl
second_again KNKN = refl
second_again KNKP = refl
second_again KPKP = refl

versions : (v : ℕ) → is_version v ≡ true → (v ≡ 1) ⊎ (v ≡ 2)
versions v e = elim (or_cases (v == 1) (v == 2) e) [ inl a ↦ inl (eqb-true v 1 a) | inr b ↦ inr (eqb-true v 2 b) ]

class_again : (c : Class) (v : ℕ) → IsVersionOf c v → class_read (header_text c v) ≡ class_checked v (header_text c v) (Some c)
class_again c v h = elim (versions v h.0) [
  | inl e ↦ subst (λ (w : ℕ). class_read (header_text c w) ≡ class_checked w (header_text c w) (Some c)) (sym e)
      (first_again c (ap (λ w. is_known_version w c) (sym e) ∙ h.1))
  | inr e ↦ subst (λ (w : ℕ). class_read (header_text c w) ≡ class_checked w (header_text c w) (Some c)) (sym e) (second_again c)
]

pub version_again : (c : Class) (v : ℕ) → is_version v ≡ true → version_of (header_text c v) ≡ v
unfolding header_text fields_text
version_again c v h = elim (versions v h) [
  | inl e ↦ subst (λ (w : ℕ). version_of (header_text c w) ≡ w) (sym e) refl
  | inr e ↦ subst (λ (w : ℕ). version_of (header_text c w) ≡ w) (sym e) refl
]

checked_again : (c : Class) (v : ℕ) → class_checked v (header_text c v) (Some c) ≡ Ok c
unfolding header_text
checked_again c v =
    let fields = fields_text c v in
    let front : take 32 (fields ++ sha256 fields) ≡ fields = take_at fields (sha256 fields) 32 (fields_length c v) in
    let back : take 32 (drop 32 (fields ++ sha256 fields)) ≡ sha256 fields =
    ap (λ (l : List ℕ). take 32 l) (drop_at fields (sha256 fields) 32 (fields_length c v))
    ∙ take_all 32 (sha256 fields) (omega (arith, length-sha256 fields)) in
    rw (same_bytes _ _ front) (rw (same_bytes _ _ back) refl)

pub header_again : (c : Class) (v : ℕ) → IsVersionOf c v → class_read (header_text c v) ≡ Ok c
header_again c v h = class_again c v h ∙ checked_again c v

-- ---- pages

page_again : (fields rest cells : List ℕ) (n : ℕ) → page_fault fields n (page_text fields n (page_cells_of cells) ++ rest) ≡ None
unfolding page_text
page_again fields rest cells n =
    let full = page_cells_of cells in
    let digest = page_digest fields n full in
    let front : take 4096 (full ++ digest) ≡ full = take_at full digest 4096 (cells_length cells) in
    let back : take 32 (drop 4096 (full ++ digest)) ≡ digest =
    ap (λ (l : List ℕ). take 32 l) (drop_at full digest 4096 (cells_length cells)) ∙ take_all 32 digest (omega (arith, digest_length fields n full)) in
    page_reported fields (full ++ digest) rest n (page_length fields n cells) ∙ rw front (rw (same_bytes _ _ back) refl)

cells_again : (fields rest cells : List ℕ) (n : ℕ) → take 4096 (page_text fields n (page_cells_of cells) ++ rest) ≡ page_cells_of cells
unfolding page_text
cells_again fields rest cells n =
    let full = page_cells_of cells in
    let digest = page_digest fields n full in
    ap (λ (l : List ℕ). take 4096 l) (append_assoc full digest rest) ∙ take_at full (digest ++ rest) 4096 (cells_length cells)

-- the cells of a page, and those after it with their zero bytes
pub padded_cells : (k : ℕ) (cells : List ℕ) → length cells ≤ 4096 * suc k → 4096 * suc k < length cells + 4096
    → page_cells_of cells ++ (drop 4096 cells ++ replicate (4096 * k - length (drop 4096 cells)) 0) ≡ cells ++ replicate (4096 * suc k - length cells) 0
unfolding page_cells_of
padded_cells k cells hold full = elim (cases_lt 4096 (length cells)) [
  | inl more ↦
      let none : 4096 - length cells ≡ 0 = omega arith in
      let size = length-drop 4096 cells in
      let same : 4096 * k - length (drop 4096 cells) ≡ 4096 * suc k - length cells = omega arith in
      rw none (rw same (ap (λ (l : List ℕ). l ++ (drop 4096 cells ++ replicate (4096 * suc k - length cells) 0)) (append-nil (take 4096 cells))
      ∙ sym (append_assoc (take 4096 cells) (drop 4096 cells) (replicate (4096 * suc k - length cells) 0))
      ∙ ap (λ (l : List ℕ). l ++ replicate (4096 * suc k - length cells) 0) (take-append-drop 4096 cells)))
  | inr all ↦
      let last : k ≡ 0 = omega arith in
      let front : take 4096 cells ≡ cells = take_all 4096 cells all in
      let back : drop 4096 cells ≡ [] = drop_all 4096 cells all in
      let zeros : 4096 - length cells ≡ 4096 * suc k - length cells = omega arith in
      let none : 4096 * k - 0 ≡ 0 = omega arith in
      rw front (rw back (rw none (rw zeros (append-nil _))))
]

pages_again : (c : Class) (v n k : ℕ) (before cells : List ℕ) → length cells ≤ 4096 * k → 4096 * k < length cells + 4096
    → pages_read c v n k before (pages_text (fields_text c v) n k cells) ≡ table_end c (before ++ (cells ++ replicate (4096 * k - length cells) 0)) []
pages_again c v n zero before [] hold full = ap (λ (l : List ℕ). table_end c l []) (sym (append-nil before))
pages_again c v n zero before (x ∷ cells) hold full = absurd (omega arith)
pages_again c v n (suc k) before cells hold full =
    let fields = fields_text c v in
    let page = page_text fields n (page_cells_of cells) in
    let rest = pages_text fields (n + 1) k (drop 4096 cells) in
    let size = length-drop 4096 cells in
    ap
    (λ (o : Option FileFault). unless o
    (pages_read c v (n + 1) k (before ++ take 4096 (page ++ rest)) (drop 4128 (page ++ rest))))
    (page_again fields rest cells n)
    ∙ ap (λ (l : List ℕ). pages_read c v (n + 1) k (before ++ l) (drop 4128 (page ++ rest))) (cells_again fields rest cells n)
    ∙ ap (λ (l : List ℕ). pages_read c v (n + 1) k (before ++ page_cells_of cells) l) (drop_at page rest 4128 (page_length fields n cells))
    ∙ pages_again c v (n + 1) k (before ++ page_cells_of cells) (drop 4096 cells) (omega arith) (omega arith)
    ∙ ap (λ (l : List ℕ). table_end c l [])
    (append_assoc before (page_cells_of cells)
    (drop 4096 cells ++ replicate (4096 * k - length (drop 4096 cells)) 0) ∙ ap (λ (l : List ℕ). before ++ l)
    (padded_cells k cells hold full))

end_again : (c : Class) (cells : List ℕ) (m : ℕ) → length cells ≡ cells_of c
    → table_end c (cells ++ replicate m 0) [] ≡ Ok (record { class = c; cells = cells })
unfolding table_end
end_again c cells m e =
    let back : drop (cells_of c) (cells ++ replicate m 0) ≡ replicate m 0 = drop_at cells (replicate m 0) (cells_of c) e in
    let front : take (cells_of c) (cells ++ replicate m 0) ≡ cells = take_at cells (replicate m 0) (cells_of c) e in
    let zeros : bytes_eq (replicate m 0) (replicate (length (replicate {A = ℕ} m 0)) 0) ≡ true =
    same_bytes _ _ (ap (λ (j : ℕ). replicate {A = ℕ} j 0) (sym (length-replicate {A = ℕ} m 0))) in
    rw back (rw zeros (rw front refl))

pub read_again : (t : Table) (v : ℕ) → IsComplete t → IsVersionOf t.class v → table_read (table_text t v) ≡ Ok t
unfolding table_read table_text
read_again t v complete is =
    let c = t.class in
    let header = header_text c v in
    let pages = pages_text (fields_text c v) 0 (pages_of c) t.cells in
    let hold = pages_hold c in
    let full = pages_full c in
    let size = complete.size in
    rw (long_enough header pages 64 (header_length c v))
    (rw (take_at header pages 64 (header_length c v))
    (rw (drop_at header pages 64 (header_length c v)) (rw (header_again c v is) (rw (version_again c v is.0)
    (pages_again c v 0 (pages_of c) [] t.cells (omega arith) (omega arith) ∙ end_again c t.cells (4096 * pages_of c - length t.cells) size)))))

-- ---- one page of a text

page_at : (fields : List ℕ) (n k i : ℕ) (cells : List ℕ) → i < k
    → take 4128 (drop (4128 * i) (pages_text fields n k cells)) ≡ page_text fields (n + i)
    (page_cells_of (drop (4096 * i) cells))
page_at fields n zero i cells h = absurd (omega arith)
page_at fields n (suc k) zero cells h =
    take_at (page_text fields n (page_cells_of cells)) (pages_text fields (n + 1) k (drop 4096 cells)) 4128 (page_length fields n cells)
    ∙ ap (λ (m : ℕ). page_text fields m (page_cells_of cells)) (let same : n ≡ n + 0 = omega arith in same)
page_at fields n (suc k) (suc i) cells h =
    let page = page_text fields n (page_cells_of cells) in
    let rest = pages_text fields (n + 1) k (drop 4096 cells) in
    let far : 4128 * suc i ≡ 4128 + 4128 * i = omega arith in
    let near : 4096 + 4096 * i ≡ 4096 * suc i = omega arith in
    let next : (n + 1) + i ≡ n + suc i = omega arith in
    ap (λ (m : ℕ). take 4128 (drop m (page ++ rest))) far
    ∙ ap (λ (l : List ℕ). take 4128 l)
    (sym (drop-drop (4128 * i) 4128 (page ++ rest)) ∙ ap (λ (l : List ℕ). drop (4128 * i) l)
    (drop_at page rest 4128 (page_length fields n cells)))
    ∙ page_at fields (n + 1) k i (drop 4096 cells) (omega arith)
    ∙ ap (λ (m : ℕ). page_text fields m (page_cells_of (drop (4096 * i) (drop 4096 cells)))) next
    ∙ ap (λ (l : List ℕ). page_text fields (n + suc i) (page_cells_of l)) (drop-drop (4096 * i) 4096 cells ∙ ap (λ (m : ℕ). drop m cells) near)

pub text_header : (t : Table) (v : ℕ) (text : List ℕ) → text ≡ table_text t v → take 64 text ≡ header_text t.class v
unfolding table_text
text_header t v text e =
    ap (λ (l : List ℕ). take 64 l) e ∙ take_at (header_text t.class v)
    (pages_text (fields_text t.class v) 0 (pages_of t.class) t.cells) 64 (header_length t.class v)

pub text_page : (t : Table) (v : ℕ) (text : List ℕ) (n : ℕ) → text ≡ table_text t v → n < pages_of t.class
    → take 4128 (drop (64 + 4128 * n) text) ≡ page_of t v n
unfolding table_text
text_page t v text n e h =
    let pages = pages_text (fields_text t.class v) 0 (pages_of t.class) t.cells in
    let same : 0 + n ≡ n = omega arith in
    ap (λ (l : List ℕ). take 4128 (drop (64 + 4128 * n) l)) e
    ∙ ap (λ (l : List ℕ). take 4128 l) (sym (drop-drop (4128 * n) 64 (header_text t.class v ++ pages))
    ∙ ap (λ (l : List ℕ). drop (4128 * n) l)
    (drop_at (header_text t.class v) pages 64 (header_length t.class v)))
    ∙ page_at (fields_text t.class v) 0 (pages_of t.class) n t.cells h
    ∙ ap (λ (m : ℕ). page_text (fields_text t.class v) m (page_cells_of (drop (4096 * n) t.cells))) same

pub header_given : {A E : Type 0} (t : Table) (v : ℕ) (text given : List ℕ) (size : ℕ) (r : Result A E)
    → text ≡ table_text t v → size ≡ 64 → OnOk r (given ≡ take size (drop 0 text))
    → OnOk r (given ≡ header_text t.class v)
header_given t v text given size r e s h = on_ok_weaker r (λ g. g ∙ ap (λ (n : ℕ). take n text) s ∙ text_header t v text e) h

pub page_given : {A E : Type 0} (t : Table) (v : ℕ) (text given : List ℕ) (n size start : ℕ) (r : Result A E)
    → text ≡ table_text t v → n < pages_of t.class → OnOk r (given ≡ take size (drop start text))
    → size ≡ 4128 → start ≡ 64 + 4128 * n → OnOk r (given ≡ page_of t v n)
page_given t v text given n size start r e h o s p =
    on_ok_weaker r (λ g. g ∙ ap (λ (m : ℕ). take m (drop start text)) s ∙ ap (λ (m : ℕ). take 4128 (drop m text)) p
    ∙ text_page t v text n e h) o

-- ---- a page of a table is whole

zeros_behind : (cells : List ℕ) (m : ℕ) → m ≡ min (length cells) 4096 → drop m (page_cells_of cells) ≡ replicate (4096 - length cells) 0
unfolding page_cells_of
zeros_behind cells m e = drop_at (take 4096 cells) (replicate (4096 - length cells) 0) m (omega (arith, e, length-take 4096 cells))

pub whole_again : (t : Table) (v n : ℕ) → IsComplete t → is_whole_page (fields_text t.class v) (cells_of t.class) n (page_of t v n) ≡ true
unfolding page_text
whole_again t v n complete =
    let fields = fields_text t.class v in
    let cells = drop (4096 * n) t.cells in
    let full = page_cells_of cells in
    let digest = page_digest fields n full in
    let front : take 4096 (full ++ digest) ≡ full = take_at full digest 4096 (cells_length cells) in
    let back : take 32 (drop 4096 (full ++ digest)) ≡ digest =
    ap (λ (l : List ℕ). take 32 l) (drop_at full digest 4096 (cells_length cells)) ∙ take_all 32 digest (omega (arith, digest_length fields n full)) in
    let count : min (cells_of t.class - n * 4096) 4096 ≡ min (length cells) 4096 = omega (arith, complete.size, length-drop (4096 * n) t.cells) in
    let zeros : drop (min (cells_of t.class - n * 4096) 4096) full ≡ replicate (4096 - length cells) 0 =
    zeros_behind cells (min (cells_of t.class - n * 4096) 4096) count in
    rw front
    (rw (same_bytes _ _ back)
    (rw zeros
    (same_bytes _ _
    (ap (λ (j : ℕ). replicate {A = ℕ} j 0) (sym (length-replicate {A = ℕ} (4096 - length cells) 0))))))

-- the bytes that were read are the answer to the request for a page
pub page_answered : (text : List ℕ) (start n : ℕ) (bytes old : List ℕ) (fails : Option ℕ)
    (r : Result (Unit {0}) SourceFault) → start ≡ 64 + 4128 * n → length old ≡ 4128
    → OnOk r (bytes ≡ take (length old) (drop start text)) → OnOk r (start + length old ≤ length text) → OnOk r (IsAnswerOf text fails (of_page n) (Ok bytes))
page_answered text start n bytes old fails (Ok x) at long read within = (
  subst (λ (m : ℕ). m + 4128 ≤ length text) at (subst (λ (k : ℕ). start + k ≤ length text) long within),
  read
      ∙ ap (λ (k : ℕ). take k (drop start text)) long ∙ ap (λ (m : ℕ). take 4128 (drop m text)) at,
)
page_answered text start n bytes old fails (Err fault) at long read within = tt
