-- The bytes that a reader with known bytes has returned.
use Rattle.std.proofs.Common.{◌≡◌, ℕ, suc, ◌+◌, ◌<◌, Bool, true, false, ◌&&◌, nat_lt, List, [], ◌∷◌, ◌++◌, length}
use Rattle.std.proofs.Common.{take, drop, find, slice_index_or, Option, Some, None, Result, Err, IfErr}
use Rattle.std.proofs.Common.{if◌then◌else◌, refl, sym, ap, subst, ◌∙◌, arith, length-append, length-drop}
use Rattle.std.specs.Io.KnownBytes.{Consumes, Keeps, IsAtEnd}
use Rattle.std.specs.Str.{bytes_eq}
use Rattle.std.proofs.lemmas.Bool.{le-ltb}
use Rattle.std.proofs.lemmas.List.{take_at, drop_at, drop_more, drop-drop, take-append-le, drop-append-le}
use Rattle.study_material.specs.declared.class.Class.{Class}
use Rattle.study_material.specs.Class.{class_list}
use Rattle.study_values.specs.declared.fault.FileFault.{FileFault}
use Rattle.study_values.specs.declared.fault.FileFault.TheVariants.{PageDamaged}
use Rattle.study_tablefile.specs.Format.{class_field, is_known_version, fields_text, page_digest}
use Rattle.study_tablefile.specs.Reading.{class_named, version_of, class_read, page_fault, pages_read, table_behind, table_read, unless, IsShort}

-- ---- lists

pub find_here : {X : Type 0} (test : X → Bool) (xs : List X) (i : ℕ) (d : X) → i < length xs
    → test (slice_index_or xs i d) ≡ true → find test (drop i xs) ≡ Some (slice_index_or xs i d)
find_here test xs i d h e = ap (find test) (drop_more xs i d h) ∙ rw e refl

pub find_later : {X : Type 0} (test : X → Bool) (xs : List X) (i : ℕ) (d : X) → i < length xs
    → test (slice_index_or xs i d) ≡ false → find test (drop i xs) ≡ find test (drop (i + 1) xs)
find_later test xs i d h e = ap (find test) (drop_more xs i d h) ∙ rw e refl

-- a class that is found passes the test
found_known : (known test : Class → Bool) (c : Class) (xs : List Class) → find (λ d. known d && test d) xs ≡ Some c → known c ≡ true
found_known known test c [] h = cc
found_known known test c (x ∷ xs) h = by_tests (known x) (test x) refl h (λ r. found_known known test c xs r)
  where
    by_tests : (a b : Bool) → known x ≡ a → (if a && b then Some x else find (λ d. known d && test d) xs) ≡ Some c
        → (find (λ d. known d && test d) xs ≡ Some c → known c ≡ true) → known c ≡ true
    by_tests true true e f rest = (let same : x ≡ c = cc in ap known (sym same) ∙ e)
    by_tests true false e f rest = rest f
    by_tests false b e f rest = rest f

pub named_known : (v : ℕ) (field : List ℕ) (c : Class) → class_named v field ≡ Some c → is_known_version v c ≡ true
unfolding class_named
named_known v field c h = found_known (is_known_version v) (λ d. bytes_eq field (class_field d)) c class_list h

-- ---- known bytes

pub consumed : (a b : Option (List ℕ)) (front bytes : List ℕ) (n : ℕ) → length front ≡ n → Consumes a b front → a ≡ Some bytes
    → (rest : List ℕ) × (b ≡ Some rest) × (bytes ≡ front ++ rest)
consumed None b front bytes n e h k = cc
consumed (Some xs) None front bytes n e h k = absurd h
consumed (Some xs) (Some ys) front bytes n e h k = let same : xs ≡ bytes = cc in (ys, refl, sym same ∙ h)

-- the bytes that are left after some that were read
pub left_after : (a b : Option (List ℕ)) (front bytes : List ℕ) (from n : ℕ) → length front ≡ n → Consumes a b front → a ≡ Some (drop from bytes)
    → b ≡ Some (drop (from + n) bytes)
left_after a b front bytes from n e h k =
    let (rest, next, whole) = consumed a b front (drop from bytes) n e h k in
    next ∙ ap (λ (l : List ℕ). Some l) (sym (drop_at front rest n e) ∙ ap (λ (l : List ℕ). drop n l) (sym whole) ∙ drop-drop n from bytes)

pub left_kept : (a b : Option (List ℕ)) (bytes : List ℕ) → Keeps a b → a ≡ Some bytes → b ≡ Some bytes
left_kept None b bytes h e = cc
left_kept (Some xs) None bytes h e = absurd h
left_kept (Some xs) (Some ys) bytes h e = ap (λ (l : List ℕ). Some l) h ∙ e

-- at the end of known bytes no byte is left
pub left_none : (a b : Option (List ℕ)) (front bytes : List ℕ) → Consumes a b front → IsAtEnd b → a ≡ Some bytes → b ≡ Some []
left_none None b front bytes h none e = cc
left_none (Some xs) None front bytes h none e = absurd h
left_none (Some xs) (Some ys) front bytes h none e = ap (λ (l : List ℕ). Some l) none

pub short_bytes : (a : Option (List ℕ)) (bytes : List ℕ) (n : ℕ) → IsShort a n → a ≡ Some bytes → length bytes < n
short_bytes None bytes n h e = cc
short_bytes (Some xs) bytes n h e = let same : xs ≡ bytes = cc in subst (λ (l : List ℕ). length l < n) same h

pub long_enough : (front rest : List ℕ) (n : ℕ) → length front ≡ n → nat_lt (length (front ++ rest)) n ≡ false
long_enough front rest n e = le-ltb (length (front ++ rest)) n (omega (arith, length-append front rest, e))

-- ---- pages

pub page_reported : (fields page rest : List ℕ) (n : ℕ) → length page ≡ 4128
    → page_fault fields n (page ++ rest) ≡ (if bytes_eq (take 32 (drop 4096 page)) (page_digest fields n (take 4096 page)) then None else Some (PageDamaged n))
unfolding page_fault
page_reported fields page rest n e =
    let size : length (drop 4096 page) ≡ 32 = length-drop 4096 page ∙ omega (arith, e) in
    let cells : take 4096 (page ++ rest) ≡ take 4096 page = take-append-le 4096 page rest (omega arith) in
    let digest : take 32 (drop 4096 (page ++ rest)) ≡ take 32 (drop 4096 page) =
    ap (λ (l : List ℕ). take 32 l) (drop-append-le 4096 page rest (omega arith)) ∙ take-append-le 32
    (drop 4096 page) rest (omega arith) in
    rw (long_enough page rest 4128 e) (rw cells (rw digest refl))

pub page_bad : (a b : Option (List ℕ)) (fields page bytes : List ℕ) (n : ℕ) (t : Bool) → length page ≡ 4128 → Consumes a b page → a ≡ Some bytes
    → t ≡ bytes_eq (take 32 (drop 4096 page)) (page_digest fields n (take 4096 page)) → t ≡ false → page_fault fields n bytes ≡ Some (PageDamaged n)
page_bad a b fields page bytes n t size h e reported f =
    let (rest, next, whole) = consumed a b page bytes 4128 size h e in
    ap (page_fault fields n) whole ∙ page_reported fields page rest n size ∙ rw (sym reported ∙ f) refl

pub page_good : (a b : Option (List ℕ)) (fields page bytes cells old new : List ℕ) (n : ℕ) (t : Bool) → length page ≡ 4128 → Consumes a b page → a ≡ Some bytes
    → t ≡ bytes_eq (take 32 (drop 4096 page)) (page_digest fields n (take 4096 page)) → t ≡ true → cells ≡ take 4096 page → new ≡ old ++ cells
    → (b ≡ Some (drop 4128 bytes)) × (new ≡ old ++ take 4096 bytes) × (page_fault fields n bytes ≡ None)
page_good a b fields page bytes cells old new n t size h e reported f g more =
    let (rest, next, whole) = consumed a b page bytes 4128 size h e in
    let after : rest ≡ drop 4128 bytes = sym (ap (λ (l : List ℕ). drop 4128 l) whole ∙ drop_at page rest 4128 size) in
    let front : cells ≡ take 4096 bytes = g ∙ sym (ap (λ (l : List ℕ). take 4096 l) whole ∙ take-append-le 4096 page rest (omega arith)) in (
      next ∙ ap (λ (l : List ℕ). Some l) after,
      more ∙ ap (λ (l : List ℕ). old ++ l) front,
      ap (page_fault fields n)
          whole ∙ page_reported fields page rest n size ∙ rw (sym reported ∙ f) refl,
    )

pub pages_stop : (c : Class) (v n k j : ℕ) (fields cells rest : List ℕ) (fault : FileFault)
    → fields ≡ fields_text c v → k ≡ suc j → page_fault fields n rest ≡ Some fault
    → pages_read c v n k cells rest ≡ Err fault
pages_stop c v n k j fields cells rest fault f e h =
    ap (λ (m : ℕ). pages_read c v n m cells rest) e
    ∙ ap
    (λ (o : Option FileFault). unless o (pages_read c v (n + 1) j (cells ++ take 4096 rest) (drop 4128 rest)))
    (ap (λ (l : List ℕ). page_fault l n rest) (sym f) ∙ h)

pub pages_step : (c : Class) (v n k j : ℕ) (fields cells new rest : List ℕ) → fields ≡ fields_text c v → k ≡ suc j
    → page_fault fields n rest ≡ None → new ≡ cells ++ take 4096 rest
    → pages_read c v n k cells rest ≡ pages_read c v (n + 1) j new (drop 4128 rest)
pages_step c v n k j fields cells new rest f e h g =
    ap (λ (m : ℕ). pages_read c v n m cells rest) e
    ∙ ap
    (λ (o : Option FileFault). unless o (pages_read c v (n + 1) j (cells ++ take 4096 rest) (drop 4128 rest)))
    (ap (λ (l : List ℕ). page_fault l n rest) (sym f) ∙ h)
    ∙ ap (λ (l : List ℕ). pages_read c v (n + 1) j l (drop 4128 rest)) (sym g)

-- ---- headers

pub header_known : (a b : Option (List ℕ)) (header bytes : List ℕ) → length header ≡ 64 → Consumes a b header → a ≡ Some bytes
    → (rest : List ℕ) × (b ≡ Some rest) × (table_read bytes ≡ table_behind (version_of header) (class_read header) rest) × (take 64 bytes ≡ header)
unfolding table_read
header_known a b header bytes size h e =
    let (rest, next, whole) = consumed a b header bytes 64 size h e in
    let front : take 64 bytes ≡ header = ap (λ (l : List ℕ). take 64 l) whole ∙ take_at header rest 64 size in
    let after : drop 64 bytes ≡ rest = ap (λ (l : List ℕ). drop 64 l) whole ∙ drop_at header rest 64 size in
    let enough : nat_lt (length bytes) 64 ≡ false = ap (λ (l : List ℕ). nat_lt (length l) 64) whole ∙ long_enough header rest 64 size in
    (rest, next, rw enough (rw front (rw after refl)), front)

-- ---- under a result

pub IfErr-given : {A E : Type 0} (r : Result A E) (e : E) (P : E → Type 0) → r ≡ Err e → P e → IfErr r P
IfErr-given r e P h p = rw h p
