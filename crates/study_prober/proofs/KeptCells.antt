-- A cell of a cached page is read again without its source.
use Rattle.std.proofs.Common.{◌≡◌, ℕ, List, map, set, refl, sym, ap, ◌∙◌, subst}
use Rattle.std.specs.Prelude.{Option, Some, None, is_some, option_map, IfSome, Result, Ok, ◌%◌}
use Rattle.std.specs.Map.{lookup}
use Rattle.std.proofs.lemmas.Bool.{false≢true}
use Rattle.std.proofs.lemmas.List.{set-get_or}
use Rattle.std.proofs.lemmas.Map.Made.{lookup-map_values}
use Rattle.lru.proofs.CallerLemmas.{Contains-lookup}
use Rattle.study_material.specs.declared.class.Class.{Class}
use Rattle.study_values.specs.declared.value.Value.{Value}
use Rattle.study_values.specs.Cells.{value_of}
use Rattle.study_material.specs.Class.{class_number}
use Rattle.study_table.specs.Table.{Table}
use Rattle.study_prober.specs.declared.page_cache.PageKey.{PageKey}
use Rattle.study_prober.specs.declared.open_table.OpenTable.{OpenTable}
use Rattle.study_values.specs.declared.values.ProbeFault.{ProbeFault}
use Rattle.study_prober.specs.PageCache.{same_key, key_at, cell_at, kept_cell}
use Rattle.study_prober.specs.PagedTables.{held_of, IsKept}
use Rattle.study_prober.proofs.Keys.{same_key-is, keys_compared}

then_some : {X : Type 0} (P Q : X → Type 0) (o : Option X) → ((x : X) → P x → Q x) → IfSome o P → IfSome o Q
then_some P Q None f h = tt
then_some P Q (Some x) f h = f x h

-- the answer if the cell is cached
abbrev pub IsAgain : {S V : Type 0} → (V → List ℕ) → List S → List S → List (PageKey × V) → Result Value ProbeFault → Class → ℕ → Type 0
IsAgain cells xs ys kept r c n = IfSome (kept_cell cells kept c n) (λ x. (r ≡ Ok (value_of x)) × (ys ≡ xs))

module _ {S V : Type 0} (honest : S → Table → ℕ → Type 0) (cells : V → List ℕ) (xs : List (Option (OpenTable S))) (kept : List (PageKey × V)) (c : Class) where
  -- no page is cached of a class without a source
  no_page : IsKept honest cells xs kept → held_of xs c ≡ None → (n : ℕ) (o : Option V) → lookup (same_key (key_at c n)) kept ≡ o → o ≡ None
  no_page was none n None e = refl
  no_page was none n (Some v) e =
      let found = Contains-lookup (same_key (key_at c n)) kept v e in
      let key : key_at c n ≡ found.0 = same_key-is (key_at c n) found.0 (ap (λ test. test (key_at c n) found.0) keys_compared ∙ found.2) in
      let same = ap (λ (k : PageKey). is_some (held_of xs k.class)) key in
      absurd (false≢true (sym (ap (λ (o : Option (OpenTable S)). is_some o) none) ∙ same ∙ was.held (found.0, v) found.1))

  none_kept : IsKept honest cells xs kept → held_of xs c ≡ None → (n : ℕ) → lookup (same_key (key_at c n)) kept ≡ None
  none_kept was none n = no_page was none n (lookup (same_key (key_at c n)) kept) refl

  pub again_none : (d : Class) (n : ℕ) (P : ℕ → Type 0) → IsKept honest cells xs kept → held_of xs c ≡ None → d ≡ c → IfSome (kept_cell cells kept d n) P
  again_none d n P was none same =
      subst (λ (x : Class). IfSome (kept_cell cells kept x n) P) (sym same)
      (subst (λ (o : Option ℕ). IfSome o P)
      (sym (ap (λ (o : Option V). cell_at cells (n % 4096) o) (none_kept was none n))) tt)

module _ {S V : Type 0} (cells : V → List ℕ) (xs : List (Option (OpenTable S))) (kept : List (PageKey × V)) (r : Result Value ProbeFault) where
  -- the source that was not called stays in place
  pub again_at : (b c d : Class) (i m n : ℕ) (h k : OpenTable S) → i ≡ class_number c → held_of xs c ≡ Some h → b ≡ d → m ≡ n
      → IfSome (kept_cell cells kept b m) (λ x. (r ≡ Ok (value_of x)) × (k ≡ h))
      → IsAgain cells xs (set xs i (Some k)) kept r d n
  again_at b c d i m n h k at is same number reported =
      let Reported : ℕ → Type 0 = λ x. (r ≡ Ok (value_of x)) × (k ≡ h) in
      let of_class = subst (λ (y : Class). IfSome (kept_cell cells kept y m) Reported) same reported in
      let of_number = subst (λ (l : ℕ). IfSome (kept_cell cells kept d l) Reported) number of_class in
      then_some Reported (λ x. (r ≡ Ok (value_of x)) × (set xs i (Some k) ≡ xs)) (kept_cell cells kept d n)
      (λ x t. (
        t.0,
        ap (λ (j : ℕ). set xs j (Some k)) at ∙ ap (λ (o : Option (OpenTable S)). set xs (class_number c) o)
            (ap (λ (y : OpenTable S). Some y) t.1 ∙ sym is) ∙ set-get_or xs (class_number c) None,
      )) of_number

cell_of : {V : Type 0} (cells : V → List ℕ) (i : ℕ) (o : Option V) → cell_at (λ xs. xs) i (option_map cells o) ≡ cell_at cells i o
cell_of cells i None = refl
cell_of cells i (Some v) = refl

-- a cell of pages as contracts see them
pub cell_seen : {V : Type 0} (cells : V → List ℕ) (kept : List (PageKey × V)) (c : Class) (n : ℕ)
    → kept_cell (λ xs. xs) (map (λ e. (e.0, cells e.1)) kept) c n ≡ kept_cell cells kept c n
cell_seen cells kept c n =
    let test = same_key (key_at c n) in
    ap (λ (o : Option (List ℕ)). cell_at (λ xs. xs) (n % 4096) o) (lookup-map_values cells test kept)
    ∙ cell_of cells (n % 4096) (lookup test kept)

pub none_seen : {V : Type 0} (cells : V → List ℕ) (kept : List (PageKey × V)) (seen : List (PageKey × List ℕ)) (c : Class) (n : ℕ)
    → map (λ e. (e.0, cells e.1)) kept ≡ seen → kept_cell (λ xs. xs) seen c n ≡ None → kept_cell cells kept c n ≡ None
none_seen cells kept seen c n view none =
    sym (cell_seen cells kept c n) ∙ ap (λ (es : List (PageKey × List ℕ)). kept_cell (λ xs. xs) es c n) view ∙ none

-- the same, for pages as contracts see them
pub again_seen : {S V : Type 0} (cells : V → List ℕ) (xs ys zs : List S) (kept : List (PageKey × V))
    (seen : List (PageKey × List ℕ)) (r : Result Value ProbeFault) (c : Class) (n : ℕ)
    → xs ≡ zs → map (λ e. (e.0, cells e.1)) kept ≡ seen → IsAgain cells xs ys kept r c n → IsAgain (λ cells. cells) zs ys seen r c n
again_seen cells xs ys zs kept seen r c n same view reported =
    let Seen : ℕ → Type 0 = λ x. (r ≡ Ok (value_of x)) × (ys ≡ zs) in
    let at_cell = then_some (λ x. (r ≡ Ok (value_of x)) × (ys ≡ xs)) Seen (kept_cell cells kept c n) (λ x t. (t.0, t.1 ∙ same)) reported in
    subst (λ (es : List (PageKey × List ℕ)). IfSome (kept_cell (λ xs. xs) es c n) Seen) view
    (subst (λ (o : Option ℕ). IfSome o Seen) (sym (cell_seen cells kept c n)) at_cell)
