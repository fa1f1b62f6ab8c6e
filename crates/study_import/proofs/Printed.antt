-- Printable bytes.
use Rattle.std.proofs.Common.{◌≡◌, ℕ, true, List, [], ◌∷◌, refl, inl, inr}
use Rattle.std.specs.Prelude.{map}
use Rattle.std.specs.List.{list_all}
use Rattle.std.proofs.lemmas.Bool.{cases_Bool}
use Rattle.study_marks.specs.Edits.{is_printable}
use Rattle.study_import.specs.Blocks.{printable_byte}

printed_prints : (b : ℕ) → is_printable (printable_byte b) ≡ true
printed_prints b = elim (cases_Bool (is_printable b)) [ inl prints ↦ rw prints prints | inr hidden ↦ rw hidden refl ]

pub all_printed : (bytes : List ℕ) → list_all is_printable (map printable_byte bytes) ≡ true
all_printed [] = refl
all_printed (b ∷ bs) = rw (printed_prints b) (all_printed bs)
