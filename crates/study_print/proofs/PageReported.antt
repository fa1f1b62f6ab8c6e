-- The page of an annotated study is that of the plain one.
use Rattle.std.proofs.Common.{ℕ, List, Option, refl}
use Rattle.study_text.specs.Taken.{TakesPrefix}
use Rattle.study_marks.specs.BenchState.{BenchState, marked_study, IsKeptRight}
use Rattle.study_marks.specs.Study.{plain_study}
use Rattle.study_entry.specs.declared.entry.EntryInfo.{EntryInfo}
use Rattle.study_page.specs.Page.{IsPage, IsPageOf}

pub reported_plain : (k : BenchState) (info : EntryInfo) (old new : Option (List ℕ)) → IsKeptRight k
    → (text : List ℕ) × IsPage (marked_study k) info text × TakesPrefix old new text
    → (text : List ℕ) × IsPageOf (plain_study (marked_study k)) info text × TakesPrefix old new text
reported_plain k info old new right (text, page, taken) = (text, (marked_study k, refl, right.marks, page), taken)
