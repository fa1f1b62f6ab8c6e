-- The entries of a report, listed at its end.
use Rattle.std.specs.Prelude.{◌≡◌, ℕ, List, [], ◌∷◌, ◌++◌, decimal}
use Rattle.study_marks.specs.declared.mark.Mark.{Mark}
use Rattle.study_marks.specs.Study.{Study, plain_study}
use Rattle.study_marks.specs.Annotated.{IsAnnotated}
use Rattle.study_html.specs.declared.element.Element.TheVariants.{Cell, Row}
use Rattle.study_html.specs.Escape.{escaped_text}
use Rattle.study_html.specs.Elements.{element_text}
use Rattle.study_report.specs.Remarks.{subject, statement}
use Rattle.study_report.specs.Reported.{Entry, study_entry, game_entry}
use Rattle.study_page.specs.Page.{IsRow}
use Rattle.study_print.specs.LeftOut.{explanation}
use Rattle.study_print.specs.declared.pages.EntryCount.{EntryCount}
use Rattle.study_print.specs.declared.pages.EntryCount.TheVariants.{Nothing, One, Several}

-- none, one, or more entries
abbrev pub count_of : List Entry → EntryCount
count_of [] = Nothing
count_of (x ∷ []) = One
count_of (x ∷ y ∷ more) = Several

-- why a game was left out, with what that means
abbrev pub left_out_words : List ℕ → List ℕ
left_out_words why = escaped_text why ++ explanation why

-- a game that was left out: its number, its place among the games in place of a title, and the reason in place of a verdict
unfoldable pub left_out_cells : ℕ → List ℕ → List ℕ
left_out_cells number line =
    element_text Cell (escaped_text (decimal number)) ++ (element_text Cell (escaped_text (subject line))
    ++ (element_text Cell [] ++ (element_text Cell [] ++ element_text Cell (left_out_words (statement line)))))

abbrev pub left_out_row : ℕ → List ℕ → List ℕ
left_out_row number line = element_text Row (left_out_cells number line)

-- the row of a study is that of its annotation
abbrev pub IsRowOf : Entry → List ℕ → Type 0
IsRowOf (study_entry plain info) row = (s : Study Mark) × (plain_study s ≡ plain) × IsAnnotated s × IsRow s info row
IsRowOf (game_entry line number) row = row ≡ left_out_row number line

-- a row for each entry, in order
abbrev pub AreRows : List Entry → List ℕ → Type 0
AreRows [] rows = rows ≡ []
AreRows (x ∷ more) rows = (row rest : List ℕ) × IsRowOf x row × AreRows more rest × (rows ≡ row ++ rest)

-- exactly these entries
abbrev pub AreEntries : EntryCount → List ℕ → List Entry → Type 0
AreEntries count rows entries = (count ≡ count_of entries) × AreRows entries rows
