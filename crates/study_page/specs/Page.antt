-- The page of a study.
use Rattle.std.specs.Prelude.{◌≡◌, ◌==◌, ℕ, not, ◌||◌, List, [], ◌++◌, length, if◌then◌else◌, codes, decimal}
use Rattle.study_marks.specs.declared.mark.Mark.{Mark}
use Rattle.study_marks.specs.Study.{Study, plain_study}
use Rattle.study_marks.specs.Annotated.{IsAnnotated}
use Rattle.study_facts.specs.Order.{LinesOfEach, written_order}
use Rattle.study_html.specs.declared.element.Element.TheVariants as element
use Rattle.study_html.specs.Escape.{escaped_text}
use Rattle.study_html.specs.Elements.{element_text}
use Rattle.study_html.specs.Markup.{IsWellNested}
use Rattle.study_head.specs.Head.{head, figure}
use Rattle.study_entry.specs.declared.entry.EntryInfo.{EntryInfo}
use Rattle.study_entry.specs.declared.entry.Names.{Names}
use Rattle.study_head.specs.declared.solution.SolutionFacts.{SolutionFacts}
use Rattle.study_head.specs.declared.verdict.Judgement.{Judgement}
use Rattle.study_head.specs.declared.verdict.Stamp.{Stamp}
use Rattle.study_head.specs.Solution.{AreSolutionFacts}
use Rattle.study_head.specs.Verdict.{entry_judgement}
use Rattle.study_page.specs.Verdict.{shows_duals, verdict_part}
use Rattle.study_page.specs.Tree.{solution_words}
use Rattle.study_page.specs.Lists.{summary_row, three_heads}
use Rattle.study_page.specs.Rows.{FaultItems, Cards, TryRows, ZugzwangRows, DefenceRows, EndRows}

-- what a part has of the root and of all nodes, in written order, by what it has of each
abbrev pub AreRows : (Study Mark → List ℕ → List ℕ → Type 0) → Study Mark → List ℕ → Type 0
AreRows Rows s rows = LinesOfEach (Rows s) (written_order s) rows

-- ---- how it is laid out

-- the heads of three columns
unfoldable pub heads : List ℕ → List ℕ → List ℕ → List ℕ
heads a b c = element_text element.Heads (element_text element.Row (three_heads a b c))

-- a table under a heading
unfoldable pub full_table : List ℕ → List ℕ → List ℕ → List ℕ
full_table heading head rows = element_text element.Part (element_text element.Heading (escaped_text heading)
    ++ element_text element.Table (head ++ element_text element.Rows rows))

-- where there are rows
abbrev pub table_part : List ℕ → List ℕ → List ℕ → List ℕ
table_part heading head rows = if length rows == 0 then [] else full_table heading head rows

unfoldable pub duals_title : List ℕ
duals_title = codes "Duals: other moves that also work"

unfoldable pub duals_note : List ℕ
duals_note = codes "A move wastes time if the opponent can force the play back into the same line; if that takes him more than one move, their number is given."

unfoldable pub full_cards : List ℕ → List ℕ
full_cards cards =
    element_text element.Part (element_text element.Heading (escaped_text duals_title)
    ++ (element_text element.Note (escaped_text duals_note) ++ element_text element.Cards cards))

abbrev pub cards_part : Stamp → List ℕ → List ℕ
cards_part x cards = if not (shows_duals x) || (length cards == 0) then [] else full_cards cards

unfoldable pub solution_part : List ℕ → List ℕ
solution_part tree = element_text element.Part (element_text element.Heading (escaped_text (codes "Solution")) ++ element_text element.Tree tree)

unfoldable pub foot_words : List ℕ
foot_words =
    codes "Values come from complete distance-to-mate tables for two to four men, without castling, the fifty-move rule and repetition. "
    ++ (codes "A dual is another move that also wins, or draws if the task is to draw, even if it only wastes time. "
    ++ codes "A small number is the number of moves to mate; with a minus sign, the side that has the task is mated; = is a draw, and # is mate.")

unfoldable pub tries_title : List ℕ
tries_title = codes "Tries and their refutations"

unfoldable pub zugzwangs_title : List ℕ
zugzwangs_title = codes "Mutual zugzwangs"

unfoldable pub missing_title : List ℕ
missing_title = codes "Defences not given"

unfoldable pub ends_title : List ℕ
ends_title = codes "Best play after the last move given"

unfoldable pub missing_table : List ℕ → List ℕ
missing_table defences = table_part missing_title (heads (codes "After") (codes "Main defences") (codes "Others")) defences

-- of the positions that are left
unfoldable pub last_tables : List ℕ → List ℕ → List ℕ
last_tables defences ends =
    missing_table defences
    ++ table_part ends_title (heads (codes "After") (codes "Value") (codes "Continuation")) ends

unfoldable pub tables : List ℕ → List ℕ → List ℕ → List ℕ → List ℕ
tables tries zugzwangs defences ends =
    table_part tries_title (heads (codes "After") (codes "Result") (codes "Refuted by")) tries
    ++ (table_part zugzwangs_title (heads (codes "After") (codes "White to move") (codes "Black to move")) zugzwangs
    ++ last_tables defences ends)

-- the diagram and the verdict, side by side
unfoldable pub top : Study Mark → Judgement → List ℕ → List ℕ
top s j faults = element_text element.Top (figure s.stipulation s.start ++ verdict_part j faults)

unfoldable pub content : Study Mark → Names → Judgement → List ℕ → List ℕ → List ℕ → List ℕ → List ℕ → List ℕ → List ℕ
content s names j faults duals tries zugzwangs defences ends =
    head names s.tags ++ (top s j faults ++ (solution_part (solution_words s) ++ (cards_part j.stamp duals
    ++ (tables tries zugzwangs defences ends ++ element_text element.Foot (escaped_text foot_words)))))

-- `No. 6`
unfoldable pub number_part : ℕ → List ℕ
number_part number = element_text element.Note (escaped_text (codes "No. " ++ decimal number))

unfoldable pub entry_content : Study Mark → EntryInfo → Judgement → List ℕ → List ℕ → List ℕ → List ℕ → List ℕ → List ℕ → List ℕ
entry_content s entry j faults duals tries zugzwangs defences ends =
    number_part entry.number ++ content s entry.origin.names j faults duals tries zugzwangs defences ends

abbrev pub page_text : Study Mark → EntryInfo → SolutionFacts → List ℕ → List ℕ → List ℕ → List ℕ → List ℕ → List ℕ → List ℕ
page_text s entry facts faults duals tries zugzwangs defences ends =
    element_text (element.Entry entry.number)
    (entry_content s entry (entry_judgement s facts entry.origin.standing) faults duals tries zugzwangs defences ends)

-- ---- what it says

-- The page of an annotated study, as this entry: its number, head, diagram and verdict, the tree of the solution, and then part by
-- part what each has of the nodes.
abbrev pub IsPage : Study Mark → EntryInfo → List ℕ → Type 0
IsPage s entry text =
    (faults duals tries zugzwangs defences ends : List ℕ) × (facts : SolutionFacts)
    × AreRows FaultItems s faults
    × AreSolutionFacts s facts
    × AreRows Cards s duals
    × AreRows TryRows s tries
    × AreRows ZugzwangRows s zugzwangs
    × AreRows DefenceRows s defences
    × AreRows EndRows s ends
    × (text ≡ page_text s entry facts faults duals tries zugzwangs defences ends)

-- the row of an annotated study in the list of all
abbrev pub IsRow : Study Mark → EntryInfo → List ℕ → Type 0
IsRow s entry row = (facts : SolutionFacts) × AreSolutionFacts s facts × (row ≡ summary_row s facts entry)

-- each page is one element, the entry of its number, with markup inside it that is well nested, whatever the values are
abbrev pub IsEntry : ℕ → List ℕ → Type 0
IsEntry number text = (content : List ℕ) × IsWellNested content × (text ≡ element_text (element.Entry number) content)

-- the page of a plain study is that of its annotation
abbrev pub IsPageOf : Study (Unit {0}) → EntryInfo → List ℕ → Type 0
IsPageOf plain entry text = (s : Study Mark) × (plain_study s ≡ plain) × IsAnnotated s × IsPage s entry text

-- an annotated study has one page as an entry
abbrev pub PagesAreUnique : Type 0
PagesAreUnique = (s : Study Mark) (entry : EntryInfo) (t u : List ℕ) → IsPage s entry t → IsPage s entry u → t ≡ u

-- so has a plain study
abbrev pub PlainStudiesHaveOnePage : Type 0
PlainStudiesHaveOnePage = (plain : Study (Unit {0})) (entry : EntryInfo) (t u : List ℕ) → IsPageOf plain entry t → IsPageOf plain entry u → t ≡ u
