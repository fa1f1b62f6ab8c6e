-- Refused lines, and the list of all entries.
use Rattle.std.specs.Prelude.{ℕ, ◌==◌, List, [], ◌++◌, length, if◌then◌else◌, codes, decimal}
use Rattle.study_marks.specs.declared.mark.Mark.{Mark}
use Rattle.study_marks.specs.declared.tag.TagName.TheVariants.{Event, White}
use Rattle.study_marks.specs.Study.{Study, tag_of}
use Rattle.study_pgn.specs.Pgn.{stipulation_text}
use Rattle.study_html.specs.declared.element.Element.TheVariants.{Cell, Code, Head, Heads, Header, Link, Row, Rows, Small, Strong, Summary, Table, Title}
use Rattle.study_html.specs.declared.element.Element.TheVariants.{Warning}
use Rattle.study_html.specs.Escape.{escaped_text, lettered_text}
use Rattle.study_html.specs.Elements.{element_text}
use Rattle.study_head.specs.Known.{named_words}
use Rattle.study_head.specs.Head.{title_words}
use Rattle.study_entry.specs.declared.entry.EntryInfo.{EntryInfo}
use Rattle.study_html.specs.declared.drawing.Drawing.TheVariants.{Break}
use Rattle.study_html.specs.Drawings.{drawing_text}
use Rattle.study_head.specs.declared.solution.SolutionFacts.{SolutionFacts}
use Rattle.study_head.specs.declared.verdict.Stamp.{Stamp}
use Rattle.study_head.specs.Verdict.{stamp_words, first_fault, entry_judgement}

-- what is said of a refused line
unfoldable pub refusal_words : ℕ → List ℕ → List ℕ → List ℕ → List ℕ
refusal_words line text name reason =
    escaped_text (codes "Line " ++ (decimal line ++ codes " was refused: "))
    ++ (element_text Code (escaped_text text) ++ (escaped_text (codes " ")
    ++ (element_text Strong (escaped_text name) ++ (escaped_text (codes ": ") ++ escaped_text reason))))

-- a refused line: its number, its text, the name of the refusal, and the reason in words
abbrev pub refusal_part : ℕ → List ℕ → List ℕ → List ℕ → List ℕ
refusal_part line text name reason = element_text Warning (refusal_words line text name reason)

-- the worst dual below a verdict, if there is one
abbrev pub fault_note : List ℕ → List ℕ
fault_note words = if length words == 0 then [] else (drawing_text Break ++ element_text Small (escaped_text words))

-- a verdict, and below it the worst dual
unfoldable pub verdict_cell : Stamp → SolutionFacts → List ℕ
verdict_cell x facts = element_text Cell (escaped_text (stamp_words x) ++ fault_note (first_fault x facts))

-- an entry: its number, its title, which leads to its page, its author, what is asked for, and the verdict
unfoldable pub summary_row : Study Mark → SolutionFacts → EntryInfo → List ℕ
summary_row s facts entry =
    element_text Row (element_text Cell (escaped_text (decimal entry.number))
    ++ (element_text Cell (element_text (Link entry.number) (lettered_text (title_words (named_words entry.origin.names.event (tag_of s.tags Event)))))
    ++ (element_text Cell (lettered_text (named_words entry.origin.names.white (tag_of s.tags White)))
    ++ (element_text Cell (escaped_text (stipulation_text s.stipulation))
    ++ verdict_cell (entry_judgement s facts entry.origin.standing).stamp facts))))

unfoldable pub two_heads : List ℕ → List ℕ → List ℕ
two_heads a b = element_text Head (escaped_text a) ++ element_text Head (escaped_text b)

unfoldable pub three_heads : List ℕ → List ℕ → List ℕ → List ℕ
three_heads a b c = element_text Head (escaped_text a) ++ (element_text Head (escaped_text b) ++ element_text Head (escaped_text c))

abbrev pub summary_heads : List ℕ
summary_heads =
    element_text Heads (element_text Row (two_heads (codes "No.") (codes "Title") ++ three_heads (codes "Author") (codes "Stipulation") (codes "Verdict")))

unfoldable pub summary_title : List ℕ
summary_title = element_text Header (element_text Title (escaped_text (codes "Entries and verdicts")))

-- the page with these entries
abbrev pub summary_part : List ℕ → List ℕ
summary_part rows = element_text Summary (summary_title ++ element_text Table (summary_heads ++ element_text Rows rows))
