-- A study as a record of comma-separated values (RFC 4180).
use Rattle.std.specs.Prelude.{◌≡◌, ℕ, ◌==◌, Bool, ◌||◌, List, [], ◌∷◌, ◌++◌, if◌then◌else◌, codes, decimal}
use Rattle.std.specs.List.{flat_map, list_any}
use Rattle.study_notation.specs.FenSpelling.{fen_text}
use Rattle.study_marks.specs.declared.mark.Mark.{Mark}
use Rattle.study_marks.specs.declared.tag.TagName.TheVariants.{Event, White}
use Rattle.study_marks.specs.Study.{Study, tag_of, plain_study}
use Rattle.study_marks.specs.Annotated.{IsAnnotated}
use Rattle.study_pgn.specs.Pgn.{stipulation_text}
use Rattle.study_head.specs.Known.{named_words}
use Rattle.study_entry.specs.declared.entry.EntryInfo.{EntryInfo}
use Rattle.study_entry.specs.declared.entry.Names.{Names}
use Rattle.study_head.specs.declared.solution.SolutionFacts.{SolutionFacts}
use Rattle.study_head.specs.declared.verdict.Stamp.{Stamp}
use Rattle.study_head.specs.Solution.{AreSolutionFacts}
use Rattle.study_head.specs.Verdict.{stamp_words, first_fault, entry_judgement}

-- a comma, a quotation mark or an end of line: a field with one of them stands in quotation marks
abbrev pub is_special : ℕ → Bool
is_special b = b == 44 || (b == 34 || (b == 13 || b == 10))

-- in quotation marks a quotation mark is written twice
abbrev pub quoted_byte : ℕ → List ℕ
quoted_byte b = if b == 34 then 34 ∷ 34 ∷ [] else b ∷ []

unfoldable pub quoted_text : List ℕ → List ℕ
quoted_text text = codes "\"" ++ (flat_map quoted_byte text ++ codes "\"")

abbrev pub field : List ℕ → List ℕ
field text = if list_any is_special text then quoted_text text else text

-- a field with the comma behind it
unfoldable pub column : List ℕ → List ℕ
column text = field text ++ codes ","

unfoldable pub head_record : List ℕ
head_record = codes "Number,Title,Author,FEN,Stipulation,Verdict,Worst dual\r\n"

-- title and author, if they are known, in their own letters as far as these are known
unfoldable pub names : Study Mark → Names → List ℕ
names s own = column (named_words own.event (tag_of s.tags Event)) ++ column (named_words own.white (tag_of s.tags White))

-- a verdict, and the worst dual
abbrev pub verdict_fields : Stamp → SolutionFacts → List ℕ
verdict_fields x facts = column (stamp_words x) ++ field (first_fault x facts)

-- its number, title and author, its start as FEN, the stipulation, the verdict, and the worst dual
unfoldable pub record_text : Study Mark → SolutionFacts → EntryInfo → List ℕ
record_text s facts entry =
    column (decimal entry.number) ++ (names s entry.origin.names ++ (column (fen_text s.start) ++ (column (stipulation_text s.stipulation)
    ++ (verdict_fields (entry_judgement s facts entry.origin.standing).stamp facts ++ codes "\r\n"))))

-- a refused line: its number and its text in place of a title, and the name of the refusal in place of a verdict
unfoldable pub refused_record : ℕ → List ℕ → List ℕ → List ℕ
refused_record number line name =
    codes "," ++ (column (codes "line " ++ (decimal number ++ (codes ": " ++ line))) ++ (codes ",,," ++ (column (codes "refused: " ++ name) ++ codes "\r\n")))

-- the record of an annotated study
abbrev pub IsRecord : Study Mark → EntryInfo → List ℕ → Type 0
IsRecord s entry text = (facts : SolutionFacts) × AreSolutionFacts s facts × (text ≡ record_text s facts entry)

-- the record of a plain study as this entry, whatever its marks are: the verdict on what was read to its end, and the worst dual, are left open
abbrev pub IsSomeRecordOf : Study (Unit {0}) → EntryInfo → List ℕ → Type 0
IsSomeRecordOf plain entry text = (s : Study Mark) × (plain_study s ≡ plain) × (facts : SolutionFacts) × (text ≡ record_text s facts entry)

-- the record of a plain study is that of its annotation
abbrev pub IsRecordOf : Study (Unit {0}) → EntryInfo → List ℕ → Type 0
IsRecordOf plain entry text = (s : Study Mark) × (plain_study s ≡ plain) × IsAnnotated s × IsRecord s entry text
