-- The report of the lines of a script.
use Rattle.std.specs.Prelude.{◌≡◌, ◌⊎◌, ℕ, suc, ◌+◌, Bool, true, false, List, [], ◌∷◌, ◌++◌, Option, Some, None, Ok, if◌then◌else◌}
use Rattle.study_board.specs.Position.{Position}
use Rattle.study_material.specs.declared.class.Class.{Class}
use Rattle.study_material.specs.Needs.{NeedsClass}
use Rattle.study_values.specs.declared.fault.SourceFault.{SourceFault}
use Rattle.study_values.specs.declared.values.ProbeFault.{ProbeFault}
use Rattle.study_values.specs.declared.values.ProbeFault.TheVariants.{NoTable, TableRead, PageDamaged}
use Rattle.study_marks.specs.Edits.{PlainStudy}
use Rattle.study_command.specs.Parser.{Asks, table_command, pgn, command_of}
use Rattle.study_reply.specs.declared.refusal.Refusal.{Refusal}
use Rattle.study_reply.specs.declared.refusal.Refusal.TheVariants.{NotAClass, OutOfMemory}
use Rattle.study_reply.specs.Names.{of_probe}
use Rattle.study_command.specs.Documents.{Document, empty, start, study}
use Rattle.study_script.specs.State.{State, Environment, is_among}
use Rattle.study_script.specs.Replies.{Reply, IsReplyIn, refused_reply, class_parsed}
use Rattle.study_report.specs.declared.line_kind.LineKind.{LineKind}
use Rattle.study_report.specs.declared.line_kind.LineKind.TheVariants.{Remark, PassedOver, NoClass, Study, Checked}
use Rattle.study_report.specs.declared.line_outcome.ReportPosition.{ReportPosition}
use Rattle.study_report.specs.declared.line_outcome.LineOutcome.{LineOutcome}
use Rattle.study_report.specs.declared.line_outcome.LineOutcome.TheVariants.{Nothing, Study as AStudy, LeftOut, NotRead, Try, Refusal as ARefusal}
use Rattle.study_report.specs.Remarks.{is_remark, is_left_out, remark_outcome}
use Rattle.study_report.specs.declared.unread_line.Unread.{Unread}
use Rattle.study_report.specs.Unread.{unread_after}
use Rattle.study_entry.specs.declared.entry.EntryInfo.{EntryInfo}

-- ---- the kinds of lines

abbrev pub class_kind : Option Class → LineKind
class_kind None = NoClass
class_kind (Some c) = PassedOver

-- a line of a table is skipped, or is refused if there is no such class; a `pgn` line reports a study
abbrev pub kind_in : Asks → LineKind
kind_in (Ok (Some (table_command word name))) = class_kind (class_parsed name)
kind_in (Ok (Some pgn)) = Study
kind_in _ = Checked

-- a comment that is a remark is shown
abbrev pub line_kind : List ℕ → LineKind
line_kind line = if is_remark line then Remark else kind_in (command_of line)

-- ---- what a line adds

-- Between two lines: the state of the script, the number of lines read, the number of entries, which are studies reported and games left out, and how
-- the study in the document stands, and the next one.
pub record Point : Type 0 where
  pub state : State
  pub lines : ℕ
  pub entries : ℕ
  pub unread : Unread

-- the place of the next line
abbrev pub IsAt : Point → ReportPosition → Type 0
IsAt p at = (at.line ≡ suc p.lines) × (at.entries ≡ p.entries) × (at.unread ≡ p.unread)

-- the study in the document as the last entry, and as the next one
abbrev pub last_entry : Point → EntryInfo
last_entry p = record { number = p.entries; origin = p.unread.own }

abbrev pub next_entry : Point → EntryInfo
next_entry p = record { number = suc p.entries; origin = p.unread.own }

abbrev pub entry_at : ReportPosition → EntryInfo
entry_at at = record { number = at.entries + 1; origin = at.unread.own }

-- the text that a line adds, the point after it, and what it reported
pub record Added : Type 0 where
  pub text : List ℕ
  pub after : Point
  pub reported : LineOutcome

-- a study that is reported is an entry, and so is a game that was left out
abbrev pub entry_count : LineOutcome → ℕ
entry_count Nothing = 0
entry_count AStudy = 1
entry_count LeftOut = 1
entry_count NotRead = 0
entry_count Try = 0
entry_count ARefusal = 0

abbrev pub refusal_count : LineOutcome → ℕ
refusal_count Nothing = 0
refusal_count AStudy = 0
refusal_count LeftOut = 0
refusal_count NotRead = 0
refusal_count Try = 0
refusal_count ARefusal = 1

-- the point after a line, with this state
abbrev pub point_behind : Point → List ℕ → LineOutcome → State → Point
point_behind p line reported s = record {
  state = s;
  lines = suc p.lines;
  entries = p.entries + entry_count reported;
  unread = unread_after p.unread (suc p.lines) line reported;
}

-- a further line, after which the script has this state
abbrev pub nothing_added : Point → List ℕ → State → Added
nothing_added p line s = record { text = []; after = point_behind p line Nothing s; reported = Nothing }

-- the study is reported, with the next number
abbrev pub study_added : Point → List ℕ → State → List ℕ → Added
study_added p line s text = record { text = text; after = point_behind p line AStudy s; reported = AStudy }

-- Why the value of a position that is reached cannot be read, given which classes are loaded, whether tables are read by pages, and how tables may fail:
-- there is no table for a class that the position needs, or tables are read by pages and one of such a class may fail this way.
abbrev pub IsValueFaultBy : (Class → Bool) → Bool → (Class → SourceFault → Type 0) → Position → ProbeFault → Type 0
IsValueFaultBy held paged may p (NoTable c) = (held c ≡ false) × NeedsClass p c
IsValueFaultBy held paged may p (TableRead f) = (paged ≡ true) × (c : Class) × NeedsClass p c × may c f
IsValueFaultBy held paged may p (PageDamaged c n) = ⊥

-- the same in this state of the script
abbrev pub IsValueFaultIn : State → Position → ProbeFault → Type 0
IsValueFaultIn s p fault = IsValueFaultBy (is_among s.classes) s.paged (λ c f. s.shelf.faults c f ≡ true) p fault

-- why a study is refused: want of memory, or a value reached from its start cannot be read
abbrev pub IsLeftOut : State → PlainStudy → Refusal → Type 0
IsLeftOut s plain why =
    (why ≡ OutOfMemory) ⊎ ((fault : ProbeFault) × IsValueFaultIn s plain.start.position fault × (why ≡ of_probe fault))

abbrev pub lacks_study : Document → Bool
lacks_study empty = true
lacks_study (start s) = true
lacks_study (study plain) = false

-- an entry of a report: a study with its number and its origin, or the remark of a game that was left out, with its number
pub data Entry : Type 0 where
  study_entry : PlainStudy → EntryInfo → Entry
  game_entry : List ℕ → ℕ → Entry

-- the study in a document as this entry, if there is one
abbrev pub studies_on : Document → EntryInfo → List Entry
studies_on empty info = []
studies_on (start s) info = []
studies_on (study plain) info = study_entry plain info ∷ []

-- the game that was left out, as the entry with this number, if the line is its remark
abbrev pub games_in : ℕ → List ℕ → List Entry
games_in number line = if is_left_out line then game_entry line number ∷ [] else []

-- the study that a line reported, if it is in this document, or the game that was left out
abbrev pub listed_in : List ℕ → LineOutcome → Document → EntryInfo → List Entry
listed_in line Nothing document info = []
listed_in line AStudy document info = studies_on document info
listed_in line LeftOut document info = game_entry line info.number ∷ []
listed_in line NotRead document info = []
listed_in line Try document info = []
listed_in line ARefusal document info = []

-- the entries of lines, in their order
abbrev pub entries_in : List (List ℕ) → List Added → List Entry
entries_in [] added = []
entries_in (line ∷ lines) [] = []
entries_in (line ∷ lines) (a ∷ more) = listed_in line a.reported a.after.state.document (last_entry a.after) ++ entries_in lines more

module _ (tells : PlainStudy → EntryInfo → List ℕ → Type 0) (refusal : ℕ → List ℕ → List ℕ → List ℕ) (remark : ℕ → List ℕ → List ℕ) where
  -- the line is refused: it is no entry
  abbrev pub refusal_added : Point → List ℕ → Reply → Added
  refusal_added p line reply = record {
    text = refusal (suc p.lines) line reply.text;
    after = point_behind p line ARefusal reply.state;
    reported = ARefusal;
  }

  -- the remark is shown; a game that was left out is the next entry
  abbrev pub remark_added : Point → List ℕ → Added
  remark_added p line = record {
    text = remark (suc p.entries) line;
    after = point_behind p line (remark_outcome line) p.state;
    reported = remark_outcome line;
  }

  -- the study of the state is reported, or the line is refused
  abbrev pub IsStudyReported : Point → State → List ℕ → Added → Type 0
  IsStudyReported p s line added =
      ((plain : PlainStudy) × (text : List ℕ) × (s.document ≡ study plain) × tells plain (next_entry p) text × (added ≡ study_added p line s text))
      ⊎ ((plain : PlainStudy) × (why : Refusal) × (s.document ≡ study plain) × IsLeftOut s plain why × (added ≡ refusal_added p line (refused_reply s why)))

  -- after the script's reply to a `pgn` line, and to another line that is answered
  abbrev pub IsPgnAfter : Point → List ℕ → Reply → Bool → Added → Type 0
  IsPgnAfter p line reply true added = added ≡ refusal_added p line reply
  IsPgnAfter p line reply false added = IsStudyReported p reply.state line added

  abbrev pub IsCheckedAfter : Point → List ℕ → Reply → Bool → Added → Type 0
  IsCheckedAfter p line reply true added = added ≡ refusal_added p line reply
  IsCheckedAfter p line reply false added = added ≡ nothing_added p line reply.state

  -- by its kind; a report keeps studies apart, so that no line after a refused `position` edits the study before
  abbrev pub IsAddedAs : LineKind → Point → List ℕ → Added → Type 0
  IsAddedAs Remark p line added = added ≡ remark_added p line
  IsAddedAs PassedOver p line added = added ≡ nothing_added p line p.state
  IsAddedAs NoClass p line added = added ≡ refusal_added p line (refused_reply p.state NotAClass)
  IsAddedAs Study p line added =
      (o : Environment) × (reply : Reply) × IsReplyIn true p.state line o reply × IsPgnAfter p line reply reply.refused added
  IsAddedAs Checked p line added =
      (o : Environment) × (reply : Reply) × IsReplyIn true p.state line o reply × IsCheckedAfter p line reply reply.refused added

  -- what a line adds
  abbrev pub IsAdded : Point → List ℕ → Added → Type 0
  IsAdded p line added = IsAddedAs (line_kind line) p line added
