-- What a report writes, whatever the state and its tables.
use Rattle.std.specs.Prelude.{◌≡◌, ◌⊎◌, ℕ, suc, ◌+◌, ◌-◌, ◌≤◌, Bool, List, [], ◌∷◌, length, take}
use Rattle.std.specs.Prelude.{Option, Some, Result, Ok, Err, sum_by, if◌then◌else◌}
use Rattle.std.specs.List.{flat_map}
use Rattle.std.specs.Io.KnownBytes.{Appends}
use Rattle.study_marks.specs.Edits.{PlainStudy}
use Rattle.study_command.specs.Documents.{Document, empty, study, IsAfterLine}
use Rattle.study_command.specs.Lines.{script_lines, GaveFeeds}
use Rattle.study_command.specs.Parser.{command_of}
use Rattle.study_reply.specs.declared.refusal.Refusal.TheVariants.{NotAClass}
use Rattle.study_reply.specs.Names.{words_of}
use Rattle.study_script.specs.declared.running.Summary.{Summary}
use Rattle.study_script.specs.declared.running.RunFault.{RunFault}
use Rattle.study_script.specs.declared.running.RunFault.TheVariants.{ReadDevice, WriteDevice, LineTooLong, TooManyLines, OutOfMemory}
use Rattle.study_script.specs.Replies.{begins_position}
use Rattle.study_script.specs.Written.{Piece, IsPiece, error_of}
use Rattle.study_report.specs.declared.line_kind.LineKind.{LineKind}
use Rattle.study_report.specs.declared.line_kind.LineKind.TheVariants.{Remark, PassedOver, NoClass, Study, Checked}
use Rattle.study_report.specs.declared.line_outcome.LineOutcome.{LineOutcome}
use Rattle.study_report.specs.declared.line_outcome.LineOutcome.TheVariants.{Nothing, Study as AStudy, LeftOut, NotRead, Try, Refusal as ARefusal}
use Rattle.study_report.specs.Remarks.{remark_outcome}
use Rattle.study_entry.specs.declared.entry.EntryInfo.{EntryInfo}
use Rattle.study_report.specs.declared.unread_line.Unread.{Unread}
use Rattle.study_report.specs.Unread.{none_unread, unread_after}
use Rattle.study_report.specs.Reported.{line_kind, entry_count, refusal_count}

-- the text written for a line, and what the line reports
pub record Part : Type 0 where
  pub text : List ℕ
  pub reported : LineOutcome

abbrev pub nothing_part : Part
nothing_part = record { text = []; reported = Nothing }

abbrev pub study_part : List ℕ → Part
study_part text = record { text = text; reported = AStudy }

abbrev pub parts_text : List Part → List ℕ
parts_text parts = flat_map (λ part. part.text) parts

-- the numbers of entries and of refused lines
abbrev pub part_entries : List Part → ℕ
part_entries parts = sum_by (λ part. entry_count part.reported) parts

abbrev pub part_refusals : List Part → ℕ
part_refusals parts = sum_by (λ part. refusal_count part.reported) parts

-- a part with the property is written, and this was reported
abbrev pub WritesPart : (Part → Type 0) → Option (List ℕ) → Option (List ℕ) → LineOutcome → Type 0
WritesPart IsIt old new reported = (part : Part) × IsIt part × Appends old new part.text × (reported ≡ part.reported)

-- The document after a line that reported this: an accepted edit makes that of the rules; a refused line leaves the document, but after a refused `position`
-- there is none. Lines that are not answered leave it.
abbrev pub IsNextAs : LineKind → Document → List ℕ → LineOutcome → Document → Type 0
IsNextAs Checked here line ARefusal next = next ≡ (if begins_position line then empty else here)
IsNextAs Checked here line Nothing next = IsAfterLine here (command_of line) next
IsNextAs Checked here line AStudy next = ⊥
IsNextAs Checked here line LeftOut next = ⊥
IsNextAs Checked here line NotRead next = ⊥
IsNextAs Checked here line Try next = ⊥
IsNextAs Remark here line reported next = next ≡ here
IsNextAs PassedOver here line reported next = next ≡ here
IsNextAs NoClass here line reported next = next ≡ here
IsNextAs Study here line reported next = next ≡ here

abbrev pub IsNext : Document → List ℕ → LineOutcome → Document → Type 0
IsNext here line reported next = IsNextAs (line_kind line) here line reported next

-- the reply of a script to a line
abbrev pub IsReplyPiece : List ℕ → List ℕ → Bool → Type 0
IsReplyPiece line bytes was_refused = (piece : Piece) × IsPiece line piece × (bytes ≡ piece.text) × (was_refused ≡ piece.refused)

module _ (form : PlainStudy → EntryInfo → List ℕ → Type 0) (refusal : ℕ → List ℕ → List ℕ → List ℕ) (remark : ℕ → List ℕ → List ℕ) where
  abbrev pub refused_part : ℕ → List ℕ → List ℕ → Part
  refused_part number line reply = record { text = refusal number line reply; reported = ARefusal }

  abbrev pub remark_part : ℕ → List ℕ → Part
  remark_part next line = record { text = remark next line; reported = remark_outcome line }

  -- an empty text if the script's reply is not an error
  abbrev pub checked_part : ℕ → List ℕ → Piece → Part
  checked_part number line piece = if piece.refused then refused_part number line piece.text else nothing_part

  -- The text for a line of this number, if the study in the document would be this entry, and the document before the line is this one: a `pgn` line
  -- reports the study in the document, in the report's form, or is refused; a remark is shown; any other line reports nothing, or is refused.
  abbrev pub IsPartAs : LineKind → ℕ → EntryInfo → Document → List ℕ → Part → Type 0
  IsPartAs Remark number next here line part = part ≡ remark_part next.number line
  IsPartAs PassedOver number next here line part = part ≡ nothing_part
  IsPartAs NoClass number next here line part = part ≡ refused_part number line (error_of (words_of NotAClass)).text
  IsPartAs Study number next here line part =
      ((words : List ℕ) × (part ≡ refused_part number line (error_of words).text))
      ⊎ ((plain : PlainStudy) × (text : List ℕ) × (here ≡ study plain) × form plain next text × (part ≡ study_part text))
  IsPartAs Checked number next here line part = (piece : Piece) × IsPiece line piece × (part ≡ checked_part number line piece)

  abbrev pub IsPart : ℕ → EntryInfo → Document → List ℕ → Part → Type 0
  IsPart number next here line part = IsPartAs (line_kind line) number next here line part

  -- a part for each line, after so many lines and entries, if studies stand so before the first line, and the documents before it and after the last
  abbrev pub AreParts : ℕ → ℕ → Unread → Document → List (List ℕ) → List Part → Document → Type 0
  AreParts lines entries unread here [] [] there = there ≡ here
  AreParts lines entries unread here [] (part ∷ parts) there = ⊥
  AreParts lines entries unread here (line ∷ more) [] there = ⊥
  AreParts lines entries unread here (line ∷ more) (part ∷ parts) there =
      IsPart (suc lines) (record { number = suc entries; origin = unread.own }) here line part
      × ((next : Document) × IsNext here line part.reported next
      × AreParts (suc lines) (entries + entry_count part.reported) (unread_after unread (suc lines) line part.reported) next more parts there)

  -- a part for each of these lines is written, after this document, and so many of them are refusals
  abbrev pub AreWritten : Document → List (List ℕ) → Option (List ℕ) → Option (List ℕ) → ℕ → Type 0
  AreWritten first lines old new count =
      (parts : List Part) × (last : Document) × AreParts 0 0 none_unread first lines parts last
      × Appends old new (parts_text parts) × (count ≡ part_refusals parts)

  -- What a report wrote, given the document at the beginning, the bytes of its script, what the reader has left of them, what the writer had and has, and
  -- the result: a part for each line that it read, with as many refusals as it counts. So the result counts no refusal exactly if none was written. If it
  -- stopped for the writer or for memory, what it wrote is left open here.
  abbrev pub Fits : Document → List ℕ → Option (List ℕ) → Option (List ℕ) → Option (List ℕ) → Result Summary RunFault → Type 0
  Fits first script left old new (Ok summary) = AreWritten first (script_lines script) old new summary.refused
  Fits first script left old new (Err ReadDevice) =
      (n : ℕ) × (n ≤ length (script_lines script)) × GaveFeeds (Some script) left n
      × (count : ℕ) × AreWritten first (take n (script_lines script)) old new count
  Fits first script left old new (Err (LineTooLong n)) = (count : ℕ) × AreWritten first (take (n - 1) (script_lines script)) old new count
  Fits first script left old new (Err TooManyLines) = (count : ℕ) × AreWritten first (take 100000 (script_lines script)) old new count
  Fits first script left old new (Err WriteDevice) = Unit {0}
  Fits first script left old new (Err OutOfMemory) = Unit {0}
