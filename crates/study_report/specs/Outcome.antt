-- The outcome of a report over a script.
use Rattle.std.specs.Prelude.{◌≡◌, ℕ, Bool, true, None, ◌+◌, ◌-◌, ◌<◌, ◌≤◌, List, [], ◌∷◌, length, take, drop}
use Rattle.std.specs.Prelude.{slice_get, Option, Some, Result, Ok, Err, sum_by, IsSomeAnd}
use Rattle.std.specs.List.{flat_map}
use Rattle.std.specs.Io.KnownBytes.{Appends}
use Rattle.study_text.specs.Taken.{TakesPrefix}
use Rattle.study_marks.specs.Edits.{PlainStudy}
use Rattle.study_command.specs.Lines.{script_lines, GaveFeeds}
use Rattle.study_script.specs.declared.running.Summary.{Summary}
use Rattle.study_script.specs.declared.running.RunFault.{RunFault}
use Rattle.study_script.specs.declared.running.RunFault.TheVariants.{ReadDevice, WriteDevice, LineTooLong, TooManyLines, OutOfMemory}
use Rattle.study_command.specs.Documents.{empty}
use Rattle.study_script.specs.State.{State}
use Rattle.study_material.specs.declared.class.Class.{Class}
use Rattle.study_script.specs.Outcome.{AreShort, AreLeft, Shape as ScriptShape}
use Rattle.study_entry.specs.declared.entry.EntryInfo.{EntryInfo}
use Rattle.study_report.specs.Unread.{none_unread}
use Rattle.study_report.specs.Reported.{Point, Added, IsAdded, refusal_count, Entry, entries_in}

-- no study and no start; the tables of these classes are loaded and may fail in any way; nothing is known of files
abbrev pub over_tables : List Class → Bool → State
over_tables classes paged = record {
  document = empty;
  classes = classes;
  paged = paged;
  shelf = record { files = λ c. None; headers = λ c. None; faults = λ c f. true };
}

-- before the first line: no line was read or refused, and there is no entry
abbrev pub start_point : State → Point
start_point s = record { state = s; lines = 0; entries = 0; unread = none_unread }

-- the texts of the lines, one after the other
abbrev pub report_text : List Added → List ℕ
report_text added = flat_map (λ a. a.text) added

-- the number of refused lines
abbrev pub refusals : List Added → ℕ
refusals added = sum_by (λ a. refusal_count a.reported) added

-- the point of a report after these lines
abbrev pub point_after : Point → List Added → Point
point_after p [] = p
point_after p (a ∷ more) = point_after a.after more

module _ (tells : PlainStudy → EntryInfo → List ℕ → Type 0) (refusal : ℕ → List ℕ → List ℕ → List ℕ) (remark : ℕ → List ℕ → List ℕ) where
  -- the additions of lines, one for each; each line starts at the point after the one before it
  abbrev pub AreAdded : Point → List (List ℕ) → List Added → Type 0
  AreAdded p [] [] = Unit {0}
  AreAdded p [] (a ∷ more) = ⊥
  AreAdded p (line ∷ lines) [] = ⊥
  AreAdded p (line ∷ lines) (a ∷ more) = IsAdded tells refusal remark p line a × AreAdded a.after lines more

  -- the text of the lines is written
  abbrev pub AreReported : Point → List (List ℕ) → Option (List ℕ) → Option (List ℕ) → Type 0
  AreReported p lines old new = AreShort lines × (added : List Added) × AreAdded p lines added × Appends old new (report_text added)

  -- the text of the lines is written, and then a proper prefix of the text of one line more
  abbrev pub AreBrokenOff : Point → List (List ℕ) → List ℕ → Option (List ℕ) → Option (List ℕ) → Type 0
  AreBrokenOff p lines line old new =
      AreShort lines × (length line ≤ 1024) × (added : List Added) × AreAdded p lines added
      × (mid : Option (List ℕ)) × Appends old mid (report_text added)
      × (a : Added) × IsAdded tells refusal remark (point_after p added) line a × TakesPrefix mid new a.text

  -- the text of all lines of a script is written, and this holds of the state after them
  abbrev pub IsFollowed : State → List ℕ → Option (List ℕ) → Option (List ℕ) → (State → Type 0) → Type 0
  IsFollowed first script old new HoldsIt = (added : List Added) × AreAdded (start_point first) (script_lines script) added
      × Appends old new (report_text added) × HoldsIt (point_after (start_point first) added).state

  -- the text of all lines of a script is written, and this is true of their entries
  abbrev pub AreListed : State → List ℕ → Option (List ℕ) → Option (List ℕ) → (List Entry → Type 0) → Type 0
  AreListed first script old new Lists = (added : List Added) × AreAdded (start_point first) (script_lines script) added
      × Appends old new (report_text added) × Lists (entries_in (script_lines script) added)

  -- the text of the first n lines is written, and the run stopped for this fault after them; if the writer failed, a prefix of the text of the next line
  -- is written too
  abbrev pub StoppedAfter : Point → List (List ℕ) → ℕ → List Added → Option (List ℕ) → Option (List ℕ) → RunFault → Type 0
  StoppedAfter p lines n added old new WriteDevice =
      (mid : Option (List ℕ)) × Appends old mid (report_text added)
      × IsSomeAnd (slice_get lines n) (λ line. (a : Added) × IsAdded tells refusal remark (point_after p added) line a × TakesPrefix mid new a.text)
  StoppedAfter p lines n added old new (LineTooLong k) = (k ≡ n + 1) × Appends old new (report_text added)
  StoppedAfter p lines n added old new TooManyLines = (n ≡ 100000) × Appends old new (report_text added)
  StoppedAfter p lines n added old new fault = Appends old new (report_text added)

  -- after a run that stopped for this fault: this is true of the entries of the lines before the stop
  abbrev pub AreListedBefore : State → List ℕ → Option (List ℕ) → Option (List ℕ) → (List Entry → Type 0) → RunFault → Type 0
  AreListedBefore first script old new Lists fault = (n : ℕ) × (n ≤ length (script_lines script)) × (added : List Added)
      × AreAdded (start_point first) (take n (script_lines script)) added
      × StoppedAfter (start_point first) (script_lines script) n added old new fault × Lists (entries_in (take n (script_lines script)) added)

  -- the state at the beginning, the bytes of a script, what the reader has left of them, what the writer had and has, and the result
  abbrev pub Outcome : State → List ℕ → Option (List ℕ) → Option (List ℕ) → Option (List ℕ) → Result Summary RunFault → Type 0
  Outcome first script left old new (Ok summary) =
      (length (script_lines script) ≤ 100000) × AreShort (script_lines script)
      × (added : List Added) × AreAdded (start_point first) (script_lines script) added × Appends old new (report_text added)
      × (summary.lines ≡ length (script_lines script)) × (summary.refused ≡ refusals added)
  -- exactly the lines whose ends were read are reported
  Outcome first script left old new (Err ReadDevice) = (n : ℕ) × (n ≤ 100000) × (n ≤ length (script_lines script))
      × GaveFeeds (Some script) left n
      × (rest : List ℕ) × (drop n (script_lines script) ≡ script_lines rest) × GaveFeeds (Some rest) left 0
      × AreReported (start_point first) (take n (script_lines script)) old new
  -- if the writer failed, the lines after the one whose text it broke off are left
  Outcome first script left old new (Err WriteDevice) =
      (n : ℕ) × (n < 100000) × GaveFeeds (Some script) left (n + 1) × AreLeft left (drop (n + 1) (script_lines script))
      × IsSomeAnd (slice_get (script_lines script) n) (λ line. AreBrokenOff (start_point first) (take n (script_lines script)) line old new)
  Outcome first script left old new (Err (LineTooLong n)) = (0 < n) × (n ≤ 100000)
      × IsSomeAnd (slice_get (script_lines script) (n - 1)) (λ line. 1024 < length line)
      × AreReported (start_point first) (take (n - 1) (script_lines script)) old new
  Outcome first script left old new (Err TooManyLines) =
      (100000 < length (script_lines script)) × AreReported (start_point first) (take 100000 (script_lines script)) old new
  -- nothing is written for the line for which there is no memory
  Outcome first script left old new (Err OutOfMemory) = (n : ℕ) × (n ≤ 100000) × (n ≤ length (script_lines script))
      × AreReported (start_point first) (take n (script_lines script)) old new

-- The same without what is reported, whatever the state: the bytes of a script, what the reader has left of them, and the result. Memory may fail at any
-- line.
abbrev pub Shape : List ℕ → Option (List ℕ) → Result Summary RunFault → Type 0
Shape script left (Ok summary) = ScriptShape script left (Ok summary)
Shape script left (Err ReadDevice) = ScriptShape script left (Err ReadDevice)
Shape script left (Err WriteDevice) = ScriptShape script left (Err WriteDevice)
Shape script left (Err (LineTooLong n)) = ScriptShape script left (Err (LineTooLong n))
Shape script left (Err TooManyLines) = ScriptShape script left (Err TooManyLines)
Shape script left (Err OutOfMemory) = (n : ℕ) × (n ≤ 100000) × (n ≤ length (script_lines script)) × AreShort (take n (script_lines script))
