-- The effect of a line.
use Rattle.std.specs.Prelude.{◌≡◌, ℕ, Bool, true, false, List, Option}
use Rattle.std.specs.Io.KnownBytes.{Appends}
use Rattle.study_text.specs.Taken.{TakesPrefix}
use Rattle.study_material.specs.declared.class.Class.{Class}
use Rattle.study_marks.specs.Edits.{PlainStudy}
use Rattle.study_script.specs.declared.running.RunFault.{RunFault}
use Rattle.study_script.specs.declared.running.RunFault.TheVariants.{WriteDevice, OutOfMemory}
use Rattle.study_command.specs.Documents.{Document, empty, start, study}
use Rattle.study_script.specs.State.{State, Environment}
use Rattle.study_script.specs.Replies.{Reply, IsReplyIn}
use Rattle.study_report.specs.declared.line_outcome.LineOutcome.{LineOutcome}
use Rattle.study_entry.specs.declared.entry.EntryInfo.{EntryInfo}
use Rattle.study_report.specs.Reported.{Added}

-- no class's file has to be right, since a report opens none
abbrev pub none_trusted : Class → Bool
none_trusted c = false

-- a line with the property added its text, the state after it is its state, and this was reported
abbrev pub Adds : (Added → Type 0) → (State → Type 0) → Option (List ℕ) → Option (List ℕ) → LineOutcome → Type 0
Adds IsIt HoldsIt old new reported = (added : Added) × IsIt added × Appends old new added.text × HoldsIt added.after.state × (reported ≡ added.reported)

-- the run stops within the text: the writer failed and took a prefix of it, or there is no memory and nothing is written
abbrev pub StopsIn : List ℕ → Option (List ℕ) → Option (List ℕ) → RunFault → Type 0
StopsIn text old new WriteDevice = TakesPrefix old new text
StopsIn text old new OutOfMemory = new ≡ old
StopsIn text old new _ = ⊥

-- the run stops within the text of a line with the property
abbrev pub Stops : (Added → Type 0) → Option (List ℕ) → Option (List ℕ) → RunFault → Type 0
Stops IsIt old new WriteDevice = (added : Added) × IsIt added × TakesPrefix old new added.text
Stops IsIt old new OutOfMemory = new ≡ old
Stops IsIt old new _ = ⊥

-- the text of the study in a document, as this entry, is appended; without a study nothing is
abbrev pub IsSection : (PlainStudy → EntryInfo → List ℕ → Type 0) → Document → EntryInfo → Option (List ℕ) → Option (List ℕ) → Type 0
IsSection tells empty info old new = new ≡ old
IsSection tells (start s) info old new = new ≡ old
IsSection tells (study plain) info old new = (text : List ℕ) × tells plain info text × Appends old new text

abbrev pub IsSectionPart : (PlainStudy → EntryInfo → List ℕ → Type 0) → Document → EntryInfo → Option (List ℕ) → Option (List ℕ) → Type 0
IsSectionPart tells empty info old new = ⊥
IsSectionPart tells (start s) info old new = ⊥
IsSectionPart tells (study plain) info old new = (text : List ℕ) × tells plain info text × TakesPrefix old new text

-- these bytes are the text of the reply to a line, the state after it is that of the reply, and the line was refused if the reply says so
abbrev pub IsReplied : State → List ℕ → (State → Type 0) → List ℕ → Bool → Type 0
IsReplied s line HoldsIt bytes was_refused = (o : Environment) × (reply : Reply) × IsReplyIn true s line o reply × (bytes ≡ reply.text)
    × HoldsIt reply.state × (was_refused ≡ reply.refused)
