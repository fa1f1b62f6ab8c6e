-- The view of what a script leaves in the document.
use Rattle.std.specs.Prelude.{◌≡◌, ◌≢◌, ℕ, Bool, true, false, List, [], ◌++◌, Option, Result}
use Rattle.study_board.specs.Position.{IsValid}
use Rattle.study_material.specs.declared.class.Class.{Class}
use Rattle.study_tree.specs.Tree.{has_spot}
use Rattle.study_marks.specs.Edits.{PlainStudy}
use Rattle.study_command.specs.Lines.{script_lines}
use Rattle.study_values.specs.declared.fault.SourceFault.{SourceFault}
use Rattle.study_values.specs.Values.{ValueSource}
use Rattle.study_values.specs.declared.values.ProbeFault.{ProbeFault}
use Rattle.study_entry.specs.declared.entry.EntryInfo.{EntryInfo}
use Rattle.study_facts.specs.Asked.{Stopped, within}
use Rattle.study_script.specs.declared.store.StoreFault.{StoreFault}
use Rattle.study_command.specs.Documents.{Document, empty, start, study}
use Rattle.study_script.specs.State.{StoreKnowledge, State, is_among}
use Rattle.study_report.specs.Lines.{refusal_line, no_remark}
use Rattle.study_report.specs.Outcome.{AreAdded, start_point, point_after, report_text}
use Rattle.study_report.specs.Reported.{Added, IsValueFaultIn}
use Rattle.study_view.specs.View.{IsViewOf}
use Rattle.study_view.specs.Words.{start_lines}
use Rattle.study_web.specs.declared.file_spans.FileSpan.{FileSpan}
use Rattle.study_web.specs.Opened.{AreHandedIn, IsHeldAs}
use Rattle.study_web.specs.Spans.{file_in, file_faults}

-- a refused line, without its bytes
abbrev pub refused_line : ℕ → List ℕ → List ℕ → List ℕ
refused_line number line reply = refusal_line number reply

-- nothing is printed for a study
abbrev pub tells_nothing : PlainStudy → EntryInfo → List ℕ → Type 0
tells_nothing plain info text = text ≡ []

-- the view of a study at a path; for a start without a stipulation its lines, and for nothing no line; these two have only a root
abbrev pub IsDocumentView : Document → List ℕ → List ℕ → Type 0
IsDocumentView empty path text = (path ≡ []) × (text ≡ [])
IsDocumentView (start s) path text = (path ≡ []) × (text ≡ start_lines s)
IsDocumentView (study plain) path text = IsViewOf plain path text

-- no study and no start; the tables of these classes are read by pages, from files with this content
abbrev pub over_files : List Class → StoreKnowledge → State
over_files classes shelf = record { document = empty; classes = classes; paged = true; shelf = shelf }

-- the state that a script leaves over these tables, and the text of the lines that were refused
abbrev pub IsLeft : List Class → StoreKnowledge → List ℕ → State → List ℕ → Type 0
IsLeft classes shelf script state refused =
    (added : List Added) × AreAdded tells_nothing refused_line no_remark (start_point (over_files classes shelf)) (script_lines script) added
    × (state ≡ (point_after (start_point (over_files classes shelf)) added).state) × (refused ≡ report_text added)

-- the view at a path of the document that is left, followed by the refused lines
abbrev pub IsViewOver : List ℕ → List ℕ → List ℕ → List Class → StoreKnowledge → Type 0
IsViewOver script path text classes shelf =
    (state : State) × (view refused : List ℕ) × IsLeft classes shelf script state refused × IsDocumentView state.document path view
    × (text ≡ view ++ refused)

-- ---- no view

-- the document has no node at the path; nothing and a start have only a root
abbrev pub LacksNode : Document → List ℕ → Type 0
LacksNode empty path = path ≢ []
LacksNode (start s) path = path ≢ []
LacksNode (study plain) path = has_spot plain.tree path ≡ false

-- the same for the document that a script leaves
abbrev pub LacksNodeOver : List ℕ → List ℕ → List Class → StoreKnowledge → Type 0
LacksNodeOver script path classes shelf = (state : State) × (refused : List ℕ) × IsLeft classes shelf script state refused × LacksNode state.document path

-- a value that is probed from the start of the study cannot be read
abbrev pub IsViewFault : State → ProbeFault → Type 0
IsViewFault s fault = (plain : PlainStudy) × (s.document ≡ study plain) × IsValueFaultIn s plain.start.position fault

-- the same in the state that a script leaves
abbrev pub IsValueFaultOver : List ℕ → ProbeFault → List Class → StoreKnowledge → Type 0
IsValueFaultOver script fault classes shelf = (state : State) × (refused : List ℕ) × IsLeft classes shelf script state refused × IsViewFault state fault

-- ---- over files

-- with the classes whose files are opened, and the faults with which reading these may fail
abbrev pub OverStore : (Class → Option (Result (List ℕ) StoreFault)) → (Class → SourceFault → Bool) → (List Class → StoreKnowledge → Type 0) → Type 0
OverStore headers faults IsSo =
    (classes : List Class) × ((c : Class) → IsHeldAs (headers c) (is_among classes c))
    × (shelf : StoreKnowledge) × ((c : Class) (f : SourceFault) → shelf.faults c f ≡ faults c f) × IsSo classes shelf

-- the same over the files of the request
abbrev pub OverFiles : List FileSpan → List ℕ → (List Class → StoreKnowledge → Type 0) → Type 0
OverFiles spans bytes IsSo =
    (classes : List Class) × AreHandedIn spans bytes classes
    × (shelf : StoreKnowledge) × ((c : Class) (f : SourceFault) → shelf.faults c f ≡ file_faults (file_in spans bytes c) c f) × IsSo classes shelf

-- values were probed from a study's start, and all were read but the last, which failed with this fault
module _ {V : Type 0} (source : ValueSource V) where
  abbrev pub StudyStopped : Document → V → ProbeFault → V → Type 0
  StudyStopped document old fault new =
      (plain : PlainStudy) × (document ≡ study plain) × IsValid plain.start.position
      × Stopped (within plain.start.position source) old fault new
