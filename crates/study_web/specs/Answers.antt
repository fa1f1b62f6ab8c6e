-- The answer to each request.
use Rattle.std.specs.Prelude.{◌≡◌, ◌⊎◌, ℕ, nat_le, min, Bool, true, ◌&&◌, List, [], ◌∷◌, ◌++◌, length, take, drop, Option, Some, None, Result, Ok, Err}
use Rattle.study_board.specs.Position.{man_at}
use Rattle.study_material.specs.declared.class.Class.{Class}
use Rattle.study_notation.specs.declared.start.Start.{Start}
use Rattle.study_marks.specs.declared.stipulation.Stipulation.{Stipulation}
use Rattle.study_command.specs.Lines.{script_lines}
use Rattle.study_reply.specs.declared.refusal.Refusal.TheVariants.{MissingTable, OutOfMemory, File, OtherClass, DistanceTooLarge}
use Rattle.study_reply.specs.declared.refusal.Refusal.TheVariants.{NoSuchNode}
use Rattle.study_reply.specs.Names.{of_probe}
use Rattle.study_values.specs.declared.values.ProbeFault.{ProbeFault}
use Rattle.study_script.specs.declared.running.Summary.{Summary}
use Rattle.study_script.specs.declared.running.RunFault.{RunFault}
use Rattle.study_script.specs.declared.running.RunFault.TheVariants as run_fault
use Rattle.study_script.specs.Outcome.{Outcome, initial_state, Shape as RunShape}
use Rattle.study_script.specs.Written.{Fits as RunFits}
use Rattle.study_script.specs.State.{StoreKnowledge}
use Rattle.study_script.specs.Stores.{AreTrusted}
use Rattle.study_report.specs.Lines.{review_remark}
use Rattle.study_report.specs.Outcome.{Outcome as ReportOutcome, Shape}
use Rattle.study_report.specs.Lines.{IsReviewAs}
use Rattle.study_print.specs.Pages.{IsFile}
use Rattle.study_view.specs.Setup.{passed_squares, AreClassesNeeded}
use Rattle.study_view.specs.Survey.{IsSurvey}
use Rattle.study_search.specs.declared.only_moves.Outcome.{Outcome as SoughtOutcome}
use Rattle.study_listing.specs.declared.piece_words.Piece.{Piece}
use Rattle.study_listing.specs.Pieces.{AreLookedAt, IsPiece}
use Rattle.study_listing.specs.Requests.{class_of_request}
use Rattle.study_import.specs.declared.importer.Choice.{Choice}
use Rattle.study_import.specs.Imported.{script_of}
use Rattle.study_web.specs.declared.request_fault.RequestFault.{RequestFault}
use Rattle.study_web.specs.declared.request_fault.RequestFault.TheVariants as denial
use Rattle.study_web.specs.declared.answers.make.MakeFault.{MakeFault}
use Rattle.study_web.specs.declared.answers.make.MakeFault.TheVariants as make_fault
use Rattle.study_web.specs.declared.reply.AnswerFault.{AnswerFault}
use Rattle.study_web.specs.declared.reply.AnswerFault.TheVariants as no_text
use Rattle.study_web.specs.declared.reply.Ending.{Ending}
use Rattle.study_web.specs.declared.reply.Ending.TheVariants.{Answered, Refused, Ran, Stopped}
use Rattle.study_web.specs.declared.file_spans.FileSpan.{FileSpan}
use Rattle.study_web.specs.Spans.{spans_for}
use Rattle.study_web.specs.Making.{IsRightFileOf, IsMakeFault, HasRightNeeds}
use Rattle.study_web.specs.Opened.{AreAllRight, IsOfFiles, IsOfFileValues, IsOfFileSearch}
use Rattle.study_web.specs.Asked.{Asked, Asks, run, review, report, tables, wording, remarks, make, view, survey, passed, find, unread, row, bring}
use Rattle.study_web.specs.CoreWords.{core_words}
use Rattle.study_web.specs.RemarkRows.{rows_from}
use Rattle.study_web.specs.Row.{IsRowAnswer}
use Rattle.study_web.specs.Setup.{AreTables, positions_in, squares_text}
use Rattle.study_web.specs.Store.{IsShelf, AreRightFiles}
use Rattle.study_web.specs.Reported.{denial_text, ending_of, IsDenied}
use Rattle.study_web.specs.Views.{refused_line, over_files, IsViewOver, IsValueFaultOver, LacksNodeOver, OverFiles}

-- ---- how a request ends that is answered as a whole or refused

-- the text has the property; or the request is refused by its name; or its script is not read to its end
abbrev pub IsWhole : (List ℕ → Type 0) → (RequestFault → Type 0) → (RunFault → Type 0) → List ℕ → Ending → Type 0
IsWhole IsIt May Stops text Answered = IsIt text
IsWhole IsIt May Stops text (Refused d) = May d × (text ≡ denial_text d)
IsWhole IsIt May Stops text (Stopped fault) = Stops fault × (text ≡ [])
IsWhole IsIt May Stops text (Ran summary) = ⊥

-- the same if there is no text
abbrev pub MayEnd : (RequestFault → Type 0) → (RunFault → Type 0) → AnswerFault → Type 0
MayEnd May Stops (no_text.Denied d) = May d
MayEnd May Stops (no_text.Stopped fault) = Stops fault

-- the only fault is want of memory
abbrev pub IsNoMemory : RunFault → Type 0
IsNoMemory fault = fault ≡ run_fault.OutOfMemory

abbrev pub IsOutOfMemory : RequestFault → Type 0
IsOutOfMemory d = d ≡ denial.Refused OutOfMemory

-- Why a run over the bytes of a request stops if it writes into memory: reader and writer fail only for want of memory.
abbrev pub IsOwn : RunFault → Type 0
IsOwn run_fault.ReadDevice = ⊥
IsOwn run_fault.WriteDevice = ⊥
IsOwn fault = Unit {0}

abbrev pub IsOwnEnd : Result Summary RunFault → Type 0
IsOwnEnd (Ok summary) = Unit {0}
IsOwnEnd (Err fault) = IsOwn fault

-- the lines of a script are not read to their end: one is too long, there are too many, or there is no memory
abbrev pub IsUnread : List ℕ → RunFault → Type 0
IsUnread script fault = IsOwn fault × (left : Option (List ℕ)) × Shape script left (Err fault)

abbrev pub IsNever : RunFault → Type 0
IsNever fault = ⊥

-- ---- the files that are opened

-- those of the classes that the script's positions need
abbrev pub AreNeeded : List FileSpan → List ℕ → List FileSpan → Type 0
AreNeeded spans script those =
    (classes : List Class) × AreClassesNeeded (positions_in (script_lines script)) classes × (those ≡ spans_for classes spans)

-- true over these files, and no others are opened; or the script is not read to the end, or there is no memory
abbrev pub OverNeeded : List FileSpan → List ℕ → (List FileSpan → List ℕ → Ending → Type 0) → List ℕ → Ending → Type 0
OverNeeded spans script IsIt text ended =
    IsWhole (λ t. ⊥) IsOutOfMemory (IsUnread script) text ended ⊎ ((those : List FileSpan) × AreNeeded spans script those × IsIt those text ended)

-- ---- each request

-- The replies to the script, if the files that it loads are right. Whatever the files are, the run stops exactly where it must, for one of its own faults,
-- and counts its lines, and as refused those for which it writes an error. Studies are kept apart.
abbrev pub IsRun : List FileSpan → List ℕ → Bool → List ℕ → List ℕ → Ending → Type 0
IsRun spans bytes by_pages script text ended =
    (summary : Result Summary RunFault) × (ended ≡ ending_of summary) × IsOwnEnd summary
    × ((left : Option (List ℕ)) × RunShape script left summary)
    × ((left : Option (List ℕ)) × RunFits script left (Some []) (Some text) summary)
    × ((trusted : Class → Bool) → AreRightFiles trusted by_pages spans bytes → AreTrusted trusted script
    → (shelf : StoreKnowledge) × IsShelf spans bytes shelf × (left : Option (List ℕ))
    × Outcome true (initial_state shelf by_pages) script left (Some []) (Some text) summary)

-- the refusal for a file that cannot be made
abbrev pub answer_make : MakeFault → RequestFault
answer_make (make_fault.MissingTable c) = denial.Refused (MissingTable c)
answer_make (make_fault.File c fault) = denial.OfFile c (File fault)
answer_make (make_fault.OtherClass c d) = denial.OfFile c (OtherClass d)
answer_make make_fault.DistanceTooLarge = denial.Refused DistanceTooLarge
answer_make make_fault.OutOfMemory = denial.Refused OutOfMemory

abbrev pub IsMakeDenial : List FileSpan → List ℕ → Class → RequestFault → Type 0
IsMakeDenial spans bytes c d = (fault : MakeFault) × IsMakeFault spans bytes c fault × (d ≡ answer_make fault)

-- the file of the class's right table, if the files of the classes that it needs are right
abbrev pub IsMadeFile : List FileSpan → List ℕ → Class → List ℕ → Type 0
IsMadeFile spans bytes c text = HasRightNeeds spans bytes c → IsRightFileOf c text

abbrev pub IsMakeAnswer : List FileSpan → List ℕ → Class → List ℕ → Ending → Type 0
IsMakeAnswer spans bytes c = IsWhole (IsMadeFile spans bytes c) (IsMakeDenial spans bytes c) IsNoMemory

-- why there is no view: want of memory, no node at the path, or a value that cannot be read; each of the last two only if it is the case
abbrev pub IsViewDenial : (ProbeFault → Type 0) → Type 0 → RequestFault → Type 0
IsViewDenial NoValue Lacks d =
    (d ≡ denial.Refused OutOfMemory) ⊎ ((d ≡ denial.Refused NoSuchNode) × Lacks)
    ⊎ ((fault : ProbeFault) × NoValue fault × (d ≡ denial.Refused (of_probe fault)))

-- The view of what the script leaves, over right files; a node is missing, or a value cannot be read, only as the script leaves it.
abbrev pub IsViewed : List FileSpan → List ℕ → List ℕ → List ℕ → List ℕ → Ending → Type 0
IsViewed spans bytes script steps =
    IsWhole (λ text. AreAllRight spans bytes → OverFiles spans bytes (IsViewOver script steps text))
    (λ d. IsOfFiles spans bytes d ⊎ IsViewDenial (λ fault. AreAllRight spans bytes → OverFiles spans bytes (IsValueFaultOver script fault))
    (AreAllRight spans bytes → OverFiles spans bytes (LacksNodeOver script steps)) d) (IsUnread script)

-- the review of the script's studies
abbrev pub IsReviewOver : List ℕ → List ℕ → Result Summary RunFault → List Class → StoreKnowledge → Type 0
IsReviewOver script text summary classes shelf =
    (left : Option (List ℕ)) × ReportOutcome IsReviewAs refused_line review_remark (over_files classes shelf) script left (Some []) (Some text) summary

-- the same over right files; or the request is refused for one of the files, or there is no memory
abbrev pub IsReviewedTo : List FileSpan → List ℕ → List ℕ → List ℕ → Result Summary RunFault → Type 0
IsReviewedTo spans bytes script text summary = AreAllRight spans bytes → OverFiles spans bytes (IsReviewOver script text summary)

abbrev pub IsReviewed : List FileSpan → List ℕ → List ℕ → List ℕ → Ending → Type 0
IsReviewed spans bytes script text Answered = ⊥
IsReviewed spans bytes script text (Refused d) = IsOfFiles spans bytes d × (text ≡ denial_text d)
IsReviewed spans bytes script text (Ran summary) = IsReviewedTo spans bytes script text (Ok summary)
IsReviewed spans bytes script text (Stopped fault) = IsOwn fault × IsReviewedTo spans bytes script text (Err fault)

-- the printed pages of the script's studies
abbrev pub IsFileOver : List ℕ → List ℕ → Result Summary RunFault → List Class → StoreKnowledge → Type 0
IsFileOver script text summary classes shelf = (left : Option (List ℕ)) × IsFile (over_files classes shelf) script left (Some []) (Some text) summary

-- The same over right files; or the request is refused for one of the files, or there is no memory for the name of the refusal.
abbrev pub IsPrintedTo : List FileSpan → List ℕ → List ℕ → List ℕ → Result Summary RunFault → Type 0
IsPrintedTo spans bytes script text summary = AreAllRight spans bytes → OverFiles spans bytes (IsFileOver script text summary)

abbrev pub IsPrinted : List FileSpan → List ℕ → List ℕ → List ℕ → Ending → Type 0
IsPrinted spans bytes script text Answered = ⊥
IsPrinted spans bytes script text (Refused d) = IsOfFiles spans bytes d × (text ≡ denial_text d)
IsPrinted spans bytes script text (Ran summary) = IsPrintedTo spans bytes script text (Ok summary)
IsPrinted spans bytes script text (Stopped fault) =
    IsOwn fault × (((fault ≡ run_fault.OutOfMemory) × (text ≡ [])) ⊎ IsPrintedTo spans bytes script text (Err fault))

-- there is no survey if the square is empty, or if the tables or their values cannot be read
abbrev pub IsSurveyDenial : (RequestFault → Type 0) → Start → ℕ → RequestFault → Type 0
IsSurveyDenial May start square denial.NoMan = man_at start.position.men square ≡ None
IsSurveyDenial May start square d = May d

-- the survey of the man, over right files
abbrev pub IsSurveyed : List FileSpan → List ℕ → ℕ → Stipulation → Start → List ℕ → Ending → Type 0
IsSurveyed spans bytes square st start =
    IsWhole (λ text. AreAllRight spans bytes → IsSurvey start.position square st text) (IsSurveyDenial (IsOfFileValues spans bytes start.position) start square)
    IsNoMemory

-- the same over the files that the position needs; no others are opened
abbrev pub IsSurveyedTo : List FileSpan → List ℕ → ℕ → Stipulation → Start → List ℕ → Ending → Type 0
IsSurveyedTo spans bytes square st start text ended =
    (classes : List Class) × AreClassesNeeded (start.position ∷ []) classes
    × IsSurveyed (spans_for classes spans) bytes square st start text ended

-- the tables that the script's positions need
abbrev pub IsTableList : List ℕ → List ℕ → Ending → Type 0
IsTableList script = IsWhole (AreTables (script_lines script)) IsOutOfMemory (IsUnread script)

-- the squares that a pawn may have passed in a double step just before
abbrev pub IsPassedList : Start → List ℕ → Ending → Type 0
IsPassedList start =
    IsWhole (λ text. text ≡ squares_text (passed_squares start.position.men start.position.to_move)) IsOutOfMemory IsNoMemory

-- the piece of a list, if the opened files are right
abbrev pub IsFoundOver : List FileSpan → List ℕ → Piece → List ℕ → Ending → Type 0
IsFoundOver spans bytes piece =
    IsWhole (λ text. AreAllRight spans bytes → IsPiece piece text) (IsOfFileSearch spans bytes (class_of_request piece.request)) IsNoMemory

-- the same over the files of the class and of the classes that it needs; no others are opened
abbrev pub IsFoundTo : List FileSpan → List ℕ → Piece → List ℕ → Ending → Type 0
IsFoundTo spans bytes piece text ended =
    (classes : List Class) × AreLookedAt piece.request classes × IsFoundOver (spans_for classes spans) bytes piece text ended

-- the number of only moves in a row from the position, if the opened files are right
abbrev pub IsRowOver : List FileSpan → List ℕ → SoughtOutcome → Start → List ℕ → Ending → Type 0
IsRowOver spans bytes o start =
    IsWhole (λ text. AreAllRight spans bytes → IsRowAnswer o start.position text) (IsOfFileValues spans bytes start.position) IsNoMemory

-- the same over the files that the position needs; no others are opened
abbrev pub IsRowTo : List FileSpan → List ℕ → SoughtOutcome → Start → List ℕ → Ending → Type 0
IsRowTo spans bytes o start text ended =
    (classes : List Class) × AreClassesNeeded (start.position ∷ []) classes × IsRowOver (spans_for classes spans) bytes o start text ended

-- the script of the games
abbrev pub IsImported : List ℕ → Choice → List ℕ → Ending → Type 0
IsImported pgn choice = IsWhole (λ text. text ≡ script_of choice pgn) IsOutOfMemory IsNoMemory

-- the words that a page shows without a reply that has them
abbrev pub IsWording : List ℕ → Ending → Type 0
IsWording = IsWhole (λ text. text ≡ core_words) IsOutOfMemory IsNoMemory

-- the remarks of the script, a line each
abbrev pub IsRemarkList : List ℕ → List ℕ → Ending → Type 0
IsRemarkList script = IsWhole (λ text. text ≡ rows_from 1 (script_lines script)) IsOutOfMemory (IsUnread script)

-- ---- the answer

abbrev pub IsAnswerTo : List FileSpan → List ℕ → Bool → List ℕ → Asked → List ℕ → Ending → Type 0
IsAnswerTo spans bytes by_pages script run text ended = IsRun spans bytes by_pages script text ended
IsAnswerTo spans bytes by_pages script (make c) text ended = IsMakeAnswer spans bytes c text ended
IsAnswerTo spans bytes by_pages script (view steps) text ended = OverNeeded spans script (λ those. IsViewed those bytes script steps) text ended
IsAnswerTo spans bytes by_pages script review text ended = OverNeeded spans script (λ those. IsReviewed those bytes script) text ended
IsAnswerTo spans bytes by_pages script report text ended = OverNeeded spans script (λ those. IsPrinted those bytes script) text ended
IsAnswerTo spans bytes by_pages script (survey square st start) text ended = IsSurveyedTo spans bytes square st start text ended
IsAnswerTo spans bytes by_pages script tables text ended = IsTableList script text ended
IsAnswerTo spans bytes by_pages script (passed start) text ended = IsPassedList start text ended
IsAnswerTo spans bytes by_pages script (find piece) text ended = IsFoundTo spans bytes piece text ended
IsAnswerTo spans bytes by_pages script (unread fault) text ended = IsDenied (denial.Unread fault) text ended
IsAnswerTo spans bytes by_pages script (row o start) text ended = IsRowTo spans bytes o start text ended
IsAnswerTo spans bytes by_pages script (bring choice) text ended = IsImported script choice text ended
IsAnswerTo spans bytes by_pages script wording text ended = IsWording text ended
IsAnswerTo spans bytes by_pages script remarks text ended = IsRemarkList script text ended

-- the answer to the request, or the reason why the line is not a valid request
abbrev pub IsAnswer : List FileSpan → List ℕ → Bool → List ℕ → Asks → List ℕ → Ending → Type 0
IsAnswer spans bytes by_pages script (Ok asked) text ended = IsAnswerTo spans bytes by_pages script asked text ended
IsAnswer spans bytes by_pages script (Err refusal) text ended = IsDenied (denial.Refused refusal) text ended

-- ---- the bytes that a module writes back

-- three numbers for each span; numbers left over are ignored
abbrev pub spans_of : List ℕ → List FileSpan
spans_of (c ∷ s ∷ l ∷ more) = record { class = c; start = s; length = l } ∷ spans_of more
spans_of _ = []

-- tables are read by so many pages, from 1 to 4,096; any other number means whole
abbrev pub is_paged : ℕ → Bool
is_paged pages = nat_le 1 pages && nat_le pages 4096

-- the front of the buffer has as much of the text as fits; the result is the length of the whole text
abbrev pub IsHanded : List ℕ → List ℕ → List ℕ → ℕ → Type 0
IsHanded text old new n = (n ≡ length text) × (new ≡ take (min (length text) (length old)) text ++ drop (min (length text) (length old)) old)

-- nothing is written back
abbrev pub IsNothing : List ℕ → List ℕ → ℕ → Type 0
IsNothing old new n = (n ≡ 0) × (new ≡ old)
