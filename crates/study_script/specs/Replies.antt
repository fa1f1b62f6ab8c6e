-- The replies to the lines of a script.
use Rattle.std.specs.Prelude.{◌≡◌, ◌⊎◌, ℕ, ◌+◌, ◌*◌, ◌≤◌, Bool, true, false, ◌&&◌, ◌==◌, List, [], ◌∷◌}
use Rattle.std.specs.Prelude.{◌++◌, find, Option, Some, None, Result, Ok, Err, if◌then◌else◌, codes}
use Rattle.std.specs.List.{flat_map}
use Rattle.std.specs.Str.{bytes_eq}
use Rattle.study_text.specs.Words.{words}
use Rattle.study_board.specs.Position.{Position}
use Rattle.study_moves.specs.declared.moves.Move.{Move}
use Rattle.study_moves.specs.Rules.{after}
use Rattle.study_moves.specs.Game.{MatesWithin, IsWon}
use Rattle.study_material.specs.declared.class.Class.{Class}
use Rattle.study_material.specs.Class.{IsOf, name_of, class_list}
use Rattle.study_material.specs.Class.{class_number}
use Rattle.study_table.specs.Table.{Table, IsComplete}
use Rattle.study_table.specs.Sound.{IsRight, HasFarPosition}
use Rattle.study_retro.specs.Report.{IsGreatest, win_of}
use Rattle.study_values.specs.declared.fault.FileFault.{FileFault}
use Rattle.study_values.specs.declared.fault.SourceFault.{SourceFault}
use Rattle.study_values.specs.Size.{pages_of}
use Rattle.study_tablefile.specs.Reading.{HasHeader, table_read}
use Rattle.study_prober.specs.declared.fault.PagedFault.{PagedFault}
use Rattle.study_prober.specs.HeaderAnswers.{paged_fault}
use Rattle.study_values.specs.declared.values.ProbeFault.TheVariants as probe
use Rattle.study_notation.specs.declared.start.Start.{Start}
use Rattle.study_notation.specs.declared.fault.FenFault.{FenFault}
use Rattle.study_notation.specs.declared.fault.SanFault.{SanFault}
use Rattle.study_notation.specs.Fen.{start_of}
use Rattle.study_notation.specs.FenSpelling.{fen_text}
use Rattle.study_notation.specs.Matching.{move_of}
use Rattle.study_notation.specs.SanSpelling.{move_text}
use Rattle.study_tree.specs.Edits.{children_at}
use Rattle.study_tree.specs.Tree.{Spot, has_spot, spot_at}
use Rattle.study_marks.specs.declared.stipulation.Stipulation.{Stipulation}
use Rattle.study_marks.specs.declared.mark.Mark.{Mark}
use Rattle.study_marks.specs.declared.tag.TagName.{TagName}
use Rattle.study_marks.specs.declared.refusal.Refusal.{Refusal as EditRefusal}
use Rattle.study_marks.specs.Study.{Study, plain_study, position_at, tag_name}
use Rattle.study_marks.specs.Annotated.{IsAnnotated}
use Rattle.study_marks.specs.Edits.{PlainStudy, with_position, with_start, with_stipulation, with_insertion, with_deletion, with_promotion, with_tag}
use Rattle.study_marks.specs.Edits.{insert_refusal, delete_refusal, promote_refusal, shift_refusal, tag_refusal}
use Rattle.study_marks.specs.Queries.{asked_at, positions_asked, IsFirstMissing, IsFirstUnread, AllHeld}
use Rattle.study_marks.specs.Bench.{start_at}
use Rattle.study_pgn.specs.Pgn.{pgn_text}
use Rattle.study_command.specs.declared.command.FenCommand.{FenCommand}
use Rattle.study_command.specs.declared.command.FenCommand.TheVariants.{Position as PositionWord, Shift}
use Rattle.study_command.specs.declared.command.NodeQuery.{NodeQuery}
use Rattle.study_command.specs.declared.command.NodeQuery.TheVariants.{Moves, Fen as FenAt}
use Rattle.study_command.specs.declared.command.NodeCommand.{NodeCommand}
use Rattle.study_command.specs.declared.command.NodeCommand.TheVariants.{Delete, Promote, Mark as MarkWord}
use Rattle.study_command.specs.declared.command.TableCommand.{TableCommand}
use Rattle.study_command.specs.declared.command.TableCommand.TheVariants.{Build, Load, Save, Verify}
use Rattle.study_text.specs.Paths.{path_text}
use Rattle.study_command.specs.Parser.{Asked, fen_command, node_query, node_command, table_command, stipulate, insert, tag, solve, pgn, Asks, command_of}
use Rattle.study_reply.specs.declared.refusal.Refusal.{Refusal}
use Rattle.study_reply.specs.declared.refusal.Refusal.TheVariants.{Form, NoPosition, NoStudy, OutOfMemory}
use Rattle.study_reply.specs.declared.refusal.Refusal.TheVariants.{PagedMode, NotAClass, NoSuchNode, Fen, San}
use Rattle.study_reply.specs.declared.refusal.Refusal.TheVariants.{NoTable, MissingTable, AlreadyHeld, OtherClass}
use Rattle.study_reply.specs.declared.refusal.Refusal.TheVariants.{Device, File, DistanceTooLarge}
use Rattle.study_reply.specs.Names.{words_of, edit_words, of_probe}
use Rattle.study_script.specs.StoreRefusals.{refusal_of_paged, refusal_of_store}
use Rattle.study_command.specs.Documents.{Document, empty, start, study, new_study}
use Rattle.study_script.specs.State.{State, is_among, first_lacking}
use Rattle.study_script.specs.State.{IsGiven, IsOpened, IsGivenAs, written_anew, Environment, no_path, no_room}
use Rattle.study_script.specs.State.{no_room_for, unread, unopened, cut_off, file, header}
use Rattle.study_reply.specs.Words.{reply_line, stipulation_words, mark_text, moves_text, solve_text}
use Rattle.study_reply.specs.Words.{path_after_move_up, insert_text, built_text, loaded_text, saved_text, verified_text}

-- the reply to a line: its bytes, the state after the line, and whether the line is refused
pub record Reply : Type 0 where
  pub text : List ℕ
  pub state : State
  pub refused : Bool

abbrev pub accepted_reply : State → List ℕ → Reply
accepted_reply s text = record { text = text; state = s; refused = false }

-- a refused line changes nothing
abbrev pub refused_as : State → List ℕ → Reply
refused_as s words = record { text = reply_line (codes "error ") words; state = s; refused = true }

abbrev pub refused_reply : State → Refusal → Reply
refused_reply s refusal = refused_as s (words_of refusal)

-- the state with another study
abbrev pub with_study : State → PlainStudy → State
with_study s new = record s { document = study new }

-- ---- edits

-- an edit that probes no value: the first reason to refuse it, or the study after it
abbrev pub edit_reply : State → Option (EditRefusal (Unit {0})) → PlainStudy → List ℕ → Reply
edit_reply s None new text = accepted_reply (with_study s new) text
edit_reply s (Some refusal) new text = refused_as s (edit_words refusal)

-- the values of these positions are probed: a table is missing, or the study is the new one
pub data IsValued (s : State) (asked : List Position) (new : PlainStudy) (text : List ℕ) (reply : Reply) : Type 0 where
  missing : (c : Class) → IsFirstMissing (is_among s.classes) asked c → reply ≡ refused_reply s (NoTable c) → IsValued s asked new text reply
  found : AllHeld (is_among s.classes) asked → reply ≡ accepted_reply (with_study s new) text → IsValued s asked new text reply

-- reading a table of the class of one of these positions may fail for this fault
abbrev pub MayFailAmong : (Class → SourceFault → Type 0) → List Position → SourceFault → Type 0
MayFailAmong may [] f = ⊥
MayFailAmong may (p ∷ ps) f = ((c : Class) → IsOf c p → may c f) ⊎ MayFailAmong may ps f

-- an edit that probes the values of these positions; a page is read, and a device may fail, only if tables are read by pages. No page is damaged: each loaded
-- table is right; and the fault is a possible one of the source of a probed class
abbrev pub IsProbingEdit : State → Environment → List Position → PlainStudy → List ℕ → Reply → Type 0
IsProbingEdit s (unread (probe.TableRead f)) asked new text reply =
    (s.paged ≡ true) × IsFirstUnread (is_among s.classes) asked (probe.TableRead f)
    × MayFailAmong (λ c g. s.shelf.faults c g ≡ true) asked f × (reply ≡ refused_reply s (of_probe (probe.TableRead f)))
IsProbingEdit s (unread (probe.PageDamaged c n)) asked new text reply = ⊥
IsProbingEdit s (unread (probe.NoTable c)) asked new text reply = ⊥
IsProbingEdit s _ asked new text reply = IsValued s asked new text reply

-- an edit that probes the values of these positions, if memory is allocated first
abbrev pub IsProbingEditWithMemory : State → Environment → List Position → PlainStudy → List ℕ → Reply → Type 0
IsProbingEditWithMemory s no_room asked new text reply = reply ≡ refused_reply s OutOfMemory
IsProbingEditWithMemory s o asked new text reply = IsProbingEdit s o asked new text reply

-- `position`: without a study only the start is set, and no table is probed
abbrev pub IsPositionReply : State → Environment → Document → Start → Reply → Type 0
IsPositionReply s o empty new reply = reply ≡ accepted_reply (record s { document = start new }) (reply_line (codes "position ") (fen_text new))
IsPositionReply s o (start old) new reply = reply ≡ accepted_reply (record s { document = start new }) (reply_line (codes "position ") (fen_text new))
IsPositionReply s o (study old) new reply =
    IsProbingEdit s o (asked_at new.position) (with_position old new) (reply_line (codes "position ") (fen_text new)) reply

-- `shift`: a move of the tree is not legal, which may also be reported as want of memory for its path
abbrev pub IsShiftReply : State → Environment → PlainStudy → Start → Option (EditRefusal (Unit {0})) → Reply → Type 0
IsShiftReply s no_room old new (Some refusal) reply = reply ≡ refused_reply s OutOfMemory
IsShiftReply s _ old new (Some refusal) reply = reply ≡ refused_as s (edit_words refusal)
IsShiftReply s o old new None reply =
    IsProbingEditWithMemory s o (positions_asked (with_start old new)) (with_start old new) (reply_line (codes "shift ") (fen_text new)) reply

abbrev pub IsStartReply : State → Environment → FenCommand → Document → Result Start FenFault → Reply → Type 0
IsStartReply s o PositionWord document (Err fault) reply = reply ≡ refused_reply s (Fen fault)
IsStartReply s o PositionWord document (Ok new) reply = IsPositionReply s o document new reply
IsStartReply s o Shift (study old) (Err fault) reply = reply ≡ refused_reply s (Fen fault)
IsStartReply s o Shift (study old) (Ok new) reply = IsShiftReply s o old new (shift_refusal old new) reply
IsStartReply s o Shift empty read reply = reply ≡ refused_reply s NoStudy
IsStartReply s o Shift (start old) read reply = reply ≡ refused_reply s NoStudy

-- `stipulate` makes the study, or changes its stipulation
abbrev pub IsStipulateReply : State → Environment → Document → Stipulation → Reply → Type 0
IsStipulateReply s o empty new reply = reply ≡ refused_reply s NoPosition
IsStipulateReply s o (start from) new reply = IsProbingEdit s o (asked_at from.position) (new_study from new) (stipulation_words new) reply
IsStipulateReply s o (study old) new reply = reply ≡ accepted_reply (with_study s (with_stipulation old new)) (stipulation_words new)

-- `tag`
abbrev pub tag_reply : State → Document → TagName → List ℕ → Reply
tag_reply s empty name text = refused_reply s NoStudy
tag_reply s (start from) name text = refused_reply s NoStudy
tag_reply s (study old) name text = edit_reply s (tag_refusal text) (with_tag old name text) (reply_line (codes "tag ") (tag_name name))

-- `insert`: the node is checked, then the move, then the edit; the reply has the path of the new node
abbrev pub inserted_text : PlainStudy → List ℕ → Move → List ℕ
inserted_text old steps m = insert_text (steps ++ children_at old.tree.below steps ∷ []) (move_text (position_at old steps) m)

abbrev pub IsInserted : State → Environment → PlainStudy → List ℕ → Move → Option (EditRefusal (Unit {0})) → Reply → Type 0
IsInserted s o old steps m (Some refusal) reply = reply ≡ refused_as s (edit_words refusal)
IsInserted s o old steps m None reply =
    IsProbingEditWithMemory s o (asked_at (after (position_at old steps) m)) (with_insertion old steps m) (inserted_text old steps m) reply

abbrev pub IsMoveReply : State → Environment → PlainStudy → List ℕ → Result Move SanFault → Reply → Type 0
IsMoveReply s o old steps (Err fault) reply = reply ≡ refused_reply s (San fault)
IsMoveReply s o old steps (Ok m) reply = IsInserted s o old steps m (insert_refusal old steps m) reply

abbrev pub IsMoveReplyAt : State → Environment → PlainStudy → List ℕ → List ℕ → Bool → Reply → Type 0
IsMoveReplyAt s o old steps san false reply = reply ≡ refused_reply s NoSuchNode
IsMoveReplyAt s o old steps san true reply = IsMoveReply s o old steps (move_of (position_at old steps) san) reply

abbrev pub IsInsertReply : State → Environment → Document → List ℕ → List ℕ → Reply → Type 0
IsInsertReply s o empty steps san reply = reply ≡ refused_reply s NoStudy
IsInsertReply s o (start from) steps san reply = reply ≡ refused_reply s NoStudy
IsInsertReply s no_path (study old) [] san reply = IsMoveReplyAt s no_path old [] san (has_spot old.tree []) reply
IsInsertReply s no_path (study old) (k ∷ ks) san reply = reply ≡ refused_reply s OutOfMemory
IsInsertReply s o (study old) steps san reply = IsMoveReplyAt s o old steps san (has_spot old.tree steps) reply

-- ---- nodes

abbrev pub named_start : Option Start → Result Start Refusal
named_start (Some at) = Ok at
named_start None = Err NoSuchNode

-- the start at a node; without a study the root is the only node
abbrev pub start_of_node : Document → List ℕ → Result Start Refusal
start_of_node empty steps = Err NoPosition
start_of_node (start from) [] = Ok from
start_of_node (start from) (k ∷ ks) = Err NoSuchNode
start_of_node (study old) steps = named_start (start_at old steps)

-- `start_of_node`, if there may be no memory for the path; the root's needs none, and without a position no path is read
abbrev pub start_found : Environment → Document → List ℕ → Result Start Refusal
start_found o empty steps = Err NoPosition
start_found no_path (start from) [] = Ok from
start_found no_path (start from) (k ∷ ks) = Err OutOfMemory
start_found no_path (study old) [] = named_start (start_at old [])
start_found no_path (study old) (k ∷ ks) = Err OutOfMemory
start_found _ document steps = start_of_node document steps

-- `moves` and `fen`
abbrev pub moves_reply : State → Result Start Refusal → Reply
moves_reply s (Ok at) = accepted_reply s (moves_text at.position)
moves_reply s (Err refusal) = refused_reply s refusal

abbrev pub fen_reply : State → Result Start Refusal → Reply
fen_reply s (Ok at) = accepted_reply s (reply_line (codes "fen ") (fen_text at))
fen_reply s (Err refusal) = refused_reply s refusal

-- the side to move mates in so many plies against every defence, and not sooner; with None, not within that many of its moves
abbrev pub IsSolution : Position → ℕ → Option ℕ → Type 0
IsSolution p count (Some plies) = IsWon p plies × (plies + 1 ≤ 2 * count)
IsSolution p count None = (n : ℕ) → n + 1 ≤ 2 * count → ¬ (MatesWithin n p)

-- `solve`
abbrev pub IsSolveReply : State → ℕ → Result Start Refusal → Reply → Type 0
IsSolveReply s count (Ok at) reply = (plies : Option ℕ) × IsSolution at.position count plies × (reply ≡ accepted_reply s (solve_text plies))
IsSolveReply s count (Err refusal) reply = reply ≡ refused_reply s refusal

-- a study has the property with its marks, which are those of annotating it from scratch
abbrev pub Annotated : PlainStudy → (Study Mark → Type 0) → Type 0
Annotated old P = (annotated : Study Mark) × IsAnnotated annotated × (plain_study annotated ≡ old) × P annotated

-- `mark`, of a study that is annotated from scratch
abbrev pub marked_reply : State → List ℕ → Option (Spot Mark) → Reply
marked_reply s steps None = refused_reply s NoSuchNode
marked_reply s steps (Some spot) = accepted_reply s (mark_text steps spot.label)

abbrev pub IsMarkReply : State → PlainStudy → List ℕ → Reply → Type 0
IsMarkReply s old steps reply = Annotated old (λ annotated. reply ≡ marked_reply s steps (spot_at annotated.tree steps))

-- `delete`, `promote` and `mark`
abbrev pub IsStudyReply : State → NodeCommand → PlainStudy → List ℕ → Reply → Type 0
IsStudyReply s Delete old steps reply =
    reply ≡ edit_reply s (delete_refusal old steps) (with_deletion old steps) (reply_line (codes "delete ") (path_text steps))
IsStudyReply s Promote old steps reply =
    reply ≡ edit_reply s (promote_refusal old steps) (with_promotion old steps) (reply_line (codes "promote ") (path_text (path_after_move_up steps)))
IsStudyReply s MarkWord old steps reply = IsMarkReply s old steps reply

abbrev pub IsStudyReplyAt : State → Environment → NodeCommand → Document → List ℕ → Reply → Type 0
IsStudyReplyAt s o word empty steps reply = reply ≡ refused_reply s NoStudy
IsStudyReplyAt s o word (start from) steps reply = reply ≡ refused_reply s NoStudy
IsStudyReplyAt s no_path word (study old) [] reply = IsStudyReply s word old [] reply
IsStudyReplyAt s no_path word (study old) (k ∷ ks) reply = reply ≡ refused_reply s OutOfMemory
IsStudyReplyAt s _ word (study old) steps reply = IsStudyReply s word old steps reply

abbrev pub IsNodeReply : State → Environment → NodeQuery → List ℕ → Reply → Type 0
IsNodeReply s o Moves steps reply = reply ≡ moves_reply s (start_found o s.document steps)
IsNodeReply s o FenAt steps reply = reply ≡ fen_reply s (start_found o s.document steps)

-- `pgn`, of a study that is annotated from scratch
abbrev pub IsPgnReply : State → Environment → Document → Reply → Type 0
IsPgnReply s o empty reply = reply ≡ refused_reply s NoStudy
IsPgnReply s o (start from) reply = reply ≡ refused_reply s NoStudy
IsPgnReply s no_room (study old) reply = reply ≡ refused_reply s OutOfMemory
IsPgnReply s _ (study old) reply = Annotated old (λ annotated. reply ≡ accepted_reply s (pgn_text annotated))

-- ---- tables

-- the state with the table of one more class
abbrev pub with_class : State → Class → State
with_class s c = record s { classes = c ∷ s.classes }

-- a right table was built; or no table can be
pub data IsBuilt (s : State) (c : Class) (reply : Reply) : Type 0 where
  built : (t : Table) (win : Option ℕ) → t.class ≡ c → IsComplete t → IsRight t → IsGreatest win_of t.cells win
      → reply ≡ accepted_reply (with_class s c) (built_text c win) → IsBuilt s c reply
  too_far : HasFarPosition c → reply ≡ refused_reply s DistanceTooLarge → IsBuilt s c reply

-- `build`: whether the class is loaded, and the first needed class that is missing
abbrev pub IsBuildReply : State → Environment → Class → Bool → Option Class → Reply → Type 0
IsBuildReply s o c true lacking reply = reply ≡ refused_reply s (AlreadyHeld c)
IsBuildReply s no_room c false lacking reply = reply ≡ refused_reply s OutOfMemory
IsBuildReply s _ c false (Some d) reply = reply ≡ refused_reply s (MissingTable d)
IsBuildReply s _ c false None reply = IsBuilt s c reply

-- the reply for a file that is read whole
abbrev pub loaded_reply : State → Class → Result Table FileFault → Reply
loaded_reply s c (Err fault) = refused_reply s (File fault)
loaded_reply s c (Ok t) = if class_number t.class == class_number c then accepted_reply (with_class s c) (loaded_text c) else refused_reply s
    (OtherClass t.class)

abbrev pub IsLoadReply : State → Environment → Class → Bool → Option Class → Reply → Type 0
IsLoadReply s o c true lacking reply = reply ≡ refused_reply s (AlreadyHeld c)
IsLoadReply s o c false (Some d) reply = reply ≡ refused_reply s (MissingTable d)
IsLoadReply s (unopened fault) c false None reply = IsGiven (s.shelf.files c) (Err fault) × (reply ≡ refused_reply s (refusal_of_store fault))
IsLoadReply s cut_off c false None reply = IsOpened (s.shelf.files c) × (reply ≡ refused_reply s Device)
IsLoadReply s (no_room_for bytes) c false None reply = IsGiven (s.shelf.files c) (Ok bytes) × HasHeader bytes × (reply ≡ refused_reply s OutOfMemory)
IsLoadReply s (file bytes) c false None reply = IsGiven (s.shelf.files c) (Ok bytes) × (reply ≡ loaded_reply s c (table_read bytes))
IsLoadReply s _ c false None reply = ⊥

-- the reply for the header of a source of pages
abbrev pub opened_reply : State → Class → Option PagedFault → Reply
opened_reply s c None = accepted_reply (with_class s c) (loaded_text c)
opened_reply s c (Some fault) = refused_reply s (refusal_of_paged fault)

abbrev pub IsOpenReply : State → Environment → Class → Bool → Reply → Type 0
IsOpenReply s o c true reply = reply ≡ refused_reply s (AlreadyHeld c)
IsOpenReply s (unopened fault) c false reply = IsGiven (s.shelf.headers c) (Err fault) × (reply ≡ refused_reply s (refusal_of_store fault))
IsOpenReply s (no_room_for bytes) c false reply =
    IsGiven (s.shelf.headers c) (Ok bytes) × (paged_fault false c (Ok bytes) ≡ None) × (reply ≡ refused_reply s OutOfMemory)
IsOpenReply s (header reported) c false reply = IsGivenAs (s.shelf.headers c) (s.shelf.faults c) reported
    × (reply ≡ opened_reply s c (paged_fault false c reported))
IsOpenReply s _ c false reply = ⊥

-- `save`: every fault of the store is reported as one of its device; the file is unknown from then on
abbrev pub save_reply : State → Environment → Class → Bool → Reply
save_reply s o c false = refused_reply s (NoTable c)
save_reply s (unopened fault) c true = refused_reply (written_anew s c) Device
save_reply s cut_off c true = refused_reply (written_anew s c) Device
save_reply s _ c true = accepted_reply (written_anew s c) (saved_text c (64 + 4128 * pages_of c))

-- `verify`, of a table that is right
abbrev pub verify_reply : State → Class → Bool → Reply
verify_reply s c false = refused_reply s (NoTable c)
verify_reply s c true = accepted_reply s (verified_text c)

-- `load`, whole or by pages
abbrev pub IsLoadIn : State → Environment → Bool → Class → Reply → Type 0
IsLoadIn s o false c reply = IsLoadReply s o c (is_among s.classes c) (first_lacking s.classes c) reply
IsLoadIn s o true c reply = IsOpenReply s o c (is_among s.classes c) reply

abbrev pub IsTableReply : State → Environment → TableCommand → Class → Reply → Type 0
IsTableReply s o Build c reply = IsBuildReply s o c (is_among s.classes c) (first_lacking s.classes c) reply
IsTableReply s o Load c reply = IsLoadIn s o s.paged c reply
IsTableReply s o Save c reply = reply ≡ save_reply s o c (is_among s.classes c)
IsTableReply s o Verify c reply = reply ≡ verify_reply s c (is_among s.classes c)

abbrev pub IsNamedReply : State → Environment → TableCommand → Option Class → Reply → Type 0
IsNamedReply s o word None reply = reply ≡ refused_reply s NotAClass
IsNamedReply s o word (Some c) reply = IsTableReply s o word c reply

-- the class of a name
unfoldable pub class_parsed : List ℕ → Option Class
class_parsed name = find (λ c. bytes_eq name (name_of c)) class_list

-- all of these except `load` need whole tables
abbrev pub needs_whole_tables : TableCommand → Bool
needs_whole_tables Load = false
needs_whole_tables _ = true

abbrev pub IsClassReplyIn : State → Environment → TableCommand → List ℕ → Bool → Reply → Type 0
IsClassReplyIn s o word name true reply = reply ≡ refused_reply s PagedMode
IsClassReplyIn s o word name false reply = IsNamedReply s o word (class_parsed name) reply

abbrev pub IsClassReply : State → Environment → TableCommand → List ℕ → Reply → Type 0
IsClassReply s o word name reply = IsClassReplyIn s o word name (needs_whole_tables word && s.paged) reply

-- ---- the lines

-- the reply to a command
abbrev pub IsReplyTo : State → Environment → Asked → Reply → Type 0
IsReplyTo s o (fen_command word fen) reply = IsStartReply s o word s.document (start_of fen) reply
IsReplyTo s o (node_query word steps) reply = IsNodeReply s o word steps reply
IsReplyTo s o (node_command word steps) reply = IsStudyReplyAt s o word s.document steps reply
IsReplyTo s o (table_command word name) reply = IsClassReply s o word name reply
IsReplyTo s o (stipulate stipulation) reply = IsStipulateReply s o s.document stipulation reply
IsReplyTo s o (insert steps san) reply = IsInsertReply s o s.document steps san reply
IsReplyTo s o (tag name text) reply = reply ≡ tag_reply s s.document name text
IsReplyTo s o (solve count steps) reply = IsSolveReply s count (start_found o s.document steps) reply
IsReplyTo s o pgn reply = IsPgnReply s o s.document reply

abbrev pub IsReplyWhere : State → Environment → Asks → Reply → Type 0
IsReplyWhere s o (Ok None) reply = reply ≡ accepted_reply s []
IsReplyWhere s o (Ok (Some asked)) reply = IsReplyTo s o asked reply
IsReplyWhere s o (Err fault) reply = reply ≡ refused_reply s (Form fault)

-- the reply to a line, given its environment
abbrev pub IsReply : State → List ℕ → Environment → Reply → Type 0
IsReply s line o reply = IsReplyWhere s o (command_of line) reply

-- ---- studies that are kept apart

abbrev pub names_position : List (List ℕ) → Bool
names_position [] = false
names_position (first ∷ more) = bytes_eq first (codes "position")

-- the first word is `position`
abbrev pub begins_position : List ℕ → Bool
begins_position line = names_position (words line)

-- no position and no study; tables stay
abbrev pub without_document : Bool → State → State
without_document true s = record s { document = empty }
without_document false s = s

-- if a `position` is refused, nothing is left that the lines after it could edit
abbrev pub kept_apart : List ℕ → Reply → Reply
kept_apart line reply = record {
  text = reply.text;
  state = without_document (reply.refused && begins_position line) reply.state;
  refused = reply.refused;
}

-- the reply to a line, whether studies are kept apart or not
abbrev pub IsReplyIn : Bool → State → List ℕ → Environment → Reply → Type 0
IsReplyIn false s line o reply = IsReply s line o reply
IsReplyIn true s line o reply = (plain : Reply) × IsReply s line o plain × (reply ≡ kept_apart line plain)

-- ---- scripts

-- a line's reply, and the environment of the line
abbrev pub Answer : Type 0
Answer = Environment × Reply

-- the replies to lines, one for each; each line starts from the state after the line before it
abbrev pub AreReplies : Bool → State → List (List ℕ) → List Answer → Type 0
AreReplies separate s [] [] = Unit {0}
AreReplies separate s [] (answer ∷ more) = ⊥
AreReplies separate s (line ∷ lines) [] = ⊥
AreReplies separate s (line ∷ lines) (answer ∷ more) =
    IsReplyIn separate s line answer.0 answer.1 × AreReplies separate answer.1.state lines more

-- the bytes of replies
abbrev pub replies_text : List Answer → List ℕ
replies_text replies = flat_map (λ answer. answer.1.text) replies
