-- A line has exactly one reply, given its environment.
use Rattle.std.proofs.Common.{◌≡◌, ℕ, ◌<◌, ◌≤◌, Bool, true, false, List, [], ◌∷◌, length}
use Rattle.std.proofs.Common.{map, slice_index, Option, Some, None, Result, Ok, Err, refl}
use Rattle.std.proofs.Common.{sym, ap, subst, ◌∙◌, inl, inr, arith, true≢false}
use Rattle.std.specs.List.{All}
use Rattle.std.proofs.lemmas.Bool.{cases_Bool, cases_lt}
use Rattle.std.proofs.lemmas.Grind.{common_steps}
use Rattle.study_board.specs.Position.{Position}
use Rattle.study_moves.specs.declared.moves.Move.{Move}
use Rattle.study_moves.specs.Game.{IsWon}
use Rattle.study_moves.specs.Laws.{EachHasAtMostOneValue}
use Rattle.study_material.specs.declared.class.Class.{Class}
use Rattle.study_values.specs.Number.{cells_of}
use Rattle.study_index.specs.Computed.{position_numbered}
use Rattle.study_values.specs.Index.{index_of}
use Rattle.study_values.specs.declared.value.Value.{Value}
use Rattle.study_values.specs.Cells.{distance_of, value_of}
use Rattle.study_table.specs.Table.{Table, IsComplete}
use Rattle.study_table.specs.Sound.{TellsValue, IsRight, HasFarPosition}
use Rattle.study_retro.specs.Report.{Tells, IsGreatest, win_of}
use Rattle.study_table.proofs.SoundLemmas.{at_value}
use Rattle.study_prober.proofs.Tables.{one_class}
use Rattle.study_notation.specs.declared.start.Start.{Start}
use Rattle.study_notation.specs.declared.fault.FenFault.{FenFault}
use Rattle.study_notation.specs.declared.fault.SanFault.{SanFault}
use Rattle.study_notation.specs.Fen.{start_of}
use Rattle.study_notation.specs.Matching.{move_of}
use Rattle.study_tree.specs.Tree.{has_spot, spot_at}
use Rattle.study_marks.specs.declared.mark.Mark.{Mark}
use Rattle.study_marks.specs.declared.stipulation.Stipulation.{Stipulation}
use Rattle.study_marks.specs.declared.refusal.Refusal.{Refusal as EditRefusal}
use Rattle.study_marks.specs.Study.{Study, position_at}
use Rattle.study_marks.specs.Edits.{PlainStudy, with_start, shift_refusal, insert_refusal}
use Rattle.study_marks.specs.Queries.{positions_asked, AreTablesHeld, IsFirstMissing}
use Rattle.study_marks.specs.Laws.{AnnotationsAreUnique}
use Rattle.study_marks.proofs.OneAnnotation.{one-value}
use Rattle.study_pgn.specs.Pgn.{pgn_text}
use Rattle.study_command.specs.declared.command.FenCommand.{FenCommand}
use Rattle.study_command.specs.declared.command.FenCommand.TheVariants.{Position as PositionWord, Shift}
use Rattle.study_command.specs.declared.command.NodeQuery.TheVariants.{Moves, Fen}
use Rattle.study_command.specs.declared.command.NodeCommand.{NodeCommand}
use Rattle.study_command.specs.declared.command.NodeCommand.TheVariants.{Delete, Promote, Mark as MarkWord}
use Rattle.study_command.specs.declared.command.TableCommand.{TableCommand}
use Rattle.study_command.specs.declared.command.TableCommand.TheVariants.{Build, Load, Save, Verify}
use Rattle.study_reply.specs.declared.refusal.Refusal.{Refusal}
use Rattle.study_reply.specs.declared.refusal.Refusal.TheVariants.{NoTable}
use Rattle.study_command.specs.Parser.{Asked, fen_command, node_query, node_command, table_command, stipulate, insert, tag, solve, pgn, Asks, command_of}
use Rattle.study_command.specs.Documents.{Document, empty, start, study}
use Rattle.study_script.specs.State.{State, is_among, first_lacking, Environment, quiet}
use Rattle.study_values.specs.declared.values.ProbeFault.TheVariants as probe
use Rattle.study_script.specs.State.{no_path, no_room, no_room_for, unread, unopened, cut_off, file, header}
use Rattle.std.specs.Prelude.{◌==◌, ◌%◌, ◌&&◌, codes}
use Rattle.study_notation.specs.FenSpelling.{fen_text}
use Rattle.study_material.specs.Class.{IsOf}
use Rattle.study_reply.specs.Words.{reply_line, built_text, solve_text}
use Rattle.study_script.specs.Replies.{Reply, Answer, accepted_reply, refused_reply, with_class, IsValued, missing, found}
use Rattle.study_script.specs.Replies.{IsProbingEdit, IsProbingEditWithMemory, IsPositionReply, IsShiftReply, IsStartReply, IsStipulateReply}
use Rattle.study_script.specs.Replies.{IsInserted, IsMoveReply, IsMoveReplyAt, IsInsertReply, start_found}
use Rattle.study_script.specs.Replies.{IsSolution, IsSolveReply, marked_reply, Annotated, IsStudyReply, IsStudyReplyAt}
use Rattle.study_script.specs.Replies.{IsPgnReply, IsBuilt, built, too_far, IsBuildReply, IsLoadReply, IsOpenReply}
use Rattle.study_script.specs.Replies.{IsLoadIn, IsTableReply, IsNamedReply, class_parsed, needs_whole_tables, IsClassReplyIn}
use Rattle.study_script.specs.Replies.{IsReplyTo, IsReplyWhere, IsReplyIn, kept_apart, AreReplies}
use Rattle.study_script.specs.Laws.{AreUnique}

-- one reply, if each is equal to that one
one : (r a b : Reply) → a ≡ r → b ≡ r → a ≡ b
one r a b e f = e ∙ sym f

-- ---- values that are probed

missing_held : (held : Class → Bool) (ps : List Position) (c : Class) → IsFirstMissing held ps c → AreTablesHeld held ps → ⊥
missing_held held [] c m all = absurd m
missing_held held (p ∷ ps) c (inl m) all = true≢false (sym (all.0 c m.0) ∙ m.1)
missing_held held (p ∷ ps) c (inr m) all = missing_held held ps c m.1 all.1

missing_once : (held : Class → Bool) (ps : List Position) (c d : Class) → IsFirstMissing held ps c → IsFirstMissing held ps d → c ≡ d
missing_once held [] c d m n = absurd m
missing_once held (p ∷ ps) c d (inl m) (inl n) = one_class c d p m.0 n.0
missing_once held (p ∷ ps) c d (inl m) (inr n) = absurd (true≢false (sym (n.0 c m.0) ∙ m.1))
missing_once held (p ∷ ps) c d (inr m) (inl n) = absurd (true≢false (sym (m.0 d n.0) ∙ n.1))
missing_once held (p ∷ ps) c d (inr m) (inr n) = missing_once held ps c d m.1 n.1

valued_once : (s : State) (asked : List Position) (new : PlainStudy) (text : List ℕ) (a b : Reply)
    → IsValued s asked new text a → IsValued s asked new text b → a ≡ b
valued_once s asked new text a b (missing c m e) (missing d n f) =
    e ∙ ap (λ (x : Class). refused_reply s (NoTable x)) (missing_once (is_among s.classes) asked c d m n) ∙ sym f
valued_once s asked new text a b (missing c m e) (found all f) = absurd (missing_held (is_among s.classes) asked c m all.each)
valued_once s asked new text a b (found all e) (missing d n f) = absurd (missing_held (is_among s.classes) asked d n all.each)
valued_once s asked new text a b (found all e) (found more f) = e ∙ sym f

asking_once : (s : State) (o : Environment) (asked : List Position) (new : PlainStudy) (text : List ℕ) (a b : Reply)
    → IsProbingEdit s o asked new text a → IsProbingEdit s o asked new text b → a ≡ b
asking_once s quiet asked new text a b h k = valued_once s asked new text a b h k
asking_once s no_path asked new text a b h k = valued_once s asked new text a b h k
asking_once s no_room asked new text a b h k = valued_once s asked new text a b h k
asking_once s (no_room_for bytes) asked new text a b h k = valued_once s asked new text a b h k
asking_once s (unread (probe.TableRead f)) asked new text a b h k = h.3 ∙ sym k.3
asking_once s (unread (probe.PageDamaged c n)) asked new text a b h k = absurd h
asking_once s (unread (probe.NoTable c)) asked new text a b h k = absurd h
asking_once s (unopened fault) asked new text a b h k = valued_once s asked new text a b h k
asking_once s cut_off asked new text a b h k = valued_once s asked new text a b h k
asking_once s (file bytes) asked new text a b h k = valued_once s asked new text a b h k
asking_once s (header reported) asked new text a b h k = valued_once s asked new text a b h k

asked_once : (s : State) (o : Environment) (asked : List Position) (new : PlainStudy) (text : List ℕ) (a b : Reply)
    → IsProbingEditWithMemory s o asked new text a → IsProbingEditWithMemory s o asked new text b → a ≡ b
asked_once s quiet asked new text a b h k = valued_once s asked new text a b h k
asked_once s no_path asked new text a b h k = valued_once s asked new text a b h k
asked_once s no_room asked new text a b h k = h ∙ sym k
asked_once s (no_room_for bytes) asked new text a b h k = valued_once s asked new text a b h k
asked_once s (unread fault) asked new text a b h k = asking_once s (unread fault) asked new text a b h k
asked_once s (unopened fault) asked new text a b h k = valued_once s asked new text a b h k
asked_once s cut_off asked new text a b h k = valued_once s asked new text a b h k
asked_once s (file bytes) asked new text a b h k = valued_once s asked new text a b h k
asked_once s (header reported) asked new text a b h k = valued_once s asked new text a b h k

-- ---- starts and stipulations

position_once : (s : State) (o : Environment) (at : Document) (new : Start) (a b : Reply) → IsPositionReply s o at new a → IsPositionReply s o at new b → a ≡ b
position_once s o empty new a b h k = h ∙ sym k
position_once s o (start old) new a b h k = h ∙ sym k
position_once s o (study old) new a b h k = asking_once s o _ _ _ a b h k

shift_once : (s : State) (o : Environment) (old : PlainStudy) (new : Start) (r : Option (EditRefusal (Unit {0})))
    (a b : Reply) → IsShiftReply s o old new r a → IsShiftReply s o old new r b → a ≡ b
shift_once s quiet old new (Some refusal) a b h k = h ∙ sym k
shift_once s quiet old new None a b h k =
    asked_once s quiet (positions_asked (with_start old new)) (with_start old new) (reply_line (codes "shift ") (fen_text new)) a b h k
shift_once s no_path old new (Some refusal) a b h k = h ∙ sym k
shift_once s no_path old new None a b h k =
    asked_once s no_path (positions_asked (with_start old new)) (with_start old new) (reply_line (codes "shift ") (fen_text new))
    a b h k
shift_once s no_room old new (Some refusal) a b h k = h ∙ sym k
shift_once s no_room old new None a b h k =
    asked_once s no_room (positions_asked (with_start old new)) (with_start old new) (reply_line (codes "shift ") (fen_text new))
    a b h k
shift_once s (no_room_for bytes) old new (Some refusal) a b h k = h ∙ sym k
shift_once s (no_room_for bytes) old new None a b h k =
    asked_once s (no_room_for bytes) (positions_asked (with_start old new)) (with_start old new)
    (reply_line (codes "shift ") (fen_text new)) a b h k
shift_once s (unread fault) old new (Some refusal) a b h k = h ∙ sym k
shift_once s (unread fault) old new None a b h k =
    asked_once s (unread fault) (positions_asked (with_start old new)) (with_start old new)
    (reply_line (codes "shift ") (fen_text new)) a b h k
shift_once s (unopened fault) old new (Some refusal) a b h k = h ∙ sym k
shift_once s (unopened fault) old new None a b h k =
    asked_once s (unopened fault) (positions_asked (with_start old new)) (with_start old new)
    (reply_line (codes "shift ") (fen_text new)) a b h k
shift_once s cut_off old new (Some refusal) a b h k = h ∙ sym k
shift_once s cut_off old new None a b h k =
    asked_once s cut_off (positions_asked (with_start old new)) (with_start old new) (reply_line (codes "shift ") (fen_text new))
    a b h k
shift_once s (file bytes) old new (Some refusal) a b h k = h ∙ sym k
shift_once s (file bytes) old new None a b h k =
    asked_once s (file bytes) (positions_asked (with_start old new)) (with_start old new)
    (reply_line (codes "shift ") (fen_text new)) a b h k
shift_once s (header reported) old new (Some refusal) a b h k = h ∙ sym k
shift_once s (header reported) old new None a b h k =
    asked_once s (header reported) (positions_asked (with_start old new)) (with_start old new)
    (reply_line (codes "shift ") (fen_text new)) a b h k

start_once : (s : State) (o : Environment) (word : FenCommand) (at : Document) (read : Result Start FenFault) (a b : Reply)
    → IsStartReply s o word at read a → IsStartReply s o word at read b → a ≡ b
start_once s o PositionWord at (Err fault) a b h k = h ∙ sym k
start_once s o PositionWord at (Ok new) a b h k = position_once s o at new a b h k
start_once s o Shift (study old) (Err fault) a b h k = h ∙ sym k
start_once s o Shift (study old) (Ok new) a b h k = shift_once s o old new (shift_refusal old new) a b h k
start_once s o Shift empty read a b h k = h ∙ sym k
start_once s o Shift (start old) read a b h k = h ∙ sym k

stipulate_once : (s : State) (o : Environment) (at : Document) (new : Stipulation) (a b : Reply)
    → IsStipulateReply s o at new a → IsStipulateReply s o at new b → a ≡ b
stipulate_once s o empty new a b h k = h ∙ sym k
stipulate_once s o (start from) new a b h k = asking_once s o _ _ _ a b h k
stipulate_once s o (study old) new a b h k = h ∙ sym k

-- ---- nodes

inserted_once : (s : State) (o : Environment) (old : PlainStudy) (steps : List ℕ) (m : Move)
    (r : Option (EditRefusal (Unit {0}))) (a b : Reply) → IsInserted s o old steps m r a
    → IsInserted s o old steps m r b → a ≡ b
inserted_once s o old steps m (Some refusal) a b h k = h ∙ sym k
inserted_once s o old steps m None a b h k = asked_once s o _ _ _ a b h k

moved_once : (s : State) (o : Environment) (old : PlainStudy) (steps : List ℕ) (read : Result Move SanFault) (a b : Reply)
    → IsMoveReply s o old steps read a → IsMoveReply s o old steps read b → a ≡ b
moved_once s o old steps (Err fault) a b h k = h ∙ sym k
moved_once s o old steps (Ok m) a b h k = inserted_once s o old steps m (insert_refusal old steps m) a b h k

move_at_once : (s : State) (o : Environment) (old : PlainStudy) (steps san : List ℕ) (there : Bool) (a b : Reply)
    → IsMoveReplyAt s o old steps san there a → IsMoveReplyAt s o old steps san there b → a ≡ b
move_at_once s o old steps san false a b h k = h ∙ sym k
move_at_once s o old steps san true a b h k = moved_once s o old steps (move_of (position_at old steps) san) a b h k

insert_once : (s : State) (o : Environment) (at : Document) (steps san : List ℕ) (a b : Reply)
    → IsInsertReply s o at steps san a → IsInsertReply s o at steps san b → a ≡ b
insert_once s o empty steps san a b h k = h ∙ sym k
insert_once s o (start from) steps san a b h k = h ∙ sym k
insert_once s quiet (study old) steps san a b h k = move_at_once s quiet old steps san (has_spot old.tree steps) a b h k
insert_once s no_path (study old) [] san a b h k = move_at_once s no_path old [] san (has_spot old.tree []) a b h k
insert_once s no_path (study old) (j ∷ js) san a b h k = h ∙ sym k
insert_once s no_room (study old) steps san a b h k = move_at_once s no_room old steps san (has_spot old.tree steps) a b h k
insert_once s (no_room_for bytes) (study old) steps san a b h k = move_at_once s (no_room_for bytes) old steps san (has_spot old.tree steps) a b h k
insert_once s (unread fault) (study old) steps san a b h k = move_at_once s (unread fault) old steps san (has_spot old.tree steps) a b h k
insert_once s (unopened fault) (study old) steps san a b h k = move_at_once s (unopened fault) old steps san (has_spot old.tree steps) a b h k
insert_once s cut_off (study old) steps san a b h k = move_at_once s cut_off old steps san (has_spot old.tree steps) a b h k
insert_once s (file bytes) (study old) steps san a b h k = move_at_once s (file bytes) old steps san (has_spot old.tree steps) a b h k
insert_once s (header reported) (study old) steps san a b h k = move_at_once s (header reported) old steps san (has_spot old.tree steps) a b h k

-- the least number of plies is unique
won_once : (p : Position) (n m : ℕ) → IsWon p n → IsWon p m → n ≡ m
won_once p n m a b =
    elim (cases_lt n m) [
      | inl lt ↦ absurd (b.1 n lt a.0)
      | inr ge ↦ elim (cases_lt m n)
          [ inl lt ↦ absurd (a.1 m lt b.0) | inr le ↦ omega arith ]
    ]

solution_once : (p : Position) (count : ℕ) (a b : Option ℕ) → IsSolution p count a → IsSolution p count b → a ≡ b
solution_once p count None None x y = refl
solution_once p count None (Some m) x y = absurd (x m y.1 y.0.0)
solution_once p count (Some n) None x y = absurd (y n x.1 x.0.0)
solution_once p count (Some n) (Some m) x y = ap (λ (k : ℕ). Some k) (won_once p n m x.0 y.0)

solve_once : (s : State) (count : ℕ) (found : Result Start Refusal) (a b : Reply) → IsSolveReply s count found a → IsSolveReply s count found b → a ≡ b
solve_once s count (Ok at) a b (n, x, e) (m, y, f) =
    e ∙ ap (λ (plies : Option ℕ). accepted_reply s (solve_text plies)) (solution_once at.position count n m x y) ∙ sym f
solve_once s count (Err refusal) a b e f = e ∙ sym f

module _ (one_annotation : AnnotationsAreUnique) where
  annotated_once : (old : PlainStudy) (reported : Study Mark → Reply) (a b : Reply) → Annotated old (λ x. a ≡ reported x)
      → Annotated old (λ x. b ≡ reported x) → a ≡ b
  annotated_once old reported a b (x, is, from, e) (y, are, same, f) = e ∙ ap reported (one_annotation x y is are (from ∙ sym same)) ∙ sym f

  study_once : (s : State) (word : NodeCommand) (old : PlainStudy) (steps : List ℕ) (a b : Reply)
      → IsStudyReply s word old steps a → IsStudyReply s word old steps b → a ≡ b
  study_once s Delete old steps a b h k = h ∙ sym k
  study_once s Promote old steps a b h k = h ∙ sym k
  study_once s MarkWord old steps a b h k = annotated_once old (λ x. marked_reply s steps (spot_at x.tree steps)) a b h k

  study_at_once : (s : State) (o : Environment) (word : NodeCommand) (at : Document) (steps : List ℕ) (a b : Reply)
      → IsStudyReplyAt s o word at steps a → IsStudyReplyAt s o word at steps b → a ≡ b
  study_at_once s o word empty steps a b h k = h ∙ sym k
  study_at_once s o word (start from) steps a b h k = h ∙ sym k
  study_at_once s quiet word (study old) steps a b h k = study_once s word old steps a b h k
  study_at_once s no_path word (study old) [] a b h k = study_once s word old [] a b h k
  study_at_once s no_path word (study old) (j ∷ js) a b h k = h ∙ sym k
  study_at_once s no_room word (study old) steps a b h k = study_once s word old steps a b h k
  study_at_once s (no_room_for bytes) word (study old) steps a b h k = study_once s word old steps a b h k
  study_at_once s (unread fault) word (study old) steps a b h k = study_once s word old steps a b h k
  study_at_once s (unopened fault) word (study old) steps a b h k = study_once s word old steps a b h k
  study_at_once s cut_off word (study old) steps a b h k = study_once s word old steps a b h k
  study_at_once s (file bytes) word (study old) steps a b h k = study_once s word old steps a b h k
  study_at_once s (header reported) word (study old) steps a b h k = study_once s word old steps a b h k

  pgn_once : (s : State) (o : Environment) (at : Document) (a b : Reply) → IsPgnReply s o at a → IsPgnReply s o at b → a ≡ b
  pgn_once s o empty a b h k = h ∙ sym k
  pgn_once s o (start from) a b h k = h ∙ sym k
  pgn_once s quiet (study old) a b h k = annotated_once old (λ x. accepted_reply s (pgn_text x)) a b h k
  pgn_once s no_path (study old) a b h k = annotated_once old (λ x. accepted_reply s (pgn_text x)) a b h k
  pgn_once s no_room (study old) a b h k = h ∙ sym k
  pgn_once s (no_room_for bytes) (study old) a b h k = annotated_once old (λ x. accepted_reply s (pgn_text x)) a b h k
  pgn_once s (unread fault) (study old) a b h k = annotated_once old (λ x. accepted_reply s (pgn_text x)) a b h k
  pgn_once s (unopened fault) (study old) a b h k = annotated_once old (λ x. accepted_reply s (pgn_text x)) a b h k
  pgn_once s cut_off (study old) a b h k = annotated_once old (λ x. accepted_reply s (pgn_text x)) a b h k
  pgn_once s (file bytes) (study old) a b h k = annotated_once old (λ x. accepted_reply s (pgn_text x)) a b h k
  pgn_once s (header reported) (study old) a b h k = annotated_once old (λ x. accepted_reply s (pgn_text x)) a b h k

-- ---- tables

module _ (one_value : EachHasAtMostOneValue) where
  reported_once : (at : Option Position) (x y : ℕ) → TellsValue at x → TellsValue at y → value_of x ≡ value_of y
  reported_once None x y h k = ap value_of (h ∙ sym k)
  reported_once (Some p) x y h k = one-value one_value p (value_of x) (value_of y) h k

  reported_again : (c : Class) (t u : Table) → t.class ≡ c → u.class ≡ c → IsComplete t → IsComplete u → IsRight t
      → IsRight u → (m : ℕ) → Tells win_of t.cells m → Tells win_of u.cells m
  reported_again c t u e f whole complete right good m h =
      let n = h.cell in
      let size : length t.cells ≡ cells_of c = whole.size ∙ ap cells_of e in
      let length_u : length u.cells ≡ cells_of c = complete.size ∙ ap cells_of f in
      let lt : n < length t.cells = h.inside in
      let inside : n < cells_of c = omega (arith, size) in
      let first = subst (λ (d : Class). n < cells_of d → TellsValue (position_numbered d n) (slice_index t.cells n)) e (right.tells n) inside in
      let second = subst (λ (d : Class). n < cells_of d → TellsValue (position_numbered d n) (slice_index u.cells n)) f (good.tells n) inside in
      record {
        cell = n;
        inside = omega (arith, length_u);
        is = ap win_of (reported_once (position_numbered c n) (slice_index u.cells n) (slice_index t.cells n) second first)
            ∙ h.is;
      }

  greatest_once : (cs ds : List ℕ) → ((m : ℕ) → Tells win_of cs m → Tells win_of ds m)
      → ((m : ℕ) → Tells win_of ds m → Tells win_of cs m) → (x y : Option ℕ) → IsGreatest win_of cs x
      → IsGreatest win_of ds y → x ≡ y
  greatest_once cs ds on back None None g h = refl
  greatest_once cs ds on back None (Some m) g h = absurd (g m (back m h.0))
  greatest_once cs ds on back (Some n) None g h = absurd (h n (on n g.0))
  greatest_once cs ds on back (Some n) (Some m) g h = let le = h.1 n (on n g.0) in let ge = g.1 m (back m h.0) in
      let same : n ≡ m = omega arith in ap (λ (k : ℕ). Some k) same

  small_at : (xs : List ℕ) (k : ℕ) → All (λ c. c < 256) xs → slice_index xs k < 256
  small_at xs k all =
      elim (cases_lt k (length xs)) [
        | inl lt ↦ all k 0 lt
        | inr ge ↦
            let none : slice_index xs k ≡ 0 = grind (arith, common_steps) in omega (arith, none)
      ]

  near : (cell : ℕ) → cell < 256 → distance_of (value_of cell) ≤ 254
  near cell lt =
      elim (cases_Bool (cell == 0)) [
        | inl zero ↦ rw zero (omega arith)
        | inr some ↦ elim (cases_Bool (cell % 2 == 1)) [ inl odd ↦ rw (some, odd) (omega arith) | inr even ↦ rw (some, even) (omega arith) ]
      ]

  not_far : (c : Class) (t : Table) → t.class ≡ c → IsComplete t → IsRight t → HasFarPosition c → ⊥
  not_far c t e complete right (p, (v, far)) =
      let cell = slice_index t.cells (index_of p) in
      let reported = at_value t p (value_of cell) complete far.valid (subst (λ (d : Class). IsOf d p) (sym e) far.of_class) refl right in
      let same : v ≡ value_of cell = one-value one_value p v (value_of cell) far.value reported in
      let small = near cell (small_at t.cells (index_of p) complete.bytes) in
      let long : 254 < distance_of (value_of cell) = subst (λ (x : Value). 254 < distance_of x) same far.far in
      omega arith

  built_once : (s : State) (c : Class) (a b : Reply) → IsBuilt s c a → IsBuilt s c b → a ≡ b
  built_once s c a b (built t x e whole right g h) (built u y f complete good i k) =
      h ∙ ap (λ (w : Option ℕ). accepted_reply (with_class s c) (built_text c w))
      (greatest_once t.cells u.cells (reported_again c t u e f whole complete right good)
      (reported_again c u t f e complete whole good right) x y g i) ∙ sym k
  built_once s c a b (built t x e whole right g h) (too_far far k) = absurd (not_far c t e whole right far)
  built_once s c a b (too_far far h) (built u y f complete good i k) = absurd (not_far c u f complete good far)
  built_once s c a b (too_far far h) (too_far more k) = h ∙ sym k

  build_once : (s : State) (o : Environment) (c : Class) (holds : Bool) (lacking : Option Class) (a b : Reply)
      → IsBuildReply s o c holds lacking a → IsBuildReply s o c holds lacking b → a ≡ b
  build_once s o c true lacking a b h k = h ∙ sym k
  build_once s quiet c false (Some d) a b h k = h ∙ sym k
  build_once s quiet c false None a b h k = built_once s c a b h k
  build_once s no_path c false (Some d) a b h k = h ∙ sym k
  build_once s no_path c false None a b h k = built_once s c a b h k
  build_once s no_room c false lacking a b h k = h ∙ sym k
  build_once s (no_room_for bytes) c false (Some d) a b h k = h ∙ sym k
  build_once s (no_room_for bytes) c false None a b h k = built_once s c a b h k
  build_once s (unread fault) c false (Some d) a b h k = h ∙ sym k
  build_once s (unread fault) c false None a b h k = built_once s c a b h k
  build_once s (unopened fault) c false (Some d) a b h k = h ∙ sym k
  build_once s (unopened fault) c false None a b h k = built_once s c a b h k
  build_once s cut_off c false (Some d) a b h k = h ∙ sym k
  build_once s cut_off c false None a b h k = built_once s c a b h k
  build_once s (file bytes) c false (Some d) a b h k = h ∙ sym k
  build_once s (file bytes) c false None a b h k = built_once s c a b h k
  build_once s (header reported) c false (Some d) a b h k = h ∙ sym k
  build_once s (header reported) c false None a b h k = built_once s c a b h k

load_once : (s : State) (o : Environment) (c : Class) (holds : Bool) (lacking : Option Class) (a b : Reply)
    → IsLoadReply s o c holds lacking a → IsLoadReply s o c holds lacking b → a ≡ b
load_once s o c true lacking a b h k = h ∙ sym k
load_once s o c false (Some d) a b h k = h ∙ sym k
load_once s quiet c false None a b h k = absurd h
load_once s no_path c false None a b h k = absurd h
load_once s no_room c false None a b h k = absurd h
load_once s (no_room_for bytes) c false None a b h k = h.2 ∙ sym k.2
load_once s (unread fault) c false None a b h k = absurd h
load_once s (unopened fault) c false None a b h k = h.1 ∙ sym k.1
load_once s cut_off c false None a b h k = h.1 ∙ sym k.1
load_once s (file bytes) c false None a b h k = h.1 ∙ sym k.1
load_once s (header reported) c false None a b h k = absurd h

open_once : (s : State) (o : Environment) (c : Class) (holds : Bool) (a b : Reply) → IsOpenReply s o c holds a → IsOpenReply s o c holds b → a ≡ b
open_once s o c true a b h k = h ∙ sym k
open_once s quiet c false a b h k = absurd h
open_once s no_path c false a b h k = absurd h
open_once s no_room c false a b h k = absurd h
open_once s (no_room_for bytes) c false a b h k = h.2 ∙ sym k.2
open_once s (unread fault) c false a b h k = absurd h
open_once s (unopened fault) c false a b h k = h.1 ∙ sym k.1
open_once s cut_off c false a b h k = absurd h
open_once s (file bytes) c false a b h k = absurd h
open_once s (header reported) c false a b h k = h.1 ∙ sym k.1

load_in_once : (s : State) (o : Environment) (by_pages : Bool) (c : Class) (a b : Reply) → IsLoadIn s o by_pages c a → IsLoadIn s o by_pages c b → a ≡ b
load_in_once s o false c a b h k = load_once s o c (is_among s.classes c) (first_lacking s.classes c) a b h k
load_in_once s o true c a b h k = open_once s o c (is_among s.classes c) a b h k

module _ (one_value : EachHasAtMostOneValue) (one_annotation : AnnotationsAreUnique) where
  table_once : (s : State) (o : Environment) (word : TableCommand) (c : Class) (a b : Reply) → IsTableReply s o word c a → IsTableReply s o word c b → a ≡ b
  table_once s o Build c a b h k = build_once one_value s o c (is_among s.classes c) (first_lacking s.classes c) a b h k
  table_once s o Load c a b h k = load_in_once s o s.paged c a b h k
  table_once s o Save c a b h k = h ∙ sym k
  table_once s o Verify c a b h k = h ∙ sym k

  named_once : (s : State) (o : Environment) (word : TableCommand) (named : Option Class) (a b : Reply)
      → IsNamedReply s o word named a → IsNamedReply s o word named b → a ≡ b
  named_once s o word None a b h k = h ∙ sym k
  named_once s o word (Some c) a b h k = table_once s o word c a b h k

  class_once : (s : State) (o : Environment) (word : TableCommand) (name : List ℕ) (refuses : Bool) (a b : Reply)
      → IsClassReplyIn s o word name refuses a → IsClassReplyIn s o word name refuses b → a ≡ b
  class_once s o word name true a b h k = h ∙ sym k
  class_once s o word name false a b h k = named_once s o word (class_parsed name) a b h k

  -- ---- lines

  command_once : (s : State) (o : Environment) (asked : Asked) (a b : Reply) → IsReplyTo s o asked a → IsReplyTo s o asked b → a ≡ b
  command_once s o (fen_command word fen) a b h k = start_once s o word s.document (start_of fen) a b h k
  command_once s o (node_query Moves steps) a b h k = h ∙ sym k
  command_once s o (node_query Fen steps) a b h k = h ∙ sym k
  command_once s o (node_command word steps) a b h k = study_at_once one_annotation s o word s.document steps a b h k
  command_once s o (table_command word name) a b h k = class_once s o word name (needs_whole_tables word && s.paged) a b h k
  command_once s o (stipulate stipulation) a b h k = stipulate_once s o s.document stipulation a b h k
  command_once s o (insert steps san) a b h k = insert_once s o s.document steps san a b h k
  command_once s o (tag name text) a b h k = h ∙ sym k
  command_once s o (solve count steps) a b h k = solve_once s count (start_found o s.document steps) a b h k
  command_once s o pgn a b h k = pgn_once one_annotation s o s.document a b h k

  reply_once : (s : State) (o : Environment) (asks : Asks) (a b : Reply) → IsReplyWhere s o asks a → IsReplyWhere s o asks b → a ≡ b
  reply_once s o (Ok None) a b h k = h ∙ sym k
  reply_once s o (Ok (Some asked)) a b h k = command_once s o asked a b h k
  reply_once s o (Err fault) a b h k = h ∙ sym k

  in_mode_once : (separate : Bool) (s : State) (o : Environment) (line : List ℕ) (a b : Reply)
      → IsReplyIn separate s line o a → IsReplyIn separate s line o b → a ≡ b
  in_mode_once false s o line a b h k = reply_once s o (command_of line) a b h k
  in_mode_once true s o line a b (c, h, e) (d, k, f) = e ∙ ap (kept_apart line) (reply_once s o (command_of line) c d h k) ∙ sym f

  pub replies-unique : AreUnique
  replies-unique separate s [] [] [] e h k = refl
  replies-unique separate s [] [] (b ∷ bs) e h k = absurd k
  replies-unique separate s [] (a ∷ rest) bs e h k = absurd h
  replies-unique separate s (line ∷ lines) [] bs e h k = absurd h
  replies-unique separate s (line ∷ lines) (a ∷ rest) [] e h k = absurd k
  replies-unique separate s (line ∷ lines) ((o, a) ∷ rest) ((p, b) ∷ bs) e h k =
      let outside : o ≡ p = ap (first_of o) e in
      let others : map (λ (x : Answer). x.0) rest ≡ map (λ (x : Answer). x.0) bs = ap behind e in
      let same : a ≡ b = in_mode_once separate s o line a b h.0 (subst (λ (x : Environment). IsReplyIn separate s line x b) (sym outside) k.0) in
      let more = replies-unique separate a.state lines rest bs others h.1 (subst (λ (r : Reply). AreReplies separate r.state lines bs) (sym same) k.1) in
      ap (λ (x : Environment). (x, a) ∷ rest) outside ∙ ap (λ (x : Reply). (p, x) ∷ rest) same ∙ ap (λ (xs : List Answer). (p, b) ∷ xs) more
    where
      first_of : Environment → List Environment → Environment
      first_of d [] = d
      first_of d (x ∷ xs) = x

      behind : List Environment → List Environment
      behind [] = []
      behind (x ∷ xs) = xs
