-- Edits, and `pgn`, are answered by the rules.
use Rattle.std.proofs.Common.{◌≡◌, ℕ, Bool, true, false, List, [], ◌∷◌, length, Option, Some, None, Result, Ok, Err, refl, sym, ap, subst, ◌∙◌, inl, inr}
use Rattle.std.specs.Prelude.{if◌then◌else◌, not, nat_le}
use Rattle.study_board.specs.Position.{Position}
use Rattle.study_moves.specs.declared.moves.Move.{Move}
use Rattle.study_moves.specs.Rules.{is_legal}
use Rattle.study_notation.specs.declared.start.Start.{Start}
use Rattle.study_notation.specs.declared.fault.FenFault.{FenFault}
use Rattle.study_notation.specs.declared.fault.SanFault.{SanFault}
use Rattle.study_notation.specs.Fen.{start_of}
use Rattle.study_notation.specs.Matching.{move_of}
use Rattle.study_tree.specs.Tree.{has_spot, size_of}
use Rattle.study_marks.specs.declared.refusal.Refusal.{Refusal as EditRefusal}
use Rattle.study_marks.specs.declared.refusal.Refusal.TheVariants.{NoSuchNode as NoNode, IllegalMove, TooDeep, TreeFull}
use Rattle.study_marks.specs.declared.tag.TagName.{TagName}
use Rattle.study_marks.specs.declared.stipulation.Stipulation.{Stipulation}
use Rattle.study_marks.specs.Study.{position_at, place_at}
use Rattle.study_marks.specs.Queries.{asked_at, positions_asked}
use Rattle.study_marks.specs.Edits.{PlainStudy, with_position, with_start, with_insertion, with_deletion, with_promotion, with_tag}
use Rattle.study_marks.specs.Edits.{there, insert_refusal, delete_refusal, promote_refusal, shift_refusal, tag_refusal}
use Rattle.study_values.specs.declared.values.ProbeFault.TheVariants as probe
use Rattle.study_command.specs.declared.command.FenCommand.TheVariants.{Position as PositionWord, Shift}
use Rattle.study_command.specs.declared.command.NodeCommand.{NodeCommand}
use Rattle.study_command.specs.declared.command.NodeCommand.TheVariants.{Delete, Promote, Mark}
use Rattle.study_command.specs.Documents.{Document, empty, start, study, unless_refused, after_position, after_shift, after_stipulate, after_tag, after_move}
use Rattle.study_command.specs.Documents.{after_insert, after_delete, after_promote, after_pgn, after_line}
use Rattle.study_command.specs.Parser.{Asks, fen_command, node_query, node_command, table_command, stipulate, insert, tag, solve, pgn, command_of}
use Rattle.study_reply.specs.declared.refusal.Refusal.TheVariants.{OutOfMemory}
use Rattle.study_script.specs.State.{State, Environment, quiet, no_path, no_room, no_room_for, unread, unopened, cut_off, file, header}
use Rattle.study_script.specs.Replies.{Reply, accepted_reply, refused_reply, refused_as, with_study, edit_reply, IsValued, missing, found, IsProbingEdit}
use Rattle.study_script.specs.Replies.{IsProbingEditWithMemory, IsPositionReply, IsShiftReply, IsStartReply, IsStipulateReply, tag_reply, IsInserted}
use Rattle.study_script.specs.Replies.{inserted_text, IsMoveReply, IsMoveReplyAt, IsInsertReply, IsStudyReply, IsStudyReplyAt, IsPgnReply, IsReplyWhere}
use Rattle.study_script.specs.Laws.{is_ruled, IsByTheRules, AreByTheRules}

-- ---- what is written

module _ (s : State) (reply : Reply) where
  refused-by : (words : List ℕ) → reply ≡ refused_as s words → IsByTheRules s None reply
  refused-by words e = (ap (λ (r : Reply). r.refused) e, ap (λ (r : Reply). r.state) e)

  accepted-as : (new : PlainStudy) (text : List ℕ) → reply ≡ accepted_reply (with_study s new) text → IsByTheRules s (Some (study new)) reply
  accepted-as new text e = inl (ap (λ (r : Reply). r.refused) e, ap (λ (r : Reply). r.state) e)

  no-memory : (ruled : Option Document) → reply ≡ refused_reply s OutOfMemory → IsByTheRules s ruled reply
  no-memory None e = refused-by _ e
  no-memory (Some d) e = inr (OutOfMemory, refl, e)

  edited-by : (why : Option (EditRefusal (Unit {0}))) (new : PlainStudy) (text : List ℕ) → reply ≡ edit_reply s why new text
      → IsByTheRules s (unless_refused why new) reply
  edited-by None new text e = accepted-as new text e
  edited-by (Some refusal) new text e = refused-by _ e

  valued : (asked : List Position) (new : PlainStudy) (text : List ℕ) → IsValued s asked new text reply → IsByTheRules s (Some (study new)) reply
  valued asked new text (missing c first e) = inr (_, refl, e)
  valued asked new text (found held e) = accepted-as new text e

  probing : (o : Environment) (asked : List Position) (new : PlainStudy) (text : List ℕ) → IsProbingEdit s o asked new text reply
      → IsByTheRules s (Some (study new)) reply
  probing (unread (probe.TableRead f)) asked new text h = inr (_, refl, h.3)
  probing (unread (probe.PageDamaged c n)) asked new text h = absurd h
  probing (unread (probe.NoTable c)) asked new text h = absurd h
  probing quiet asked new text h = valued asked new text h
  probing no_path asked new text h = valued asked new text h
  probing no_room asked new text h = valued asked new text h
  probing (no_room_for bytes) asked new text h = valued asked new text h
  probing (unopened fault) asked new text h = valued asked new text h
  probing cut_off asked new text h = valued asked new text h
  probing (file bytes) asked new text h = valued asked new text h
  probing (header reported) asked new text h = valued asked new text h

  with-memory : (o : Environment) (asked : List Position) (new : PlainStudy) (text : List ℕ) → IsProbingEditWithMemory s o asked new text reply
      → IsByTheRules s (Some (study new)) reply
  with-memory no_room asked new text h = no-memory (Some (study new)) h
  with-memory quiet asked new text h = probing quiet asked new text h
  with-memory no_path asked new text h = probing no_path asked new text h
  with-memory (no_room_for bytes) asked new text h = probing (no_room_for bytes) asked new text h
  with-memory (unread fault) asked new text h = probing (unread fault) asked new text h
  with-memory (unopened fault) asked new text h = probing (unopened fault) asked new text h
  with-memory cut_off asked new text h = probing cut_off asked new text h
  with-memory (file bytes) asked new text h = probing (file bytes) asked new text h
  with-memory (header reported) asked new text h = probing (header reported) asked new text h

  -- ---- starts and stipulations

  position-ruled : (o : Environment) (d : Document) (new : Start) → IsPositionReply s o d new reply → IsByTheRules s (after_position d (Ok new)) reply
  position-ruled o empty new h = inl (ap (λ (r : Reply). r.refused) h, ap (λ (r : Reply). r.state) h)
  position-ruled o (start old) new h = inl (ap (λ (r : Reply). r.refused) h, ap (λ (r : Reply). r.state) h)
  position-ruled o (study old) new h = probing o (asked_at new.position) (with_position old new) _ h

  shift-ruled : (o : Environment) (old : PlainStudy) (new : Start) (why : Option (EditRefusal (Unit {0}))) → IsShiftReply s o old new why reply
      → IsByTheRules s (unless_refused why (with_start old new)) reply
  shift-ruled o old new None h = with-memory o (positions_asked (with_start old new)) (with_start old new) _ h
  shift-ruled no_room old new (Some refusal) h = no-memory None h
  shift-ruled quiet old new (Some refusal) h = refused-by _ h
  shift-ruled no_path old new (Some refusal) h = refused-by _ h
  shift-ruled (no_room_for bytes) old new (Some refusal) h = refused-by _ h
  shift-ruled (unread fault) old new (Some refusal) h = refused-by _ h
  shift-ruled (unopened fault) old new (Some refusal) h = refused-by _ h
  shift-ruled cut_off old new (Some refusal) h = refused-by _ h
  shift-ruled (file bytes) old new (Some refusal) h = refused-by _ h
  shift-ruled (header reported) old new (Some refusal) h = refused-by _ h

  start-ruled : (o : Environment) (d : Document) (read : Result Start FenFault) → IsStartReply s o PositionWord d read reply
      → IsByTheRules s (after_position d read) reply
  start-ruled o d (Err fault) h = refused-by _ h
  start-ruled o d (Ok new) h = position-ruled o d new h

  other-ruled : (o : Environment) (d : Document) (read : Result Start FenFault) → IsStartReply s o Shift d read reply → IsByTheRules s (after_shift d read) reply
  other-ruled o empty read h = refused-by _ h
  other-ruled o (start old) read h = refused-by _ h
  other-ruled o (study old) (Err fault) h = refused-by _ h
  other-ruled o (study old) (Ok new) h = shift-ruled o old new (shift_refusal old new) h

  stipulate-ruled : (o : Environment) (d : Document) (new : Stipulation) → IsStipulateReply s o d new reply → IsByTheRules s (after_stipulate d new) reply
  stipulate-ruled o empty new h = refused-by _ h
  stipulate-ruled o (start from) new h = probing o (asked_at from.position) _ _ h
  stipulate-ruled o (study old) new h = accepted-as _ _ h

  -- ---- tags and moves

  tag-ruled : (d : Document) (name : TagName) (text : List ℕ) → reply ≡ tag_reply s d name text → IsByTheRules s (after_tag d name text) reply
  tag-ruled empty name text h = refused-by _ h
  tag-ruled (start old) name text h = refused-by _ h
  tag-ruled (study old) name text h = edited-by (tag_refusal text) (with_tag old name text) _ h

  inserted-ruled : (o : Environment) (old : PlainStudy) (at : List ℕ) (m : Move) (why : Option (EditRefusal (Unit {0})))
      → IsInserted s o old at m why reply → IsByTheRules s (unless_refused why (with_insertion old at m)) reply
  inserted-ruled o old at m None h = with-memory o _ (with_insertion old at m) (inserted_text old at m) h
  inserted-ruled o old at m (Some refusal) h = refused-by _ h

  move-ruled : (o : Environment) (old : PlainStudy) (at : List ℕ) (read : Result Move SanFault) → IsMoveReply s o old at read reply
      → IsByTheRules s (after_move old at read) reply
  move-ruled o old at (Err fault) h = refused-by _ h
  move-ruled o old at (Ok m) h = inserted-ruled o old at m (insert_refusal old at m) h

  no-node : (old : PlainStudy) (at : List ℕ) (read : Result Move SanFault) → has_spot old.tree at ≡ false → after_move old at read ≡ None
  no-node old at (Err fault) e = refl
  no-node old at (Ok m) e =
      ap (λ (b : Bool). unless_refused
      (if not b then Some NoNode
      else (if not (is_legal (position_at old at) m) then Some IllegalMove
      else (there (place_at old.tree.below at m)
      (if nat_le 256 (length at) then Some TooDeep else (if nat_le 4096 (size_of old.tree) then Some TreeFull else None)))))
      (with_insertion old at m)) e

  place-ruled : (o : Environment) (old : PlainStudy) (at san : List ℕ) (there : Bool) → has_spot old.tree at ≡ there
      → IsMoveReplyAt s o old at san there reply → IsByTheRules s (after_move old at (move_of (position_at old at) san)) reply
  place-ruled o old at san true e h = move-ruled o old at (move_of (position_at old at) san) h
  place-ruled o old at san false e h =
      subst (λ (d : Option Document). IsByTheRules s d reply) (sym (no-node old at (move_of (position_at old at) san) e)) (refused-by _ h)

  insert-ruled : (o : Environment) (d : Document) (at san : List ℕ) → IsInsertReply s o d at san reply → IsByTheRules s (after_insert d at san) reply
  insert-ruled o empty at san h = refused-by _ h
  insert-ruled o (start old) at san h = refused-by _ h
  insert-ruled no_path (study old) [] san h = place-ruled no_path old [] san (has_spot old.tree []) refl h
  insert-ruled no_path (study old) (k ∷ ks) san h = no-memory (after_insert (study old) (k ∷ ks) san) h
  insert-ruled quiet (study old) at san h = place-ruled quiet old at san (has_spot old.tree at) refl h
  insert-ruled no_room (study old) at san h = place-ruled no_room old at san (has_spot old.tree at) refl h
  insert-ruled (no_room_for bytes) (study old) at san h = place-ruled (no_room_for bytes) old at san (has_spot old.tree at) refl h
  insert-ruled (unread fault) (study old) at san h = place-ruled (unread fault) old at san (has_spot old.tree at) refl h
  insert-ruled (unopened fault) (study old) at san h = place-ruled (unopened fault) old at san (has_spot old.tree at) refl h
  insert-ruled cut_off (study old) at san h = place-ruled cut_off old at san (has_spot old.tree at) refl h
  insert-ruled (file bytes) (study old) at san h = place-ruled (file bytes) old at san (has_spot old.tree at) refl h
  insert-ruled (header reported) (study old) at san h = place-ruled (header reported) old at san (has_spot old.tree at) refl h

  -- ---- nodes

  abbrev Ruled : (Document → List ℕ → Option Document) → NodeCommand → Type 0
  Ruled after word = (old : PlainStudy) (at : List ℕ) → IsStudyReply s word old at reply → IsByTheRules s (after (study old) at) reply

  node-ruled : (after : Document → List ℕ → Option Document) (word : NodeCommand) → Ruled after word → (o : Environment) (old : PlainStudy) (at : List ℕ)
      → IsStudyReplyAt s o word (study old) at reply → IsByTheRules s (after (study old) at) reply
  node-ruled after word by no_path old [] h = by old [] h
  node-ruled after word by no_path old (k ∷ ks) h = no-memory (after (study old) (k ∷ ks)) h
  node-ruled after word by quiet old at h = by old at h
  node-ruled after word by no_room old at h = by old at h
  node-ruled after word by (no_room_for bytes) old at h = by old at h
  node-ruled after word by (unread fault) old at h = by old at h
  node-ruled after word by (unopened fault) old at h = by old at h
  node-ruled after word by cut_off old at h = by old at h
  node-ruled after word by (file bytes) old at h = by old at h
  node-ruled after word by (header reported) old at h = by old at h

  delete-ruled : (o : Environment) (d : Document) (at : List ℕ) → IsStudyReplyAt s o Delete d at reply → IsByTheRules s (after_delete d at) reply
  delete-ruled o empty at h = refused-by _ h
  delete-ruled o (start old) at h = refused-by _ h
  delete-ruled o (study old) at h =
      node-ruled after_delete Delete (λ p k i. edited-by (delete_refusal p k) (with_deletion p k) _ i) o old at h

  promote-ruled : (o : Environment) (d : Document) (at : List ℕ) → IsStudyReplyAt s o Promote d at reply → IsByTheRules s (after_promote d at) reply
  promote-ruled o empty at h = refused-by _ h
  promote-ruled o (start old) at h = refused-by _ h
  promote-ruled o (study old) at h =
      node-ruled after_promote Promote (λ p k i. edited-by (promote_refusal p k) (with_promotion p k) _ i) o old at h

-- ---- the PGN

module _ (s : State) (reply : Reply) where
  -- nothing else has changed, since nothing has
  same-state : (old : PlainStudy) (text : List ℕ) → s.document ≡ study old → reply ≡ accepted_reply s text → IsByTheRules s (Some (study old)) reply
  same-state old text e h = inl (
    ap (λ (r : Reply). r.refused) h,
    ap (λ (r : Reply). r.state) h ∙ ap (λ (d : Document). record s { document = d }) e,
  )

  pgn-ruled : (o : Environment) (d : Document) → s.document ≡ d → IsPgnReply s o d reply → IsByTheRules s (after_pgn d) reply
  pgn-ruled o empty e h = refused-by s reply _ h
  pgn-ruled o (start old) e h = refused-by s reply _ h
  pgn-ruled no_room (study old) e h = no-memory s reply (Some (study old)) h
  pgn-ruled quiet (study old) e h = same-state old _ e h.3
  pgn-ruled no_path (study old) e h = same-state old _ e h.3
  pgn-ruled (no_room_for bytes) (study old) e h = same-state old _ e h.3
  pgn-ruled (unread fault) (study old) e h = same-state old _ e h.3
  pgn-ruled (unopened fault) (study old) e h = same-state old _ e h.3
  pgn-ruled cut_off (study old) e h = same-state old _ e h.3
  pgn-ruled (file bytes) (study old) e h = same-state old _ e h.3
  pgn-ruled (header reported) (study old) e h = same-state old _ e h.3

  -- ---- lines

  line-ruled : (o : Environment) (asks : Asks) → is_ruled asks ≡ true → IsReplyWhere s o asks reply → IsByTheRules s (after_line s.document asks) reply
  line-ruled o (Ok (Some (fen_command PositionWord fen))) e h = start-ruled s reply o s.document (start_of fen) h
  line-ruled o (Ok (Some (fen_command Shift fen))) e h = other-ruled s reply o s.document (start_of fen) h
  line-ruled o (Ok (Some (stipulate aim))) e h = stipulate-ruled s reply o s.document aim h
  line-ruled o (Ok (Some (insert at san))) e h = insert-ruled s reply o s.document at san h
  line-ruled o (Ok (Some (tag name text))) e h = tag-ruled s reply s.document name text h
  line-ruled o (Ok (Some (node_command Delete at))) e h = delete-ruled s reply o s.document at h
  line-ruled o (Ok (Some (node_command Promote at))) e h = promote-ruled s reply o s.document at h
  line-ruled o (Ok (Some pgn)) e h = pgn-ruled o s.document refl h
  line-ruled o (Ok (Some (node_command Mark at))) e h = absurd cc
  line-ruled o (Ok (Some (node_query word at))) e h = absurd cc
  line-ruled o (Ok (Some (table_command word name))) e h = absurd cc
  line-ruled o (Ok (Some (solve count at))) e h = absurd cc
  line-ruled o (Ok None) e h = absurd cc
  line-ruled o (Err fault) e h = absurd cc

pub by-the-rules : AreByTheRules
by-the-rules s line o reply ruled h = line-ruled s reply o (command_of line) ruled h
