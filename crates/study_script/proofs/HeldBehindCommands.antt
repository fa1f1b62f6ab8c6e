-- The state after a command that leaves the store alone.
use Rattle.std.proofs.Common.{◌≡◌, ℕ, Bool, true, false, List, Option, Some, None, Result, Ok, Err, refl, sym, ap, subst, ◌∙◌, [], ◌∷◌}
use Rattle.std.specs.Prelude.{codes}
use Rattle.study_board.specs.Position.{Position}
use Rattle.study_moves.specs.declared.moves.Move.{Move}
use Rattle.study_material.specs.declared.class.Class.{Class}
use Rattle.study_prober.specs.Sources.{GivesOf}
use Rattle.study_values.specs.declared.fault.SourceFault.{SourceFault}
use Rattle.study_table.specs.Table.{Table}
use Rattle.study_notation.specs.declared.start.Start.{Start}
use Rattle.study_notation.specs.declared.fault.FenFault.{FenFault}
use Rattle.study_notation.specs.declared.fault.SanFault.{SanFault}
use Rattle.study_notation.specs.Matching.{move_of}
use Rattle.study_tree.specs.Tree.{has_spot}
use Rattle.study_marks.specs.declared.stipulation.Stipulation.{Stipulation}
use Rattle.study_marks.specs.declared.refusal.Refusal.{Refusal as EditRefusal}
use Rattle.study_marks.specs.Study.{position_at}
use Rattle.study_marks.specs.Queries.{positions_asked}
use Rattle.study_marks.specs.Edits.{PlainStudy, with_start, shift_refusal, insert_refusal}
use Rattle.study_notation.specs.FenSpelling.{fen_text}
use Rattle.study_reply.specs.Words.{reply_line}
use Rattle.study_command.specs.declared.command.FenCommand.{FenCommand}
use Rattle.study_command.specs.declared.command.FenCommand.TheVariants.{Position as PositionWord, Shift}
use Rattle.study_script.specs.declared.store.StoreFault.{StoreFault}
use Rattle.study_script.specs.declared.document.Document.{Document as HeldDocument}
use Rattle.study_script.specs.declared.tables.Tables.{Tables}
use Rattle.study_command.specs.Documents.{Document, empty, start, study}
use Rattle.study_script.specs.State.{State, is_among, Environment, quiet, no_path}
use Rattle.study_values.specs.declared.values.ProbeFault.TheVariants as probe
use Rattle.study_script.specs.State.{no_room, no_room_for, unread, unopened, cut_off, file, header}
use Rattle.study_script.specs.Replies.{Reply, IsValued, missing, found, IsProbingEdit, IsProbingEditWithMemory, IsPositionReply}
use Rattle.study_script.specs.Replies.{IsShiftReply, IsStartReply, IsStipulateReply, IsInserted}
use Rattle.study_script.specs.Replies.{IsMoveReply, IsMoveReplyAt, IsInsertReply}
use Rattle.study_script.specs.SessionHolds.{Holds, HoldsDocument, HoldsFrom, HoldsTables, TablesFrom}
use Rattle.study_script.specs.Stores.{StoreSeen}
use Rattle.study_script.specs.Session.{SessionHolds}

-- ---- replies that keep the mode, and the knowledge of the store

pub record IsBeside (s t : State) : Type 0 where
  pub paged : t.paged ≡ s.paged
  pub shelf : t.shelf ≡ s.shelf

beside : (s : State) (r reply : Reply) → IsBeside s r.state → reply ≡ r → IsBeside s reply.state
beside s r reply h e = subst (λ (x : Reply). IsBeside s x.state) (sym e) h

same_side : (s : State) → IsBeside s s
same_side s = record { paged = refl; shelf = refl }

valued : (s : State) (asked : List Position) (new : PlainStudy) (text : List ℕ) (reply : Reply) → IsValued s asked new text reply → IsBeside s reply.state
valued s asked new text reply (missing c m e) = beside s _ reply (same_side s) e
valued s asked new text reply (found all e) = beside s _ reply (record { paged = refl; shelf = refl }) e

asking_beside : (s : State) (o : Environment) (asked : List Position) (new : PlainStudy) (text : List ℕ) (reply : Reply)
    → IsProbingEdit s o asked new text reply → IsBeside s reply.state
asking_beside s (unread (probe.TableRead f)) asked new text reply h = beside s _ reply (same_side s) h.3
asking_beside s (unread (probe.PageDamaged c n)) asked new text reply h = absurd h
asking_beside s (unread (probe.NoTable c)) asked new text reply h = absurd h
asking_beside s no_room asked new text reply h = valued s asked new text reply h
asking_beside s quiet asked new text reply h = valued s asked new text reply h
asking_beside s no_path asked new text reply h = valued s asked new text reply h
asking_beside s (no_room_for bytes) asked new text reply h = valued s asked new text reply h
asking_beside s (unopened fault) asked new text reply h = valued s asked new text reply h
asking_beside s cut_off asked new text reply h = valued s asked new text reply h
asking_beside s (file bytes) asked new text reply h = valued s asked new text reply h
asking_beside s (header reported) asked new text reply h = valued s asked new text reply h

asked_beside : (s : State) (o : Environment) (asked : List Position) (new : PlainStudy) (text : List ℕ) (reply : Reply)
    → IsProbingEditWithMemory s o asked new text reply → IsBeside s reply.state
asked_beside s no_room asked new text reply h = beside s _ reply (same_side s) h
asked_beside s (unread fault) asked new text reply h = asking_beside s (unread fault) asked new text reply h
asked_beside s quiet asked new text reply h = valued s asked new text reply h
asked_beside s no_path asked new text reply h = valued s asked new text reply h
asked_beside s (no_room_for bytes) asked new text reply h = valued s asked new text reply h
asked_beside s (unopened fault) asked new text reply h = valued s asked new text reply h
asked_beside s cut_off asked new text reply h = valued s asked new text reply h
asked_beside s (file bytes) asked new text reply h = valued s asked new text reply h
asked_beside s (header reported) asked new text reply h = valued s asked new text reply h

position_beside : (s : State) (o : Environment) (b : Document) (new : Start) (reply : Reply) → IsPositionReply s o b new reply → IsBeside s reply.state
position_beside s o empty new reply h = beside s _ reply (record { paged = refl; shelf = refl }) h
position_beside s o (start old) new reply h = beside s _ reply (record { paged = refl; shelf = refl }) h
position_beside s o (study old) new reply h = asking_beside s o _ _ _ reply h

shift_asked : (s : State) (o : Environment) (old : PlainStudy) (new : Start) (reply : Reply)
    → IsProbingEditWithMemory s o (positions_asked (with_start old new)) (with_start old new) (reply_line (codes "shift ") (fen_text new))
    reply → IsBeside s reply.state
shift_asked s o old new reply h = asked_beside s o (positions_asked (with_start old new)) (with_start old new) (reply_line (codes "shift ") (fen_text new))
    reply h

shift_beside : (s : State) (o : Environment) (old : PlainStudy) (new : Start) (r : Option (EditRefusal (Unit {0})))
    (reply : Reply) → IsShiftReply s o old new r reply → IsBeside s reply.state
shift_beside s no_room old new (Some refusal) reply h = beside s _ reply (same_side s) h
shift_beside s quiet old new (Some refusal) reply h = beside s _ reply (same_side s) h
shift_beside s no_path old new (Some refusal) reply h = beside s _ reply (same_side s) h
shift_beside s (no_room_for bytes) old new (Some refusal) reply h = beside s _ reply (same_side s) h
shift_beside s (unread fault) old new (Some refusal) reply h = beside s _ reply (same_side s) h
shift_beside s (unopened fault) old new (Some refusal) reply h = beside s _ reply (same_side s) h
shift_beside s cut_off old new (Some refusal) reply h = beside s _ reply (same_side s) h
shift_beside s (file bytes) old new (Some refusal) reply h = beside s _ reply (same_side s) h
shift_beside s (header reported) old new (Some refusal) reply h = beside s _ reply (same_side s) h
shift_beside s no_room old new None reply h = shift_asked s no_room old new reply h
shift_beside s quiet old new None reply h = shift_asked s quiet old new reply h
shift_beside s no_path old new None reply h = shift_asked s no_path old new reply h
shift_beside s (no_room_for bytes) old new None reply h = shift_asked s (no_room_for bytes) old new reply h
shift_beside s (unread fault) old new None reply h = shift_asked s (unread fault) old new reply h
shift_beside s (unopened fault) old new None reply h = shift_asked s (unopened fault) old new reply h
shift_beside s cut_off old new None reply h = shift_asked s cut_off old new reply h
shift_beside s (file bytes) old new None reply h = shift_asked s (file bytes) old new reply h
shift_beside s (header reported) old new None reply h = shift_asked s (header reported) old new reply h

pub start_beside : (s : State) (word : FenCommand) (b : Document) (read : Result Start FenFault) (o : Environment)
    (reply : Reply) → IsStartReply s o word b read reply → IsBeside s reply.state
start_beside s PositionWord b (Err fault) o reply h = beside s _ reply (same_side s) h
start_beside s PositionWord b (Ok new) o reply h = position_beside s o b new reply h
start_beside s Shift (study old) (Err fault) o reply h = beside s _ reply (same_side s) h
start_beside s Shift (study old) (Ok new) o reply h = shift_beside s o old new (shift_refusal old new) reply h
start_beside s Shift empty read o reply h = beside s _ reply (same_side s) h
start_beside s Shift (start old) read o reply h = beside s _ reply (same_side s) h

pub stipulate_beside : (s : State) (b : Document) (new : Stipulation) (o : Environment) (reply : Reply) → IsStipulateReply s o b new reply
    → IsBeside s reply.state
stipulate_beside s empty new o reply h = beside s _ reply (same_side s) h
stipulate_beside s (start from) new o reply h = asking_beside s o _ _ _ reply h
stipulate_beside s (study old) new o reply h = beside s _ reply (record { paged = refl; shelf = refl }) h

inserted_beside : (s : State) (o : Environment) (old : PlainStudy) (steps : List ℕ) (m : Move)
    (r : Option (EditRefusal (Unit {0}))) (reply : Reply) → IsInserted s o old steps m r reply
    → IsBeside s reply.state
inserted_beside s o old steps m (Some refusal) reply h = beside s _ reply (same_side s) h
inserted_beside s o old steps m None reply h = asked_beside s o _ _ _ reply h

moved_beside : (s : State) (o : Environment) (old : PlainStudy) (steps : List ℕ) (read : Result Move SanFault)
    (reply : Reply) → IsMoveReply s o old steps read reply → IsBeside s reply.state
moved_beside s o old steps (Err fault) reply h = beside s _ reply (same_side s) h
moved_beside s o old steps (Ok m) reply h = inserted_beside s o old steps m (insert_refusal old steps m) reply h

at_beside : (s : State) (o : Environment) (old : PlainStudy) (steps san : List ℕ) (b : Bool) (reply : Reply)
    → IsMoveReplyAt s o old steps san b reply → IsBeside s reply.state
at_beside s o old steps san false reply h = beside s _ reply (same_side s) h
at_beside s o old steps san true reply h = moved_beside s o old steps (move_of (position_at old steps) san) reply h

pub insert_beside : (s : State) (b : Document) (steps san : List ℕ) (o : Environment) (reply : Reply) → IsInsertReply s o b steps san reply
    → IsBeside s reply.state
insert_beside s empty steps san o reply h = beside s _ reply (same_side s) h
insert_beside s (start from) steps san o reply h = beside s _ reply (same_side s) h
insert_beside s (study old) [] san no_path reply h = at_beside s no_path old [] san (has_spot old.tree []) reply h
insert_beside s (study old) (k ∷ ks) san no_path reply h = beside s _ reply (same_side s) h
insert_beside s (study old) steps san quiet reply h = at_beside s quiet old steps san (has_spot old.tree steps) reply h
insert_beside s (study old) steps san no_room reply h = at_beside s no_room old steps san (has_spot old.tree steps) reply h
insert_beside s (study old) steps san (no_room_for bytes) reply h = at_beside s (no_room_for bytes) old steps san (has_spot old.tree steps) reply h
insert_beside s (study old) steps san (unread fault) reply h = at_beside s (unread fault) old steps san (has_spot old.tree steps) reply h
insert_beside s (study old) steps san (unopened fault) reply h = at_beside s (unopened fault) old steps san (has_spot old.tree steps) reply h
insert_beside s (study old) steps san cut_off reply h = at_beside s cut_off old steps san (has_spot old.tree steps) reply h
insert_beside s (study old) steps san (file bytes) reply h = at_beside s (file bytes) old steps san (has_spot old.tree steps) reply h
insert_beside s (study old) steps san (header reported) reply h = at_beside s (header reported) old steps san (has_spot old.tree steps) reply h

-- ---- the state

pub document_held : {P A : Type 0} (honest : P → Table → ℕ → Type 0) (gives : GivesOf P) (b : HeldDocument A) (t : Tables P A) (s : State)
    → Holds honest gives b t s → HoldsDocument b s
document_held honest gives b t s h = record { document = h.document; marks = h.marks }

pub tables_there : {P A : Type 0} (honest : P → Table → ℕ → Type 0) (gives : GivesOf P) (b : HeldDocument A) (t : Tables P A) (s : State)
    → Holds honest gives b t s → HoldsTables honest gives t s
tables_there honest gives b t s h = record { values = h.values; classes = h.classes; paged = h.paged; faults = h.faults }

module _ {S : Type 0} (stores : S → Bool → Type 0) (files headers : S → Class → Option (Result (List ℕ) StoreFault)) (faults : S → Class → SourceFault
    → Bool) where
  store_same : (store : S) (s t : State) → IsBeside s t → StoreSeen stores files headers faults store s → StoreSeen stores files headers faults store t
  store_same store s t e k = record {
    is_honest = subst (stores store) (sym e.paged) k.is_honest;
    known =
        record {
          files_known = λ c. k.known.files_known c ∙ ap (λ x. x.files c) (sym e.shelf);
          headers_known = λ c.
              k.known.headers_known c ∙ ap (λ x. x.headers c) (sym e.shelf);
          faults_known = λ c f. k.known.faults_known c f ∙ ap (λ x. x.faults c f) (sym e.shelf);
        };
  }

module _ {S P A : Type 0} (sources : P → Table → ℕ → Type 0) (gives : GivesOf P) (stores : S → Bool → Type 0)
    (files headers : S → Class → Option (Result (List ℕ) StoreFault)) (faults : S → Class → SourceFault → Bool) where
  -- after an edit that probes the tables
  pub session_edited : (b c : HeldDocument A) (t u : Tables P A) (store : S) (s new : State)
      → SessionHolds sources gives stores files headers faults b t store s → IsBeside s new → Holds sources gives c u new
      → SessionHolds sources gives stores files headers faults c u store new
  session_edited b c t u store s new d e h = record { held = h; seen = store_same stores files headers faults store s new e d.seen }

  -- after a command of the document alone
  pub session_document : (b c : HeldDocument A) (t : Tables P A) (store : S) (s new : State)
      → SessionHolds sources gives stores files headers faults b t store s → HoldsFrom s c new
      → SessionHolds sources gives stores files headers faults c t store new
  session_document b c t store s new d h = record {
    held = record {
      document = h.holds.document;
      marks = h.holds.marks;
      values = d.held.values;
      classes = λ x. d.held.classes x ∙ ap (λ xs. is_among xs x) (sym h.classes);
      paged = d.held.paged ∙ sym h.paged;
      faults = λ x f m. ap (λ y. y.faults x f) h.shelf ∙ d.held.faults x f m;
    };
    seen = store_same stores files headers faults store s new (record { paged = h.paged; shelf = h.shelf }) d.seen;
  }

  -- after a command of a class
  pub session_class : (b : HeldDocument A) (t u : Tables P A) (store other : S) (s new : State)
      → SessionHolds sources gives stores files headers faults b t store s → TablesFrom sources gives s u new
      × StoreSeen stores files headers faults other new → SessionHolds sources gives stores files headers faults b u other new
  session_class b t u store other s new d h = record {
    held =
        record {
          document = d.held.document ∙ sym h.0.document;
          marks = d.held.marks;
          values = h.0.holds.values;
          classes = h.0.holds.classes;
          paged = h.0.holds.paged;
          faults = h.0.holds.faults;
        };
    seen = h.1;
  }
