-- The replies to `shift`.
use Rattle.std.proofs.Common.{◌≡◌, ℕ, suc, Bool, true, List, [], ◌∷◌, Option, Some, None, refl, ap, ◌∙◌, inl, inr}
use Rattle.std.specs.Prelude.{if◌then◌else◌}
use Rattle.study_board.specs.Position.{Position}
use Rattle.study_moves.specs.Rules.{is_legal, after}
use Rattle.study_material.specs.declared.class.Class.{Class}
use Rattle.study_notation.specs.declared.start.Start.{Start}
use Rattle.study_tree.specs.Forest.{Forest, none, more}
use Rattle.study_marks.specs.declared.refusal.Refusal.{Refusal as EditRefusal}
use Rattle.study_marks.specs.Study.{Study, mapped, plain_study}
use Rattle.study_marks.specs.Queries.{positions_asked}
use Rattle.study_marks.specs.Answers.{IsUndamaged}
use Rattle.study_marks.specs.EditLists.{IsShiftRefusal}
use Rattle.study_marks.specs.Edits.{PlainStudy, first_path, first_illegal_from, broken, with_start, shift_refusal}
use Rattle.study_reply.specs.Names.{edit_words}
use Rattle.study_script.specs.State.{State, is_among, Environment, quiet, no_path, no_room, no_room_for, unread, unopened, cut_off, file, header}
use Rattle.study_script.specs.Replies.{Reply, refused_as, IsProbingEditWithMemory, IsShiftReply}
use Rattle.study_reply.specs.Words.{reply_line}
use Rattle.study_script.specs.SessionHolds.{HasNoDeviceFault, IsFailingTable}
use Rattle.study_script.proofs.AskingEdits.{refused_outside}
use Rattle.study_notation.specs.FenSpelling.{fen_text}
use Rattle.std.specs.Prelude.{codes}

module _ {L M : Type 0} where
  -- labels do not matter to the legality of moves
  broken_mapped : (f : L → M) (k : ℕ) (p : Position) (t : Forest L) → first_illegal_from k p (mapped f t) ≡ first_illegal_from k p t
  broken_mapped f k p none = refl
  broken_mapped f k p (more m l b r) =
      ap (λ (x : Option (List ℕ)). if is_legal p m then first_path k x (first_illegal_from (suc k) p (mapped f r)) else Some (k ∷ []))
      (broken_mapped f 0 (after p m) b)
      ∙ ap (λ (y : Option (List ℕ)). if is_legal p m then first_path k (first_illegal_from 0 (after p m) b) y else Some (k ∷ [])) (broken_mapped f (suc k) p r)

-- no move of the tree is broken
pub unbroken : {L : Type 0} (A : Type 0) (s : Study L) (new : Start) → first_illegal_from 0 new.position s.tree.below
    ≡ None → shift_refusal {A = A} (plain_study s) new ≡ None
unbroken A s new e = ap (broken {A = A}) (broken_mapped (λ _. tt) 0 new.position s.tree.below ∙ e)

-- a shift that is legal is an edit that probes tables
pub unbroken_reply : (s : State) (o : Environment) (old : PlainStudy) (new : Start) (reply : Reply)
    → IsProbingEditWithMemory s o (positions_asked (with_start old new)) (with_start old new) (reply_line (codes "shift ") (fen_text new))
    reply → IsShiftReply s o old new None reply
unbroken_reply s quiet old new reply h = h
unbroken_reply s no_path old new reply h = h
unbroken_reply s no_room old new reply h = h
unbroken_reply s (no_room_for bytes) old new reply h = h
unbroken_reply s (unread fault) old new reply h = h
unbroken_reply s (unopened fault) old new reply h = h
unbroken_reply s cut_off old new reply h = h
unbroken_reply s (file bytes) old new reply h = h
unbroken_reply s (header reported) old new reply h = h

-- a refused shift has that reply
shift_refused_at : (A : Type 0) (s : State) (held : Class → Bool) (paged : Bool) (old : PlainStudy) (new : Start)
    (b : Option (List ℕ)) (r : EditRefusal A) → ((c : Class) → held c ≡ is_among s.classes c) → paged ≡ s.paged
    → IsShiftRefusal held (positions_asked (with_start old new)) (broken {A = A} b) r → HasNoDeviceFault paged r → IsUndamaged r
    → IsFailingTable (λ c f. s.shelf.faults c f ≡ true) (positions_asked (with_start old new)) r → (o : Environment)
    × IsShiftReply s o old new (broken {A = Unit {0}} b) (refused_as s (edit_words r))
shift_refused_at A s held paged old new None r e m out reported clean failing =
    let x = refused_outside A s held paged (positions_asked (with_start old new)) (with_start old new) (reply_line (codes "shift ") (fen_text new)) r e m out
    reported
    clean failing in
    (x.0, unbroken_reply s x.0 old new (refused_as s (edit_words r)) x.1)
shift_refused_at A s held paged old new (Some steps) r e m (inl is) reported clean failing = (quiet, ap (λ (x : EditRefusal A). refused_as s (edit_words x)) is)
shift_refused_at A s held paged old new (Some steps) r e m (inr is) reported clean failing = (
  no_room,
  ap (λ (x : EditRefusal A). refused_as s (edit_words x)) is,
)

pub shift_refused : (A : Type 0) (s : State) (held : Class → Bool) (paged : Bool) (old : PlainStudy) (new : Start)
    (r : EditRefusal A) → ((c : Class) → held c ≡ is_among s.classes c) → paged ≡ s.paged
    → IsShiftRefusal held (positions_asked (with_start old new)) (shift_refusal {A = A} old new) r → HasNoDeviceFault paged r → IsUndamaged r
    → IsFailingTable (λ c f. s.shelf.faults c f ≡ true) (positions_asked (with_start old new)) r → (o : Environment)
    × IsShiftReply s o old new (shift_refusal {A = Unit {0}} old new)
    (refused_as s (edit_words r))
shift_refused A s held paged old new r e m out reported clean failing = shift_refused_at A s held paged old new
    (first_illegal_from 0 new.position old.tree.below) r e m
    out reported clean failing
