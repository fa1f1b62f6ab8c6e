-- The replies to `insert`.
use Rattle.std.proofs.Common.{◌≡◌, ℕ, Bool, true, false, List, length, Option, Some, None, Result, Ok, Err, refl, sym, ap, subst, ◌∙◌}
use Rattle.std.specs.Prelude.{MatchOption, IfErr, not, nat_le}
use Rattle.study_moves.specs.declared.moves.Move.{Move}
use Rattle.study_moves.specs.Rules.{is_legal, after}
use Rattle.study_material.specs.declared.class.Class.{Class}
use Rattle.study_tree.specs.Tree.{has_spot, size_of}
use Rattle.study_marks.specs.Study.{position_at, place_at}
use Rattle.study_marks.specs.declared.refusal.Refusal.{Refusal as EditRefusal}
use Rattle.study_marks.specs.Queries.{asked_at, IsOutside}
use Rattle.study_marks.specs.Answers.{IsUndamaged}
use Rattle.study_marks.specs.Edits.{PlainStudy, with_insertion, insert_refusal}
use Rattle.study_reply.specs.Names.{edit_words}
use Rattle.study_command.specs.Documents.{study}
use Rattle.study_script.specs.State.{State, is_among, Environment, quiet, no_path, no_room, no_room_for, unread, unopened, cut_off, file, header}
use Rattle.study_script.specs.Replies.{Reply, refused_as, IsInserted, inserted_text, IsMoveReply, IsMoveReplyAt, IsInsertReply, IsStudyReply, IsStudyReplyAt}
use Rattle.study_command.specs.declared.command.NodeCommand.{NodeCommand}
use Rattle.study_script.specs.SessionHolds.{HasNoDeviceFault, IsFailingTable}
use Rattle.study_script.proofs.AskingEdits.{refused_outside}
use Rattle.study_script.proofs.SilentEdits.{SameWords, same_if, same_there}

pub insert_same : (A B : Type 0) (s : PlainStudy) (steps : List ℕ) (m : Move) → SameWords (insert_refusal {A = A} s steps m) (insert_refusal {A = B} s steps m)
insert_same A B s steps m =
    same_if (not (has_spot s.tree steps)) _ _ _ _ refl
    (same_if (not (is_legal (position_at s steps) m)) _ _ _ _ refl
    (same_there (place_at s.tree.below steps m) _ _
    (same_if (nat_le 256 (length steps)) _ _ _ _ refl (same_if (nat_le 4096 (size_of s.tree)) _ _ _ _ refl tt))))

module _ {T A : Type 0} where
  ok_not_err : (r : Result T (EditRefusal A)) (v : T) (e : EditRefusal A) → r ≡ Ok v → r ≡ Err e → ⊥
  ok_not_err r v e is was = let both : ◌≡◌ {A = Result T (EditRefusal A)} (Ok v) (Err e) = sym is ∙ was in absurd cc

  -- an accepted edit has no reason to be refused
  pub none_of : (P : Type 0) (x : Option (EditRefusal A)) (y : Option (EditRefusal (Unit {0}))) → SameWords x y
      → (r : Result T (EditRefusal A)) (v : T) → MatchOption x P (λ f. r ≡ Err f) → r ≡ Ok v → y ≡ None
  none_of P None None same r v m is = refl
  none_of P None (Some b) same r v m is = absurd same
  none_of P (Some a) y same r v m is = absurd (ok_not_err r v a is m)

  err_same : (r : Result T (EditRefusal A)) (e f : EditRefusal A) → r ≡ Err e → r ≡ Err f → edit_words e ≡ edit_words f
  err_same r e f is was = let both : ◌≡◌ {A = Result T (EditRefusal A)} (Err e) (Err f) = sym is ∙ was in let same : e ≡ f = cc in ap edit_words same

  insert_refused_by : (s : State) (held : Class → Bool) (paged : Bool) (old : PlainStudy) (steps : List ℕ) (m : Move)
      (x : Option (EditRefusal A)) (y : Option (EditRefusal (Unit {0}))) → SameWords x y
      → (r : Result T (EditRefusal A)) (e : EditRefusal A) → ((c : Class) → held c ≡ is_among s.classes c)
      → paged ≡ s.paged
      → MatchOption x (IfErr r (IsOutside held (asked_at (after (position_at old steps) m)))) (λ f. r ≡ Err f)
      → r ≡ Err e → HasNoDeviceFault paged e → IsUndamaged e
      → IsFailingTable (λ c f. s.shelf.faults c f ≡ true) (asked_at (after (position_at old steps) m)) e → (o : Environment)
      × IsInserted s o old steps m y (refused_as s (edit_words e))
  insert_refused_by s held paged old steps m None None same r e h p match is reported clean failing =
      refused_outside A s held paged (asked_at (after (position_at old steps) m)) (with_insertion old steps m)
      (inserted_text old steps m) e h p
      (subst
      (λ (z : Result T (EditRefusal A)). IfErr z (IsOutside held (asked_at (after (position_at old steps) m))))
      is match) reported clean failing
  insert_refused_by s held paged old steps m None (Some b) same r e h p match is reported clean failing = absurd same
  insert_refused_by s held paged old steps m (Some a) None same r e h p match is reported clean failing = absurd same
  insert_refused_by s held paged old steps m (Some a) (Some b) same r e h p match is reported clean failing = (
    quiet,
    ap (refused_as s)
        (err_same r e a is match ∙ same),
  )

  -- a refused `insert` has that reply
  pub insert_refused : (s : State) (held : Class → Bool) (paged : Bool) (old : PlainStudy) (steps : List ℕ) (m : Move)
      (r : Result T (EditRefusal A)) (e : EditRefusal A) → ((c : Class) → held c ≡ is_among s.classes c)
      → paged ≡ s.paged
      → MatchOption (insert_refusal {A = A} old steps m)
      (IfErr r (IsOutside held (asked_at (after (position_at old steps) m)))) (λ f. r ≡ Err f) → r ≡ Err e
      → HasNoDeviceFault paged e → IsUndamaged e
      → IsFailingTable (λ c f. s.shelf.faults c f ≡ true) (asked_at (after (position_at old steps) m)) e → (o : Environment)
      × IsInserted s o old steps m (insert_refusal {A = Unit {0}} old steps m)
      (refused_as s (edit_words e))
  insert_refused s held paged old steps m r e h p match is reported clean failing =
      insert_refused_by s held paged old steps m (insert_refusal {A = A} old steps m)
      (insert_refusal {A = Unit {0}} old steps m) (insert_same A (Unit {0}) old steps m) r e h p match is reported clean failing

-- ---- a reply if there was memory for the path

module _ (s : State) (old : PlainStudy) (steps : List ℕ) where
  same_inserted : (m : Move) (y : Option (EditRefusal (Unit {0}))) (reply : Reply)
      → IsInserted s no_path old steps m y reply → IsInserted s quiet old steps m y reply
  same_inserted m None reply h = h
  same_inserted m (Some f) reply h = h

  same_moved : (read : _) (reply : Reply) → IsMoveReply s no_path old steps read reply → IsMoveReply s quiet old steps read reply
  same_moved (Ok m) reply h = same_inserted m (insert_refusal old steps m) reply h
  same_moved (Err fault) reply h = h

  same_at : (san : List ℕ) (b : Bool) (reply : Reply) → IsMoveReplyAt s no_path old steps san b reply → IsMoveReplyAt s quiet old steps san b reply
  same_at san true reply h = same_moved _ reply h
  same_at san false reply h = h

  pub with_path : (san : List ℕ) (o : Environment) (reply : Reply)
      → IsMoveReplyAt s o old steps san (has_spot old.tree steps) reply → (p : Environment)
      × IsInsertReply s p (study old) steps san reply
  with_path san quiet reply h = (quiet, h)
  with_path san no_path reply h = (quiet, same_at san (has_spot old.tree steps) reply h)
  with_path san no_room reply h = (no_room, h)
  with_path san (no_room_for bytes) reply h = (no_room_for bytes, h)
  with_path san (unread fault) reply h = (unread fault, h)
  with_path san (unopened fault) reply h = (unopened fault, h)
  with_path san cut_off reply h = (cut_off, h)
  with_path san (file bytes) reply h = (file bytes, h)
  with_path san (header reported) reply h = (header reported, h)

module _ (s : State) (old : PlainStudy) (word : NodeCommand) (steps : List ℕ) where
  -- the same for `delete`, `promote` and `mark`
  pub node_command_on : (o : Environment) (reply : Reply) → IsStudyReply s word old steps reply → (p : Environment)
      × IsStudyReplyAt s p word (study old) steps reply
  node_command_on o reply h = (quiet, h)
