-- The moves in a game's lines read back as themselves.
use Rattle.std.proofs.Common.{◌≡◌, ℕ, zero, suc, Bool, true, false, List, [], ◌∷◌, Option, Some, None, refl}
use Rattle.std.specs.Prelude.{not, if◌then◌else◌}
use Rattle.study_board.specs.Position.{Position, IsValid}
use Rattle.study_moves.specs.declared.moves.Move.{Move}
use Rattle.study_moves.specs.Rules.{is_legal, after}
use Rattle.study_moves.proofs.AfterMove.{IsValid-after}
use Rattle.study_notation.proofs.MoveAgain.{move_again}
use Rattle.study_tree.specs.Forest.{Forest, none, more}
use Rattle.study_tree.specs.Edits.{below_edited, with_last}
use Rattle.study_tree.specs.Tree.{has_spot}
use Rattle.study_marks.specs.declared.refusal.Refusal.{Refusal}
use Rattle.study_marks.specs.declared.refusal.Refusal.TheVariants as refusal
use Rattle.study_marks.specs.Study.{moves_to, position_after, position_at, IsPlayable}
use Rattle.study_marks.specs.Edits.{PlainStudy, with_insertion, insert_refusal}
use Rattle.study_import.specs.Insertions.{Insertion, AllAccepted, AllReadAgain}

abbrev Plain : Type 0
Plain = Forest (Unit {0})

-- each node of a playable tree has a valid position
pub valid_along : (p : Position) (f : Plain) (ks : List ℕ) → IsValid p → IsPlayable p f → IsValid (position_after p (moves_to f ks))
valid_along p f [] v h = v
valid_along p none (k ∷ ks) v h = v
valid_along p (more m l b r) (zero ∷ ks) v h = valid_along (after p m) b ks (IsValid-after p m v h.0) h.1
valid_along p (more m l b r) (suc k ∷ ks) v h = valid_along p r (k ∷ ks) v h.2

playable_last : (p : Position) (m : Move) (f : Plain) → is_legal p m ≡ true → IsPlayable p f → IsPlayable p (with_last m tt f)
playable_last p m none legal h = (legal, tt, tt)
playable_last p m (more n l b r) legal h = (h.0, h.1, playable_last p m r legal h.2)

playable_child : (p : Position) (f : Plain) (ks : List ℕ) (m : Move) → is_legal (position_after p (moves_to f ks)) m ≡ true → IsPlayable p f
    → IsPlayable p (below_edited (with_last m tt) f ks)
playable_child p f [] m legal h = playable_last p m f legal h
playable_child p none (k ∷ ks) m legal h = h
playable_child p (more n l b r) (zero ∷ ks) m legal h = (h.0, playable_child (after p n) b ks m legal h.1, h.2)
playable_child p (more n l b r) (suc k ∷ ks) m legal h = (h.0, h.1, playable_child p r (k ∷ ks) m legal h.2)

module _ (A : Type 0) where
  legal_by : (here legal : Bool) (later : Option (Refusal A))
      → (if not here then Some refusal.NoSuchNode else (if not legal then Some refusal.IllegalMove else later)) ≡ None → legal ≡ true
  legal_by false legal later e = absurd cc
  legal_by true false later e = absurd cc
  legal_by true true later e = refl

  legal_accepted : (s : PlainStudy) (at : List ℕ) (m : Move) → insert_refusal {A = A} s at m ≡ None → is_legal (position_at s at) m ≡ true
  legal_accepted s at m e = legal_by (has_spot s.tree at) (is_legal (position_at s at) m) _ e

  pub read_again : (s : PlainStudy) (insertions : List Insertion) → IsValid s.start.position → IsPlayable s.start.position s.tree.below
      → AllAccepted A s insertions → AllReadAgain s insertions
  read_again s [] valid playable h = tt
  read_again s (i ∷ later) valid playable h =
      let legal = legal_accepted s i.0 i.1 h.0 in (
        move_again (position_at s i.0) i.1 (valid_along s.start.position s.tree.below i.0 valid playable) legal,
        read_again (with_insertion s i.0 i.1) later valid (playable_child s.start.position s.tree.below i.0 i.1 legal playable) h.1,
      )
