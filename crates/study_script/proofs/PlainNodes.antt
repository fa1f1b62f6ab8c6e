-- Nodes of a study, with its marks and without.
use Rattle.std.proofs.Common.{◌≡◌, ℕ, zero, suc, ◌+◌, Bool, true, false, List, [], ◌∷◌, ◌++◌, length}
use Rattle.std.proofs.Common.{Option, Some, None, Result, Ok, Err, refl, sym, ap, ◌∙◌, arith}
use Rattle.std.specs.Option.{ok_or}
use Rattle.std.specs.Prelude.{if◌then◌else◌}
use Rattle.study_board.specs.Position.{Position}
use Rattle.study_moves.specs.declared.moves.Move.{Move}
use Rattle.study_notation.specs.declared.start.Start.{Start}
use Rattle.study_notation.specs.StartAfter.{start_after}
use Rattle.study_notation.specs.SanSpelling.{move_text}
use Rattle.study_tree.specs.Forest.{Forest, none, more}
use Rattle.study_tree.specs.Edits.{has_node, children_at}
use Rattle.study_tree.specs.Tree.{has_spot}
use Rattle.study_marks.specs.Study.{Study, mapped, plain_study, moves_to, position_after, start_along, position_at}
use Rattle.study_marks.specs.Bench.{start_at}
use Rattle.study_marks.specs.Edits.{PlainStudy}
use Rattle.study_command.specs.declared.command.NodeCommand.{NodeCommand}
use Rattle.study_reply.specs.declared.refusal.Refusal.{Refusal}
use Rattle.study_reply.specs.declared.refusal.Refusal.TheVariants.{NoSuchNode, OutOfMemory}
use Rattle.study_command.specs.Documents.{start, study}
use Rattle.study_script.specs.State.{State, quiet, no_path}
use Rattle.study_reply.specs.Words.{insert_text}
use Rattle.study_script.specs.Replies.{refused_reply, inserted_text, named_start, start_found, IsStudyReplyAt, IsInsertReply}

module _ {L M : Type 0} where
  has_node-mapped : (f : L → M) (t : Forest L) (ks : List ℕ) → has_node (mapped f t) ks ≡ has_node t ks
  has_node-mapped f t [] = refl
  has_node-mapped f none (k ∷ ks) = refl
  has_node-mapped f (more m l b r) (zero ∷ ks) = has_node-mapped f b ks
  has_node-mapped f (more m l b r) (suc k ∷ ks) = has_node-mapped f r (k ∷ ks)

  moves_to-mapped : (f : L → M) (t : Forest L) (ks : List ℕ) → moves_to (mapped f t) ks ≡ moves_to t ks
  moves_to-mapped f t [] = refl
  moves_to-mapped f none (k ∷ ks) = refl
  moves_to-mapped f (more m l b r) (zero ∷ ks) = ap (λ ms. m ∷ ms) (moves_to-mapped f b ks)
  moves_to-mapped f (more m l b r) (suc k ∷ ks) = moves_to-mapped f r (k ∷ ks)

  width-mapped : (f : L → M) (t : Forest L) → children_at (mapped f t) [] ≡ children_at t []
  width-mapped f none = refl
  width-mapped f (more m l b r) = ap (λ n. 1 + n) (width-mapped f r)

  children_at-mapped : (f : L → M) (t : Forest L) (ks : List ℕ) → children_at (mapped f t) ks ≡ children_at t ks
  children_at-mapped f t [] = width-mapped f t
  children_at-mapped f none (k ∷ ks) = refl
  children_at-mapped f (more m l b r) (zero ∷ ks) = children_at-mapped f b ks
  children_at-mapped f (more m l b r) (suc k ∷ ks) = children_at-mapped f r (k ∷ ks)

along_position : (st : Start) (ms : List Move) → (start_along st ms).position ≡ position_after st.position ms
unfolding start_after
along_position st [] = refl
along_position st (m ∷ ms) = along_position (start_after st m) ms

module _ {L : Type 0} where
  pub has_spot-plain : (s : Study L) (ks : List ℕ) → has_spot (plain_study s).tree ks ≡ has_spot s.tree ks
  has_spot-plain s ks = has_node-mapped (λ _. tt) s.tree.below ks

  pub position_at-plain : (s : Study L) (ks : List ℕ) → position_at (plain_study s) ks ≡ position_at s ks
  position_at-plain s ks = ap (position_after s.start.position) (moves_to-mapped (λ _. tt) s.tree.below ks)

  pub start_at-plain : (s : Study L) (ks : List ℕ) → start_at (plain_study s) ks ≡ start_at s ks
  start_at-plain s ks =
      ap (λ (b : Bool). if b then Some (start_along s.start (moves_to (plain_study s).tree.below ks)) else None) (has_spot-plain s ks)
      ∙ ap (λ (ms : List Move). if has_spot s.tree ks then Some (start_along s.start ms) else None) (moves_to-mapped (λ _. tt) s.tree.below ks)

  -- a node that has a start exists, and the start has its position
  there : (s : Study L) (ks : List ℕ) (b : Bool) (st : Start)
      → (if b then Some (start_along s.start (moves_to s.tree.below ks)) else None) ≡ Some st → (b ≡ true)
      × (st.position ≡ position_at s ks)
  there s ks true st e = let same : start_along s.start (moves_to s.tree.below ks) ≡ st = cc in
      (refl, ap (λ (x : Start). x.position) (sym same) ∙ along_position s.start (moves_to s.tree.below ks))
  there s ks false st e = absurd cc

  pub start_there : (s : Study L) (ks : List ℕ) (st : Start) → Some st ≡ start_at s ks
      → (has_spot (plain_study s).tree ks ≡ true) × (st.position ≡ position_at s ks)
  start_there s ks st e = let t = there s ks (has_spot s.tree ks) st (sym e) in (has_spot-plain s ks ∙ t.0, t.1)

  gone : (s : Study L) (ks : List ℕ) (b : Bool) → (if b then Some (start_along s.start (moves_to s.tree.below ks)) else None) ≡ None → b ≡ false
  gone s ks true e = absurd cc
  gone s ks false e = refl

  pub start_gone : (s : Study L) (ks : List ℕ) → None ≡ start_at s ks → has_spot (plain_study s).tree ks ≡ false
  start_gone s ks e = has_spot-plain s ks ∙ gone s ks (has_spot s.tree ks) (sym e)

  -- the reply to `insert`, by the study with its marks
  pub inserted_said : (s : Study L) (steps ks : List ℕ) (place : ℕ) (p : Position) (m : Move) → steps ≡ ks
      → place ≡ children_at s.tree.below ks → p ≡ position_at s ks → insert_text (steps ++ place ∷ []) (move_text p m)
      ≡ inserted_text (plain_study s) ks m
  inserted_said s steps ks place p m a b c =
      ap (λ (x : List ℕ). insert_text (x ++ place ∷ []) (move_text p m)) a
      ∙ ap (λ (x : ℕ). insert_text (ks ++ x ∷ []) (move_text p m)) (b ∙ sym (children_at-mapped (λ _. tt) s.tree.below ks))
      ∙ ap (λ (x : Position). insert_text (ks ++ children_at (plain_study s).tree.below ks ∷ []) (move_text x m)) (c ∙ sym (position_at-plain s ks))

named_ok : (found : Option Start) → ok_or found NoSuchNode ≡ named_start found
named_ok None = refl
named_ok (Some st) = refl

-- the start at a node of the study
pub node_found : {L : Type 0} (s : Study L) (ks : List ℕ) (found : Option Start) (r : Result Start Refusal)
    → found ≡ start_at s ks → r ≡ ok_or found NoSuchNode → r ≡ named_start (start_at (plain_study s) ks)
node_found s ks found r e is = is ∙ named_ok found ∙ ap named_start (e ∙ sym (start_at-plain s ks))

-- without a study the root is the only node
pub root_found : (from st : Start) (ks : List ℕ) → length ks ≡ 0 → st ≡ from → ◌≡◌ {A = Result Start Refusal} (Ok st) (start_found quiet (start from) ks)
root_found from st [] empty e = ap {B = Result Start Refusal} Ok e
root_found from st (k ∷ ks) empty e = absurd (omega arith)

pub root_alone : (from : Start) (ks : List ℕ) → (length ks ≡ 0 → ⊥) → ◌≡◌ {A = Result Start Refusal} (Err NoSuchNode) (start_found quiet (start from) ks)
root_alone from [] some = absurd (some refl)
root_alone from (k ∷ ks) some = refl

-- ---- no memory for a path that is not the root's

pub no_path_start : (from : Start) (ks : List ℕ) → (ks ≡ [] → ⊥) → ◌≡◌ {A = Result Start Refusal} (Err OutOfMemory) (start_found no_path (start from) ks)
no_path_start from [] some = absurd (some refl)
no_path_start from (k ∷ ks) some = refl

pub no_path_study : (old : PlainStudy) (ks : List ℕ) → (ks ≡ [] → ⊥) → ◌≡◌ {A = Result Start Refusal} (Err OutOfMemory) (start_found no_path (study old) ks)
no_path_study old [] some = absurd (some refl)
no_path_study old (k ∷ ks) some = refl

pub no_path_word : (s : State) (word : NodeCommand) (old : PlainStudy) (ks : List ℕ) → (ks ≡ [] → ⊥)
    → IsStudyReplyAt s no_path word (study old) ks (refused_reply s OutOfMemory)
no_path_word s word old [] some = absurd (some refl)
no_path_word s word old (k ∷ ks) some = refl

pub no_path_insert : (s : State) (old : PlainStudy) (ks san : List ℕ) → (ks ≡ [] → ⊥)
    → IsInsertReply s no_path (study old) ks san (refused_reply s OutOfMemory)
no_path_insert s old [] san some = absurd (some refl)
no_path_insert s old (k ∷ ks) san some = refl
