-- A move that is made at a node.
use Rattle.std.proofs.Common.{◌≡◌, ℕ, Bool, true, false, List, length, nat_le, Option, Some, None, Ok, Err, refl, sym, ap, subst}
use Rattle.std.specs.Prelude.{Result, IfOk, OnOk, OnErr, MatchOption, IsOkUnless, not, if◌then◌else◌}
use Rattle.study_moves.specs.declared.moves.Move.{Move}
use Rattle.study_tree.specs.declared.fault.TreeFault.{TreeFault}
use Rattle.study_tree.specs.declared.fault.TreeFault.TheVariants as tree
use Rattle.study_tree.specs.Edits.{has_node, children_at}
use Rattle.study_tree.specs.Tree.{Plain, with_child, size_of, child_refusal}
use Rattle.study_marks.specs.Study.{place_at}
use Rattle.study_marks.proofs.StudyEdits.{AreDistinct-add_last}
use Rattle.study_reading.specs.declared.moves.MoveFault.{MoveFault}
use Rattle.study_reading.specs.declared.moves.MoveFault.TheVariants.{TooDeep, TreeFull}
use Rattle.study_reading.specs.declared.moves.Step.{Step}
use Rattle.study_tails.specs.declared.moves.Meant.{Meant}
use Rattle.study_tails.specs.Study.{WideStudy, Node, node_at, IsWideStudy}
use Rattle.study_tails.specs.Moves.{WideComes, IsLegalAt, IsMeantIn, IsMeantAt, move_fault_of}
use Rattle.study_tails.specs.Moves.{wide_child_or_added, wide_moved_by, wide_after_move_text, wide_after_text_at}
use Rattle.study_tails.proofs.Nodes.{node_has, playable_added}

pub legal_has : (s : WideStudy) (at : List ℕ) (m : Move) → IsLegalAt m (node_at s at) → has_node s.tree.below at ≡ true
legal_has s at m h = go (node_at s at) refl h
  where
    go : (o : Option Node) → node_at s at ≡ o → IsLegalAt m o → has_node s.tree.below at ≡ true
    go None e h = absurd h
    go (Some n) e h = node_has s.start s.tree.below at n e

-- ---- a new child

pub added_kept : (s : WideStudy) (new : Plain (Unit {0})) (at : List ℕ) (m : Move) (r : Result ℕ TreeFault) → IsWideStudy s
    → IsLegalAt m (node_at s at) → place_at s.tree.below at m ≡ None
    → OnOk r (new ≡ with_child s.tree at m tt) → OnErr r (new ≡ s.tree) → IsWideStudy (record s { tree = new })
added_kept s new at m (Ok k) h legal fresh added same =
    subst (λ (t : Plain (Unit {0})). IsWideStudy (record s { tree = t })) (sym added)
    (record {
      sound = h.sound;
      playable = playable_added s.start s.tree.below at m h.playable legal;
      distinct = AreDistinct-add_last s.tree.below at m tt h.distinct fresh;
      printed = h.printed;
    })
added_kept s new at m (Err f) h legal fresh added same = subst (λ (t : Plain (Unit {0})). IsWideStudy (record s { tree = t })) (sym same) h

abbrev pub step_of : Move → Result ℕ TreeFault → Result Step MoveFault
step_of m (Ok k) = Ok (record { place = k; added = Some m })
step_of m (Err fault) = Err (move_fault_of fault)

abbrev refusal : Bool → Bool → Option TreeFault
refusal deep full = if deep then Some tree.TooDeep else (if full then Some tree.TreeFull else None)

comes_by : (s : WideStudy) (new : Plain (Unit {0})) (at : List ℕ) (m : Move) (deep full : Bool) (r : Result ℕ TreeFault)
    → MatchOption (refusal deep full) (IsOkUnless r tree.OutOfMemory) (λ fault. r ≡ Err fault)
    → OnOk r (new ≡ with_child s.tree at m tt) → IfOk r (λ k. k ≡ children_at s.tree.below at) → OnErr r (new ≡ s.tree)
    → WideComes (step_of m r) s (record s { tree = new }) (wide_child_or_added s at m None deep full)
comes_by s new at m true full (Ok k) refused added place same = let no : ⊥ = cc in absurd no
comes_by s new at m true full (Err f) refused added place same =
    let one : tree.TooDeep ≡ f = cc in
    subst (λ (x : TreeFault). WideComes (step_of m (Err x)) s (record s { tree = new }) (Err TooDeep)) one
    (refl, ap (λ (t : Plain (Unit {0})). record s { tree = t }) same)
comes_by s new at m false true (Ok k) refused added place same = let no : ⊥ = cc in absurd no
comes_by s new at m false true (Err f) refused added place same =
    let one : tree.TreeFull ≡ f = cc in
    subst (λ (x : TreeFault). WideComes (step_of m (Err x)) s (record s { tree = new }) (Err TreeFull)) one
    (refl, ap (λ (t : Plain (Unit {0})). record s { tree = t }) same)
comes_by s new at m false false (Ok k) refused added place same = rw (added, place) refl
comes_by s new at m false false (Err f) refused added place same =
    let one : tree.OutOfMemory ≡ f = sym refused in
    subst (λ (x : TreeFault). WideComes (step_of m (Err x)) s (record s { tree = new }) (wide_child_or_added s at m None false false)) one
    (ap (λ (t : Plain (Unit {0})). record s { tree = t }) same)

pub added_comes : (s : WideStudy) (new : Plain (Unit {0})) (at : List ℕ) (m : Move) (r : Result ℕ TreeFault)
    → IsLegalAt m (node_at s at) → place_at s.tree.below at m ≡ None
    → MatchOption (child_refusal s.tree at) (IsOkUnless r tree.OutOfMemory) (λ fault. r ≡ Err fault)
    → OnOk r (new ≡ with_child s.tree at m tt) → IfOk r (λ k. k ≡ children_at s.tree.below at) → OnErr r (new ≡ s.tree)
    → WideComes (step_of m r) s (record s { tree = new }) (wide_moved_by s at m)
unfolding wide_moved_by
added_comes s new at m r legal fresh refused added place same =
    let here : MatchOption (refusal (nat_le 256 (length at)) (nat_le 4096 (size_of s.tree))) (IsOkUnless r tree.OutOfMemory) (λ fault. r ≡ Err fault) =
    subst (λ (b : Bool). MatchOption (if not b then Some tree.NoSuchNode else refusal (nat_le 256 (length at)) (nat_le 4096 (size_of s.tree)))
    (IsOkUnless r tree.OutOfMemory) (λ fault. r ≡ Err fault)) (legal_has s at m legal) refused in
    subst (λ (o : Option ℕ). WideComes (step_of m r) s (record s { tree = new })
    (wide_child_or_added s at m o (nat_le 256 (length at)) (nat_le 4096 (size_of s.tree)))) (sym fresh)
    (comes_by s new at m (nat_le 256 (length at)) (nat_le 4096 (size_of s.tree)) r here added place same)

-- ---- a text that means a move

pub meant_at : (s : WideStudy) (at san : List ℕ) (n : Node) (r : Result Meant MoveFault) → node_at s at ≡ Some n → IsMeantIn r s at san (Some n)
    → IsMeantAt r s at san
meant_at s at san n r e h = subst (λ (o : Option Node). IsMeantIn r s at san o) (sym e) h

pub goes_there : (s : WideStudy) (at san : List ℕ) (m : Meant) (k : ℕ) → IsMeantAt (Ok m) s at san → m.place ≡ Some k
    → wide_after_move_text s at san ≡ Ok (record { study = s; step = record { place = k; added = None } })
unfolding wide_after_move_text wide_moved_by
goes_there s at san m k h there = go (node_at s at) h
  where
    go : (o : Option Node) → IsMeantIn (Ok m) s at san o → wide_after_text_at s at san o ≡ Ok (record { study = s; step = record { place = k; added = None } })
    go None e = let no : ⊥ = cc in absurd no
    go (Some n) h = rw (h.0, ← h.1, there) refl

pub goes_on : (s : WideStudy) (at san : List ℕ) (m : Meant) → IsMeantAt (Ok m) s at san → wide_after_move_text s at san ≡ wide_moved_by s at m.played
unfolding wide_after_move_text
goes_on s at san m h = go (node_at s at) h
  where
    go : (o : Option Node) → IsMeantIn (Ok m) s at san o → wide_after_text_at s at san o ≡ wide_moved_by s at m.played
    go None e = let no : ⊥ = cc in absurd no
    go (Some n) h = rw h.0 refl
