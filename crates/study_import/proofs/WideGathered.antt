-- What holds of the study that is read of a game with any number of men.
use Rattle.std.proofs.Common.{◌≡◌, ℕ, ◌≤◌, Bool, true, false, List, [], ◌∷◌, length, Option, Some, None, Result, Ok, Err, refl, sym, subst, arith}
use Rattle.std.specs.Prelude.{IfOk, nat_le, if◌then◌else◌}
use Rattle.std.proofs.lemmas.Bool.{leb-false}
use Rattle.study_board.specs.declared.men.Side.TheVariants.{White}
use Rattle.study_moves.specs.declared.moves.Move.{Move}
use Rattle.study_notation.specs.declared.fault.SanFault.{SanFault}
use Rattle.study_notation.specs.declared.fault.SanFault.TheVariants.{NoSuchMove}
use Rattle.study_tree.specs.Edits.{IsWithin, children_at}
use Rattle.study_tree.specs.Tree.{size_of}
use Rattle.study_tree.proofs.TreeDepth.{IsWithin-add_last}
use Rattle.study_tree.proofs.ShownTrees.{nodes_in-add_last}
use Rattle.study_marks.specs.declared.stipulation.Goal.TheVariants.{Win}
use Rattle.study_marks.specs.declared.stipulation.Stipulation.{Stipulation}
use Rattle.study_marks.specs.Study.{place_at, AreDistinct}
use Rattle.study_marks.proofs.StudyEdits.{AreDistinct-add_last}
use Rattle.study_wide.specs.declared.castling.Wing.{Wing}
use Rattle.study_wide.specs.Wide.{Wide}
use Rattle.study_wide.specs.Castling.{can_castle, castling_move}
use Rattle.study_wide.specs.Rules.{is_wide_legal}
use Rattle.study_wide_text.specs.declared.start.WideStart.{WideStart}
use Rattle.study_wide_text.specs.Matching.{castling_wing, wide_move_meant, wide_move_of}
use Rattle.study_wide_text.proofs.MeansLegal.{castling_legal, means_legal}
use Rattle.study_reading.specs.declared.movetext.MovesFault.{MovesFault}
use Rattle.study_reading.specs.Followed.{After}
use Rattle.study_reading.specs.Movetext.{Ended, read_moves}
use Rattle.study_reading.specs.Behind.{to_the_end}
use Rattle.study_reading.proofs.NoneBehind.{end_is}
use Rattle.study_tails.specs.Study.{WideStudy, Node, node_at, IsWidePlayable}
use Rattle.study_tails.specs.Moves.{with_wide_insertion, wide_child_or_added, wide_moved_by, wide_after_san, wide_after_text_at, wide_after_move_text, IsLegalAt}
use Rattle.study_tails.specs.Followed.{wide_men, no_wide_moves}
use Rattle.study_tails.proofs.Nodes.{playable_added}
use Rattle.study_tails.proofs.MovesMade.{legal_has}
use Rattle.study_import.specs.Blocks.{WideRead, wide_ended, wide_read}
use Rattle.study_import.proofs.ReadKept.{moves_kept}

-- it begins at the start, and has no tags yet
pub record IsGathered (start : WideStart) (s : WideStudy) : Type 0 where
  pub begins : s.start ≡ start
  pub tags : s.tags ≡ None ∷ None ∷ None ∷ None ∷ None ∷ None ∷ []
  pub playable : IsWidePlayable s.start.position s.tree.below
  pub distinct : AreDistinct s.tree.below
  pub shallow : IsWithin 256 s.tree.below
  pub few : size_of s.tree ≤ 4096

-- ---- what a text means is legal

wide_legal : (g : Wide) (text : List ℕ) (m : Move) → wide_move_of g text ≡ Ok m → is_wide_legal g m ≡ true
unfolding wide_move_of
wide_legal g text m e = by_wing (castling_wing text) e
  where
    by_castling : (w : Wing) (b : Bool) → can_castle g w ≡ b → (if b then Ok (castling_move g.board.to_move w) else Err NoSuchMove) ≡ Ok m
        → is_wide_legal g m ≡ true
    by_castling w true is e =
        let one : castling_move g.board.to_move w ≡ m = cc in subst (λ (x : Move). is_wide_legal g x ≡ true) one (castling_legal g w is)
    by_castling w false is e = let no : ⊥ = cc in absurd no

    by_wing : (o : Option Wing) → wide_move_meant g text o ≡ Ok m → is_wide_legal g m ≡ true
    by_wing (Some w) e = by_castling w (can_castle g w) refl e
    by_wing None e = subst (λ (x : Result Move SanFault). IfOk x (λ n. is_wide_legal g n ≡ true)) e (means_legal g text)

-- ---- a move

added : (start : WideStart) (s : WideStudy) (at : List ℕ) (m : Move) → IsGathered start s → IsLegalAt m (node_at s at)
    → place_at s.tree.below at m ≡ None → nat_le 256 (length at) ≡ false → nat_le 4096 (size_of s.tree) ≡ false
    → IsGathered start (with_wide_insertion s at m)
added start s at m h legal fresh deep full = record {
  begins = h.begins;
  tags = h.tags;
  playable = playable_added s.start s.tree.below at m h.playable legal;
  distinct = AreDistinct-add_last s.tree.below at m tt h.distinct fresh;
  shallow = IsWithin-add_last 256 s.tree.below at m tt h.shallow (leb-false 256 (length at) deep);
  few = omega (arith, nodes_in-add_last s.tree.below at m tt (legal_has s at m legal), leb-false 4096 (size_of s.tree) full);
}

by_child : (start : WideStart) (s : WideStudy) (at : List ℕ) (m : Move) (place : Option ℕ) (deep full : Bool) (a : After WideStudy) → IsGathered start s
    → IsLegalAt m (node_at s at) → place_at s.tree.below at m ≡ place → nat_le 256 (length at) ≡ deep → nat_le 4096 (size_of s.tree) ≡ full
    → wide_child_or_added s at m place deep full ≡ Ok a → IsGathered start a.study
by_child start s at m (Some k) deep full a h legal ep ed ef e =
    let is : record { study = s; step = record { place = k; added = None } } ≡ a = cc in subst (λ (x : After WideStudy). IsGathered start x.study) is h
by_child start s at m None true full a h legal ep ed ef e = let no : ⊥ = cc in absurd no
by_child start s at m None false true a h legal ep ed ef e = let no : ⊥ = cc in absurd no
by_child start s at m None false false a h legal ep ed ef e =
    let is : record {
      study = with_wide_insertion s at m;
      step = record { place = children_at s.tree.below at; added = Some m };
    } ≡ a = cc in
    subst (λ (x : After WideStudy). IsGathered start x.study) is (added start s at m h legal ep ed ef)

by_san : (start : WideStart) (s : WideStudy) (at : List ℕ) (x : Result Move SanFault) (a : After WideStudy) → IsGathered start s
    → ((m : Move) → x ≡ Ok m → IsLegalAt m (node_at s at)) → wide_after_san s at x ≡ Ok a → IsGathered start a.study
unfolding wide_moved_by
by_san start s at (Err fault) a h legal e = let no : ⊥ = cc in absurd no
by_san start s at (Ok m) a h legal e = by_child start s at m _ _ _ a h (legal m refl) refl refl refl e

moved : (start : WideStart) (s : WideStudy) (at san : List ℕ) (a : After WideStudy) → IsGathered start s → wide_after_move_text s at san ≡ Ok a
    → IsGathered start a.study
unfolding wide_after_move_text
moved start s at san a h e = by_node (node_at s at) refl e
  where
    at_node : (n : Node) → node_at s at ≡ Some n → (m : Move) → wide_move_of n.start.position san ≡ Ok m → IsLegalAt m (node_at s at)
    at_node n is m means = subst (λ (o : Option Node). IsLegalAt m o) (sym is) (wide_legal n.start.position san m means)

    by_node : (o : Option Node) → node_at s at ≡ o → wide_after_text_at s at san o ≡ Ok a → IsGathered start a.study
    by_node None is e = let no : ⊥ = cc in absurd no
    by_node (Some n) is e = by_san start s at (wide_move_of n.start.position san) a h (at_node n is) e

-- ---- a game

any : Stipulation
any = record { hero = White; goal = Win }

pub gathered : (text : List ℕ) (start : WideStart) (x : WideRead) → wide_read text start ≡ Ok x → IsGathered start x.study
unfolding wide_read any
gathered text start x e = by_end (to_the_end (read_moves wide_men (length text) true text (no_wide_moves start any))) refl e
  where
    begun : IsGathered start (no_wide_moves start any).reading.study
    begun = record { begins = refl; tags = refl; playable = tt; distinct = tt; shallow = tt; few = omega arith }

    by_end : (r : Result (Ended WideStudy) MovesFault) → to_the_end (read_moves wide_men (length text) true text (no_wide_moves start any)) ≡ r
        → wide_ended r ≡ Ok x → IsGathered start x.study
    by_end (Err fault) is e = let no : ⊥ = cc in absurd no
    by_end (Ok y) is e =
        let one : record { study = y.game.reading.study; notes = y.game.notes; behind = y.behind } ≡ x = cc in
        let read = end_is (read_moves wide_men (length text) true text (no_wide_moves start any)) y is in
        subst (λ (z : WideRead). IsGathered start z.study) one
        (moves_kept wide_men (IsGathered start) (moved start) (length text) true text (no_wide_moves start any) y begun read)
