-- A node of a study with any number of men has at most 450 children.
use Rattle.std.proofs.Common.{◌≡◌, ℕ, ◌+◌, ◌*◌, ◌≤◌, true, false, List, [], ◌∷◌, Option, Some, None, cond, refl, sym, ap, subst}
use Rattle.std.proofs.Common.{◌∙◌, inl, inr, arith}
use Rattle.std.specs.List.{count_by}
use Rattle.std.specs.Set.{is_member}
use Rattle.std.proofs.lemmas.Bool.{cases_Bool, false≢true, or_cases}
use Rattle.std.proofs.lemmas.Map.Made.{length-le_from_is_member, is_member-Decides}
use Rattle.study_board.specs.declared.men.Side.{Side}
use Rattle.study_board.specs.declared.men.Kind.{Kind}
use Rattle.study_board.specs.declared.men.Kind.TheVariants.{King, Queen, Rook, Bishop, Knight, Pawn}
use Rattle.study_board.specs.declared.men.Man.{Man}
use Rattle.study_board.specs.Men.{same_side}
use Rattle.study_board.proofs.Lists.{count_by-cons}
use Rattle.study_moves.specs.declared.moves.Move.{Move}
use Rattle.study_moves.specs.Rules.{is_legal}
use Rattle.study_moves.specs.LegalList.{all_moves, legal_list}
use Rattle.study_moves.specs.MoveCount.{most_moves}
use Rattle.study_moves.proofs.AscendingKeys.{IsIn-kept, Contains-from_in}
use Rattle.study_moves.proofs.LegalLists.{in_all}
use Rattle.study_tree.specs.Forest.{none, more}
use Rattle.study_tree.specs.Edits.{width}
use Rattle.study_marks.specs.Study.{same_move, AreDistinct}
use Rattle.study_marks.proofs.StudyEdits.{same_move-refl}
use Rattle.study_marks.proofs.DualCounts.{same_move-one}
use Rattle.study_wide.specs.declared.castling.Wing.{Wing}
use Rattle.study_wide.specs.declared.castling.Wing.TheVariants.{Short, Long}
use Rattle.study_wide.specs.Castling.{castling_move}
use Rattle.study_wide.specs.Wide.{Wide, IsWide, of_side}
use Rattle.study_wide.specs.Rules.{wing_of, is_wide_legal}
use Rattle.study_wide.proofs.Playing.{wing_castles, plain_legal}
use Rattle.study_wide.proofs.Movers.{IsCastlingOf-from}
use Rattle.study_tails.specs.Study.{Moves, IsWidePlayable}
use Rattle.study_import.proofs.FewLegal.{mass, masses, legal_few}
use Rattle.study_import.proofs.Narrow.{laws, moves_in, width_is, distinct, decides}

-- ---- moves of men

most_few : (k : Kind) → most_moves k ≤ 27
most_few King = omega arith
most_few Queen = omega arith
most_few Rook = omega arith
most_few Bishop = omega arith
most_few Knight = omega arith
most_few Pawn = omega arith

masses_few : (side : Side) (men : List Man) → masses side men ≤ 27 * count_by (of_side side) men
masses_few side [] = omega arith
masses_few side (m ∷ men) = elim (cases_Bool (same_side m.side side)) [
  | inl mine ↦
      let w : mass side m ≡ most_moves m.kind = rw mine refl in
      let one : ◌≡◌ {A = ℕ} (cond (of_side side m) 1 0) 1 = rw mine refl in
      omega (arith, w, one, count_by-cons (of_side side) m men, most_few m.kind, masses_few side men)
  | inr other ↦
      let w : mass side m ≡ 0 = rw other refl in
      let no : ◌≡◌ {A = ℕ} (cond (of_side side m) 1 0) 0 = rw other refl in
      omega (arith, w, no, count_by-cons (of_side side) m men, masses_few side men)
]

-- ---- the moves of siblings are among the two castlings and the moves of men

candidates : Wide → List Move
candidates g = castling_move g.board.to_move Short ∷ castling_move g.board.to_move Long ∷ legal_list g.board

plain_member : (g : Wide) (m : Move) → IsWide g → is_legal g.board m ≡ true → is_member same_move (legal_list g.board) m ≡ true
unfolding legal_list
plain_member g m h e =
    (is_member-Decides decides (legal_list g.board) m).1
    (Contains-from_in m (legal_list g.board) (IsIn-kept (is_legal g.board) all_moves m (in_all g.board m h.sound.on_board e) e))

abbrev made : ℕ → ℕ → Option Kind → Move
made a x k = record { origin = a; target = x; promoted = k }

is_castling : (g : Wide) (m : Move) (w : Wing) → IsWide g → wing_of g m ≡ Some w → m ≡ castling_move g.board.to_move w
is_castling g m w h e =
    let c = IsCastlingOf-from g m w h (wing_castles g m w e) in
    parts m (castling_move g.board.to_move w) c.origin c.target c.whole
  where
    parts : (m n : Move) → m.origin ≡ n.origin → m.target ≡ n.target → m.promoted ≡ n.promoted → m ≡ n
    parts m n e f g =
        ap (λ (a : ℕ). made a m.target m.promoted) e ∙ ap (λ (x : ℕ). made n.origin x m.promoted) f ∙ ap (λ (k : Option Kind). made n.origin n.target k) g

castling_member : (g : Wide) (w : Wing) → is_member same_move (candidates g) (castling_move g.board.to_move w) ≡ true
unfolding candidates
castling_member g Short = rw (same_move-refl (castling_move g.board.to_move Short)) refl
castling_member g Long = elim (cases_Bool (same_move (castling_move g.board.to_move Long) (castling_move g.board.to_move Short))) [
  | inl one ↦ rw one refl
  | inr two ↦ rw (two, same_move-refl (castling_move g.board.to_move Long)) refl
]

plain_among : (g : Wide) (m : Move) → is_member same_move (legal_list g.board) m ≡ true → is_member same_move (candidates g) m ≡ true
unfolding candidates
plain_among g m e = elim (cases_Bool (same_move m (castling_move g.board.to_move Short))) [
  | inl one ↦ rw one refl
  | inr other ↦ elim (cases_Bool (same_move m (castling_move g.board.to_move Long))) [
    | inl one ↦ rw (other, one) refl
    | inr neither ↦ rw (other, neither) e
  ]
]

is_candidate : (g : Wide) (m : Move) → IsWide g → is_wide_legal g m ≡ true → is_member same_move (candidates g) m ≡ true
is_candidate g m h legal = by_wing (wing_of g m) refl
  where
    by_wing : (o : Option Wing) → wing_of g m ≡ o → is_member same_move (candidates g) m ≡ true
    by_wing (Some w) e = subst (λ (x : Move). is_member same_move (candidates g) x ≡ true) (sym (is_castling g m w h e)) (castling_member g w)
    by_wing None e = plain_among g m (plain_member g m h (plain_legal g m e legal))

member_candidate : (g : Wide) (f : Moves) (q : Move) → IsWide g → IsWidePlayable g f → is_member same_move (moves_in f) q ≡ true
    → is_member same_move (candidates g) q ≡ true
unfolding moves_in
member_candidate g none q h p e = absurd (false≢true e)
member_candidate g (more m l b r) q h p e = elim (or_cases (same_move q m) (is_member same_move (moves_in r) q) e) [
  | inl here ↦ subst (λ (x : Move). is_member same_move (candidates g) x ≡ true) (sym (same_move-one q m here)) (is_candidate g m h p.0)
  | inr later ↦ member_candidate g r q h p.2 later
]

-- ---- children

pub few_children : (g : Wide) (f : Moves) → IsWide g → IsWidePlayable g f → AreDistinct f → width f ≤ 450
unfolding candidates
few_children g f h p d =
    let side = h.few g.board.to_move in
    omega (
      arith,
      width_is f,
      side,
      length-le_from_is_member laws (moves_in f) (candidates g) (distinct f d) (λ q e. member_candidate g f q h p e),
      legal_few g.board h.sound.on_board,
      masses_few g.board.to_move g.board.men,
    )
