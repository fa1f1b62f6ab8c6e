-- The lines of the legal moves, by the values after them.
use Rattle.std.proofs.Common.{◌≡◌, ℕ, ◌+◌, Bool, true, false, List, [], ◌∷◌, Some, cond, if◌then◌else◌, length, refl, sym, ap, subst, ◌∙◌, arith}
use Rattle.std.specs.List.{flat_map, count_by}
use Rattle.std.proofs.lemmas.List.Recursion.{is_count_by}
use Rattle.study_board.specs.Position.{Position}
use Rattle.study_moves.specs.declared.moves.Move.{Move}
use Rattle.study_moves.specs.Rules.{after}
use Rattle.study_moves.specs.LegalList.{legal_list}
use Rattle.study_notation.specs.declared.start.Start.{Start}
use Rattle.study_values.specs.declared.value.Value.{Value}
use Rattle.study_values.specs.Game.{IsValueOf}
use Rattle.study_marks.specs.declared.mark.Mark.{Mark}
use Rattle.study_marks.specs.declared.mark.MoveMark.{MoveMark}
use Rattle.study_marks.specs.declared.mark_rules.Aim.{Aim}
use Rattle.study_marks.specs.Annotated.{AreValuesAfter}
use Rattle.study_marks.specs.Goals.{aim_of, hero_moves, holds}
use Rattle.study_marks.specs.Marks.{mark_of, move_mark, own_faults}
use Rattle.study_marks.specs.Study.{Study, position_at}
use Rattle.study_marks.specs.Trial.{IsMarkOf}
use Rattle.study_facts.specs.declared.continuation.EvaluatedMove.{EvaluatedMove}
use Rattle.study_facts.specs.Continuations.{wanted_moves, AreChosen}
use Rattle.study_facts.specs.Nodes.{value_of_spot, value_at}
use Rattle.study_view.specs.Marking.{holding_count, line_of_move}
use Rattle.study_view.specs.View.{start_to, AreMoveLines}

abbrev pub all_chosen : List Move → List Value → List EvaluatedMove
all_chosen ms vs = wanted_moves (λ v. true) ms vs

one-count : (b : Bool) (n : ℕ) → (if b then 1 else 0) + n ≡ cond b (1 + n) n
one-count true n = refl
one-count false n = let z : 0 + n ≡ n = omega arith in z

-- the number of values that hold
abbrev held_count : Aim → ℕ → List Value → ℕ
held_count a d [] = 0
held_count a d (v ∷ vs) = (if holds a (d + 1) v then 1 else 0) + held_count a d vs

count-chosen : (a : Aim) (d : ℕ) (p : Position) (ms : List Move) (vs : List Value) → AreValuesAfter p ms vs
    → holding_count a d (all_chosen ms vs) ≡ held_count a d vs
count-chosen a d p [] [] g = refl
count-chosen a d p [] (v ∷ vs) g = absurd g
count-chosen a d p (m ∷ ms) [] g = absurd g
count-chosen a d p (m ∷ ms) (v ∷ vs) g = ap (λ k. (if holds a (d + 1) v then 1 else 0) + k) (count-chosen a d p ms vs g.1)

-- as many moves hold as values
count-evaluated : (a : Aim) (d : ℕ) (p : Position) (ms : List Move) (vs : List Value) → AreValuesAfter p ms vs
    → holding_count a d (all_chosen ms vs) ≡ count_by (holds a (d + 1)) vs
count-evaluated a d p ms vs g =
    count-chosen a d p ms vs g
    ∙ is_count_by (held_count a d) (holds a (d + 1)) refl (λ v xs. one-count (holds a (d + 1) v) (held_count a d xs)) vs

module _ (s : Study Mark) (path : List ℕ) (all : List Value)
    (evaluated : AreValuesAfter (position_at s path) (legal_list (position_at s path)) all) where
  abbrev holders : ℕ
  holders = count_by (holds (aim_of s) (length path + 1)) all

  abbrev mark_after : Value → MoveMark
  mark_after w =
      mark_of (hero_moves (aim_of s) (length path)) (holds (aim_of s) (length path) (value_at s path)) (holds (aim_of s) (length path + 1) w) holders

  abbrev new_mark : Value → Mark
  new_mark w = record {
    value = w;
    on_move = Some (mark_after w);
    faults = own_faults (hero_moves (aim_of s) (length path)) (Some (mark_after w));
  }

  no-more : (n : ℕ) → n ≡ n + 0
  no-more n = omega arith

  one-evaluated : (m : Move) (w : Value) → IsValueOf (after (position_at s path) m) w → IsMarkOf s path m (new_mark w)
  one-evaluated m w g x e =
      let same : value_at s path ≡ x.label.value = ap value_of_spot e in (
        g,
        (mark_after w, refl, (all, evaluated, ap (λ v. move_mark (aim_of s) (length path) v all w) same)),
        no-more (own_faults (hero_moves (aim_of s) (length path)) (Some (mark_after w))),
        tt,
        tt,
      )

  abbrev line_of : EvaluatedMove → List ℕ
  line_of x = line_of_move (aim_of s) (length path) (start_to s path) (value_at s path) holders x

  each-evaluated : (ms : List Move) (vs : List Value) → AreValuesAfter (position_at s path) ms vs
      → AreMoveLines s path ms (flat_map line_of (all_chosen ms vs))
  each-evaluated [] [] g = refl
  each-evaluated [] (v ∷ vs) g = absurd g
  each-evaluated (m ∷ ms) [] g = absurd g
  each-evaluated (m ∷ ms) (v ∷ vs) g = (new_mark v, flat_map line_of (all_chosen ms vs), one-evaluated m v g.0, each-evaluated ms vs g.1, refl)

-- the written lines are those of the moves
pub moves-evaluated : (s : Study Mark) (path : List ℕ) (a : Aim) (d : ℕ) (here : Start) (before : Value) (list : List EvaluatedMove)
    → a ≡ aim_of s → d ≡ length path → here ≡ start_to s path → before ≡ value_at s path
    → AreChosen (λ v. true) (position_at s path) (legal_list (position_at s path)) list
    → AreMoveLines s path (legal_list (position_at s path)) (flat_map (line_of_move a d here before (holding_count a d list)) list)
moves-evaluated s path a d here before list ea ed es ev h =
    let p = position_at s path in
    let moves = legal_list p in
    let counted : holding_count (aim_of s) (length path) list ≡ count_by (holds (aim_of s) (length path + 1)) h.0 =
    ap (holding_count (aim_of s) (length path)) h.2 ∙ count-evaluated (aim_of s) (length path) p moves h.0 h.1 in
    let first : (flat_map (line_of_move a d here before (holding_count a d list)) list)
    ≡ flat_map (line_of_move (aim_of s) (length path) (start_to s path) (value_at s path) (count_by (holds (aim_of s) (length path + 1)) h.0))
    (all_chosen moves h.0) =
    ap (λ x. flat_map (line_of_move x d here before (holding_count x d list)) list) ea
    ∙ ap (λ x. flat_map (line_of_move (aim_of s) x here before (holding_count (aim_of s) x list)) list) ed
    ∙ ap (λ x. flat_map (line_of_move (aim_of s) (length path) x before (holding_count (aim_of s) (length path) list)) list) es
    ∙ ap (λ x. flat_map (line_of_move (aim_of s) (length path) (start_to s path) x (holding_count (aim_of s) (length path) list)) list) ev
    ∙ ap (λ n. flat_map (line_of_move (aim_of s) (length path) (start_to s path) (value_at s path) n) list) counted
    ∙ ap (flat_map (line_of_move (aim_of s) (length path) (start_to s path) (value_at s path) (count_by (holds (aim_of s) (length path + 1)) h.0))) h.2 in
    subst (λ (t : List ℕ). AreMoveLines s path moves t) (sym first) (each-evaluated s path h.0 h.1 moves h.0 h.1)
