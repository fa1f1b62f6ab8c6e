-- A dual counts the other legal moves that hold.
use Rattle.std.proofs.Common.{◌≡◌, ℕ, ◌+◌, ◌-◌, ◌==◌, ◌<◌, ◌≤◌, List, [], ◌∷◌, Bool, true, false, ◌&&◌}
use Rattle.std.proofs.Common.{Option, Some, None, inl, inr, refl, sym, ap, ◌∙◌, arith, zero, suc, subst}
use Rattle.std.specs.Prelude.{if◌then◌else◌}
use Rattle.std.specs.List.{count_by}
use Rattle.std.proofs.lemmas.Bool.{false≢true, eqb-true, ne_eqb}
use Rattle.study_board.specs.Position.{Position}
use Rattle.study_board.specs.declared.men.Kind.{Kind}
use Rattle.study_board.specs.EqualLaws.{kinds_equal}
use Rattle.study_board.proofs.Lists.{count_by-cons}
use Rattle.study_moves.specs.declared.moves.Move.{Move}
use Rattle.study_moves.specs.Rules.{after}
use Rattle.study_moves.specs.Laws.{EachHasAtMostOneValue}
use Rattle.study_values.specs.declared.value.Value.{Value}
use Rattle.study_values.specs.Game.{IsValueOf}
use Rattle.study_moves.specs.LegalList.{legal_list}
use Rattle.study_notation.specs.Matching.{same_promotion}
use Rattle.study_moves.specs.Order.{move_place}
use Rattle.study_moves.proofs.LegalLists.{in_legal, AscendsFrom-legal_list}
use Rattle.study_moves.proofs.AscendingKeys.{IsIn, AscendsFrom}
use Rattle.study_marks.specs.declared.mark.MoveMark.TheVariants.{Only, Dual}
use Rattle.study_marks.specs.declared.mark_rules.Aim.{Aim}
use Rattle.study_marks.specs.Study.{same_move}
use Rattle.study_marks.specs.Goals.{holds}
use Rattle.study_marks.specs.Marks.{mark_of, only_or_dual}
use Rattle.study_marks.specs.Annotated.{AreValuesAfter}
use Rattle.study_marks.specs.Laws.{others_that_hold, DualCountsOthers}
use Rattle.study_marks.proofs.StudyEdits.{same_move-refl}
use Rattle.study_marks.proofs.OneAnnotation.{one-value}

-- two moves that are the same
both : (b c : Bool) → (b && c) ≡ true → (b ≡ true) × (c ≡ true)
both true c h = (refl, h)
both false c h = absurd (false≢true h)

promotions-one : (q r : Option Kind) → same_promotion q r ≡ true → q ≡ r
promotions-one None None e = refl
promotions-one None (Some l) e = absurd (false≢true e)
promotions-one (Some k) None e = absurd (false≢true e)
promotions-one (Some k) (Some l) e = ap (λ z. Some z) (kinds_equal k l e)

pub same_move-one : (m n : Move) → same_move m n ≡ true → m ≡ n
same_move-one m n h =
    let x = both ((m.origin == n.origin) && (m.target == n.target)) (same_promotion m.promoted n.promoted) h in
    let y = both (m.origin == n.origin) (m.target == n.target) x.0 in
    ap (λ z. record { origin = z; target = m.target; promoted = m.promoted }) (eqb-true m.origin n.origin y.0)
    ∙ ap (λ z. record { origin = n.origin; target = z; promoted = m.promoted }) (eqb-true m.target n.target y.1)
    ∙ ap (λ z. record { origin = n.origin; target = n.target; promoted = z }) (promotions-one m.promoted n.promoted x.1)

apart : (m n : Move) → (move_place m ≡ move_place n → ⊥) → same_move m n ≡ false
apart m n h = go (same_move m n) refl
  where
    go : (b : Bool) → same_move m n ≡ b → same_move m n ≡ false
    go false e = e
    go true e = absurd (h (ap move_place (same_move-one m n e)))

in-least : (lo : ℕ) (ms : List Move) (m : Move) → AscendsFrom move_place lo ms → IsIn m ms → lo ≤ move_place m
in-least lo [] m h i = absurd i
in-least lo (n ∷ ms) m h (inl e) = omega (arith, h.0, ap move_place e)
in-least lo (n ∷ ms) m h (inr i) = omega (arith, h.0, in-least (move_place n + 1) ms m h.1 i)

-- 1 if the truth value is true
abbrev one_if : Bool → ℕ
one_if b = if b then 1 else 0

-- the count for one of the moves
abbrev counts : Bool → Bool → ℕ
counts same held = if same then 0 else (if held then 1 else 0)

module _ (a : Aim) (d : ℕ) (p : Position) (m : Move) where
  counted-one : (v : Value) (vs : List Value) (ms : List Move) (n : Move) (k : ℕ) → same_move m n ≡ false
      → count_by (holds a d) vs ≡ others_that_hold a d m ms vs + k
      → count_by (holds a d) (v ∷ vs) ≡ others_that_hold a d m (n ∷ ms) (v ∷ vs) + k
  counted-one v vs ms n k e h =
      let other : counts (same_move m n) (holds a d v) ≡ one_if (holds a d v) = ap (λ b. counts b (holds a d v)) e in
      omega (arith, count_by-cons (holds a d) v vs, h, other)

  no-more : (lo : ℕ) (ms : List Move) (vs : List Value) → AscendsFrom move_place lo ms → move_place m < lo
      → AreValuesAfter p ms vs → count_by (holds a d) vs ≡ others_that_hold a d m ms vs + 0
  no-more lo [] [] h less k = refl
  no-more lo [] (v ∷ vs) h less k = absurd k
  no-more lo (n ∷ ms) [] h less k = absurd k
  no-more lo (n ∷ ms) (v ∷ vs) h less k =
      counted-one v vs ms n 0 (apart m n (λ e. absurd (omega (arith, h.0, less, e)))) (no-more (move_place n + 1) ms vs h.1 (omega (arith, h.0, less)) k.1)

  once : EachHasAtMostOneValue → (lo : ℕ) (ms : List Move) (vs : List Value) (w : Value)
      → AscendsFrom move_place lo ms → IsIn m ms → AreValuesAfter p ms vs → IsValueOf (after p m) w → holds a d w ≡ true
      → count_by (holds a d) vs ≡ others_that_hold a d m ms vs + 1
  once law lo [] vs w h i k game held = absurd i
  once law lo (n ∷ ms) [] w h i k game held = absurd k
  once law lo (n ∷ ms) (v ∷ vs) w h (inl e) k game held =
      let same : v ≡ w = one-value law (after p m) v w (subst (λ x. IsValueOf (after p x) v) e k.0) game in
      let one : one_if (holds a d v) ≡ 1 = ap (λ x. one_if (holds a d x)) same ∙ ap one_if held in
      let mine : counts (same_move m n) (holds a d v) ≡ 0 =
      ap (λ x. counts (same_move m x) (holds a d v)) e ∙ ap (λ b. counts b (holds a d v)) (same_move-refl m) in
      omega (arith, count_by-cons (holds a d) v vs, one, mine, no-more (move_place n + 1) ms vs h.1 (omega (arith, ap move_place e)) k.1)
  once law lo (n ∷ ms) (v ∷ vs) w h (inr i) k game held =
      counted-one v vs ms n 1 (apart m n (λ e. absurd (omega (arith, in-least (move_place n + 1) ms m h.1 i, e))))
      (once law (move_place n + 1) ms vs w h.1 i k.1 game held)

only-or-dual : (n k : ℕ) → n ≡ k + 1 → only_or_dual n ≡ (if k == 0 then Only else Dual k)
only-or-dual n zero e = ap only_or_dual (let z : n ≡ 1 = omega (arith, e) in z)
only-or-dual n (suc k) e =
    ap (λ b. if b then Only else Dual (n - 1)) (ne_eqb n 1 (λ x. absurd (omega (arith, e, x)))) ∙ ap Dual (let z : n - 1 ≡ suc k = omega (arith, e) in z)
    ∙ sym (ap (λ b. if b then Only else Dual (suc k)) (ne_eqb (suc k) 0 (λ x. absurd (omega (arith, x)))))

pub dual-counts-others : EachHasAtMostOneValue → DualCountsOthers
dual-counts-others law a d p m v all w valid legal values game hero before after_move =
    ap (λ b. mark_of b (holds a d v) (holds a (d + 1) w) (count_by (holds a (d + 1)) all)) hero
    ∙ ap (λ b. mark_of true b (holds a (d + 1) w) (count_by (holds a (d + 1)) all)) before
    ∙ ap (λ b. mark_of true true b (count_by (holds a (d + 1)) all)) after_move
    ∙ only-or-dual (count_by (holds a (d + 1)) all) (others_that_hold a (d + 1) m (legal_list p) all)
    (once a (d + 1) p m law 0 (legal_list p) all w (AscendsFrom-legal_list p) (in_legal p m valid legal) values game after_move)
