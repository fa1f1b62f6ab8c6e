-- Squares one by one, and the result for each.
use Rattle.std.proofs.Common.{◌≡◌, ℕ, ◌+◌, ◌-◌, ◌<◌, ◌≤◌, ◌==◌, suc, Bool, true, false, not, List, [], ◌∷◌, ◌++◌, Result, Ok, Err, OnOk, cond, arith}
use Rattle.std.proofs.Common.{refl, sym, ap, subst, ◌∙◌, append_assoc}
use Rattle.std.specs.List.{filter, range_with_len, All}
use Rattle.std.proofs.lemmas.List.{append-nil}
use Rattle.std.proofs.lemmas.Bool.{ne_eqb, eq-eqb}
use Rattle.study_board.specs.Position.{Position, IsValid, in_order}
use Rattle.study_board.specs.declared.men.Man.{Man}
use Rattle.study_board.specs.declared.men.Side.{Side}
use Rattle.study_board.specs.declared.men.Side.TheVariants.{White, Black}
use Rattle.study_board.specs.Men.{moved_if}
use Rattle.study_board.proofs.MenInOrder.{IsPermutation-in_order}
use Rattle.study_material.specs.Lists.{lists, kinds_of, ordered_lists, of, Lists}
use Rattle.study_material.proofs.KindCounts.{lists-IsPermutation}
use Rattle.study_facts.proofs.Within.{LeadsTo, needs-own}
use Rattle.study_marks.specs.declared.stipulation.Stipulation.{Stipulation}
use Rattle.study_view.specs.declared.survey_squares.SquareResult.{SquareResult}
use Rattle.study_view.specs.declared.survey_squares.SurveyedSquare.{SurveyedSquare}
use Rattle.study_moves.specs.Rules.{is_legal}
use Rattle.study_values.specs.declared.value.Value.{Value}
use Rattle.study_facts.specs.declared.continuation.EvaluatedMove.{EvaluatedMove}
use Rattle.study_facts.proofs.Chosen.{all-first}
use Rattle.study_view.specs.Shown.{IsPlayedIn}
use Rattle.study_view.specs.Survey.{moved_men, result_by_moves, with_man_moved, squares_but, IsStanding, AreStandings}

range-step : (n : ℕ) → n < 64 → range_with_len n (64 - n) ≡ n ∷ range_with_len (n + 1) (64 - (n + 1))
range-step n lt =
    let less : 64 - n ≡ suc (64 - (n + 1)) = omega (arith, lt) in ap (range_with_len n) less

-- the man's own square is skipped
pub own-square : (from n : ℕ) → n < 64 → n ≡ from → squares_but from n (64 - n) ≡ squares_but from (n + 1) (64 - (n + 1))
own-square from n lt e =
    let f : ℕ → Bool = λ x. not (x == from) in
    let same : (n == from) ≡ true = eq-eqb n from e in
    ap (filter f) (range-step n lt)
    ∙ ap (λ b. cond (not b) (n ∷ filter f (range_with_len (n + 1) (64 - (n + 1)))) (filter f (range_with_len (n + 1) (64 - (n + 1))))) same

-- each other one is the first of those that are left
pub next-square : (from n : ℕ) → n < 64 → (n ≡ from → ⊥) → squares_but from n (64 - n) ≡ n ∷ squares_but from (n + 1) (64 - (n + 1))
next-square from n lt e =
    let f : ℕ → Bool = λ x. not (x == from) in
    ap (filter f) (range-step n lt)
    ∙ ap (λ b. cond (not b) (n ∷ filter f (range_with_len (n + 1) (64 - (n + 1)))) (filter f (range_with_len (n + 1) (64 - (n + 1)))))
    (ne_eqb n from e)

pub no-square : (from n : ℕ) → 64 ≤ n → squares_but from n (64 - n) ≡ []
no-square from n h =
    let z : 64 - n ≡ 0 = omega (arith, h) in ap (λ k. squares_but from n k) z

-- more squares are written
abbrev pub Adds : Position → ℕ → Stipulation → List ℕ → List SurveyedSquare → List SurveyedSquare → Type 0
Adds p from st squares old new = (more : List SurveyedSquare) × AreStandings p from st squares more × (new ≡ old ++ more)

pub adds-none : (p : Position) (from n : ℕ) (st : Stipulation) (list : List SurveyedSquare) → 64 ≤ n → Adds p from st (squares_but from n (64 - n)) list list
adds-none p from n st list h = ([], subst (λ (l : List ℕ). AreStandings p from st l []) (sym (no-square from n h)) tt, sym (append-nil list))

pub adds-past : {T E : Type 0} (p : Position) (from n : ℕ) (st : Stipulation) (old new : List SurveyedSquare) (r : Result T E) → n < 64 → n ≡ from
    → OnOk r (Adds p from st (squares_but from (n + 1) (64 - (n + 1))) old new) → OnOk r (Adds p from st (squares_but from n (64 - n)) old new)
adds-past p from n st old new (Ok x) lt e h = subst (λ (l : List ℕ). Adds p from st l old new) (sym (own-square from n lt e)) h
adds-past p from n st old new (Err x) lt e h = tt

pub adds-one : {T E : Type 0} (p : Position) (from n : ℕ) (st : Stipulation) (s : SquareResult) (old mid new : List SurveyedSquare) (r : Result T E)
    → n < 64 → (n ≡ from → ⊥) → IsStanding p from st n s → mid ≡ old ++ (record { at = n; standing = s }) ∷ []
    → OnOk r (Adds p from st (squares_but from (n + 1) (64 - (n + 1))) mid new) → OnOk r (Adds p from st (squares_but from n (64 - n)) old new)
adds-one p from n st s old mid new (Ok x) lt e evaluated m h =
    subst (λ (l : List ℕ). Adds p from st l old new) (sym (next-square from n lt e)) (
      (record { at = n; standing = s }) ∷ h.0,
      (refl, evaluated, h.1),
      h.2 ∙ ap (λ (l : List SurveyedSquare). l ++ h.0) m ∙ append_assoc old ((record { at = n; standing = s }) ∷ []) h.0,
    )
adds-one p from n st s old mid new (Err x) lt e evaluated m h = tt

-- the one move that holds is legal
pub by-legal : (q : Position) (v : Value) (list : List EvaluatedMove) → All (λ x. is_legal q x.played ≡ true) list → IsPlayedIn q (result_by_moves v list)
by-legal q v [] h = tt
by-legal q v (x ∷ []) h = all-first (λ (y : EvaluatedMove). is_legal q y.played ≡ true) x (x ∷ []) [] refl h
by-legal q v (x ∷ y ∷ l) h = tt

-- ---- the material of the position with a man on another square

moved-kind : (from to : ℕ) (m : Man) → (moved_if from to m).kind ≡ m.kind
moved-kind from to m = elim (m.at == from) as (λ b. (cond b (record m { at = to }) m).kind ≡ m.kind) [ true ↦ refl | false ↦ refl ]

moved-side : (from to : ℕ) (m : Man) → (moved_if from to m).side ≡ m.side
moved-side from to m = elim (m.at == from) as (λ b. (cond b (record m { at = to }) m).side ≡ m.side) [ true ↦ refl | false ↦ refl ]

moved-kinds : (side : Side) (from to : ℕ) (men : List Man) → kinds_of side (moved_men from to men) ≡ kinds_of side men
moved-kinds side from to [] = refl
moved-kinds side from to (m ∷ ms) = rw (moved-kind from to m, moved-side from to m, moved-kinds side from to ms) refl

moved-lists : (from to : ℕ) (men : List Man) → lists (moved_men from to men) ≡ lists men
moved-lists from to men = rw (moved-kinds White from to men, moved-kinds Black from to men) refl

stood-lists : (p : Position) (from to : ℕ) → lists (with_man_moved p from to).men ≡ lists p.men
stood-lists p from to =
    lists-IsPermutation (moved_men from to p.men) (in_order (moved_men from to p.men)) (IsPermutation-in_order (moved_men from to p.men))
    ∙ moved-lists from to p.men

-- it is of the same class
pub leads-stood : (p : Position) (from to : ℕ) (q : Position) → IsValid q → q ≡ with_man_moved p from to → LeadsTo p q
leads-stood p from to q valid e = record {
  valid = λ v. valid;
  reached = λ v c is. needs-own p c (is ∙ ap (λ (l : Lists). ordered_lists l) (ap (λ (r : Position). lists r.men) e ∙ stood-lists p from to));
}
