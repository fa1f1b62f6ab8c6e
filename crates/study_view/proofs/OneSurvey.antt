-- There is one survey.
use Rattle.std.proofs.Common.{◌≡◌, ℕ, ◌+◌, ◌++◌, Bool, true, false, List, [], ◌∷◌, Option, Some, None, refl, sym, ap, subst, ◌∙◌}
use Rattle.std.specs.Prelude.{MatchOption}
use Rattle.std.specs.List.{flat_map}
use Rattle.study_board.specs.declared.men.Man.{Man}
use Rattle.study_board.specs.declared.fault.PositionFault.{PositionFault}
use Rattle.study_board.specs.Position.{Position, man_at}
use Rattle.study_moves.specs.Laws.{EachHasAtMostOneValue}
use Rattle.study_moves.specs.LegalList.{legal_list}
use Rattle.study_values.specs.declared.value.Value.{Value}
use Rattle.study_marks.specs.declared.mark_rules.Aim.{Aim}
use Rattle.study_marks.specs.declared.stipulation.Stipulation.{Stipulation}
use Rattle.study_marks.specs.Goals.{holds}
use Rattle.study_marks.proofs.OneAnnotation.{one-value, one-list}
use Rattle.study_facts.specs.Continuations.{wanted_moves}
use Rattle.study_view.specs.declared.survey_squares.SquareResult.{SquareResult}
use Rattle.study_view.specs.declared.survey_squares.SquareResult.TheVariants.{Impossible}
use Rattle.study_view.specs.declared.survey_squares.SurveyedSquare.{SurveyedSquare}
use Rattle.study_view.specs.Survey.{with_man_moved, fault_of_man_moved, aim_in, result_by_moves, other_squares, survey_line, standing_line}
use Rattle.study_view.specs.Survey.{IsResultBy, IsResult, IsStanding, AreStandings, SurveysAreUnique}

one-evaluated-by : EachHasAtMostOneValue → (b h : Bool) (a : Aim) (q : Position) (v : Value) (s t : SquareResult) → IsResultBy b h a q v s
    → IsResultBy b h a q v t → s ≡ t
one-evaluated-by law false h a q v s t i j = i ∙ sym j
one-evaluated-by law true false a q v s t i j = i ∙ sym j
one-evaluated-by law true true a q v s t i j =
    i.2 ∙ ap (result_by_moves v) (i.1.2 ∙ ap (wanted_moves (holds a (0 + 1)) (legal_list q)) (one-list law q (legal_list q) i.1.0 j.1.0 i.1.1 j.1.1)
    ∙ sym j.1.2) ∙ sym j.2

one-evaluated : EachHasAtMostOneValue → (st : Stipulation) (q : Position) (s t : SquareResult) → IsResult st q s → IsResult st q t → s ≡ t
one-evaluated law st q s t i j =
    let a = aim_in st q in
    one-evaluated-by law (holds a 0 j.0) a.hero_first a q j.0 s t
    (subst (λ (v : Value). IsResultBy (holds a 0 v) a.hero_first a q v s) (one-value law q i.0 j.0 i.1 j.1) i.2) j.2

one-standing : EachHasAtMostOneValue → (p : Position) (from : ℕ) (st : Stipulation) (x : ℕ) (s t : SquareResult)
    → IsStanding p from st x s → IsStanding p from st x t → s ≡ t
one-standing law p from st x s t i j = go (fault_of_man_moved p from x) i j
  where
    go : (o : Option PositionFault) → MatchOption o (IsResult st (with_man_moved p from x) s) (λ fault. s ≡ Impossible)
        → MatchOption o (IsResult st (with_man_moved p from x) t) (λ fault. t ≡ Impossible) → s ≡ t
    go None h k = one-evaluated law st (with_man_moved p from x) s t h k
    go (Some f) h k = h ∙ sym k

stood-is : (x y : SurveyedSquare) → x.at ≡ y.at → x.standing ≡ y.standing → x ≡ y
stood-is x y ea es = ap (λ n. record { at = n; standing = x.standing }) ea ∙ ap (λ s. record { at = y.at; standing = s }) es

one-standings : EachHasAtMostOneValue → (p : Position) (from : ℕ) (st : Stipulation) (xs : List ℕ) (ys zs : List SurveyedSquare)
    → AreStandings p from st xs ys → AreStandings p from st xs zs → ys ≡ zs
one-standings law p from st [] [] [] i j = refl
one-standings law p from st [] [] (z ∷ zs) i j = absurd j
one-standings law p from st [] (y ∷ ys) zs i j = absurd i
one-standings law p from st (x ∷ xs) [] zs i j = absurd i
one-standings law p from st (x ∷ xs) (y ∷ ys) [] i j = absurd j
one-standings law p from st (x ∷ xs) (y ∷ ys) (z ∷ zs) i j =
    ap (λ a. a ∷ ys) (stood-is y z (i.0 ∙ sym j.0) (one-standing law p from st x y.standing z.standing i.1 j.1))
    ∙ ap (λ l. z ∷ l) (one-standings law p from st xs ys zs i.2 j.2)

man-once : (x y : Man) (o : Option Man) → o ≡ Some x → o ≡ Some y → x ≡ y
man-once x y o e h = let s : Some x ≡ Some y = sym e ∙ h in cc

pub one-survey : EachHasAtMostOneValue → SurveysAreUnique
one-survey law p from st t u i j =
    let lines = λ (list : List SurveyedSquare). flat_map (standing_line p from) list in
    i.4 ∙ ap (λ man. survey_line man st ++ lines i.1) (man-once i.0 j.0 (man_at p.men from) i.2 j.2)
    ∙ ap (λ list. survey_line j.0 st ++ lines list) (one-standings law p from st (other_squares from) i.1 j.1 i.3 j.3) ∙ sym j.4
