-- A square is written `only` exactly if exactly one move keeps the stipulation.
use Rattle.std.proofs.Common.{◌≡◌, ℕ, zero, suc, ◌+◌, ◌<◌, ◌==◌, not, Bool, true, false, List, [], ◌∷◌, ◌++◌, cond}
use Rattle.std.proofs.Common.{Option, Some, None, inl, inr, arith, refl, sym, ap, subst, ◌∙◌}
use Rattle.std.specs.Prelude.{MatchOption}
use Rattle.std.specs.List.{All, range_with_len}
use Rattle.std.proofs.lemmas.Bool.{cases_Bool}
use Rattle.std.proofs.lemmas.List.Elements.{All-map}
use Rattle.std.proofs.lemmas.List.Sorted.{All-permutation}
use Rattle.study_board.specs.Men.{same_side, moved_if}
use Rattle.study_board.specs.declared.men.Man.{Man}
use Rattle.study_board.specs.declared.fault.PositionFault.{PositionFault}
use Rattle.study_board.specs.Position.{Position, IsValid, in_order}
use Rattle.study_board.proofs.MenInOrder.{IsPermutation-in_order}
use Rattle.study_board.proofs.Faults.{first_fault_same}
use Rattle.study_board.proofs.Valid.{valid_in_order}
use Rattle.study_moves.specs.declared.moves.Move.{Move}
use Rattle.study_moves.specs.Laws.{EachHasAtMostOneValue}
use Rattle.study_moves.specs.LegalList.{legal_list}
use Rattle.study_moves.specs.Order.{move_place}
use Rattle.study_moves.specs.Rules.{after}
use Rattle.study_moves.proofs.AscendingKeys.{IsIn, IsIn-from_Contains, IsIn-filter, AscendsFrom, AscendsFrom-less}
use Rattle.study_moves.proofs.LegalLists.{in_legal, is_legal-in, AscendsFrom-legal_list}
use Rattle.study_values.specs.declared.value.Value.{Value}
use Rattle.study_values.specs.Game.{IsValueOf}
use Rattle.study_marks.specs.declared.stipulation.Stipulation.{Stipulation}
use Rattle.study_marks.specs.Goals.{holds}
use Rattle.study_marks.specs.Annotated.{AreValuesAfter}
use Rattle.study_marks.proofs.OneAnnotation.{one-value}
use Rattle.study_facts.specs.declared.continuation.EvaluatedMove.{EvaluatedMove}
use Rattle.study_facts.specs.Continuations.{wanted_moves}
use Rattle.study_view.specs.declared.survey_squares.SquareResult.{SquareResult}
use Rattle.study_view.specs.declared.survey_squares.SquareResult.TheVariants.{Impossible, Fails, Holds, Only}
use Rattle.study_view.specs.declared.survey_squares.SurveyedSquare.{SurveyedSquare}
use Rattle.study_view.specs.Survey.{moved_men, passed_with_man_moved, with_man_moved, fault_of_man_moved, aim_in, result_by_moves, other_squares, IsResultBy, IsResult}
use Rattle.study_view.specs.Survey.{IsStanding, AreStandings}
use Rattle.study_view.specs.Reported.{Keeps, IsOnlyWay, SurveysTellTheGame}

-- ---- selected moves

abbrev made : Move → Value → EvaluatedMove
made m v = record { played = m; value = v }

-- a selected move is a legal move, with the game's value after it, which is wanted
chosen-is : (f : Value → Bool) (p : Position) (ms : List Move) (vs : List Value) (x : EvaluatedMove) → AreValuesAfter p ms vs
    → IsIn x (wanted_moves f ms vs) → IsIn x.played ms × IsValueOf (after p x.played) x.value × (f x.value ≡ true)
chosen-is f p [] vs x h i = absurd i
chosen-is f p (m ∷ ms) [] x h i = absurd h
chosen-is f p (m ∷ ms) (v ∷ vs) x h i = elim (cases_Bool (f v)) [
  | inl t ↦ elim (rw t at i) [
    | inl s ↦ (
      inl (ap (λ (c : EvaluatedMove). c.played) s),
      subst (λ (c : EvaluatedMove). IsValueOf (after p c.played) c.value) s h.0,
      subst (λ (c : EvaluatedMove). f c.value ≡ true) s t,
    )
    | inr j ↦ let r = chosen-is f p ms vs x h.1 j in (inr r.0, r.1, r.2)
  ]
  | inr n ↦ let r = chosen-is f p ms vs x h.1 (rw n at i) in (inr r.0, r.1, r.2)
]

-- and each move whose value is wanted is selected
chosen-has : EachHasAtMostOneValue → (f : Value → Bool) (p : Position) (ms : List Move) (vs : List Value) (m : Move) (w : Value)
    → AreValuesAfter p ms vs → IsIn m ms → IsValueOf (after p m) w → f w ≡ true → IsIn (made m w) (wanted_moves f ms vs)
chosen-has law f p [] vs m w h i is t = absurd i
chosen-has law f p (n ∷ ms) [] m w h i is t = absurd h
chosen-has law f p (n ∷ ms) (v ∷ vs) m w h (inl s) is t =
    let e = one-value law (after p m) v w (subst (λ k. IsValueOf (after p k) v) s h.0) is in rw (s, e, t) (inl refl)
chosen-has law f p (n ∷ ms) (v ∷ vs) m w h (inr i) is t =
    let rest = chosen-has law f p ms vs m w h.1 i is t in
    elim (f v) as (λ b. IsIn (made m w) (cond b (made n v ∷ []) [] ++ wanted_moves f ms vs)) [ true ↦ inr rest | false ↦ rest ]

abbrev place_of : EvaluatedMove → ℕ
place_of x = move_place x.played

chosen-ascends : (f : Value → Bool) (lo : ℕ) (ms : List Move) (vs : List Value) → AscendsFrom move_place lo ms → AscendsFrom place_of lo (wanted_moves f ms vs)
chosen-ascends f lo [] vs h = tt
chosen-ascends f lo (m ∷ ms) [] h = tt
chosen-ascends f lo (m ∷ ms) (v ∷ vs) h =
    let rest = chosen-ascends f (move_place m + 1) ms vs h.1 in
    let le = h.0 in
    elim (f v) as (λ b. AscendsFrom place_of lo (cond b (made m v ∷ []) [] ++ wanted_moves f ms vs))
    [ true ↦ (le, rest) | false ↦ AscendsFrom-less place_of lo (move_place m + 1) (wanted_moves f ms vs) (omega arith) rest ]

-- an ascending list of one move
alone-in : (lo : ℕ) (list : List EvaluatedMove) (x : EvaluatedMove) → AscendsFrom place_of lo list → IsIn x list
    → ((y : EvaluatedMove) → IsIn y list → y.played ≡ x.played) → list ≡ x ∷ []
alone-in lo [] x a i all = absurd i
alone-in lo (y ∷ []) x a (inl s) all = ap (λ (c : EvaluatedMove). c ∷ []) s
alone-in lo (y ∷ []) x a (inr i) all = absurd i
alone-in lo (y ∷ z ∷ l) x a i all =
    let e : move_place y.played ≡ move_place z.played = ap move_place (all y (inl refl) ∙ sym (all z (inr (inl refl)))) in
    let lt = a.1.0 in
    absurd (omega arith)

-- ---- one position

-- the meaning of `only` for a valid position
record IsOnlyIn (st : Stipulation) (q : Position) (v : Value) (m : Move) : Type 0 where
  hero : same_side st.hero q.to_move ≡ true
  of_game : IsValueOf q v
  holding : holds (aim_in st q) 0 v ≡ true
  keeps : Keeps st q m
  alone : (n : Move) → Keeps st q n → n ≡ m

one-move : (w v : Value) (m : Move) (list : List EvaluatedMove) → result_by_moves w list ≡ Only v m → (x : EvaluatedMove) × (list ≡ x ∷ []) × (w ≡ v)
    × (x.played ≡ m)
one-move w v m [] e = absurd cc
one-move w v m (x ∷ []) e = (x, refl, cc, cc)
one-move w v m (x ∷ y ∷ l) e = absurd cc

module _ (law : EachHasAtMostOneValue) (st : Stipulation) (q : Position) (valid : IsValid q) where
  abbrev wanted : Value → Bool
  wanted v = holds (aim_in st q) (0 + 1) v

  keeps-chosen : (all : List Value) → AreValuesAfter q (legal_list q) all → (x : EvaluatedMove) → IsIn x (wanted_moves wanted (legal_list q) all)
      → Keeps st q x.played
  keeps-chosen all h x i =
      let r = chosen-is wanted q (legal_list q) all x h i in
      record { legal = is_legal-in q x.played r.0; value = x.value; of_game = r.1; holding = r.2 }

  chosen-keeps : (all : List Value) → AreValuesAfter q (legal_list q) all → (n : Move) (k : Keeps st q n)
      → IsIn (made n k.value) (wanted_moves wanted (legal_list q) all)
  chosen-keeps all h n k = chosen-has law wanted q (legal_list q) all n k.value h (in_legal q n valid k.legal) k.of_game k.holding

  evaluated-only : (standing : SquareResult) (v : Value) (m : Move) → IsResult st q standing → standing ≡ Only v m → IsOnlyIn st q v m
  evaluated-only standing v m (w, is, evaluated) e = go (holds (aim_in st q) 0 w) (aim_in st q).hero_first refl refl evaluated
    where
      go : (b h : Bool) → holds (aim_in st q) 0 w ≡ b → (aim_in st q).hero_first ≡ h → IsResultBy b h (aim_in st q) q w standing → IsOnlyIn st q v m
      go false h eb eh t = let no : Fails w ≡ Only v m = sym t ∙ e in absurd cc
      go true false eb eh t = let no : Holds w ≡ Only v m = sym t ∙ e in absurd cc
      go true true eb eh (list, (all, values, are), t) =
          let one = one-move w v m list (sym t ∙ e) in
          let x = one.0 in
          let just : wanted_moves wanted (legal_list q) all ≡ x ∷ [] = sym are ∙ one.1 in
          record {
            hero = eh;
            of_game = subst (IsValueOf q) one.2 is;
            holding = subst (λ (k : Value). holds (aim_in st q) 0 k ≡ true) one.2 eb;
            keeps = subst (Keeps st q) one.3 (keeps-chosen all values x (subst (IsIn x) (sym just) (inl refl)));
            alone = λ n k. elim (subst (IsIn (made n k.value)) just (chosen-keeps all values n k)) [
              | inl s ↦ sym (ap (λ (c : EvaluatedMove). c.played) s) ∙ one.3
              | inr none ↦ absurd none
            ];
          }

  only-evaluated : (standing : SquareResult) (v : Value) (m : Move) → IsResult st q standing → IsOnlyIn st q v m → standing ≡ Only v m
  only-evaluated standing v m (w, is, evaluated) o =
      let e : w ≡ v = one-value law q w v is o.of_game in
      let eb : holds (aim_in st q) 0 w ≡ true = ap (λ (k : Value). holds (aim_in st q) 0 k) e ∙ o.holding in
      go (subst (λ (b : Bool). IsResultBy b (aim_in st q).hero_first (aim_in st q) q w standing) eb evaluated) e
    where
      go : IsResultBy true (aim_in st q).hero_first (aim_in st q) q w standing → w ≡ v → standing ≡ Only v m
      go evaluated e = by (subst (λ (h : Bool). IsResultBy true h (aim_in st q) q w standing) o.hero evaluated)
        where
          by : IsResultBy true true (aim_in st q) q w standing → standing ≡ Only v m
          by (list, (all, values, are), t) =
              let x = made m o.keeps.value in
              let just : wanted_moves wanted (legal_list q) all ≡ x ∷ [] =
              alone-in 0 (wanted_moves wanted (legal_list q) all) x (chosen-ascends wanted 0 (legal_list q) all (AscendsFrom-legal_list q))
              (chosen-keeps all values m o.keeps) (λ y i. o.alone y.played (keeps-chosen all values y i)) in
              t ∙ ap (λ (l : List EvaluatedMove). result_by_moves w l) (are ∙ just) ∙ ap (λ (k : Value). Only k m) e

-- ---- the man on another square

moved-within : (from x : ℕ) (men : List Man) → x < 64 → All (λ m. m.at < 64) men → All (λ m. m.at < 64) (moved_men from x men)
moved-within from x men lt all = All-map (λ (m : Man). m.at < 64) (moved_if from x) men (λ k d i. one _ (all k d i))
  where
    one : (m : Man) → m.at < 64 → (moved_if from x m).at < 64
    one m h = elim (m.at == from) as (λ b. (cond b (record m { at = x }) m).at < 64) [ true ↦ lt | false ↦ h ]

stood-valid : (p : Position) (from x : ℕ) → IsValid p → x < 64 → fault_of_man_moved p from x ≡ None → IsValid (with_man_moved p from x)
stood-valid p from x valid lt none =
    let men = moved_men from x p.men in
    valid_in_order men p.to_move (passed_with_man_moved p from x)
    (All-permutation (λ (m : Man). m.at < 64) men (in_order men) (IsPermutation-in_order men) (moved-within from x p.men lt valid.on_board)) none

stood-faultless : (p : Position) (from x : ℕ) → IsValid (with_man_moved p from x) → fault_of_man_moved p from x ≡ None
stood-faultless p from x valid =
    let men = moved_men from x p.men in
    first_fault_same men (in_order men) (IsPermutation-in_order men) p.to_move (passed_with_man_moved p from x) ∙ valid.faultless

-- each square of a list is written
standing-of : (p : Position) (from : ℕ) (st : Stipulation) (xs : List ℕ) (ys : List SurveyedSquare) (y : SurveyedSquare) → AreStandings p from st xs ys
    → IsIn y ys
    → IsIn y.at xs × IsStanding p from st y.at y.standing
standing-of p from st [] [] y h i = absurd i
standing-of p from st [] (z ∷ zs) y h i = absurd h
standing-of p from st (x ∷ xs) [] y h i = absurd i
standing-of p from st (x ∷ xs) (z ∷ zs) y h (inl s) =
    let evaluated = subst (λ n. IsStanding p from st n z.standing) (sym h.0) h.1 in
    (inl (sym h.0 ∙ ap (λ (k : SurveyedSquare). k.at) s), subst (λ (k : SurveyedSquare). IsStanding p from st k.at k.standing) s evaluated)
standing-of p from st (x ∷ xs) (z ∷ zs) y h (inr i) = let r = standing-of p from st xs zs y h.2 i in (inr r.0, r.1)

in-range : (first n x : ℕ) → IsIn x (range_with_len first n) → x < first + n
in-range first zero x i = absurd i
in-range first (suc n) x (inl s) = omega arith
in-range first (suc n) x (inr i) = let r = in-range (first + 1) n x i in omega arith

on-board : (from x : ℕ) → IsIn x (other_squares from) → x < 64
on-board from x i = in-range 0 64 x (IsIn-filter (λ y. not (y == from)) (range_with_len 0 64) x i).0

pub surveys-evaluated : EachHasAtMostOneValue → SurveysTellTheGame
surveys-evaluated law p from st list valid are y there v m =
    let r = standing-of p from st (other_squares from) list y are (IsIn-from_Contains y list there) in
    let lt = on-board from y.at r.0 in
    (only-way (fault_of_man_moved p from y.at) refl lt r.1, way-only r.1)
  where
    only-way : (o : Option PositionFault) → fault_of_man_moved p from y.at ≡ o → y.at < 64
        → MatchOption o (IsResult st (with_man_moved p from y.at) y.standing) (λ fault. y.standing ≡ Impossible)
        → y.standing ≡ Only v m → IsOnlyWay p from st y.at v m
    only-way None none lt evaluated e =
        let ok = stood-valid p from y.at valid lt none in
        let o = evaluated-only law st (with_man_moved p from y.at) ok y.standing v m evaluated e in
        record { valid = ok; hero = o.hero; of_game = o.of_game; holding = o.holding; keeps = o.keeps; alone = o.alone }
    only-way (Some fault) is lt evaluated e = let no : Impossible ≡ Only v m = sym evaluated ∙ e in absurd cc

    way-only : IsStanding p from st y.at y.standing → IsOnlyWay p from st y.at v m → y.standing ≡ Only v m
    way-only evaluated o =
        only-evaluated law st (with_man_moved p from y.at) o.valid y.standing v m
        (subst (λ (k : Option PositionFault). MatchOption k (IsResult st (with_man_moved p from y.at) y.standing) (λ fault. y.standing ≡ Impossible))
        (stood-faultless p from y.at o.valid) evaluated)
        (record { hero = o.hero; of_game = o.of_game; holding = o.holding; keeps = o.keeps; alone = o.alone })
