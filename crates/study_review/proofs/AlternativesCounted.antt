-- The alternatives of a move, counted.
use Rattle.std.proofs.Common.{◌≡◌, ℕ, ◌+◌, ◌==◌, Bool, true, false, not, List, [], ◌∷◌, length, zero, suc, arith, refl, sym, ap, subst, ◌∙◌}
use Rattle.std.specs.Prelude.{if◌then◌else◌}
use Rattle.std.specs.List.{filter}
use Rattle.std.proofs.lemmas.Bool.{false≢true, ne_eqb}
use Rattle.study_board.specs.Position.{Position}
use Rattle.study_moves.specs.declared.moves.Move.{Move}
use Rattle.study_moves.specs.Rules.{after}
use Rattle.study_moves.specs.LegalList.{legal_list}
use Rattle.study_moves.specs.Laws.{EachHasAtMostOneValue}
use Rattle.study_values.specs.declared.value.Value.{Value}
use Rattle.study_values.specs.Game.{IsValueOf}
use Rattle.study_marks.specs.declared.mark_rules.Aim.{Aim}
use Rattle.study_marks.specs.declared.mark.MoveMark.{MoveMark}
use Rattle.study_marks.specs.declared.mark.MoveMark.TheVariants.{Only, Dual, Mistake, Idle, Reply}
use Rattle.study_marks.specs.Study.{same_move}
use Rattle.study_marks.specs.Goals.{hero_moves, holds}
use Rattle.study_marks.specs.Marks.{mark_of}
use Rattle.study_marks.specs.Annotated.{AreValuesAfter}
use Rattle.study_marks.specs.Laws.{others_that_hold, DualCountsOthers}
use Rattle.study_marks.proofs.OneAnnotation.{one-value}
use Rattle.study_marks.proofs.DualCounts.{same_move-one}
use Rattle.study_facts.specs.Continuations.{contains_move, wanted_moves}
use Rattle.study_review.specs.Laws.{AlternativesAreCounted}

-- ---- marks of moves that hold

abbrev keeps : MoveMark → Bool
keeps Only = true
keeps (Dual k) = true
keeps Mistake = false
keeps Idle = false
keeps Reply = false

abbrev AllTrue : Bool → Bool → Bool → Type 0
AllTrue a b c = (a ≡ true) × (b ≡ true) × (c ≡ true)

kept-by : (a b c : Bool) (n : ℕ) → keeps (mark_of a b c n) ≡ true → AllTrue a b c
kept-by true true true n e = (refl, refl, refl)
kept-by true true false n e = absurd (false≢true e)
kept-by true false c n e = absurd (false≢true e)
kept-by false false true n e = absurd (false≢true e)
kept-by false false false n e = absurd (false≢true e)
kept-by false true c n e = absurd (false≢true e)

abbrev number_of : MoveMark → ℕ
number_of Only = 0
number_of (Dual k) = k
number_of Mistake = 0
number_of Idle = 0
number_of Reply = 0

number-by : (n : ℕ) → number_of (if n == 0 then Only else Dual n) ≡ n
number-by zero = refl
number-by (suc n) = ap (λ b. number_of (if b then Only else Dual (suc n))) (ne_eqb (suc n) 0 (λ x. absurd (omega (arith, x))))

-- ---- the others

turned : (m n : Move) → same_move n m ≡ same_move m n
turned m n = go (same_move n m) (same_move m n) refl refl
  where
    go : (b c : Bool) → same_move n m ≡ b → same_move m n ≡ c → same_move n m ≡ same_move m n
    go true c e f =
        let one : n ≡ m = same_move-one n m e in ap (λ x. same_move x m) one ∙ sym (ap (λ x. same_move m x) one)
    go false false e f = e ∙ sym f
    go false true e f =
        let one : m ≡ n = same_move-one m n f in ap (λ x. same_move x m) (sym one) ∙ ap (λ x. same_move m x) one

among-one : (m n : Move) → contains_move n (m ∷ []) ≡ same_move m n
among-one m n = go (same_move n m) refl ∙ turned m n
  where
    go : (b : Bool) → same_move n m ≡ b → contains_move n (m ∷ []) ≡ same_move n m
    go true e = rw e refl
    go false e = rw e refl

abbrev count_if : Bool → ℕ
count_if b = if b then 1 else 0

chosen-length : (f : Value → Bool) (n : Move) (v : Value) (ms : List Move) (vs : List Value)
    → length (wanted_moves f (n ∷ ms) (v ∷ vs)) ≡ (if f v then 1 else 0) + length (wanted_moves f ms vs)
chosen-length f n v ms vs = go (f v) refl
  where
    go : (b : Bool) → f v ≡ b → length (wanted_moves f (n ∷ ms) (v ∷ vs)) ≡ (if f v then 1 else 0) + length (wanted_moves f ms vs)
    go true e =
        let k : length (wanted_moves f (n ∷ ms) (v ∷ vs)) ≡ suc (length (wanted_moves f ms vs)) = rw e refl in
        let one : count_if (f v) ≡ 1 = rw e refl in omega (arith, k, one)
    go false e =
        let k : length (wanted_moves f (n ∷ ms) (v ∷ vs)) ≡ length (wanted_moves f ms vs) = rw e refl in
        let none : count_if (f v) ≡ 0 = rw e refl in omega (arith, k, none)

module _ (law : EachHasAtMostOneValue) (a : Aim) (d : ℕ) (p : Position) (m : Move) where
  abbrev apart : Move → Bool
  apart n = not (contains_move n (m ∷ []))

  one-counted : (b : Bool) (n : Move) (ms : List Move) (v : Value) (all vs : List Value)
      → ((ws : List Value) → AreValuesAfter p (filter apart ms) ws → others_that_hold a d m ms all ≡ length (wanted_moves (holds a d) (filter apart ms) ws))
      → IsValueOf (after p n) v → AreValuesAfter p (if not b then n ∷ filter apart ms else filter apart ms) vs
      → (if b then 0 else (if holds a d v then 1 else 0)) + others_that_hold a d m ms all
      ≡ length (wanted_moves (holds a d) (if not b then n ∷ filter apart ms else filter apart ms) vs)
  one-counted true n ms v all vs rest g j = let e = rest vs j in omega (arith, e)
  one-counted false n ms v all [] rest g j = absurd j
  one-counted false n ms v all (w ∷ vs) rest g j =
      let same : v ≡ w = one-value law (after p n) v w g j.0 in
      ap (λ x. (if holds a d x then 1 else 0) + others_that_hold a d m ms all) same
      ∙ ap (λ k. (if holds a d w then 1 else 0) + k) (rest vs j.1)
      ∙ sym (chosen-length (holds a d) n w (filter apart ms) vs)

  counted : (ms : List Move) (all vs : List Value) → AreValuesAfter p ms all → AreValuesAfter p (filter apart ms) vs
      → others_that_hold a d m ms all ≡ length (wanted_moves (holds a d) (filter apart ms) vs)
  counted [] [] [] h j = refl
  counted [] [] (w ∷ vs) h j = absurd j
  counted [] (v ∷ all) vs h j = absurd h
  counted (n ∷ ms) [] vs h j = absurd h
  counted (n ∷ ms) (v ∷ all) vs h j =
      let e : apart n ≡ not (same_move m n) = ap not (among-one m n) in
      let f : filter apart (n ∷ ms) ≡ (if not (same_move m n) then n ∷ filter apart ms else filter apart ms) =
      ap (λ b. if b then n ∷ filter apart ms else filter apart ms) e in
      one-counted (same_move m n) n ms v all vs (λ ws k. counted ms all ws h.1 k) h.0 (subst (λ (l : List Move). AreValuesAfter p l vs) f j)
      ∙ ap (λ (l : List Move). length (wanted_moves (holds a d) l vs)) (sym f)

pub alternatives-counted : EachHasAtMostOneValue → DualCountsOthers → AlternativesAreCounted
alternatives-counted law duals a d p m v w mark list valid legal game is others =
    let all = is.0 in
    let count = others_that_hold a (d + 1) m (legal_list p) all in
    let same : count ≡ length list = counted law a (d + 1) p m (legal_list p) all others.0 is.1 others.1 ∙ sym (ap length others.2) in
    let good : keeps mark ≡ true → length list ≡ number_of mark = λ k.
    let t = kept-by (hero_moves a d) (holds a d v) (holds a (d + 1) w) _ (ap keeps (sym is.2) ∙ k) in
    let n = duals a d p m v all w valid legal is.1 game t.0 t.1 t.2 in
    sym same ∙ sym (number-by count) ∙ ap number_of (sym n ∙ sym is.2) in (
      (λ k e. good (ap keeps e) ∙ ap number_of e),
      (λ e. good (ap keeps e) ∙ ap number_of e),
    )
