-- Evaluated moves, and those of them that have a line.
use Rattle.std.proofs.Common.{◌≡◌, ℕ, ◌+◌, Bool, true, false, not, ◌&&◌, List, [], ◌∷◌, ◌++◌, Result, Ok, Err, OnOk, refl, ap, subst, ◌∙◌}
use Rattle.std.specs.List.{filter}
use Rattle.study_board.specs.Position.{Position}
use Rattle.study_moves.specs.declared.moves.Move.{Move}
use Rattle.study_moves.specs.LegalList.{legal_list}
use Rattle.study_moves.specs.Rules.{after}
use Rattle.study_values.specs.declared.value.Value.{Value}
use Rattle.study_values.specs.Game.{IsValueOf}
use Rattle.study_marks.specs.declared.mark_rules.Aim.{Aim}
use Rattle.study_marks.specs.Goals.{holds}
use Rattle.study_marks.specs.Annotated.{AreValuesAfter}
use Rattle.study_facts.specs.declared.continuation.EvaluatedMove.{EvaluatedMove}
use Rattle.study_facts.specs.Continuations.{wanted_moves, contains_move, is_draw, AreChosen, AreRefutations, AreDrawingMoves, AreMissing, AreAlternatives}
use Rattle.study_review.specs.NodeFacts.{AreReported, failing_moves, drawing_moves, moves_outside, besides}
use Rattle.study_facts.proofs.Chosen.{one-added}

-- one more move is written
pub evaluated-one : {T E : Type 0} (p : Position) (m : Move) (ms rest : List Move) (old mid new : List EvaluatedMove) (r : Result T E) → ms ≡ m ∷ rest
    → ((v : Value) × IsValueOf (after p m) v × (mid ≡ old ++ (record { played = m; value = v }) ∷ []))
    → OnOk r (AreReported p rest mid new) → OnOk r (AreReported p ms old new)
evaluated-one p m ms rest old mid new r e h k = one-added (λ v. true) p m ms rest h.0 old mid new r e h.1 h.2 k

-- all legal moves are evaluated
pub evaluated-all : {T E : Type 0} (p : Position) (ms : List Move) (old new : List EvaluatedMove) (r : Result T E) → ms ≡ legal_list p → old ≡ []
    → OnOk r (AreReported p ms old new) → OnOk r (AreChosen (λ v. true) p (legal_list p) new)
evaluated-all p ms old new (Err x) e n h = tt
evaluated-all p ms old new (Ok x) e n h = (
  h.0,
  subst (λ (l : List Move). AreValuesAfter p l h.0) e h.1,
  h.2 ∙ ap (λ (u : List EvaluatedMove). u ++ wanted_moves (λ v. true) ms h.0) n
      ∙ ap (λ (l : List Move). wanted_moves (λ v. true) l h.0) e,
)

-- ---- some of them

some-kept : (f : Value → Bool) (ms : List Move) (vs : List Value) → filter (λ x. f x.value) (wanted_moves (λ v. true) ms vs) ≡ wanted_moves f ms vs
some-kept f [] vs = refl
some-kept f (m ∷ ms) [] = refl
some-kept f (m ∷ ms) (v ∷ vs) = go (some-kept f ms vs) (f v) refl
  where
    go : filter (λ x. f x.value) (wanted_moves (λ w. true) ms vs) ≡ wanted_moves f ms vs → (b : Bool) → f v ≡ b
        → filter (λ x. f x.value) (wanted_moves (λ w. true) (m ∷ ms) (v ∷ vs)) ≡ wanted_moves f (m ∷ ms) (v ∷ vs)
    go h true e = rw e (ap (λ (l : List EvaluatedMove). record { played = m; value = v } ∷ l) h)
    go h false e = rw e h

some-evaluated : (f : Value → Bool) (p : Position) (ms : List Move) (list : List EvaluatedMove) → AreChosen (λ v. true) p ms list
    → AreChosen f p ms (filter (λ x. f x.value) list)
some-evaluated f p ms list h = (h.0, h.1, ap (λ (l : List EvaluatedMove). filter (λ x. f x.value) l) h.2 ∙ some-kept f ms h.0)

pub failing_moves-evaluated : (a : Aim) (d : ℕ) (p : Position) (list : List EvaluatedMove) → AreChosen (λ v. true) p (legal_list p) list
    → AreRefutations a d p (failing_moves a d list)
failing_moves-evaluated a d p list h = some-evaluated (λ v. not (holds a (d + 1) v)) p (legal_list p) list h

pub drawing_moves-evaluated : (p : Position) (list : List EvaluatedMove) → AreChosen (λ v. true) p (legal_list p) list → AreDrawingMoves p (drawing_moves list)
drawing_moves-evaluated p list h = some-evaluated is_draw p (legal_list p) list h

-- ---- the moves that are not in the list

module _ (p : Position) (g : Move → Bool) (f : Value → Bool) (h : EvaluatedMove → Bool) (same : (x : EvaluatedMove) → h x ≡ (g x.played && f x.value)) where
  abbrev IsPicked : List Move → List Value → Type 0
  IsPicked ms vs = (ws : List Value) × AreValuesAfter p (filter g ms) ws × (filter h (wanted_moves (λ v. true) ms vs) ≡ wanted_moves f (filter g ms) ws)

  picked : (ms : List Move) (vs : List Value) → AreValuesAfter p ms vs → IsPicked ms vs
  picked [] [] k = ([], tt, refl)
  picked [] (v ∷ vs) k = absurd k
  picked (m ∷ ms) [] k = absurd k
  picked (m ∷ ms) (v ∷ vs) k = go (picked ms vs k.1) (g m) (f v) refl refl
    where
      x : EvaluatedMove
      x = record { played = m; value = v }

      go : IsPicked ms vs → (b c : Bool) → g m ≡ b → f v ≡ c → IsPicked (m ∷ ms) (v ∷ vs)
      go rest true true e i =
          let y : h x ≡ true = same x ∙ ap (λ b. b && f v) e ∙ i in
          rw e rw y (v ∷ rest.0, (k.0, rest.1), (rw i (ap (λ (l : List EvaluatedMove). x ∷ l) rest.2)))
      go rest true false e i =
          let y : h x ≡ false = same x ∙ ap (λ b. b && f v) e ∙ i in
          rw e rw y (v ∷ rest.0, (k.0, rest.1), (rw i rest.2))
      go rest false c e i =
          let y : h x ≡ false = same x ∙ ap (λ b. b && f v) e in
          rw e rw y (rest.0, rest.1, rest.2)

  pub picked-evaluated : (ms : List Move) (list : List EvaluatedMove) → AreChosen (λ v. true) p ms list → AreChosen f p (filter g ms) (filter h list)
  picked-evaluated ms list k =
      let r = picked ms k.0 k.1 in
      (r.0, r.1, ap (λ (l : List EvaluatedMove). filter h l) k.2 ∙ r.2)

and-true : (b : Bool) → b ≡ (b && true)
and-true true = refl
and-true false = refl

pub moves_outside-evaluated : (p : Position) (there : List Move) (list : List EvaluatedMove) → AreChosen (λ v. true) p (legal_list p) list
    → AreMissing p there (moves_outside there list)
moves_outside-evaluated p there list k =
    picked-evaluated p (λ m. not (contains_move m there)) (λ v. true) (λ x. not (contains_move x.played there))
    (λ x. and-true (not (contains_move x.played there))) (legal_list p) list k

pub besides-evaluated : (a : Aim) (d : ℕ) (p : Position) (m : Move) (list : List EvaluatedMove) → AreChosen (λ v. true) p (legal_list p) list
    → AreAlternatives a d p m (besides a d (m ∷ []) list)
besides-evaluated a d p m list k =
    picked-evaluated p (λ n. not (contains_move n (m ∷ []))) (holds a (d + 1)) (λ x. not (contains_move x.played (m ∷ [])) && holds a (d + 1) x.value)
    (λ x. refl) (legal_list p) list k
