-- Moves selected one by one.
use Rattle.std.proofs.Common.{◌≡◌, ◌<◌, List, [], ◌∷◌, ◌++◌, Bool, true, Result, Ok, Err, OnOk, suc, length, arith, sym, ap, subst, ◌∙◌, append_assoc}
use Rattle.std.proofs.lemmas.List.{append-nil}
use Rattle.study_board.specs.Position.{Position}
use Rattle.study_moves.specs.declared.moves.Move.{Move}
use Rattle.std.specs.List.{All}
use Rattle.study_moves.specs.Rules.{after, is_legal}
use Rattle.study_values.specs.declared.value.Value.{Value}
use Rattle.study_values.specs.Game.{IsValueOf}
use Rattle.study_marks.specs.Annotated.{AreValuesAfter}
use Rattle.study_facts.specs.declared.continuation.EvaluatedMove.{EvaluatedMove}
use Rattle.study_facts.specs.Continuations.{if_wanted, wanted_moves}

-- the wanted moves among these are added
abbrev pub AreAdded : (Value → Bool) → Position → List Move → List EvaluatedMove → List EvaluatedMove → Type 0
AreAdded f p ms old new = (all : List Value) × AreValuesAfter p ms all × (new ≡ old ++ wanted_moves f ms all)

pub none-added : (f : Value → Bool) (p : Position) (ms : List Move) (list : List EvaluatedMove) → length ms ≡ 0 → AreAdded f p ms list list
none-added f p [] list e = ([], tt, sym (append-nil list))
none-added f p (m ∷ ms) list e = absurd (omega (arith, e))

pub one-added : {T E : Type 0} (f : Value → Bool) (p : Position) (m : Move) (ms rest : List Move) (v : Value)
    (old mid new : List EvaluatedMove) (r : Result T E) → ms ≡ m ∷ rest → IsValueOf (after p m) v
    → mid ≡ old ++ if_wanted f m v → OnOk r (AreAdded f p rest mid new) → OnOk r (AreAdded f p ms old new)
one-added f p m ms rest v old mid new (Ok x) e g t h =
    subst (λ (l : List Move). AreAdded f p l old new) (sym e) (
      v ∷ h.0,
      (g, h.1),
      h.2 ∙ ap (λ (u : List EvaluatedMove). u ++ wanted_moves f rest h.0) t ∙ append_assoc old (if_wanted f m v) (wanted_moves f rest h.0),
    )
one-added f p m ms rest v old mid new (Err x) e g t h = tt

-- the first of some legal moves is legal
pub legal-first : (p : Position) (m : Move) (ms rest : List Move) → ms ≡ m ∷ rest → All (λ n. is_legal p n ≡ true) ms → is_legal p m ≡ true
legal-first p m ms rest e h =
    (subst (λ (l : List Move). All (λ n. is_legal p n ≡ true) l) e h) 0 m (let z : 0 < length (m ∷ rest) = omega arith in z)

module _ {X : Type 0} (P : X → Type 0) where
  -- the first of these, and the others
  pub all-first : (x : X) (xs rest : List X) → xs ≡ x ∷ rest → All P xs → P x
  all-first x xs rest e h = (subst (λ (l : List X). All P l) e h) 0 x (let z : 0 < length (x ∷ rest) = omega arith in z)

  pub all-rest : (x : X) (xs rest : List X) → xs ≡ x ∷ rest → All P xs → All P rest
  all-rest x xs rest e h =
      λ k d i. (subst (λ (l : List X). All P l) e h) (suc k) d (let z : suc k < length (x ∷ rest) = omega (arith, i) in z)
