-- Best play, step by step.
use Rattle.std.proofs.Common.{◌≡◌, ℕ, ◌-◌, List, [], ◌∷◌, ◌++◌, true, Option, Some, None, Result}
use Rattle.std.proofs.Common.{Ok, Err, OnOk, suc, zero, arith, refl, sym, ap, subst, ◌∙◌, append_assoc}
use Rattle.std.proofs.lemmas.List.{append-nil}
use Rattle.study_board.specs.Position.{Position}
use Rattle.study_moves.specs.declared.moves.Move.{Move}
use Rattle.study_moves.specs.Rules.{is_legal, after}
use Rattle.study_moves.specs.LegalList.{legal_list}
use Rattle.study_values.specs.declared.value.Value.{Value}
use Rattle.study_values.specs.Game.{IsValueOf}
use Rattle.study_facts.specs.declared.continuation.EvaluatedMove.{EvaluatedMove}
use Rattle.study_facts.specs.Continuations.{AreChosen}
use Rattle.study_facts.specs.Play.{ArePlayed}
use Rattle.study_facts.specs.Best.{better_of, first_best, IsBestMove, IsBestPlay}

-- the best of these moves
abbrev pub IsBestOf : Position → List Move → Option EvaluatedMove → Type 0
IsBestOf p ms best = (list : List EvaluatedMove) × AreChosen (λ v. true) p ms list × (best ≡ first_best list)

pub best-more : (p : Position) (m : Move) (ms rest : List Move) (v : Value) (later : Option EvaluatedMove) (x : EvaluatedMove) → ms ≡ m ∷ rest
    → IsValueOf (after p m) v → IsBestOf p rest later → x ≡ better_of (record { played = m; value = v }) later → IsBestOf p ms (Some x)
best-more p m ms rest v later x e g h t =
    let y : EvaluatedMove = record { played = m; value = v } in
    subst (λ (l : List Move). IsBestOf p l (Some x)) (sym e) (
      y ∷ h.0,
      (v ∷ h.1.0, (g, h.1.1), ap (λ (l : List EvaluatedMove). y ∷ l) h.1.2),
      ap Some (t ∙ ap (better_of y) h.2),
    )

-- best play is added
abbrev pub IsPlayed : ℕ → Position → List EvaluatedMove → List EvaluatedMove → Type 0
IsPlayed n p old new = (play : List EvaluatedMove) × IsBestPlay n p play × (new ≡ old ++ play)

pub play-ends : (n : ℕ) (p : Position) (list : List EvaluatedMove) → (n ≡ 0 → ⊥) → IsBestMove p None → IsPlayed n p list list
play-ends zero p list some h = absurd (some refl)
play-ends (suc n) p list some h = ([], h, sym (append-nil list))

pub play-goes-on : {T E : Type 0} (n : ℕ) (p next : Position) (x : EvaluatedMove) (old mid new : List EvaluatedMove) (r : Result T E) → (n ≡ 0 → ⊥)
    → IsBestMove p (Some x) → next ≡ after p x.played → mid ≡ old ++ x ∷ [] → OnOk r (IsPlayed (n - 1) next mid new)
    → OnOk r (IsPlayed n p old new)
play-goes-on zero p next x old mid new r some h e t g = absurd (some refl)
play-goes-on (suc n) p next x old mid new (Err y) some h e t g = tt
play-goes-on (suc n) p next x old mid new (Ok y) some h e t g =
    let one : suc n - 1 ≡ n = omega arith in
    let k = subst (λ i. IsPlayed i next mid new) one g in (
      x ∷ k.0,
      (h, subst (λ (q : Position). IsBestPlay n q k.0) e k.1),
      k.2 ∙ ap (λ (l : List EvaluatedMove). l ++ k.0) t ∙ append_assoc old (x ∷ []) k.0,
    )

-- moves that can be played are added
abbrev pub IsLegalPlay : Position → List EvaluatedMove → List EvaluatedMove → Type 0
IsLegalPlay p old new = (play : List EvaluatedMove) × ArePlayed p play × (new ≡ old ++ play)

pub legal-goes-on : {T E : Type 0} (p next : Position) (x : EvaluatedMove) (old mid new : List EvaluatedMove) (r : Result T E)
    → is_legal p x.played ≡ true → next ≡ after p x.played → mid ≡ old ++ x ∷ [] → OnOk r (IsLegalPlay next mid new)
    → OnOk r (IsLegalPlay p old new)
legal-goes-on p next x old mid new (Err y) legal e t g = tt
legal-goes-on p next x old mid new (Ok y) legal e t g = (
  x ∷ g.0,
  (legal, subst (λ (q : Position). ArePlayed q g.0) e g.1),
  g.2 ∙ ap (λ (l : List EvaluatedMove). l ++ g.0) t ∙ append_assoc old (x ∷ []) g.0,
)

-- best play from evaluated moves
pub play-evaluated : (p next : Position) (x : EvaluatedMove) (evaluated empty mid new : List EvaluatedMove) (o : Option EvaluatedMove)
    → AreChosen (λ v. true) p (legal_list p) evaluated → o ≡ first_best evaluated → o ≡ Some x → next ≡ after p x.played → empty ≡ []
    → mid ≡ empty ++ x ∷ [] → IsPlayed 19 next mid new → IsBestPlay 20 p new
play-evaluated p next x evaluated empty mid new o all best is n e t g =
    let k : IsPlayed 20 p empty new =
    play-goes-on {T = Unit {0}} {E = Unit {0}} 20 p next x empty mid new (Ok tt) (λ z. absurd (omega (arith, z))) (evaluated, all, sym is ∙ best) n t g in
    subst (λ (l : List EvaluatedMove). IsBestPlay 20 p l) (sym (k.2 ∙ ap (λ (u : List EvaluatedMove). u ++ k.0) e)) k.1
