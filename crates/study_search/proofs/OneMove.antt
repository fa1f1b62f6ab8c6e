-- Properties of a position by its only move.
use Rattle.std.proofs.Common.{◌≡◌, Bool, true, false, List, Option, Some, None, Result, Ok, Err, IfOk, ◌↔◌, ◌⊎◌, inl, inr, refl, sym, ◌∙◌, subst}
use Rattle.std.proofs.lemmas.Bool.{false≢true}
use Rattle.study_board.specs.Position.{Position}
use Rattle.study_moves.specs.declared.moves.Move.{Move}
use Rattle.study_moves.specs.Rules.{after}
use Rattle.study_moves.specs.Game.{IsLegal}
use Rattle.study_search.specs.Listed.{SomeLeads}
use Rattle.study_search.proofs.OnlyMoves.{AreLegal, some-at, some-to}

-- the option is the one that A holds of
abbrev pub IsOne : (Move → Type 0) → Option Move → Type 0
IsOne A one = (m : Move) → (one ≡ Some m) ↔ A m

same-some : (m k : Move) → Some m ≡ Some k → m ≡ k
same-some m k e = cc

pub one-some : {E : Type 0} (A P : Move → Type 0) (one : Option Move) (m : Move) (r : Result Bool E) → IsOne A one → one ≡ Some m
    → IfOk r (λ b. (b ≡ true) ↔ P m) → IfOk r (λ b. (b ≡ true) ↔ ((k : Move) × A k × P k))
one-some A P one m (Ok b) is e h = (
  (λ t. (m, (is m).0 e, h.0 t)),
  (λ x. h.1 (subst P (sym (same-some m x.0 (sym e ∙ (is x.0).1 x.1))) x.2)),
)
one-some A P one m (Err e) is f h = tt

pub one-none : (A P : Move → Type 0) (one : Option Move) → IsOne A one → one ≡ None → (false ≡ true) ↔ ((k : Move) × A k × P k)
one-none A P one is e = (λ f. absurd (false≢true f), λ x. absurd (none x.0 ((is x.0).1 x.1)))
  where
    none : (k : Move) → one ≡ Some k → ⊥
    none k f = let g : None ≡ Some k = sym e ∙ f in cc

pub one-true : (A P : Move → Type 0) (one : Option Move) (m : Move) (b : Bool) → IsOne A one → one ≡ Some m → ((b ≡ true) ↔ P m)
    → (b ≡ true) ↔ ((k : Move) × A k × P k)
one-true A P one m b is e h = (
  (λ t. (m, (is m).0 e, h.0 t)),
  (λ x. h.1 (subst P (sym (same-some m x.0 (sym e ∙ (is x.0).1 x.1))) x.2)),
)

-- a winning underpromotion, or else a drawing one
pub either-first : (A B : Type 0) (b : Bool) → ((b ≡ true) ↔ A) → b ≡ true → (true ≡ true) ↔ (A ⊎ B)
either-first A B b h e = ((λ t. inl (h.0 e)), (λ x. refl))

pub either-second : {E : Type 0} (A B : Type 0) (b : Bool) (r : Result Bool E) → ((b ≡ true) ↔ A) → b ≡ false
    → IfOk r (λ c. (c ≡ true) ↔ B) → IfOk r (λ c. (c ≡ true) ↔ (A ⊎ B))
either-second A B b (Ok c) h e k = (
  (λ t. inr (k.0 t)),
  (λ x. elim x [ inl a ↦ absurd (false≢true (sym e ∙ h.1 a)) | inr y ↦ k.1 y ]),
)
either-second A B b (Err f) h e k = tt

-- both of two
pub both-by : {E : Type 0} (A B : Type 0) (b : Bool) (r : Result Bool E) → ((b ≡ true) ↔ A) → b ≡ true
    → IfOk r (λ c. (c ≡ true) ↔ B) → IfOk r (λ c. (c ≡ true) ↔ (A × B))
both-by A B b (Ok c) h e k = ((λ t. (h.0 e, k.0 t)), (λ x. k.1 x.1))
both-by A B b (Err f) h e k = tt

pub not-first : (A B : Type 0) (b : Bool) → ((b ≡ true) ↔ A) → b ≡ false → (false ≡ true) ↔ (A × B)
not-first A B b h e = ((λ f. absurd (false≢true f)), (λ x. absurd (false≢true (sym e ∙ h.1 x.0))))

-- some legal move, from the list of legal moves
pub some-legal : {E : Type 0} (P : Position → Type 0) (p : Position) (ms : List Move) (r : Result Bool E) → AreLegal p ms
    → IfOk r (λ b. (b ≡ true) ↔ SomeLeads P p ms) → IfOk r (λ b. (b ≡ true) ↔ ((m : Move) × IsLegal p m × P (after p m)))
some-legal P p ms (Ok b) legal h = (
  (λ t. let x = some-to P p ms (h.0 t) in (x.0, (legal x.0).0 x.1, x.2)),
  (λ x. let c = (legal x.0).1 x.1 in h.1 (some-at P p ms x.0 c.0 c.1 c.2 x.2)),
)
some-legal P p ms (Err e) legal h = tt
