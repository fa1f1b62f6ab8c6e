-- If no legal move promotes to less than a queen, no move that holds does.
use Rattle.std.proofs.Common.{◌≡◌, ℕ, ◌<◌, zero, suc, Bool, true, false, ◌||◌, List, [], ◌∷◌, inl, inr, ◌⊎◌, ◌↔◌, length, arith, refl, sym, ◌∙◌, subst}
use Rattle.std.specs.List.{list_any}
use Rattle.std.specs.Prelude.{slice_index_or}
use Rattle.std.proofs.lemmas.Bool.{false≢true}
use Rattle.study_board.specs.Position.{Position}
use Rattle.study_moves.specs.declared.moves.Move.{Move}
use Rattle.study_search.specs.declared.only_moves.Outcome.{Outcome}
use Rattle.study_search.specs.declared.only_moves.Outcome.TheVariants.{Win, Draw}
use Rattle.study_search.specs.Themes.{is_underpromoted, Underpromotes}
use Rattle.study_search.proofs.OnlyMoves.{AreLegal}

or-first : (a b : Bool) → a ≡ true → (a || b) ≡ true
or-first true b e = refl
or-first false b e = absurd (false≢true e)

or-second : (a b : Bool) → b ≡ true → (a || b) ≡ true
or-second true b e = refl
or-second false b e = e

any-at : (f : Move → Bool) (ms : List Move) (m : Move) (i : ℕ) → i < length ms → slice_index_or ms i m ≡ m → f m ≡ true → list_any f ms ≡ true
any-at f [] m i l e h = absurd (omega (arith, l))
any-at f (x ∷ ms) m zero l e h = or-first (f x) (list_any f ms) (subst (λ (y : Move). f y ≡ true) (sym e) h)
any-at f (x ∷ ms) m (suc i) l e h = or-second (f x) (list_any f ms) (any-at f ms m i (let z : i < length ms = omega (arith, l) in z) e h)

pub no-underpromotion : (p : Position) (ms : List Move) → AreLegal p ms → list_any (λ m. is_underpromoted m.promoted) ms ≡ false
    → (false ≡ true) ↔ (Underpromotes Win p ⊎ Underpromotes Draw p)
no-underpromotion p ms legal none = ((λ f. absurd (false≢true f)), (λ u. elim u [ inl w ↦ absurd (clash Win w) | inr d ↦ absurd (clash Draw d) ]))
  where
    clash : (o : Outcome) → Underpromotes o p → ⊥
    clash o u =
        let c = (legal u.0).1 u.1.1.legal in
        false≢true (sym none ∙ any-at (λ m. is_underpromoted m.promoted) ms u.0 c.0 c.1 c.2 u.2)
