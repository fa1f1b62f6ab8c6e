use Rattle.std.proofs.Common.{◌≡◌, ◌==◌, suc, true, List, [], ◌∷◌, length, refl, inl, arith, ap, ◌∙◌}
use Rattle.std.proofs.lemmas.Bool.{eqb-true}
use Rattle.std.specs.Prelude.{◌↔◌}
use Rattle.std.specs.List.{Contains}
use Rattle.study_moves.specs.declared.moves.Move.{Move}
use Rattle.study_moves.proofs.AscendingKeys.{IsIn-from_Contains, Contains-from_in}
use Rattle.study_wide.specs.Wide.{Wide}
use Rattle.study_wide.specs.Game.{IsWideLegal, HasNoWideMove}
use Rattle.study_wide.proofs.mate.has_no_move.Goals as goal

-- a list of exactly the legal moves is empty where there is none
empty_or : (g : Wide) (xs : List Move) → ((m : Move) → Contains xs m ↔ IsWideLegal g m) → ((length xs == 0) ≡ true) ↔ HasNoWideMove g
empty_or g [] h = (λ _ m e. IsIn-from_Contains m [] ((h m).1 e), λ _. refl)
empty_or g (x ∷ xs) h =
    (λ e. absurd (let n = eqb-true (suc (length xs)) 0 e in omega arith), λ none. absurd (none x ((h x).0 (Contains-from_in x (x ∷ xs) (inl refl)))))

pub returns-clause-listed : goal.returns-clause-listed
returns-clause-listed c = c.is_empty.ensures ∙ ap (λ (xs : List Move). length xs == 0) c.legal_moves.ensures.listed

pub returns-clause-none : goal.returns-clause-none
returns-clause-none c = rw c.is_empty.ensures (empty_or c.args.p.now c.legal_moves.result.items c.legal_moves.ensures.legal)
