-- The facts printed for a position, by its values.
use Rattle.std.proofs.Common.{◌≡◌, ℕ, Some, None}
use Rattle.std.proofs.lemmas.Bool.{false≢true}
use Rattle.study_board.specs.Position.{Position}
use Rattle.study_moves.specs.declared.moves.Move.{Move}
use Rattle.study_moves.specs.Laws.{EachHasAtMostOneValue}
use Rattle.study_values.specs.declared.value.Value.TheVariants as values
use Rattle.study_values.specs.Game.{IsValueOf}
use Rattle.study_search.specs.declared.only_moves.Outcome.{Outcome}
use Rattle.study_search.specs.declared.only_moves.Outcome.TheVariants.{Win, Draw}
use Rattle.study_search.specs.OnlyMoves.{Has}
use Rattle.study_search.proofs.OnlyMoves.{has-by}
use Rattle.study_listing.specs.Facts.{IsOneKey}

none-some : (m : Move) → None ≡ Some m → ⊥
none-some m e = cc

-- a side that is mated has no key
pub no-key-of-loss : EachHasAtMostOneValue → (p : Position) (n : ℕ) → IsValueOf p (values.Loss n) → IsOneKey p None
no-key-of-loss law p n h m = ((λ e. absurd (none-some m e)), (λ x. absurd (none x.0 x.1.0)))
  where
    none : (o : Outcome) → Has o p → ⊥
    none Win x = false≢true ((has-by law Win p (values.Loss n) h).1 x)
    none Draw x = false≢true ((has-by law Draw p (values.Loss n) h).1 x)
