-- The answer to `row`: a row that was found is the one of the number.
use Rattle.std.proofs.Common.{◌≡◌, ℕ, List, Option, Some, None, Result, Ok, Err, IfOk, codes}
use Rattle.std.specs.Prelude.{MatchOption}
use Rattle.study_board.specs.Position.{Position}
use Rattle.study_search.specs.declared.only_moves.Outcome.{Outcome}
use Rattle.study_search.specs.declared.rows.LongestRow.{LongestRow}
use Rattle.study_search.specs.OnlyMoves.{IsMost}
use Rattle.study_search.specs.Rows.{IsRow}
use Rattle.study_web.specs.Row.{row_text, IsFoundRow, IsRowAnswer}
use Rattle.study_web.specs.Reported.{line_of}

abbrev Matches : Outcome → Position → Option LongestRow → Type 0
Matches o p found = MatchOption found (IsMost o p 12 None) (λ f. IsMost o p 12 (Some f.count) × IsRow o f.count p f.row.items)

found_by : (o : Outcome) (p : Position) (found : Option LongestRow) → Matches o p found → IsFoundRow o p found
found_by o p None h = h
found_by o p (Some f) h = h

pub found_if : {E : Type 0} (o : Outcome) (p : Position) (r : Result (Option LongestRow) E) → IfOk r (Matches o p) → IfOk r (IsFoundRow o p)
found_if o p (Ok found) h = found_by o p found h
found_if o p (Err e) h = tt

pub none-said : {T E : Type 0} (o : Outcome) (p : Position) (r : Result T E) (items : T → List ℕ) → IsMost o p 12 None
    → IfOk r (λ t. items t ≡ line_of (codes "none")) → IfOk r (λ t. IsRowAnswer o p (items t))
none-said o p (Ok t) items h k = (None, h, k)
none-said o p (Err e) items h k = tt

pub row-said : {T E : Type 0} (o : Outcome) (p : Position) (f : LongestRow) (r : Result T E) (items : T → List ℕ)
    → IsMost o p 12 (Some f.count) × IsRow o f.count p f.row.items
    → IfOk r (λ t. items t ≡ row_text p f.count f.row.items) → IfOk r (λ t. IsRowAnswer o p (items t))
row-said o p f (Ok t) items h k = (Some f.count, h.0, (f.row.items, h.1, k))
row-said o p f (Err e) items h k = tt
