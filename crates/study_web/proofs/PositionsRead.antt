-- The positions of the lines that were read.
use Rattle.std.proofs.Common.{◌≡◌, List, [], ◌∷◌, ◌++◌, false, Result, Ok, Err, OnOk, ap, sym, ◌∙◌, append_assoc}
use Rattle.std.specs.Result.{is_err}
use Rattle.std.proofs.lemmas.Bool.{false≢true}
use Rattle.std.proofs.lemmas.List.{append-nil}
use Rattle.study_board.specs.Position.{Position}
use Rattle.std.specs.Prelude.{ℕ}
use Rattle.study_web.specs.Setup.{position_in, positions_in}

-- one line more
pub line_more : (all now next : List (List ℕ)) (line : List ℕ) (old new : List Position) → positions_in all ≡ old ++ positions_in now
    → now ≡ line ∷ next → new ≡ old ++ position_in line → positions_in all ≡ new ++ positions_in next
line_more all now next line old new is takes more =
    is ∙ ap (λ (ls : List (List ℕ)). old ++ positions_in ls) takes ∙ sym (append_assoc old (position_in line) (positions_in next))
    ∙ ap (λ (ps : List Position). ps ++ positions_in next) (sym more)

-- no line is left
pub line_none : (all now : List (List ℕ)) (old : List Position) → positions_in all ≡ old ++ positions_in now → now ≡ [] → old ≡ positions_in all
line_none all now old is none = sym (is ∙ ap (λ (ls : List (List ℕ)). old ++ positions_in ls) none ∙ append-nil old)

-- the result of a call that was not refused
pub known_where_ok : {T E : Type 0} (r : Result T E) (P : Type 0) → is_err r ≡ false → OnOk r P → P
known_where_ok (Ok x) P e h = h
known_where_ok (Err x) P e h = absurd (false≢true (sym e))
