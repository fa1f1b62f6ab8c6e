-- The rows of the lines that were read.
use Rattle.std.proofs.Common.{◌≡◌, ℕ, ◌+◌, List, [], ◌∷◌, ◌++◌, ap, sym, ◌∙◌, append_assoc}
use Rattle.std.proofs.lemmas.List.{append-nil}
use Rattle.study_web.specs.RemarkRows.{row_of, rows_from}

-- one line more, after n lines
pub row_more : (n : ℕ) (all now next : List (List ℕ)) (line old new : List ℕ) → rows_from 1 all ≡ old ++ rows_from (n + 1) now
    → now ≡ line ∷ next → new ≡ old ++ row_of (n + 1) line → rows_from 1 all ≡ new ++ rows_from (n + 1 + 1) next
row_more n all now next line old new is takes more =
    is ∙ ap (λ (ls : List (List ℕ)). old ++ rows_from (n + 1) ls) takes ∙ sym (append_assoc old (row_of (n + 1) line) (rows_from (n + 1 + 1) next))
    ∙ ap (λ (text : List ℕ). text ++ rows_from (n + 1 + 1) next) (sym more)

-- no line is left
pub row_none : (n : ℕ) (all now : List (List ℕ)) (old : List ℕ) → rows_from 1 all ≡ old ++ rows_from (n + 1) now → now ≡ [] → old ≡ rows_from 1 all
row_none n all now old is none = sym (is ∙ ap (λ (ls : List (List ℕ)). old ++ rows_from (n + 1) ls) none ∙ append-nil old)
