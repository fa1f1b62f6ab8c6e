-- Lines that are written one below the other.
use Rattle.std.proofs.Common.{◌≡◌, ℕ, List, [], ◌∷◌, ◌++◌, refl, sym, ap, ◌∙◌, inl, inr, arith, append_assoc}
use Rattle.std.specs.List.{flat_map}
use Rattle.std.proofs.lemmas.Bool.{cases_Bool}
use Rattle.study_command.specs.Lines.{script_lines, feed_count}
use Rattle.study_command.specs.Laws.{AreReadAgain, AreReadAgainBehindReturns}
use Rattle.study_command.proofs.LineTaken.{is_feed, NoFeed, NoFeed-push, lines_feed, lines_none, strip_return, feeds-append}

NoFeed-from_count : (line : List ℕ) → feed_count line ≡ 0 → NoFeed line
NoFeed-from_count [] e = tt
NoFeed-from_count (b ∷ line) e =
    elim (cases_Bool (is_feed b)) [
      | inl feed ↦ let one : feed_count (b ∷ []) ≡ 1 = rw feed refl in absurd (omega (arith, feeds-append (b ∷ []) line))
      | inr other ↦ (other, NoFeed-from_count line (omega (arith, feeds-append (b ∷ []) line)))
    ]

pub lines-again : AreReadAgain
lines-again [] h = lines_none
lines-again (line ∷ lines) h =
    let rest = flat_map (λ (l : List ℕ). l ++ 10 ∷ []) lines in
    ap script_lines (append_assoc line (10 ∷ []) rest) ∙ lines_feed line rest (NoFeed-from_count line h.0.0)
    ∙ ap (λ (l : List ℕ). l ∷ script_lines rest) h.0.1 ∙ ap (λ (ls : List (List ℕ)). line ∷ ls)
    (lines-again lines h.1)

pub lines-again_returns : AreReadAgainBehindReturns
lines-again_returns [] h = lines_none
lines-again_returns (line ∷ lines) h =
    let rest = flat_map (λ (l : List ℕ). l ++ 13 ∷ 10 ∷ []) lines in
    let cut : (line ++ 13 ∷ 10 ∷ []) ++ rest ≡ (line ++ 13 ∷ []) ++ (10 ∷ rest) =
    append_assoc line (13 ∷ 10 ∷ []) rest ∙ sym (append_assoc line (13 ∷ []) (10 ∷ rest)) in
    ap script_lines cut ∙ lines_feed (line ++ 13 ∷ []) rest
    (NoFeed-push line 13 (NoFeed-from_count line h.0) (λ e. omega arith)) ∙ ap (λ (l : List ℕ). l ∷ script_lines rest)
    (strip_return line) ∙ ap (λ (ls : List (List ℕ)). line ∷ ls) (lines-again_returns lines h.1)
