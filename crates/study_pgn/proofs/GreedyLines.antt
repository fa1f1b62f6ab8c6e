-- The lines of words are greedy.
use Rattle.std.proofs.Common.{◌≡◌, ℕ, ◌<◌, ◌≤◌, leb, List, [], ◌∷◌, ◌++◌, length, refl, sym, ap, subst, ◌∙◌, inl, inr, append_assoc}
use Rattle.std.proofs.lemmas.Bool.{cases_Bool, leb-true, leb-false}
use Rattle.std.proofs.lemmas.List.{append-nil}
use Rattle.study_pgn.specs.Wrap.{line_text, wrapped_lines, lines_of}
use Rattle.study_pgn.specs.WrapLaws.{IsLine, AreFilled, words_in}

parts : (line ws : List (List ℕ)) → words_in (wrapped_lines line ws) ≡ line ++ ws
unfolding wrapped_lines
parts line [] = refl
parts line (w ∷ ws) =
    elim (cases_Bool (leb (length (line_text (line ++ w ∷ []))) 79)) [
      | inl fits ↦ rw fits (parts (line ++ w ∷ []) ws ∙ append_assoc line (w ∷ []) ws)
      | inr over ↦ rw over (ap (λ (t : List (List ℕ)). line ++ t) (parts (w ∷ []) ws))
    ]

-- a line continues as the first
abbrev GoesOn : List (List ℕ) → List (List (List ℕ)) → Type 0
GoesOn line lines = (more : List (List ℕ)) × (rest : List (List (List ℕ))) × (lines ≡ (line ++ more) ∷ rest)

goes_on : (line ws : List (List ℕ)) → GoesOn line (wrapped_lines line ws)
unfolding wrapped_lines
goes_on line [] = ([], [], ap (λ (l : List (List ℕ)). l ∷ []) (sym (append-nil line)))
goes_on line (w ∷ ws) =
    elim (cases_Bool (leb (length (line_text (line ++ w ∷ []))) 79)) [
      | inl fits ↦ let g = goes_on (line ++ w ∷ []) ws in rw fits (w ∷ g.0, g.1, g.2 ∙ ap (λ (l : List (List ℕ)). l ∷ g.1) (append_assoc line (w ∷ []) g.0))
      | inr over ↦ rw over ([], wrapped_lines (w ∷ []) ws, ap (λ (l : List (List ℕ)). l ∷ wrapped_lines (w ∷ []) ws) (sym (append-nil line)))
    ]

longer : (line : List (List ℕ)) (w : List ℕ) → IsLine line → length (line_text (line ++ w ∷ [])) ≤ 79 → IsLine (line ++ w ∷ [])
longer [] w h le = tt
longer (x ∷ []) w h le = le
longer (x ∷ y ∷ line) w h le = le

line_on : (line : List (List ℕ)) (w : List ℕ) (lines : List (List (List ℕ))) → IsLine line
    → 79 < length (line_text (line ++ w ∷ [])) → GoesOn (w ∷ []) lines → AreFilled lines → AreFilled (line ∷ lines)
line_on line w lines h lt (more, rest, e) k = subst (λ (ls : List (List (List ℕ))). AreFilled (line ∷ ls)) (sym e) (h, lt, subst AreFilled e k)

all_filled : (line ws : List (List ℕ)) → IsLine line → AreFilled (wrapped_lines line ws)
unfolding wrapped_lines
all_filled line [] h = h
all_filled line (w ∷ ws) h =
    elim (cases_Bool (leb (length (line_text (line ++ w ∷ []))) 79)) [
      | inl fits ↦ rw fits (all_filled (line ++ w ∷ []) ws (longer line w h (leb-true _ _ fits)))
      | inr over ↦ rw over (line_on line w (wrapped_lines (w ∷ []) ws) h (leb-false _ _ over) (goes_on (w ∷ []) ws) (all_filled (w ∷ []) ws tt))
    ]

pub all_greedy : (words : List (List ℕ)) → (words_in (lines_of words) ≡ words) × AreFilled (lines_of words)
unfolding lines_of
all_greedy [] = (refl, tt)
all_greedy (w ∷ ws) = (parts (w ∷ []) ws, all_filled (w ∷ []) ws tt)
