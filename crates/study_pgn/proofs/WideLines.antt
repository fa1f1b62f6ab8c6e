-- The text still to be written after a line of this width.
use Rattle.std.proofs.Common.{◌≡◌, ℕ, ◌+◌, true, false, cond, leb, List, [], ◌∷◌, ◌++◌, length, refl}
use Rattle.std.proofs.Common.{sym, ap, ◌∙◌, inl, inr, arith, length-append, append_assoc}
use Rattle.std.proofs.lemmas.List.{append-nil}
use Rattle.std.proofs.lemmas.Bool.{cases_Bool}
use Rattle.std.specs.List.{flat_map}
use Rattle.study_pgn.specs.Wrap.{line_text, wrapped_lines, lines_of, lines_text}
use Rattle.study_pgn.specs.Variations.{further_word, next}

abbrev pub ended : List (List ℕ) → List ℕ
ended line = line_text line ++ 10 ∷ []

unfoldable pub tail : ℕ → List (List ℕ) → List ℕ
tail width [] = 10 ∷ []
tail width (w ∷ ws) = cond (leb (width + 1 + length w) 79) (32 ∷ (w ++ tail (width + 1 + length w) ws)) (10 ∷ (w ++ tail (length w) ws))

line_text-push : (line : List (List ℕ)) (x w : List ℕ) → line_text ((x ∷ line) ++ w ∷ []) ≡ line_text (x ∷ line) ++ (32 ∷ w)
line_text-push [] x w = refl
line_text-push (y ∷ line) x w = ap (λ (t : List ℕ). x ++ (32 ∷ t)) (line_text-push line y w) ∙ sym (append_assoc x (32 ∷ line_text (y ∷ line)) (32 ∷ w))

filled_is : (line : List (List ℕ)) (x : List ℕ) (ws : List (List ℕ))
    → flat_map ended (wrapped_lines (x ∷ line) ws) ≡ line_text (x ∷ line) ++ tail (length (line_text (x ∷ line))) ws
unfolding wrapped_lines tail
filled_is line x [] = append-nil (ended (x ∷ line))
filled_is line x (w ∷ ws) =
    let text = line_text (x ∷ line) in
    let longer = line_text-push line x w in
    let wide : length (line_text ((x ∷ line) ++ w ∷ [])) ≡ length text + 1 + length w = omega (arith, ap length longer, length-append text (32 ∷ w)) in
    elim (cases_Bool (leb (length text + 1 + length w) 79)) [
      | inl fits ↦
          let e : leb (length (line_text ((x ∷ line) ++ w ∷ []))) 79 ≡ true = ap (λ n. leb n 79) wide ∙ fits in
          rw (e, fits) (filled_is (line ++ w ∷ []) x ws ∙ ap (λ n. line_text ((x ∷ line) ++ w ∷ []) ++ tail n ws)
          wide ∙ ap (λ (t : List ℕ). t ++ tail (length text + 1 + length w) ws) longer ∙ append_assoc text
          (32 ∷ w) (tail (length text + 1 + length w) ws))
      | inr over ↦
          let e : leb (length (line_text ((x ∷ line) ++ w ∷ []))) 79 ≡ false = ap (λ n. leb n 79) wide ∙ over in
          rw (e, over) (ap (λ (t : List ℕ). (text ++ 10 ∷ []) ++ t) (filled_is [] w ws) ∙ append_assoc text (10 ∷ []) (w ++ tail (length w) ws))
    ]

pub text_is : (w : List ℕ) (ws : List (List ℕ)) → lines_text (w ∷ ws) ≡ w ++ tail (length w) ws
unfolding lines_text lines_of
text_is w ws = filled_is [] w ws

pub text_none : lines_text [] ≡ []
unfolding lines_text lines_of
text_none = refl

pub tail_none : (n : ℕ) (ws : List (List ℕ)) → length ws ≡ 0 → tail n ws ≡ 10 ∷ []
unfolding tail
tail_none n [] e = refl
tail_none n (w ∷ ws) e = absurd (omega (arith, e))

pub tail_more : (n : ℕ) (w : List ℕ) (ws : List (List ℕ)) → tail n (w ∷ ws) ≡ further_word n w ++ tail (next n w) ws
unfolding tail
tail_more n w ws = elim (cases_Bool (leb (n + 1 + length w) 79)) [ inl fits ↦ rw fits refl | inr over ↦ rw over refl ]
