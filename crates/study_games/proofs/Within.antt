-- Each token has at least one byte.
use Rattle.std.proofs.Common.{◌≡◌, ℕ, ◌+◌, ◌≤◌, Bool, true, false, List, [], ◌∷◌, length, drop, Option, Some, None, Ok, Err, refl}
use Rattle.std.proofs.Common.{arith, length-drop}
use Rattle.std.specs.Prelude.{◌==◌, ◌&&◌, ◌||◌, if◌then◌else◌}
use Rattle.std.specs.List.{prefix_len}
use Rattle.std.proofs.lemmas.Bool.{and_parts, ltb-true}
use Rattle.study_games.specs.declared.token.TokenFault.TheVariants.{TagForm}
use Rattle.study_games.specs.Bytes.{is_blank, is_gap, is_letter, is_digit, is_name_byte, is_sign, is_tail, begins_symbol, is_symbol_byte, is_glyph}
use Rattle.study_games.specs.Tokens.{Lexed, front, behind, lexed_comment, is_inside, comment_at, is_in_line, value_end, without_first, behind_value}
use Rattle.study_games.specs.Tokens.{lexed_value, lexed_quotation, lexed_name, tag_at, begins_ellipsis, behind_ellipsis, begins_number, symbol_at, ink_at}
use Rattle.study_games.specs.Tokens.{lexed_token}
use Rattle.study_games.specs.Spaces.{space_len, begins_space, ink_len}

-- after a token there are at most so many bytes
abbrev pub Within : ℕ → Lexed → Type 0
Within n (Err fault) = Unit {0}
Within n (Ok x) = length x.1 ≤ n

pub behind_le : (p : ℕ → Bool) (text : List ℕ) → length (behind p text) ≤ length text
behind_le p text = omega (arith, length-drop (prefix_len p text) text)

within_if : (b : Bool) (n : ℕ) (x y : Lexed) → (b ≡ true → Within n x) → Within n y → Within n (if b then x else y)
within_if true n x y h k = h refl
within_if false n x y h k = k

within_closed : (n : ℕ) (text rest : List ℕ) → length rest ≤ n → Within n (lexed_comment text rest)
within_closed n text [] h = tt
within_closed n text (b ∷ bs) h = omega arith

within_comment : (text : List ℕ) → Within (length text) (comment_at text)
unfolding comment_at
within_comment text = within_closed (length text) (front is_inside text) (behind is_inside text) (behind_le is_inside text)

first_le : (text : List ℕ) → length (without_first text) ≤ length text
first_le [] = omega arith
first_le (b ∷ bs) = omega arith

value_le : (text : List ℕ) → length (behind_value text) ≤ length text
unfolding behind_value
value_le text = omega (arith, first_le (behind is_gap (without_first text)), behind_le is_gap (without_first text), first_le text)

within_valued : (n : ℕ) (name text : List ℕ) (o : Option ℕ) → length text ≤ n → Within n (lexed_value name text o)
within_valued n name text None h = tt
within_valued n name text (Some k) h = omega (arith, value_le (drop k text), length-drop k text)

within_quoted : (n : ℕ) (name text : List ℕ) → length text ≤ n → Within n (lexed_quotation name text)
within_quoted n name [] h = tt
within_quoted n name (b ∷ bs) h =
    within_if (b == 34) n (lexed_value name bs (value_end 0 false bs)) (Err TagForm) (λ e. within_valued n name bs (value_end 0 false bs) (omega arith)) tt

within_named : (n : ℕ) (text : List ℕ) → length text ≤ n → Within n (lexed_name text)
within_named n [] h = tt
within_named n (b ∷ bs) h =
    within_if (is_letter b) n (lexed_quotation (front is_name_byte (b ∷ bs)) (behind is_gap (behind is_name_byte (b ∷ bs)))) (Err TagForm)
    (λ e. within_quoted n (front is_name_byte (b ∷ bs)) (behind is_gap (behind is_name_byte (b ∷ bs)))
    (omega (arith, behind_le is_gap (behind is_name_byte (b ∷ bs)), behind_le is_name_byte (b ∷ bs)))) tt

within_tag : (text : List ℕ) → Within (length text) (tag_at text)
unfolding tag_at
within_tag text = within_named (length text) (behind is_gap text) (behind_le is_gap text)

run_le : (p : ℕ → Bool) (b : ℕ) (bs : List ℕ) → p b ≡ true → length (behind p (b ∷ bs)) ≤ length bs
run_le p b bs h = rw h (omega (arith, length-drop (1 + prefix_len p bs) (b ∷ bs)))

ellipsis_le : (b : ℕ) (bs : List ℕ) → length (behind_ellipsis (b ∷ bs)) ≤ length bs
ellipsis_le b [] = omega arith
ellipsis_le b (c ∷ []) = omega arith
ellipsis_le b (c ∷ d ∷ ds) = omega arith

space_le : (b : ℕ) (bs : List ℕ) → begins_space true (b ∷ bs) ≡ true → length (drop (space_len true (b ∷ bs)) (b ∷ bs)) ≤ length bs
space_le b bs h =
    let some = ltb-true 0 (space_len true (b ∷ bs)) h in omega (arith, some, length-drop (space_len true (b ∷ bs)) (b ∷ bs))

ink_le : (n : ℕ) (bs : List ℕ) → length (drop n bs) ≤ length bs
ink_le n bs = omega (arith, length-drop n bs)

within_symbol : (b : ℕ) (bs : List ℕ) → Within (length bs) (symbol_at b bs)
within_symbol b bs =
    within_if (begins_number (b ∷ bs)) (length bs) _ _ (λ e. run_le is_digit b bs (and_parts (is_digit b) (begins_ellipsis (behind is_digit (b ∷ bs))) e).0)
    (ink_le (ink_len is_symbol_byte b bs) bs)

within_ink : (b : ℕ) (bs : List ℕ) → Within (length bs) (ink_at (b ∷ bs))
within_ink b bs =
    within_if (is_sign b) (length bs) _ _ (λ e. ink_le (ink_len is_tail b bs) bs)
    (within_if (begins_ellipsis (b ∷ bs)) (length bs) _ _ (λ e. ellipsis_le b bs)
    (within_if (begins_space true (b ∷ bs)) (length bs) _ _ (λ e. space_le b bs e)
    (within_if (begins_symbol b) (length bs) _ _ (λ e. within_symbol b bs) tt)))

pub within_lexed : (fresh : Bool) (b : ℕ) (bs : List ℕ) → Within (length bs) (lexed_token fresh b bs)
unfolding lexed_token
within_lexed fresh b bs =
    within_if (fresh && b == 37) (length bs) _ _ (λ e. behind_le is_in_line bs)
    (within_if (is_blank b || b == 46) (length bs) _ _ (λ e. omega arith)
    (within_if (b == 123) (length bs) _ _ (λ e. within_comment bs)
    (within_if (b == 59) (length bs) _ _ (λ e. behind_le is_in_line bs)
    (within_if (b == 91) (length bs) _ _ (λ e. within_tag bs)
    (within_if (b == 40) (length bs) _ _ (λ e. omega arith)
    (within_if (b == 41) (length bs) _ _ (λ e. omega arith)
    (within_if (b == 42) (length bs) _ _ (λ e. omega arith)
    (within_if (b == 36) (length bs) _ _ (λ e. behind_le is_digit bs)
    (within_if (is_glyph b) (length bs) _ _ (λ e. behind_le is_glyph bs) (within_ink b bs))))))))))
