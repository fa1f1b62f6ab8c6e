-- The refusal of a line, without the words around it in a reply.
use Rattle.std.proofs.Common.{◌≡◌, ℕ, ◌+◌, ◌-◌, List, [], ◌∷◌, ◌++◌, length, take, sym, ap, ◌∙◌, arith}
use Rattle.std.specs.Prelude.{codes}
use Rattle.std.proofs.lemmas.List.{length-append}
use Rattle.std.proofs.lemmas.List.{take_at}
use Rattle.study_reply.specs.Reasons.{reason_of}
use Rattle.study_reply.specs.Words.{reply_line}
use Rattle.study_page.specs.Lists.{refusal_part}
use Rattle.study_print.specs.Pages.{refusal_text}
use Rattle.study_print.specs.Refusals.{refusal_name}

pub name-of : (words : List ℕ) → refusal_name (reply_line (codes "error ") words) ≡ words
unfolding refusal_name
name-of words =
    let long = length-append words (10 ∷ []) in
    take_at words (10 ∷ []) (length (words ++ 10 ∷ []) - 1) (omega (arith, long))

-- the paragraph of a refusal is that of the reply to its line
pub shown_as : (number : ℕ) (line name reason words : List ℕ) → name ≡ refusal_name (reply_line (codes "error ") words) → reason ≡ reason_of words
    → refusal_part number line name reason ≡ refusal_text number line (reply_line (codes "error ") words)
shown_as number line name reason words e f =
    ap (λ (n : List ℕ). refusal_part number line n reason) e
    ∙ ap (λ (r : List ℕ). refusal_part number line (refusal_name (reply_line (codes "error ") words)) r)
    (f ∙ ap (λ (w : List ℕ). reason_of w) (sym (name-of words)))
