-- Two moves that agree with the same parts.
use Rattle.std.proofs.Common.{◌≡◌, ℕ, ◌+◌, ◌<◌, Bool, true, List, ◌∷◌, ◌++◌, length, get_or, take, drop, Option, Some, None, Err, refl, sym, ap, ◌∙◌, is_some}
use Rattle.std.specs.List.{filter}
use Rattle.std.specs.Option.{option_to_list}
use Rattle.std.proofs.lemmas.List.{take-append-drop, drop_more}
use Rattle.std.proofs.lemmas.List.Elements.{filter-append}
use Rattle.study_moves.specs.declared.moves.Move.{Move}
use Rattle.study_notation.specs.declared.fault.SanFault.TheVariants.{Ambiguous}
use Rattle.study_notation.specs.Matching.{only_match}

pub picked_two : (p : Move → Bool) (moves : List Move) (i : ℕ) (found : Option Move) (m d : Move) → i < length moves
    → m ≡ get_or moves i d → p m ≡ true → is_some found ≡ true → filter p (take i moves) ≡ option_to_list found
    → Err Ambiguous ≡ only_match (filter p moves)
picked_two p moves i None m d lt at hit some e = absurd cc
picked_two p moves i (Some f) m d lt at hit some e =
    let rest : filter p (drop i moves) ≡ m ∷ filter p (drop (i + 1) moves) =
    ap (filter p) (drop_more moves i d lt ∙ ap (λ x. x ∷ drop (i + 1) moves) (sym at)) ∙ rw hit refl in
    let whole : filter p moves ≡ f ∷ m ∷ filter p (drop (i + 1) moves) =
    ap (filter p) (sym (take-append-drop i moves)) ∙ filter-append p (take i moves) (drop i moves)
    ∙ ap (λ (xs : List Move). xs ++ filter p (drop i moves)) e ∙ ap (λ (xs : List Move). f ∷ xs) rest in
    sym (ap only_match whole)
