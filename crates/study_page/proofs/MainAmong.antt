-- The main defences among those that are missing.
use Rattle.std.proofs.Common.{◌≡◌, ◌≤◌, ◌+◌, List, not, Option, None, Some, length, refl, arith}
use Rattle.std.specs.List.{All, filter}
use Rattle.std.proofs.lemmas.List.Elements.{All-filter}
use Rattle.std.proofs.lemmas.List.Filters.{length-filter_both}
use Rattle.study_board.specs.Position.{Position}
use Rattle.study_values.specs.declared.value.Value.{Value}
use Rattle.study_facts.specs.declared.missing_defences.Defence.{Defence}
use Rattle.study_facts.specs.Play.{IsPlayed}
use Rattle.study_head.specs.declared.reached.Reached.{Reached}
use Rattle.study_head.specs.Solution.{is_main_defence}
use Rattle.study_page.specs.Rows.{main_among}

pub main-played : (known : List Reached) (p : Position) (given : Option Value) (list : List Defence) → All (IsPlayed p) list
    → All (IsPlayed p) (main_among known p given list)
main-played known p None list h = λ k d less. absurd (omega arith)
main-played known p (Some v) list h = All-filter (is_main_defence known p v) (IsPlayed p) list h

pub main-few : (known : List Reached) (p : Position) (given : Option Value) (list : List Defence)
    → length (main_among known p given list) ≤ length list
main-few known p None list = omega arith
main-few known p (Some v) list =
    let is : Defence → _ = is_main_defence known p v in
    let both : length (filter is list) + length (filter (λ y. not (is y)) list) ≡ length list
    = length-filter_both is (λ y. not (is y)) (λ y. refl) list in
    omega arith
