use Rattle.std.proofs.Common.{inl, inr, sym, ◌∙◌}
use Rattle.std.proofs.lemmas.Bool.{or_cases}
use Rattle.study_retro.proofs.rows.quiet.undecided_squares.Goals as goal

pub returns : goal.returns
returns c = λ y ly e board. elim (or_cases _ _ (sym (c.union-2.ensures y) ∙ e)) [
  | inl unknown ↦ elim (or_cases _ _ (sym (c.union.ensures y) ∙ unknown)) [
    | inl still ↦ inl (inl (c.still_squares.ensures y ly still board))
    | inr check ↦ inl (inr (c.squares_without_position.ensures y ly check))
  ]
  | inr there ↦ inr (sym (c.occupied_squares.ensures y ly) ∙ there)
]
