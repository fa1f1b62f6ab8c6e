use Rattle.std.proofs.Common.{inl, inr}
use Rattle.std.proofs.lemmas.Bool.{cases_Bool}
use Rattle.study_board.specs.Sets.{has}
use Rattle.study_retro.proofs.rows.quiet_moves.lost_of_row.Goals as goal

pub lost_after_quiet-requires-clause-numbered : goal.lost_after_quiet-requires-clause-numbered
lost_after_quiet-requires-clause-numbered g c = λ y on e. c.requires.numbered y on (c.quiet_moves_in_row-moves.ensures.only y on e)

pub returns-clause-only : goal.returns-clause-only
returns-clause-only g c = λ y on e. c.quiet_moves_in_row-moves.ensures.only y on (c.lost_after_quiet.ensures.only y on e)

pub returns-clause-no : goal.returns-clause-no
returns-clause-no g c = λ y on e f. elim (cases_Bool (has c.quiet_moves_in_row-moves.result.losing y)) [
  | inl there ↦ c.lost_after_quiet.ensures.no y on there f
  | inr out ↦ c.quiet_moves_in_row-moves.ensures.no y on e out
]
