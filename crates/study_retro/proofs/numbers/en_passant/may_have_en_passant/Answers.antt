use Rattle.std.proofs.Common.{sym, ◌∙◌}
use Rattle.study_retro.proofs.Twins.{apart_without_en_passant, single_without_en_passant}
use Rattle.study_retro.proofs.numbers.en_passant.may_have_en_passant.Goals as goal

pub returns-then-has_both_pawns : goal.returns-then-has_both_pawns
returns-then-has_both_pawns c = λ f. apart_without_en_passant c.args.class c.args.number
    (λ rank files low high. c.are_adjacent_on_rank.ensures f rank files low high)

pub returns-else-has_both_pawns : goal.returns-else-has_both_pawns
returns-else-has_both_pawns c = λ f. single_without_en_passant c.args.class c.args.number (sym c.has_both_pawns.ensures ∙ f)
