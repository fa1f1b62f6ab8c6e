use Rattle.std.proofs.Common.{refl, sym, ◌∙◌}
use Rattle.study_retro.proofs.EarlierChess.{numbered_index}
use Rattle.study_retro.proofs.MovedSteps.{lands_single}
use Rattle.study_retro.proofs.numbers.en_passant.leads_to_number.Goals as goal

pub returns-then-not-has_both_pawns : goal.returns-then-not-has_both_pawns
returns-then-not-has_both_pawns c = λ p l. (
  λ t. lands_single c.args.class c.args.number c.args.at.now c.requires.at (sym c.has_both_pawns.ensures ∙ c.if-not-has_both_pawns.true)
      p c.args.by.now l,
  λ e. refl,
)

pub leads_to-requires-clause-at : goal.leads_to-requires-clause-at
leads_to-requires-clause-at c = numbered_index c.args.class c.args.number c.args.at.now c.requires.at
