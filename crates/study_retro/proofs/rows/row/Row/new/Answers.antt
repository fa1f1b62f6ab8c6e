use Rattle.std.proofs.Common.{sym, ◌∙◌}
use Rattle.study_board.proofs.EqualMen.{kind_same}
use Rattle.study_retro.proofs.RowLemmas.{row_decoded}
use Rattle.study_retro.proofs.rows.row.Row.new.Goals as goal

pub invariant_of-result-clause-piece : goal.invariant_of-result-clause-piece
invariant_of-result-clause-piece c = sym (kind_same _ _) ∙ sym c.eq.ensures ∙ c.if-eq.false

pub invariant_of-result-clause-encoded : goal.invariant_of-result-clause-encoded
invariant_of-result-clause-encoded c = λ y ly.
    row_decoded c.args.class c.args.number y ly c.requires.plain c.pop.new.self.items c.in_ok-last.last c.decode_men-setup.result.to_move
    (sym c.in_ok-last.ensures.items ∙ c.decode_men-setup.ensures.men, c.decode_men-setup.ensures.to_move)
