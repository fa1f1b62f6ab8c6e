use Rattle.std.proofs.Common.{arith}
use Rattle.study_index.proofs.AddedNumbers.{IsStepped-moved}
use Rattle.study_index.proofs.departure.IndexAfterMove.number_to.Goals as goal

pub returns-in-King : goal.returns-in-King
returns-in-King c = λ p t.
    let d = c.args.self.now in
    c.index_after_step.ensures p (IsStepped-moved d.class d.number 0 d.from c.args.to p (omega arith) (d.found.king c.in-King.is) t)
