use Rattle.std.proofs.Common.{ℕ, ◌+◌, ◌*◌, sym, ◌∙◌, ap, arith}
use Rattle.study_index.proofs.AddedNumbers.{IsStepped-moved}
use Rattle.study_index.proofs.row_departure.RowIndexAfterMove.number_to.Goals as goal

pub returns-in-Sum : goal.returns-in-Sum
returns-in-Sum c = λ p t.
    let d = c.args.self.now in
    rw (c.from-place.ensures, c.number.ensures.value)
    (d.found.sum c.in-Sum.terms c.in-Sum.is c.args.to c.number-in-Sum.ensures.small c.args.last p c.number.ensures.small t
    ∙ ap (λ (k : ℕ). 64 * k + c.args.last)
    (sym (c.with.ensures.value ∙ ap (λ (a : ℕ). c.in-Sum.terms.rest + a * c.in-Sum.terms.weight) (c.from.ensures ∙ c.number-in-Sum.ensures.value))))

pub returns-in-King : goal.returns-in-King
returns-in-King c = λ p t.
    let d = c.args.self.now in
    c.index_after_step.ensures p
    (rw (c.from-place.ensures, c.number.ensures.value)
    (IsStepped-moved d.class (64 * d.row + c.args.last) 0 d.from c.args.to p (omega arith)
    (d.found.stands c.in-King.field-0 c.in-King.is c.args.last c.number.ensures.small) t))
