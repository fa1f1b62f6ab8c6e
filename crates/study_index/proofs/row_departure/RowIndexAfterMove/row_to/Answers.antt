use Rattle.std.proofs.Common.{ℕ, ◌+◌, ◌*◌, Bool, Option, None, Some, IfSome, sym, ◌∙◌, subst, ap}
use Rattle.study_index.specs.RowDeparture.{IsRowTo, IsRowOfKing}
use Rattle.study_index.proofs.row_departure.RowIndexAfterMove.row_to.Goals as goal

pub returns-in-Sum-clause-numbers : goal.returns-in-Sum-clause-numbers
returns-in-Sum-clause-numbers c = λ y p l t.
    let d = c.args.self.now in
    d.found.sum c.in-Sum.terms c.in-Sum.is c.args.to c.number.ensures.small y p l t
    ∙ ap (λ (k : ℕ). 64 * k + y)
    (sym (c.with.ensures.value ∙ ap (λ (a : ℕ). c.in-Sum.terms.rest + a * c.in-Sum.terms.weight) (c.from.ensures ∙ c.number.ensures.value)))

pub returns-else-has_like_men-clause-numbers : goal.returns-else-has_like_men-clause-numbers
returns-else-has_like_men-clause-numbers c =
    let d = c.args.self.now in
    by_row c.row_of_king.result c.row_of_king.ensures.value
    (λ k h. d.found.king c.in-King.terms c.in-King.is (sym c.has_like_men.ensures ∙ c.if-has_like_men.false) c.args.to k c.row_of_king.ensures.on_board
    (subst (λ (w : Bool). IsRowOfKing w c.in-King.terms c.args.to k) c.class_has_pawn.ensures h))
  where
    by_row : (o : Option ℕ) → IfSome o (λ k. IsRowOfKing c.class_has_pawn.result c.in-King.terms c.args.to k)
        → ((k : ℕ) → IsRowOfKing c.class_has_pawn.result c.in-King.terms c.args.to k
        → IsRowTo c.args.self.now.class c.args.self.now.row c.args.self.now.from c.args.to k)
        → IfSome o (λ k. IsRowTo c.args.self.now.class c.args.self.now.row c.args.self.now.from c.args.to k)
    by_row None h f = h
    by_row (Some k) h f = f k h
