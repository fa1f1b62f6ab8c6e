use Rattle.std.proofs.Common.{sym, ◌∙◌, ap, ℕ, ◌+◌, List, [], ◌∷◌, ◌++◌}
use Rattle.std.proofs.lemmas.Bool.{false≢true}
use Rattle.study_retro.proofs.EarlierChess.{one_added, two_added}
use Rattle.study_retro.proofs.numbers.en_passant.add_predecessor.Goals as goal

pub returns-then-has_en_passant-clause-more : goal.returns-then-has_en_passant-clause-more
returns-then-has_en_passant-clause-more c =
    two_added c.args.class c.args.at.now c.args.number c.args.by.now c.in-Some.plain c.in-Some.ensures.some c.args.list.now.items
    c.push-then-has_en_passant.new.self.items
    (c.push-then-has_en_passant.ensures.items ∙ ap (λ (xs : List ℕ). xs ++ (c.in-Some.plain + 16777216) ∷ [])
    c.push.ensures.items)
    (c.has_en_passant.ensures.0 c.if-has_en_passant.true)

pub returns-else-has_en_passant-clause-more : goal.returns-else-has_en_passant-clause-more
returns-else-has_en_passant-clause-more c =
    one_added c.args.class c.args.at.now c.args.number c.args.by.now c.in-Some.plain c.in-Some.ensures.some c.args.list.now.items
    c.push.new.self.items c.push.ensures.items (λ h. false≢true (sym c.if-has_en_passant.false ∙ c.has_en_passant.ensures.1 h))
