use Rattle.std.proofs.Common.{sym, ◌∙◌}
use Rattle.study_index.proofs.ReadCells.{some_passing, none_passing, dead_passing}
use Rattle.study_index.proofs.decoding.decode_en_passant.Goals as goal

pub returns-in-None-clause-none : goal.returns-in-None-clause-none
returns-in-None-clause-none c = none_passing c.args.class c.args.n _ c.requires.cell c.requires.passing c.slots-slots.ensures c.in-None.ensures.none

pub returns-then-has_legal_en_passant-clause-some : goal.returns-then-has_legal_en_passant-clause-some
returns-then-has_legal_en_passant-clause-some c =
    some_passing c.args.class c.args.n _ c.in-Some.q c.requires.cell c.requires.passing c.slots-slots.ensures
    c.in-Some.ensures.some (sym c.has_legal_en_passant.ensures ∙ c.if-has_legal_en_passant.true)

pub returns-else-has_legal_en_passant-clause-none : goal.returns-else-has_legal_en_passant-clause-none
returns-else-has_legal_en_passant-clause-none c =
    dead_passing c.args.class c.args.n _ c.in-Some.q c.requires.cell c.requires.passing c.slots-slots.ensures
    c.in-Some.ensures.some (sym c.has_legal_en_passant.ensures ∙ c.if-has_legal_en_passant.false)
