use Rattle.std.proofs.Common.{◌∙◌, sym}
use Rattle.study_moves.proofs.MenFound.{is_occupied-from_man_at}
use Rattle.study_moves.proofs.NoMoveBetween.{add_legal, add_illegal}
use Rattle.study_moves.proofs.movegen.add.Goals as goal

pub is_known_legal-requires-clause-here : goal.is_known_legal-requires-clause-here
is_known_legal-requires-clause-here c = is_occupied-from_man_at _ _ _ c.requires.here

pub returns-then-is_known_legal-clause-after : goal.returns-then-is_known_legal-clause-after
returns-then-is_known_legal-clause-after c =
    rw c.push.ensures.items
    (add_legal c.args.p.now c.args.man.now c.args.m c.args.list.now.items c.requires.here c.requires.origin c.number-target.ensures.small
    (sym c.is_known_legal.ensures ∙ c.if-is_known_legal.true) c.requires.before)

pub returns-else-is_known_legal-clause-after : goal.returns-else-is_known_legal-clause-after
returns-else-is_known_legal-clause-after c =
    add_illegal c.args.p.now c.args.man.now c.args.m c.args.list.now.items c.requires.here c.requires.origin c.number-target.ensures.small
    (sym c.is_known_legal.ensures ∙ c.if-is_known_legal.false) c.requires.before
