use Rattle.std.proofs.Common.{◌∙◌, sym}
use Rattle.study_moves.specs.KingSafety.{is_other_man}
use Rattle.study_moves.proofs.BearsAlone.{alone_not}
use Rattle.study_moves.proofs.king_safety.attacks_past.Goals as goal

pub returns-then-not-contains : goal.returns-then-not-contains
returns-then-not-contains c =
    sym (alone_not (is_other_man c.args.by c.args.lifted c.args.m.now) c.args.men.now c.args.lifted c.args.m.now c.args.k
    (sym (c.attacks.ensures c.args.k c.number-square.ensures.small) ∙ sym c.contains.ensures ∙ c.if-not-contains.true))
