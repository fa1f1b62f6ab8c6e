use Rattle.std.proofs.Common.{◌∙◌, sym, ap}
use Rattle.study_moves.specs.declared.moves.Move.{Move}
use Rattle.study_moves.specs.Order.{choice_place}
use Rattle.study_moves.proofs.NoMoveBetween.{end_begins, end_ends, elsewhere_ends}
use Rattle.study_moves.proofs.movegen.add_target.Goals as goal

pub add-requires-clause-before : goal.add-requires-clause-before
add-requires-clause-before c =
    end_begins c.args.p.now c.args.man.now c.args.target c.args.list.now.items c.requires.here c.number-target.ensures.small
    c.move_between.result (ap (λ (m : Move). m.origin) c.move_between.ensures) (ap (λ (m : Move). m.target) c.move_between.ensures)
    (ap (λ (m : Move). choice_place m.promoted) c.move_between.ensures)
    (sym c.reaches_last_rank.ensures ∙ c.if-reaches_last_rank.true) c.requires.before

pub returns-then-reaches_last_rank-clause-after : goal.returns-then-reaches_last_rank-clause-after
returns-then-reaches_last_rank-clause-after c =
    end_ends c.args.p.now c.args.man.now c.args.target _ c.requires.here c.number-target.ensures.small
    c.move_between-then-reaches_last_rank-3.result (ap (λ (m : Move). m.origin) c.move_between-then-reaches_last_rank-3.ensures)
    (ap (λ (m : Move). m.target) c.move_between-then-reaches_last_rank-3.ensures)
    (ap (λ (m : Move). choice_place m.promoted) c.move_between-then-reaches_last_rank-3.ensures)
    (sym c.reaches_last_rank.ensures ∙ c.if-reaches_last_rank.true) c.add-then-reaches_last_rank-3.ensures.after

pub returns-else-reaches_last_rank-clause-after : goal.returns-else-reaches_last_rank-clause-after
returns-else-reaches_last_rank-clause-after c =
    elsewhere_ends c.args.p.now c.args.man.now c.args.target _ c.requires.here c.number-target.ensures.small
    c.move_between-else-reaches_last_rank.result (ap (λ (m : Move). m.origin) c.move_between-else-reaches_last_rank.ensures)
    (ap (λ (m : Move). m.target) c.move_between-else-reaches_last_rank.ensures)
    (ap (λ (m : Move). choice_place m.promoted) c.move_between-else-reaches_last_rank.ensures)
    (sym c.reaches_last_rank.ensures ∙ c.if-reaches_last_rank.false) c.add-else-reaches_last_rank.ensures.after
