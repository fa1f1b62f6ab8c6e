use Rattle.std.proofs.Common.{rules, ◌≡◌, ◌-◌, true, ◌∙◌, ap, List, ◌++◌, ◌∷◌, []}
use Rattle.study_moves.specs.declared.moves.Move.{Move}
use Rattle.study_moves.specs.Rules.{is_legal, after}
use Rattle.study_search.specs.OnlyMoves.{HasOnlyMoves}
use Rattle.study_search.specs.Rows.{IsFirstReply}
use Rattle.study_material.specs.Needs.{NeedsClass}
use Rattle.study_search.proofs.Faults.{needs-after, reported-wider, if-wider, if_reported, can_report}
use Rattle.study_search.proofs.OneRow.{no-row, row-on, of-none, of-some}
use Rattle.study_search.proofs.rows.+add_row.Goals as goal

pub returns-in-Err-first_reply-clause-faults : goal.returns-in-Err-first_reply-clause-faults
returns-in-Err-first_reply-clause-faults g t c =
    reported-wider g.V.Values.source (NeedsClass c.played-next.result) (NeedsClass c.args.p.now)
    (needs-after c.args.p.now c.played-next.result c.in-Ok-Some.m c.men-men.ensures.valid (search rules) c.played-next.ensures.value)
    c.args.values.now c.in-Err-first_reply.fault
    (can_report g.V.Values.source (NeedsClass c.played-next.result) c.args.values.now c.key_move.new.values c.in-Err-first_reply.fault
    c.in-Err-first_reply.ensures.faults c.key_move.ensures.tables c.key_move.ensures.honest)

pub returns-in-Ok-None-first_reply-clause-game : goal.returns-in-Ok-None-first_reply-clause-game
returns-in-Ok-None-first_reply-clause-game g t c h =
    let key = (c.in-Ok-Some.ensures.game h c.in-Ok-Some.m).0 c.in-Ok-Some.field-0-is in
    no-row c.args.outcome c.args.n c.args.p.now c.played-next.result c.in-Ok-Some.m c.requires.some c.if-n-eq1.false key.1
    c.played-next.ensures.value
    (of-none ((r : Move) → is_legal c.played-next.result r ≡ true → ¬ (HasOnlyMoves c.args.outcome (c.args.n - 1) (after c.played-next.result r)))
    (IsFirstReply c.args.outcome (c.args.n - 1) c.played-next.result) c.in-Ok-None-first_reply.field-0 c.in-Ok-None-first_reply.field-0-is
    (c.in-Ok-None-first_reply.ensures.game (c.key_move.ensures.honest h)))

pub returns-in-Ok-Some-first_reply-clause-game : goal.returns-in-Ok-Some-first_reply-clause-game
returns-in-Ok-Some-first_reply-clause-game g t c h =
    let key = (c.in-Ok-Some.ensures.game h c.in-Ok-Some.m).0 c.in-Ok-Some.field-0-is in
    row-on c.args.outcome c.args.n c.args.p.now c.played-next.result c.played-last.result c.in-Ok-Some.m c.in-Ok-Some-first_reply.r
    c.args.row.now.items c.push_move-in-Ok-Some-first_reply.new.row.items c.add_row.new.row.items c.add_row.result
    c.requires.some c.if-n-eq1.false key c.played-next.ensures.value
    (of-some ((r : Move) → is_legal c.played-next.result r ≡ true → ¬ (HasOnlyMoves c.args.outcome (c.args.n - 1) (after c.played-next.result r)))
    (IsFirstReply c.args.outcome (c.args.n - 1) c.played-next.result) c.in-Ok-Some-first_reply.field-0 c.in-Ok-Some-first_reply.r
    c.in-Ok-Some-first_reply.field-0-is (c.in-Ok-Some-first_reply.ensures.game (c.key_move.ensures.honest h)))
    c.played-last.ensures.value
    (c.push_move-in-Ok-Some-first_reply.ensures.items ∙ ap (λ (l : List Move). l ++ c.in-Ok-Some-first_reply.r ∷ []) c.push_move.ensures.items)
    (c.add_row.ensures.game (c.first_reply.ensures.honest (c.key_move.ensures.honest h)))

pub returns-in-Ok-Some-first_reply-clause-faults : goal.returns-in-Ok-Some-first_reply-clause-faults
returns-in-Ok-Some-first_reply-clause-faults g t c =
    let source = g.V.Values.source in
    let on = needs-after c.args.p.now c.played-next.result c.in-Ok-Some.m c.men-men.ensures.valid (search rules) c.played-next.ensures.value in
    let last = needs-after c.played-next.result c.played-last.result c.in-Ok-Some-first_reply.r c.men-next_men.ensures.valid (search rules) c.played-last.ensures.value in
    if-wider source (NeedsClass c.played-last.result) (NeedsClass c.args.p.now) (λ k n. on k (last k n)) c.args.values.now c.add_row.result
    (if_reported source (NeedsClass c.played-last.result) c.args.values.now c.key_move.new.values c.add_row.result
    (if_reported source (NeedsClass c.played-last.result) c.key_move.new.values c.first_reply.new.values c.add_row.result c.add_row.ensures.faults
    c.first_reply.ensures.tables c.first_reply.ensures.honest) c.key_move.ensures.tables c.key_move.ensures.honest)
