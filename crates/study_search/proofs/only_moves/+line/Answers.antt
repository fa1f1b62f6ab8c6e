use Rattle.std.proofs.Common.{List, arith, rules, sym, subst}
use Rattle.study_moves.specs.declared.moves.Move.{Move}
use Rattle.study_search.specs.declared.only_moves.Outcome.{Outcome}
use Rattle.study_search.specs.OnlyMoves.{Has}
use Rattle.study_material.specs.Needs.{NeedsClass}
use Rattle.study_search.proofs.Faults.{needs-after, reported-wider, if-wider, if_reported}
use Rattle.study_search.proofs.OnlyMoves.{AreLegal, has-of, no-line, line-of-one, line-by}
use Rattle.study_search.proofs.only_moves.+line.Goals as goal

pub finds_only_moves-returns-in-Ok-None-clause-game : goal.finds_only_moves-returns-in-Ok-None-clause-game
finds_only_moves-returns-in-Ok-None-clause-game g t c h draws =
    let some = c.requires in
    no-line c.args.outcome c.args.n c.args.p.now c.in-Ok-None.field-0 (λ e. omega (arith, some, e)) (c.in-Ok-None.ensures.game h) c.in-Ok-None.field-0-is

pub finds_only_moves-returns-then-n-eq1-clause-game : goal.finds_only_moves-returns-then-n-eq1-clause-game
finds_only_moves-returns-then-n-eq1-clause-game g t c h draws =
    let only = (c.in-Ok-Some.ensures.game h c.in-Ok-Some.m).0 c.in-Ok-Some.field-0-is in
    line-of-one c.args.outcome c.args.n c.args.p.now c.in-Ok-Some.m c.if-n-eq1.true
    (has-of c.args.outcome c.args.p.now c.in-Ok-Some.m c.men-men.ensures.valid draws only) only

pub finds_only_moves-returns-else-n-eq1-clause-game : goal.finds_only_moves-returns-else-n-eq1-clause-game
finds_only_moves-returns-else-n-eq1-clause-game g t c h draws =
    let some = c.requires in
    let only = (c.in-Ok-Some.ensures.game h c.in-Ok-Some.m).0 c.in-Ok-Some.field-0-is in
    line-by c.args.outcome c.args.n c.args.p.now c.played-next.result c.in-Ok-Some.m c.as_slice.result.now c.some_reply_leads.result
    (λ e. omega (arith, some, e)) c.if-n-eq1.false (has-of c.args.outcome c.args.p.now c.in-Ok-Some.m c.men-men.ensures.valid draws only) only
    c.played-next.ensures.value
    (subst (λ (l : List Move). AreLegal c.played-next.result l) (sym c.as_slice.ensures.value) c.legal_moves-replies.ensures.legal)
    (c.some_reply_leads.ensures.game (c.only_move.ensures.honest h))

pub has_only_moves_on-returns-in-Win-clause-game : goal.has_only_moves_on-returns-in-Win-clause-game
has_only_moves_on-returns-in-Win-clause-game g t c h =
    let is = c.in-Win.is in
    c.finds_only_moves.ensures.game h (λ e. absurd (cc (is, e)))

pub has_only_moves-returns-else-n-eq0-clause-game : goal.has_only_moves-returns-else-n-eq0-clause-game
has_only_moves-returns-else-n-eq0-clause-game g t c h =
    c.finds_only_moves.ensures.game (c.has.ensures.honest h)
    (λ e. subst (λ (o : Outcome). Has o c.args.p.now) e ((c.in-Ok-true.ensures.game h).0 c.in-Ok-true.field-0-test))

pub some_reply_leads-returns-in-Err-clause-faults : goal.some_reply_leads-returns-in-Err-clause-faults
some_reply_leads-returns-in-Err-clause-faults g t c =
    reported-wider g.V.Values.source (NeedsClass c.played-next.result) (NeedsClass c.args.q.now)
    (needs-after c.args.q.now c.played-next.result c.in-Some.r.now c.men-men.ensures.valid (search rules) c.played-next.ensures.value)
    c.args.values.now c.in-Err.fault c.in-Err.ensures.faults

pub finds_only_moves-returns-else-n-eq1-clause-faults : goal.finds_only_moves-returns-else-n-eq1-clause-faults
finds_only_moves-returns-else-n-eq1-clause-faults g t c =
    if-wider g.V.Values.source (NeedsClass c.played-next.result) (NeedsClass c.args.p.now)
    (needs-after c.args.p.now c.played-next.result c.in-Ok-Some.m c.men-men.ensures.valid (search rules) c.played-next.ensures.value)
    c.args.values.now c.some_reply_leads.result
    (if_reported g.V.Values.source (NeedsClass c.played-next.result) c.args.values.now c.only_move.new.values c.some_reply_leads.result
    c.some_reply_leads.ensures.faults c.only_move.ensures.tables c.only_move.ensures.honest)
