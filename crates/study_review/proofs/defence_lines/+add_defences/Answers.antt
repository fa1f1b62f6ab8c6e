use Rattle.std.proofs.Common.{sym, ◌∙◌}
use Rattle.std.proofs.lemmas.Result.{on_ok_weaker}
use Rattle.study_facts.specs.Asked.{within}
use Rattle.study_facts.proofs.Asking.{asks-then}
use Rattle.study_review.proofs.MovesReported.{defence-there, defence-more}
use Rattle.study_review.proofs.defence_lines.+add_defences.Goals as goal

pub returns-then-contains_move-clause-text : goal.returns-then-contains_move-clause-text
returns-then-contains_move-clause-text g t c h =
    on_ok_weaker c.add_defences.result
    (defence-there c.args.steps.now c.args.node.now.aim.now c.args.node.now.depth c.args.node.now.position.now c.args.there.now c.in-Some.x.now
    c.args.evaluated.now c.in-Some.rest.now
    c.args.text.now c.add_defences.new.text c.in-Some.ensures.cases.0 (sym c.contains_move.ensures ∙ c.if-contains_move.true))
    (c.add_defences.ensures.text h)

pub returns-in_ok-add_defence-in-Some-clause-text : goal.returns-in_ok-add_defence-in-Some-clause-text
returns-in_ok-add_defence-in-Some-clause-text g t c h =
    on_ok_weaker c.add_defences-in-Some.result
    (defence-more c.args.steps.now c.args.node.now.aim.now c.args.node.now.depth c.args.node.now.position.now c.args.there.now c.in-Some.x.now
    c.args.evaluated.now c.in-Some.rest.now
    c.args.text.now c.add_defence.new.text c.add_defences-in-Some.new.text c.in-Some.ensures.cases.0 (sym c.contains_move.ensures ∙ c.if-contains_move.false)
    (c.in_ok-add_defence-in-Some.ensures.text h))
    (c.add_defences-in-Some.ensures.text (c.in_ok-add_defence-in-Some.ensures.asked.honest h))

pub returns-in_ok-add_defence-in-Some-clause-asked : goal.returns-in_ok-add_defence-in-Some-clause-asked
returns-in_ok-add_defence-in-Some-clause-asked g t c =
    asks-then (within c.args.node.now.position.now g.V.Values.source)
    c.args.values.now c.add_defence.new.values c.add_defences-in-Some.new.values c.add_defences-in-Some.result
    c.in_ok-add_defence-in-Some.ensures.asked c.add_defences-in-Some.ensures.asked
