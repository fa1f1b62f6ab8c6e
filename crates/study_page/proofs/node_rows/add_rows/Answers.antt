use Rattle.study_marks.specs.BenchState.{marked_study}
use Rattle.study_facts.specs.Asked.{within}
use Rattle.study_facts.specs.Made.{Grew}
use Rattle.study_page.specs.Rows.{TryRows, ZugzwangRows, DefenceRowsAmong}
use Rattle.study_facts.proofs.Asking.{all-then, asks-then, same-asks}
use Rattle.study_page.proofs.MadeRows.{on-ok}
use Rattle.study_page.proofs.node_rows.add_rows.Goals as goal

pub returns-clause-tries : goal.returns-clause-tries
returns-clause-tries g c h =
    on-ok c.add_end.result (Grew (TryRows (marked_study c.args.bench.now) c.args.node.now.here.steps.now) c.args.parts.now.tries c.add_try.new.html)
    (c.in_ok-add_try.ensures.text h)

pub returns-clause-zugzwangs : goal.returns-clause-zugzwangs
returns-clause-zugzwangs g c h =
    on-ok c.add_end.result (Grew (ZugzwangRows (marked_study c.args.bench.now) c.args.node.now.here.steps.now) c.args.parts.now.zugzwangs
    c.add_zugzwang.new.html)
    (c.in_ok-add_zugzwang.ensures.text (c.in_ok-add_try.ensures.asked.honest h))

pub returns-clause-defences : goal.returns-clause-defences
returns-clause-defences g c h =
    on-ok c.add_end.result (Grew (DefenceRowsAmong c.args.node.now.known.now (marked_study c.args.bench.now) c.args.node.now.here.steps.now)
    c.args.parts.now.defences c.add_defences.new.html)
    (c.in_ok-add_defences.ensures.text (c.in_ok-add_zugzwang.ensures.asked.honest (c.in_ok-add_try.ensures.asked.honest h)))

pub returns-clause-ends : goal.returns-clause-ends
returns-clause-ends g c h =
    c.add_end.ensures.text (c.in_ok-add_defences.ensures.asked.honest (c.in_ok-add_zugzwang.ensures.asked.honest (c.in_ok-add_try.ensures.asked.honest h)))

pub returns-in_err-add_zugzwang-clause-asked : goal.returns-in_err-add_zugzwang-clause-asked
returns-in_err-add_zugzwang-clause-asked g c =
    asks-then (within c.args.node.now.here.node.position.now g.V.Values.source)
    c.args.values.now c.add_try.new.values c.add_zugzwang.new.values c.from_residual-in_err-add_zugzwang.result c.in_ok-add_try.ensures.asked
    (same-asks (within c.args.node.now.here.node.position.now g.V.Values.source)
    c.add_try.new.values c.add_zugzwang.new.values c.from_residual-in_err-add_zugzwang.result c.in_err-add_zugzwang.field-0.0
    c.from_residual-in_err-add_zugzwang.ensures.1 c.in_err-add_zugzwang.ensures.asked)

pub returns-in_err-add_defences-clause-asked : goal.returns-in_err-add_defences-clause-asked
returns-in_err-add_defences-clause-asked g c =
    let two = all-then (within c.args.node.now.here.node.position.now g.V.Values.source)
    c.args.values.now c.add_try.new.values c.add_zugzwang.new.values c.in_ok-add_try.ensures.asked c.in_ok-add_zugzwang.ensures.asked in
    asks-then (within c.args.node.now.here.node.position.now g.V.Values.source)
    c.args.values.now c.add_zugzwang.new.values c.add_defences.new.values c.from_residual-in_err-add_defences.result two
    (same-asks (within c.args.node.now.here.node.position.now g.V.Values.source)
    c.add_zugzwang.new.values c.add_defences.new.values c.from_residual-in_err-add_defences.result c.in_err-add_defences.field-0.0
    c.from_residual-in_err-add_defences.ensures.1 c.in_err-add_defences.ensures.asked)

pub returns-clause-asked : goal.returns-clause-asked
returns-clause-asked g c =
    let two = all-then (within c.args.node.now.here.node.position.now g.V.Values.source)
    c.args.values.now c.add_try.new.values c.add_zugzwang.new.values c.in_ok-add_try.ensures.asked c.in_ok-add_zugzwang.ensures.asked in
    let three = all-then (within c.args.node.now.here.node.position.now g.V.Values.source)
    c.args.values.now c.add_zugzwang.new.values c.add_defences.new.values two c.in_ok-add_defences.ensures.asked in
    asks-then (within c.args.node.now.here.node.position.now g.V.Values.source)
    c.args.values.now c.add_defences.new.values c.add_end.new.values c.add_end.result three c.add_end.ensures.asked
