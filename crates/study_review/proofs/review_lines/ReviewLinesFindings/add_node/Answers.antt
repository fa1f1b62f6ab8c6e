use Rattle.std.proofs.Common.{rules, ℕ, List, subst}
use Rattle.std.proofs.lemmas.Result.{on_ok_weaker}
use Rattle.study_marks.specs.BenchState.{marked_study}
use Rattle.study_facts.specs.Asked.{within}
use Rattle.study_facts.specs.Made.{Grew, Rose}
use Rattle.study_facts.specs.Nodes.{AlsoLines, FaultLines, parent_path}
use Rattle.study_facts.specs.TimeFaults.{IsTimeFault}
use Rattle.study_facts.proofs.Within.{leads-at, all-wider, asks-wider}
use Rattle.study_facts.proofs.Asking.{asks-then}
use Rattle.study_review.specs.NodeFacts.{HereLines}
use Rattle.study_review.proofs.NodesReported.{node-evaluated}
use Rattle.study_review.proofs.review_lines.ReviewLinesFindings.add_node.Goals as goal

pub returns-clause-adds : goal.returns-clause-adds
returns-clause-adds g c h =
    let s = marked_study c.args.bench.now in
    let path = c.args.step.now.steps.now in
    let old = c.args.self.now in
    let mid = c.add_move.new.draft in
    let moved = c.in_ok-add_move.ensures in
    let by = c.move_of-made.ensures.path in
    on_ok_weaker c.add_here.result
    (λ lines. (
      subst (λ (u : List ℕ). Grew (FaultLines s u) old.faults mid.faults) by (moved.fault h),
      subst (λ (u : List ℕ). Rose (IsTimeFault s u) old.time_faults mid.time_faults) by (moved.time h),
      node-evaluated s path old.nodes mid.nodes c.add_here.new.text
          (subst (λ (u : List ℕ). Grew (AlsoLines s u) old.nodes mid.nodes) by (moved.also h))
          (subst (λ (u : List ℕ). Grew (HereLines s u) mid.nodes c.add_here.new.text) c.node_after-here.ensures.path lines),
    ))
    (c.add_here.ensures.text (moved.asked.honest h))

pub returns-clause-asked : goal.returns-clause-asked
returns-clause-asked g c =
    let s = marked_study c.args.bench.now in
    let made = c.move_of-made.result in
    let here = c.node_after-here.result in
    asks-then (within s.start.position g.V.Values.source)
    c.args.values.now c.add_move.new.values c.add_here.new.values c.add_here.result
    (all-wider g.V.Values.source s.start.position made.before.position.now
    (leads-at s (parent_path made.steps.now) made.before.position.now c.start-first.ensures.study.playable c.move_of-made.ensures.made.step.before.position)
    c.args.values.now c.add_move.new.values c.in_ok-add_move.ensures.asked)
    (asks-wider g.V.Values.source s.start.position here.node.position.now
    (leads-at s here.steps.now here.node.position.now c.start-first.ensures.study.playable c.node_after-here.ensures.node.node.position)
    c.add_move.new.values c.add_here.new.values c.add_here.result c.add_here.ensures.asked)

pub returns-in_err-add_move-clause-asked : goal.returns-in_err-add_move-clause-asked
returns-in_err-add_move-clause-asked g c =
    let s = marked_study c.args.bench.now in
    let made = c.move_of-made.result in
    asks-wider g.V.Values.source s.start.position made.before.position.now
    (leads-at s (parent_path made.steps.now) made.before.position.now c.start-first.ensures.study.playable c.move_of-made.ensures.made.step.before.position)
    c.args.values.now c.add_move.new.values _ (search rules)
