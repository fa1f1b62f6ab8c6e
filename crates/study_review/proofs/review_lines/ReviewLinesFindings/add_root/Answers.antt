use Rattle.std.proofs.Common.{ℕ, List, subst}
use Rattle.std.proofs.lemmas.Result.{on_ok_weaker}
use Rattle.study_marks.specs.BenchState.{marked_study}
use Rattle.study_facts.specs.Made.{Grew}
use Rattle.study_facts.proofs.TimeCounted.{root-time}
use Rattle.study_facts.proofs.Within.{leads-at, asks-wider}
use Rattle.study_review.specs.NodeFacts.{HereLines}
use Rattle.study_review.proofs.WholeReview.{root-fault, root-evaluated}
use Rattle.study_review.proofs.review_lines.ReviewLinesFindings.add_root.Goals as goal

pub returns-clause-adds : goal.returns-clause-adds
returns-clause-adds g c h =
    let s = marked_study c.args.bench.now in
    let old = c.args.self.now in
    on_ok_weaker c.add_here.result
    (λ k. (
      root-fault s old.faults,
      root-time s old.time_faults,
      root-evaluated s old.nodes c.add_here.new.text
          (subst (λ (u : List ℕ). Grew (HereLines s u) old.nodes c.add_here.new.text) c.root_node-here.ensures.path k),
    ))
    (c.add_here.ensures.text h)

pub returns-clause-asked : goal.returns-clause-asked
returns-clause-asked g c =
    let s = marked_study c.args.bench.now in
    let here = c.root_node-here.result in
    asks-wider g.V.Values.source s.start.position here.node.position.now
    (leads-at s here.steps.now here.node.position.now c.start-first.ensures.study.playable c.root_node-here.ensures.node.node.position)
    c.args.values.now c.add_here.new.values c.add_here.result c.add_here.ensures.asked
