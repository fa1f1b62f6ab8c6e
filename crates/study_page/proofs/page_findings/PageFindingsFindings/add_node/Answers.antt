use Rattle.std.proofs.Common.{ℕ, List, OnOk, refl, subst, sym, ◌∙◌}
use Rattle.std.proofs.lemmas.Result.{on_ok_weaker}
use Rattle.study_marks.specs.BenchState.{marked_study}
use Rattle.study_facts.specs.Asked.{within}
use Rattle.study_facts.specs.Made.{Grew}
use Rattle.study_page.specs.Rows.{FaultItems, Cards, TryRows, ZugzwangRows, DefenceRowsAmong, EndRows}
use Rattle.study_facts.proofs.Asking.{asks-then}
use Rattle.study_facts.proofs.Within.{leads-at, asks-wider}
use Rattle.study_page.proofs.MadeRows.{on-ok, on-ok-six, grew-to, grew-from}
use Rattle.study_page.proofs.page_findings.PageFindingsFindings.add_node.Goals as goal

pub returns-clause-adds : goal.returns-clause-adds
returns-clause-adds g c h =
    let s = marked_study c.args.bench.now in
    let path = c.args.step.now.steps.now in
    let old = c.args.self.now.sections in
    let known = c.args.self.now.known.now in
    let mid = c.add_move.new.parts in
    let new = c.add_rows.new.parts in
    let moved = c.in_ok-add_move.ensures in
    let made = c.add_rows.ensures in
    let result = c.add_rows.result in
    let still = moved.asked.honest h in
    let by = c.move_of-made.ensures.path in
    let at = c.node_after.ensures.path in
    on_ok_weaker result (λ six. (six, refl)) (on-ok-six result
    (Grew (FaultItems s path) old.faults new.faults) (Grew (Cards s path) old.duals new.duals)
    (Grew (TryRows s path) old.tries new.tries) (Grew (ZugzwangRows s path) old.zugzwangs new.zugzwangs)
    (Grew (DefenceRowsAmong known s path) old.defences new.defences) (Grew (EndRows s path) old.ends new.ends)
    (on-ok result _ (subst (λ (u : List ℕ). Grew (FaultItems s u) old.faults new.faults) by
    (grew-to _ old.faults mid.faults new.faults made.faults (moved.faults h))))
    (on-ok result _ (subst (λ (u : List ℕ). Grew (Cards s u) old.duals new.duals) by
    (grew-to _ old.duals mid.duals new.duals made.duals (moved.duals h))))
    (subst (λ (u : List ℕ). OnOk result (Grew (TryRows s u) old.tries new.tries)) at
    (on_ok_weaker result (grew-from _ old.tries mid.tries new.tries c.add_move.ensures.tries) (made.tries still)))
    (subst (λ (u : List ℕ). OnOk result (Grew (ZugzwangRows s u) old.zugzwangs new.zugzwangs)) at
    (on_ok_weaker result (grew-from _ old.zugzwangs mid.zugzwangs new.zugzwangs c.add_move.ensures.zugzwangs) (made.zugzwangs still)))
    (subst (λ (u : List ℕ). OnOk result (Grew (DefenceRowsAmong known s u) old.defences new.defences)) at
    (on_ok_weaker result (grew-from _ old.defences mid.defences new.defences c.add_move.ensures.defences) (made.defences still)))
    (subst (λ (u : List ℕ). OnOk result (Grew (EndRows s u) old.ends new.ends)) at
    (on_ok_weaker result (grew-from _ old.ends mid.ends new.ends c.add_move.ensures.ends) (made.ends still))))

pub returns-clause-asked : goal.returns-clause-asked
returns-clause-asked g c =
    let s = marked_study c.args.bench.now in
    let here = c.node_after.result in
    asks-then (within s.start.position g.V.Values.source)
    c.args.values.now c.add_move.new.values c.add_rows.new.values c.add_rows.result c.in_ok-add_move.ensures.asked
    (asks-wider g.V.Values.source s.start.position here.node.position.now
    (leads-at s here.steps.now here.node.position.now c.start-first.ensures.study.playable c.node_after.ensures.node.node.position)
    c.add_move.new.values c.add_rows.new.values c.add_rows.result c.add_rows.ensures.asked)

pub add_rows-requires : goal.add_rows-requires
add_rows-requires g c = record {
  here = c.node_after.ensures.node;
  by = (c.move_of-made.ensures.made, c.move_of-made.ensures.path ∙ sym c.node_after.ensures.path);
}
