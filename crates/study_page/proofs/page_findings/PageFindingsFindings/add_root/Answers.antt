use Rattle.std.proofs.Common.{ℕ, List, [], OnOk, ap, refl, subst}
use Rattle.std.proofs.lemmas.Result.{on_ok_weaker}
use Rattle.study_tree.specs.Tree.{spot_at}
use Rattle.study_marks.specs.Bench.{played_by}
use Rattle.study_marks.specs.BenchState.{marked_study}
use Rattle.study_facts.specs.Made.{Grew}
use Rattle.study_page.specs.Rows.{FaultItems, Cards, TryRows, ZugzwangRows, DefenceRowsAmong, EndRows}
use Rattle.study_facts.proofs.Within.{leads-at, asks-wider}
use Rattle.study_page.proofs.MadeRows.{on-ok, on-ok-six, grew-to, fault-unplayed, no-card}
use Rattle.study_page.proofs.page_findings.PageFindingsFindings.add_root.Goals as goal

pub add_rows-requires : goal.add_rows-requires
add_rows-requires g c = record {
  here = c.root_node.ensures.node;
  by = ap (λ (u : List ℕ). played_by (spot_at (marked_study c.args.bench.now).tree u)) c.root_node.ensures.path;
}

pub returns-clause-adds : goal.returns-clause-adds
returns-clause-adds g c h =
    let s = marked_study c.args.bench.now in
    let old = c.args.self.now.sections in
    let known = c.args.self.now.known.now in
    let new = c.add_rows.new.parts in
    let root : List ℕ = [] in
    let made = c.add_rows.ensures in
    let result = c.add_rows.result in
    let at = c.root_node.ensures.path in
    on_ok_weaker result (λ six. (six, refl)) (on-ok-six result
    (Grew (FaultItems s root) old.faults new.faults) (Grew (Cards s root) old.duals new.duals)
    (Grew (TryRows s root) old.tries new.tries) (Grew (ZugzwangRows s root) old.zugzwangs new.zugzwangs)
    (Grew (DefenceRowsAmong known s root) old.defences new.defences) (Grew (EndRows s root) old.ends new.ends)
    (on-ok result _ (grew-to (FaultItems s root) old.faults old.faults new.faults made.faults (fault-unplayed s root old.faults refl)))
    (on-ok result _ (grew-to (Cards s root) old.duals old.duals new.duals made.duals (no-card s root old.duals refl)))
    (subst (λ (u : List ℕ). OnOk result (Grew (TryRows s u) old.tries new.tries)) at (made.tries h))
    (subst (λ (u : List ℕ). OnOk result (Grew (ZugzwangRows s u) old.zugzwangs new.zugzwangs)) at (made.zugzwangs h))
    (subst (λ (u : List ℕ). OnOk result (Grew (DefenceRowsAmong known s u) old.defences new.defences)) at (made.defences h))
    (subst (λ (u : List ℕ). OnOk result (Grew (EndRows s u) old.ends new.ends)) at (made.ends h)))

pub returns-clause-asked : goal.returns-clause-asked
returns-clause-asked g c =
    let here = c.root_node.result in
    asks-wider g.V.Values.source (marked_study c.args.bench.now).start.position here.node.position.now
    (leads-at (marked_study c.args.bench.now) here.steps.now here.node.position.now c.start-first.ensures.study.playable c.root_node.ensures.node.node.position)
    c.args.values.now c.add_rows.new.values c.add_rows.result c.add_rows.ensures.asked
