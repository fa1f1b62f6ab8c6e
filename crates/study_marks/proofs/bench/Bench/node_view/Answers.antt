use Rattle.std.proofs.Common.{Some, ap, sym, ◌∙◌}
use Rattle.study_tree.specs.Tree.{spot_at}
use Rattle.study_marks.specs.BenchState.{BenchState}
use Rattle.study_marks.proofs.Readers.{shown_marks-spot, shown_marks-nothing}
use Rattle.study_marks.proofs.bench.Bench.node_view.Goals as goal

pub returns-in-None : goal.returns-in-None
returns-in-None g c =
    shown_marks-nothing c.args.self.now c.args.steps.now
    (ap (λ (k : BenchState). spot_at k.study.tree c.args.steps.now) (sym c.self.view_is) ∙ c.in-None.ensures)

pub returns-in-Some : goal.returns-in-Some
returns-in-Some g c =
    let e = ap (λ (k : BenchState). spot_at k.study.tree c.args.steps.now) (sym c.self.view_is) ∙ c.in-Some.ensures in
    let node = c.in-Some.node in
    ap (λ m. Some (record { played = node.played; label = m; children = node.children })) c.mark.ensures
    ∙ shown_marks-spot c.args.self.now c.args.steps.now _ c.on_move-on_move.result e (c.on_move-on_move.ensures _ e)
