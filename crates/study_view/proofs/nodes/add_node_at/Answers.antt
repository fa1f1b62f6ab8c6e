use Rattle.std.proofs.Common.{sym, ◌∙◌, ap, ◌++◌, List, ℕ}
use Rattle.std.proofs.lemmas.Result.{on_ok_weaker}
use Rattle.study_marks.specs.Bench.{node_seen}
use Rattle.study_marks.specs.BenchState.{marked_study}
use Rattle.study_view.proofs.StartsAt.{led-legal, own-line, no-line}
use Rattle.study_view.proofs.nodes.add_node_at.Goals as goal

pub add_node-requires : goal.add_node-requires
add_node-requires g c =
    led-legal (marked_study c.args.bench.now) c.args.steps.now (node_seen c.in-Some.node) c.args.before.now c.start-first.ensures.study.playable
    (sym c.in-Some.ensures) c.requires.before

pub returns-in-None : goal.returns-in-None
returns-in-None g c = no-line (marked_study c.args.bench.now) c.args.steps.now c.args.text.now (sym c.in-None.ensures)

pub returns-in-Some : goal.returns-in-Some
returns-in-Some g c =
    on_ok_weaker c.add_node.result
    (λ h. h ∙ ap (λ (t : List ℕ). c.args.text.now ++ t)
    (own-line (marked_study c.args.bench.now) c.args.steps.now (node_seen c.in-Some.node) c.args.before.now c.args.here.now
    (sym c.in-Some.ensures) c.requires.before c.requires.here)) c.add_node.ensures
