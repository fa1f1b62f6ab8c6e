use Rattle.std.proofs.Common.{◌≡◌, ◌+◌, ◌-◌, ◌&&◌, ◌||◌, length, refl, ap, ◌∙◌, arith}
use Rattle.study_marks.specs.BenchState.{marked_study}
use Rattle.study_facts.specs.Nodes.{is_mistake, is_idle}
use Rattle.study_facts.proofs.Stands.{arrival-there, arrival-value, arrival-children, arrival-mark, tried-move}
use Rattle.study_facts.proofs.study_node.node_after.Goals as goal

pub returns-clause-node : goal.returns-clause-node
returns-clause-node g c =
    let s = marked_study c.args.bench.now in
    let step = c.args.step.now in
    let steps = step.steps.now in
    let mark = step.by.mark.on_move in
    let before = step.before.now in
    let one : length steps - 1 + 1 ≡ length steps = omega (arith, c.requires.some) in
    record {
      there = arrival-there s steps step.by c.requires.by;
      node = record { aim = c.requires.aim; depth = refl; position = c.requires.here.position };
      value = arrival-value s steps step.by c.requires.by;
      children = arrival-children s steps step.by c.requires.by;
      solution = c.requires.here.solution;
      tried = c.is_try.ensures ∙ ap (λ b. b && (is_mistake mark || (is_idle mark && (before.solution && before.quiet)))) c.hero_moves-made.ensures
          ∙ tried-move s steps c.requires.some step.aim.now (length steps - 1) mark before c.requires.aim one (arrival-mark s steps step.by c.requires.by)
          c.requires.before;
    }
