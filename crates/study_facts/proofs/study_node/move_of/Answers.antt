use Rattle.std.proofs.Common.{◌≡◌, ◌+◌, ◌-◌, ◌&&◌, length, ap, ◌∙◌, arith}
use Rattle.study_tree.proofs.TreeDepth.{within-length}
use Rattle.study_marks.specs.BenchState.{marked_study}
use Rattle.study_facts.proofs.Stands.{arrival-played, arrival-there, arrival-value, arrival-mark, legal-before, node-before, solution-move}
use Rattle.study_facts.proofs.study_node.move_of.Goals as goal

pub returns-clause-made : goal.returns-clause-made
returns-clause-made g c =
    let s = marked_study c.args.bench.now in
    let step = c.args.step.now in
    let steps = step.steps.now in
    let one : length steps - 1 + 1 ≡ length steps = omega (arith, c.requires.some) in
    let few = within-length 256 s.tree.below steps c.start-first.ensures.study.shallow (arrival-there s steps step.by c.requires.by) in
    record {
      step = record {
        before = node-before s steps c.requires.some step.aim.now (length steps - 1) step.before.now c.requires.aim one c.requires.before;
        line = c.requires.line;
        played = arrival-played s steps step.by c.requires.by;
      };
      legal = legal-before s steps c.requires.some step.by c.requires.by c.start-first.ensures.study.playable step.before.now c.requires.before;
      depth = omega (arith, few, one);
      shallow = few;
      value = arrival-value s steps step.by c.requires.by;
      mark = arrival-mark s steps step.by c.requires.by;
      solution = c.is_solution_move.ensures ∙ ap (λ b. b && step.here.now.solution) c.hero_moves-made.ensures
          ∙ solution-move s steps c.requires.some step.aim.now (length steps - 1) step.here.now c.requires.aim one c.requires.here;
    }
