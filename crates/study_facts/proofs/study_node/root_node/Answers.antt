use Rattle.std.proofs.Common.{refl}
use Rattle.study_facts.proofs.study_node.root_node.Goals as goal

pub returns-clause-node : goal.returns-clause-node
returns-clause-node g c = record {
  there = refl;
  node = record { aim = c.requires.aim; depth = refl; position = c.requires.root.position };
  value = c.value_at.ensures;
  children = c.requires.root.children;
  solution = refl;
  tried = refl;
}
