use Rattle.std.proofs.Common.{sym, ◌∙◌}
use Rattle.study_tails.proofs.Nodes.{node_place}
use Rattle.study_tails.proofs.MovesMade.{meant_at}
use Rattle.study_tails.proofs.followed.FollowedStudy.reach.Goals as goal

pub returns-in-Ok-clause-meant : goal.returns-in-Ok-clause-meant
returns-in-Ok-clause-meant g c =
    meant_at c.args.self.now c.args.steps.now c.args.san.now _ _ c.in-Some.ensures.found (
      sym c.in-Ok.ensures.value,
      c.find_child.ensures ∙ sym (node_place c.args.self.now.start c.args.self.now.tree.below c.args.steps.now _ c.in-Ok.played c.in-Some.ensures.found),
      c.in-Ok.ensures.legal,
    )
