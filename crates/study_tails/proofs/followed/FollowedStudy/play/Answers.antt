use Rattle.std.proofs.Common.{subst, ◌∙◌}
use Rattle.study_tails.specs.Study.{WideStudy}
use Rattle.study_tails.specs.Moves.{WideComes, wide_moved_by}
use Rattle.study_tails.proofs.Resumed.{still_there}
use Rattle.study_tails.proofs.MovesMade.{goes_there, goes_on}
use Rattle.study_tails.proofs.followed.FollowedStudy.play.Goals as goal

pub invariant_of-self : goal.invariant_of-self
invariant_of-self g c =
    still_there c.self.inside.study c.add_child.new.self c.args.steps.now c.in_ok-reached.reached.meant.played c.add_child.result c.self.inside.steps.items
    c.self.inside.start c.add_child.ensures.grown c.add_child.ensures.same c.self.invariant

pub returns-in-Some-clause-comes : goal.returns-in-Some-clause-comes
returns-in-Some-clause-comes g c =
    rw c.remember.ensures
    (goes_there c.args.self.now c.args.steps.now c.args.san.now c.in_ok-reached.reached.meant c.in-Some.place c.in_ok-reached.ensures.meant c.in-Some.is)

pub returns-in-None-clause-comes : goal.returns-in-None-clause-comes
returns-in-None-clause-comes g c =
    rw (goes_on c.args.self.now c.args.steps.now c.args.san.now c.in_ok-reached.reached.meant c.in_ok-reached.ensures.meant)
    (subst
    (λ (s : WideStudy). WideComes c.add_child.result s c.add_child.new.self (wide_moved_by s c.args.steps.now c.in_ok-reached.reached.meant.played))
    (c.self.view_is ∙ c.remember.ensures) c.add_child.ensures.comes)
