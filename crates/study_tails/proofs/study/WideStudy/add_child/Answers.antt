use Rattle.std.proofs.Common.{◌≡◌, None, Err, sym, ap, subst, ◌∙◌}
use Rattle.study_tree.specs.Tree.{plain_tree}
use Rattle.study_marks.specs.Study.{place_at}
use Rattle.study_tails.specs.Study.{WideStudy, node_at, study_of}
use Rattle.study_tails.specs.Moves.{IsLegalAt}
use Rattle.study_tails.proofs.MovesMade.{added_kept, added_comes, step_of}
use Rattle.study_tails.proofs.study.WideStudy.add_child.Goals.{in-Ok, in-Err}
use Rattle.study_tails.proofs.study.WideStudy.add_child.Goals as goal

pub invariant_of-self : goal.invariant_of-self
invariant_of-self g c =
    added_kept (study_of c.self.inside.start c.self.inside.stipulation c.self.inside.tags c.self.inside.tree) (plain_tree c.add_last.new.self)
    c.args.steps.now c.args.m.now c.add_last.result c.self.invariant
    (subst (λ (s : WideStudy). IsLegalAt c.args.m.now (node_at s c.args.steps.now)) (sym c.self.view_is) c.requires.legal)
    (subst (λ (s : WideStudy). place_at s.tree.below c.args.steps.now c.args.m.now ≡ None) (sym c.self.view_is) c.requires.fresh)
    c.add_last.ensures.added c.add_last.ensures.same

pub returns-clause-comes : goal.returns-clause-comes
returns-clause-comes g c =
    let s = study_of c.self.inside.start c.self.inside.stipulation c.self.inside.tags c.self.inside.tree in
    let is : c.match-add_last.result ≡ step_of c.args.m.now c.add_last.result = elim c.match-add_last.branch [
      | in-Ok w ↦ w.result-is ∙ sym (ap (step_of c.args.m.now) w.in-Ok.is)
      | in-Err w ↦ w.result-is ∙ ap Err w.move_fault.ensures ∙ sym (ap (step_of c.args.m.now) w.in-Err.is)
    ] in
    rw (← c.self.view_is, is)
    (added_comes s (plain_tree c.add_last.new.self) c.args.steps.now c.args.m.now c.add_last.result
    (subst (λ (s : WideStudy). IsLegalAt c.args.m.now (node_at s c.args.steps.now)) (sym c.self.view_is) c.requires.legal)
    (subst (λ (s : WideStudy). place_at s.tree.below c.args.steps.now c.args.m.now ≡ None) (sym c.self.view_is) c.requires.fresh)
    c.add_last.ensures.refusal c.add_last.ensures.added c.add_last.ensures.place c.add_last.ensures.same)
