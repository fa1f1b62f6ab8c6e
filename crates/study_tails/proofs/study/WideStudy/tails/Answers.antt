use Rattle.std.proofs.Common.{◌≤◌, length, arith, subst, ap, ◌∙◌}
use Rattle.study_tree.specs.Tree.{Plain}
use Rattle.study_tails.specs.Study.{WideStudy, study_of}
use Rattle.study_tails.specs.Tails.{tails, tails_from}
use Rattle.study_tails.proofs.TailsListed.{root_listed, few_tails}
use Rattle.study_tails.proofs.study.WideStudy.tails.Goals as goal

pub returns-clause-value : goal.returns-clause-value
returns-clause-value g c =
    root_listed c.self.inside.start.position c.root-tree.result.below c.new-found.result.items c.add_tails.new.found.items
    c.new-found.ensures.items c.in_ok-add_tails.ensures
    ∙ ap (λ (t : Plain (Unit {0})). tails_from c.self.inside.start.position t.below) c.root-tree.ensures
    ∙ ap tails c.self.view_is

pub returns-clause-few : goal.returns-clause-few
returns-clause-few g c =
    let s = study_of c.self.inside.start c.self.inside.stipulation c.self.inside.tags c.self.inside.tree in
    let few : length (tails s) ≤ 4096 = omega (arith, few_tails s.start.position s.tree.below, c.size-size.ensures.few) in
    subst (λ (s : WideStudy). length (tails s) ≤ 4096) c.self.view_is few

pub returns-in_err-add_tails-clause-few : goal.returns-in_err-add_tails-clause-few
returns-in_err-add_tails-clause-few g c =
    let s = study_of c.self.inside.start c.self.inside.stipulation c.self.inside.tags c.self.inside.tree in
    let few : length (tails s) ≤ 4096 = omega (arith, few_tails s.start.position s.tree.below, c.size-size.ensures.few) in
    subst (λ (s : WideStudy). length (tails s) ≤ 4096) c.self.view_is few
