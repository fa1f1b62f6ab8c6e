use Rattle.std.proofs.Common.{◌≡◌, ap, sym, ◌∙◌, subst}
use Rattle.study_board.specs.Men.{same_side}
use Rattle.study_text.specs.Counts.{next_count}
use Rattle.study_tree.specs.Tree.{plain_tree, size_of}
use Rattle.study_marks.specs.declared.mark_rules.Aim.{Aim}
use Rattle.study_marks.specs.Study.{plain_study}
use Rattle.study_marks.specs.Goals.{aim_of}
use Rattle.study_marks.specs.BenchState.{BenchState, marked_study, evaluation_tree, IsKeptRight, AllAddUp}
use Rattle.study_marks.specs.Edits.{with_stipulation}
use Rattle.study_marks.specs.Queries.{counted_up_by}
use Rattle.study_marks.specs.Bench.{bench_state_of}
use Rattle.study_marks.proofs.BenchEdits.{next_count-later}
use Rattle.study_marks.proofs.Readers.{size-marked_study}
use Rattle.study_marks.proofs.BenchRewritten.{evaluated-kept, restipulated, stipulated-study, stipulated-plain, stipulated-right}
use Rattle.study_marks.proofs.bench.Bench.set_stipulation.Goals as goal

pub invariant_of-self : goal.invariant_of-self
invariant_of-self g c =
    let b = bench_state_of c.self.inside.start c.self.inside.stipulation c.self.inside.tags c.self.inside.tree in
    let aim : c.aim_of-aim.result
    ≡ aim_of (restipulated b.study c.args.stipulation (plain_tree c.relabel_all.new.tree)) =
    c.aim_of-aim.ensures
    ∙ ap (λ s. record { goal = c.args.stipulation.goal; hero_first = same_side c.args.stipulation.hero s })
    c.to_move.ensures in (
      stipulated-study b.study c.args.stipulation (plain_tree c.relabel_all.new.tree)
          (evaluated-kept b.study.tree (plain_tree c.relabel_all.new.tree) c.relabel_all.ensures.evaluated) c.self.invariant.0,
      subst (λ (a : Aim). AllAddUp a (plain_tree c.relabel_all.new.tree)) aim c.relabel_all.ensures.right,
    )

pub returns-clause-edited : goal.returns-clause-edited
returns-clause-edited g c =
    let b = bench_state_of c.self.inside.start c.self.inside.stipulation c.self.inside.tags c.self.inside.tree in
    stipulated-plain b c.args.stipulation (plain_tree c.relabel_all.new.tree)
    (next_count c.relabel_all.new.tree.relabelled)
    (evaluated-kept b.study.tree (plain_tree c.relabel_all.new.tree) c.relabel_all.ensures.evaluated)
    ∙ ap (λ (k : BenchState). with_stipulation (plain_study (marked_study k)) c.args.stipulation) c.self.view_is

pub returns-clause-kept : goal.returns-clause-kept
returns-clause-kept g c =
    let b = bench_state_of c.self.inside.start c.self.inside.stipulation c.self.inside.tags c.self.inside.tree in
    evaluated-kept b.study.tree (plain_tree c.relabel_all.new.tree) c.relabel_all.ensures.evaluated
    ∙ ap (λ (k : BenchState). evaluation_tree k.study.tree) c.self.view_is

pub returns-clause-right : goal.returns-clause-right
returns-clause-right g c h =
    let b = bench_state_of c.self.inside.start c.self.inside.stipulation c.self.inside.tags c.self.inside.tree in
    let aim : c.aim_of-aim.result
    ≡ aim_of (restipulated b.study c.args.stipulation (plain_tree c.relabel_all.new.tree)) =
    c.aim_of-aim.ensures
    ∙ ap (λ s. record { goal = c.args.stipulation.goal; hero_first = same_side c.args.stipulation.hero s })
    c.to_move.ensures in
    stipulated-right b c.args.stipulation (plain_tree c.relabel_all.new.tree)
    (next_count c.relabel_all.new.tree.relabelled)
    (evaluated-kept b.study.tree (plain_tree c.relabel_all.new.tree) c.relabel_all.ensures.evaluated)
    (subst (λ (a : Aim). AllAddUp a (plain_tree c.relabel_all.new.tree)) aim c.relabel_all.ensures.right) (subst IsKeptRight (sym c.self.view_is) h)

pub returns-clause-relabelled : goal.returns-clause-relabelled
returns-clause-relabelled g c =
    let b = bench_state_of c.self.inside.start c.self.inside.stipulation c.self.inside.tags c.self.inside.tree in
    next_count-later (size_of (plain_tree c.self.inside.tree)) c.self.inside.tree.relabelled c.relabel_all.new.tree.relabelled c.relabel_all.ensures.count
    ∙ ap (λ n. counted_up_by n (next_count c.self.inside.tree.relabelled)) (size-marked_study b c.args.self.now c.self.view_is)
    ∙ ap (λ (k : BenchState). counted_up_by (size_of (marked_study c.args.self.now).tree) k.relabelled) c.self.view_is
