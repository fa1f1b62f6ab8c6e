use Rattle.std.proofs.Common.{◌≡◌, List, length, ap, sym, ◌∙◌, subst, rules}
use Rattle.study_board.specs.Men.{same_side}
use Rattle.study_board.specs.Position.{Position, IsValid}
use Rattle.study_text.specs.Counts.{next_count}
use Rattle.study_tree.specs.Tree.{plain_tree, size_of}
use Rattle.study_marks.specs.declared.node_label.Evaluation.{Evaluation}
use Rattle.study_marks.specs.declared.mark_rules.Aim.{Aim}
use Rattle.study_marks.specs.Study.{plain_study, IsPlayable}
use Rattle.study_marks.specs.Goals.{aim_of}
use Rattle.study_marks.specs.BenchState.{BenchState, marked_study, AllAddUp, evaluation_tree}
use Rattle.study_marks.specs.Edits.{with_start}
use Rattle.study_marks.specs.Queries.{positions_asked, AreTablesHeld, IsOutside, HasStopped, is_of_tables, counted_up_by}
use Rattle.study_marks.specs.Bench.{bench_state_of}
use Rattle.study_marks.specs.Evaluated.{AllAreEvaluated}
use Rattle.study_marks.specs.Relabelled.{reevaluated_tree}
use Rattle.study_marks.proofs.BenchEdits.{next_count-later}
use Rattle.study_marks.proofs.Readers.{size-marked_study}
use Rattle.study_marks.proofs.BenchRewritten.{restarted, shifted-study, shifted-plain, shifted-right, asked-shifted, same-refusal, refusal-asked}
use Rattle.study_marks.specs.Answers.{TellsFirstFault}
use Rattle.study_marks.proofs.FaultsReported.{same-first, same-undamaged}
use Rattle.study_marks.proofs.bench.Bench.annotate.Goals as goal

pub returns-in_err-all-clause-refusal : goal.returns-in_err-all-clause-refusal
returns-in_err-all-clause-refusal g c =
    let b = bench_state_of c.self.inside.start c.self.inside.stipulation c.self.inside.tags c.self.inside.tree in
    let same = asked-shifted b c.args.self.now c.args.start c.self.view_is in
    same-refusal c.from_residual.result c.in_err-all.field-0.0 (g.V.Values.source.held c.args.values.now)
    (positions_asked (with_start (plain_study (marked_study c.args.self.now)) c.args.start)) c.from_residual.ensures.1
    (subst (λ (ps : List Position). IsOutside (g.V.Values.source.held c.args.values.now) ps c.in_err-all.field-0.0) same c.in_err-all.ensures.refusal)

pub returns-in_err-all-clause-asked : goal.returns-in_err-all-clause-asked
returns-in_err-all-clause-asked g c =
    let b = bench_state_of c.self.inside.start c.self.inside.stipulation c.self.inside.tags c.self.inside.tree in
    let same = asked-shifted b c.args.self.now c.args.start c.self.view_is in
    refusal-asked c.from_residual.result c.in_err-all.field-0.0
    (length (positions_asked (with_start (plain_study (marked_study c.args.self.now)) c.args.start)))
    (g.V.Values.source.asked_of c.args.values.now) (g.V.Values.source.asked_of c.evaluate_all.new.values) c.from_residual.ensures.1
    (subst (λ (ps : List Position). HasStopped (is_of_tables c.in_err-all.field-0.0) (length ps)
    (g.V.Values.source.asked_of c.args.values.now) (g.V.Values.source.asked_of c.evaluate_all.new.values)) same
    c.in_err-all.ensures.asked)

pub invariant_of-self : goal.invariant_of-self
invariant_of-self g c =
    let b = bench_state_of c.self.inside.start c.self.inside.stipulation c.self.inside.tags c.self.inside.tree in
    let u = plain_tree c.relabel_all.new.tree in
    let evaluated : evaluation_tree u ≡ reevaluated_tree c.as_slice.result.now (evaluation_tree b.study.tree) = c.relabel_all.ensures.evaluated in
    let aim : c.aim_of-aim.result ≡ aim_of (restarted b.study c.args.start u) =
    c.aim_of-aim.ensures
    ∙ ap
    (λ s. record {
      goal = c.self.inside.stipulation.goal;
      hero_first = same_side c.self.inside.stipulation.hero
          s;
    }) c.to_move.ensures in
    let right : AllAddUp (aim_of (restarted b.study c.args.start u)) u = subst (λ (a : Aim). AllAddUp a u) aim c.relabel_all.ensures.right in
    let valid : IsValid c.args.start.position = search rules in
    let legal : IsPlayable c.args.start.position b.study.tree.below =
    subst (λ (k : BenchState). IsPlayable c.args.start.position k.study.tree.below) (sym c.self.view_is)
    c.requires.playable in
    (shifted-study c.as_slice.result.now b c.args.start u 0 evaluated valid legal c.self.invariant.0, right)

pub returns-clause-found : goal.returns-clause-found
returns-clause-found g c =
    let b = bench_state_of c.self.inside.start c.self.inside.stipulation c.self.inside.tags c.self.inside.tree in
    let same = asked-shifted b c.args.self.now c.args.start c.self.view_is in
    record { each = subst (λ (ps : List Position). AreTablesHeld (g.V.Values.source.held c.args.values.now) ps) same c.in_ok-all.ensures.found }

pub returns-clause-edited : goal.returns-clause-edited
returns-clause-edited g c =
    let b = bench_state_of c.self.inside.start c.self.inside.stipulation c.self.inside.tags c.self.inside.tree in
    let u = plain_tree c.relabel_all.new.tree in
    let evaluated : evaluation_tree u ≡ reevaluated_tree c.as_slice.result.now (evaluation_tree b.study.tree) = c.relabel_all.ensures.evaluated in
    shifted-plain c.as_slice.result.now b c.args.start u (next_count c.relabel_all.new.tree.relabelled) evaluated
    ∙ ap (λ (k : BenchState). with_start (plain_study (marked_study k)) c.args.start) c.self.view_is

pub returns-clause-right : goal.returns-clause-right
returns-clause-right g c =
    let b = bench_state_of c.self.inside.start c.self.inside.stipulation c.self.inside.tags c.self.inside.tree in
    let u = plain_tree c.relabel_all.new.tree in
    let evaluated : evaluation_tree u ≡ reevaluated_tree c.as_slice.result.now (evaluation_tree b.study.tree) = c.relabel_all.ensures.evaluated in
    let aim : c.aim_of-aim.result ≡ aim_of (restarted b.study c.args.start u) =
    c.aim_of-aim.ensures
    ∙ ap
    (λ s. record {
      goal = c.self.inside.stipulation.goal;
      hero_first = same_side c.self.inside.stipulation.hero
          s;
    }) c.to_move.ensures in
    let right : AllAddUp (aim_of (restarted b.study c.args.start u)) u = subst (λ (a : Aim). AllAddUp a u) aim c.relabel_all.ensures.right in
    λ h. shifted-right c.as_slice.result.now b c.args.start u (next_count c.relabel_all.new.tree.relabelled) evaluated right
    (subst (λ (ts : List Evaluation). AllAreEvaluated c.args.start.position (reevaluated_tree ts (evaluation_tree b.study.tree)))
    (sym c.as_slice.ensures.value) (c.in_ok-all.ensures.game h))

pub returns-clause-relabelled : goal.returns-clause-relabelled
returns-clause-relabelled g c =
    let b = bench_state_of c.self.inside.start c.self.inside.stipulation c.self.inside.tags c.self.inside.tree in
    next_count-later (size_of (plain_tree c.self.inside.tree)) c.self.inside.tree.relabelled c.relabel_all.new.tree.relabelled c.relabel_all.ensures.count
    ∙ ap (λ n. counted_up_by n (next_count c.self.inside.tree.relabelled)) (size-marked_study b c.args.self.now c.self.view_is)
    ∙ ap (λ (k : BenchState). counted_up_by (size_of (marked_study c.args.self.now).tree) k.relabelled) c.self.view_is

pub returns-clause-asked : goal.returns-clause-asked
returns-clause-asked g c =
    let b = bench_state_of c.self.inside.start c.self.inside.stipulation c.self.inside.tags c.self.inside.tree in
    let same = asked-shifted b c.args.self.now c.args.start c.self.view_is in
    c.in_ok-all.ensures.asked ∙ ap (λ (ps : List Position). counted_up_by (length ps) (g.V.Values.source.asked_of c.args.values.now)) same

pub returns-in_err-all-clause-first : goal.returns-in_err-all-clause-first
returns-in_err-all-clause-first g c =
    let b = bench_state_of c.self.inside.start c.self.inside.stipulation c.self.inside.tags c.self.inside.tree in
    let same = asked-shifted b c.args.self.now c.args.start c.self.view_is in
    same-first g.V.Values.source c.args.values.now
    (positions_asked (with_start (plain_study (marked_study c.args.self.now)) c.args.start)) c.evaluate_all.new.values c.from_residual.result
    c.in_err-all.field-0.0 c.from_residual.ensures.1
    (subst (λ (ps : List Position). TellsFirstFault g.V.Values.source c.args.values.now ps c.evaluate_all.new.values
    c.in_err-all.field-0.0) same c.in_err-all.ensures.first)

pub returns-in_err-all-clause-no_damage : goal.returns-in_err-all-clause-no_damage
returns-in_err-all-clause-no_damage g c = λ h.
    same-undamaged c.in_err-all.field-0.0 c.from_residual.result c.from_residual.ensures.1 (c.in_err-all.ensures.no_damage h)
