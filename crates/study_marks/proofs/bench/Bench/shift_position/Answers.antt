use Rattle.std.proofs.Common.{refl, sym, ◌∙◌}
use Rattle.study_marks.specs.Study.{plain_study}
use Rattle.study_marks.specs.BenchState.{marked_study}
use Rattle.study_marks.specs.Edits.{with_start}
use Rattle.study_marks.specs.Queries.{positions_asked}
use Rattle.study_marks.specs.Bench.{bench_state_of}
use Rattle.study_marks.proofs.StartShifted.{at-root, within-root, broken-shown, broken-marked_study, legal-shifted, shift-broken, shift-outside, on-ok}
use Rattle.study_marks.proofs.bench.Bench.shift_position.Goals as goal

pub find_illegal_move-requires-clause-shallow : goal.find_illegal_move-requires-clause-shallow
find_illegal_move-requires-clause-shallow g c =
    within-root c.root.result c.new-steps.result.items c.new-steps.ensures c.root.ensures c.self.invariant.0.shallow

pub returns-then-find_illegal_move-clause-refusal : goal.returns-then-find_illegal_move-clause-refusal
returns-then-find_illegal_move-clause-refusal g c =
    let b = bench_state_of c.self.inside.start c.self.inside.stipulation c.self.inside.tags c.self.inside.tree in
    let x = c.if-find_illegal_move.ensures.broken refl in
    shift-broken (g.V.Values.source.held c.args.values.now)
    (positions_asked (with_start (plain_study (marked_study c.args.self.now)) c.args.start)) b c.args.self.now c.args.start
    c.self.view_is c.new-steps.result.items x.0 c.find_illegal_move.new.steps.items c.as_slice.result.now c.shift_broken_at.result c.new-steps.ensures
    (at-root c.args.start.position c.root.ensures ∙ x.1) x.2 c.as_slice.ensures.value c.shift_broken_at.ensures

pub annotate-requires : goal.annotate-requires
annotate-requires g c =
    let b = bench_state_of c.self.inside.start c.self.inside.stipulation c.self.inside.tags c.self.inside.tree in
    let whole = (c.if-find_illegal_move.ensures.whole refl).0 in
    record { playable = legal-shifted b c.args.self.now c.args.start.position c.self.view_is (at-root c.args.start.position c.root.ensures ∙ whole) }

pub returns-clause-broken : goal.returns-clause-broken
returns-clause-broken g c =
    let b = bench_state_of c.self.inside.start c.self.inside.stipulation c.self.inside.tags c.self.inside.tree in
    let whole = (c.if-find_illegal_move.ensures.whole refl).0 in
    on-ok c.annotate.result _ (sym (broken-marked_study c.args.self.now c.args.start.position)
    ∙ sym (broken-shown b c.args.self.now c.args.start.position c.self.view_is) ∙ at-root c.args.start.position c.root.ensures ∙ whole)

pub returns-clause-refusal : goal.returns-clause-refusal
returns-clause-refusal g c =
    let b = bench_state_of c.self.inside.start c.self.inside.stipulation c.self.inside.tags c.self.inside.tree in
    let whole = (c.if-find_illegal_move.ensures.whole refl).0 in
    shift-outside (g.V.Values.source.held c.args.values.now)
    (positions_asked (with_start (plain_study (marked_study c.args.self.now)) c.args.start)) b c.args.self.now c.args.start
    c.self.view_is c.annotate.result (at-root c.args.start.position c.root.ensures ∙ whole) c.annotate.ensures.refusal
