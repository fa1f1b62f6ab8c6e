use Rattle.std.proofs.Common.{◌≡◌, List, length, ap, ◌∙◌, subst}
use Rattle.std.specs.Prelude.{IfErr, OnOk}
use Rattle.study_board.specs.Position.{Position}
use Rattle.study_marks.specs.Study.{plain_study}
use Rattle.study_marks.specs.BenchState.{BenchState, marked_study}
use Rattle.study_marks.specs.Edits.{with_start}
use Rattle.study_marks.specs.Queries.{positions_asked, AllHeld, IsOutside, HasAsked}
use Rattle.study_marks.proofs.BenchRewritten.{asked-plain}
use Rattle.study_marks.specs.Answers.{TellsFirstFault}
use Rattle.study_marks.proofs.bench.Bench.reannotate.Goals as goal

pub returns-clause-refusal : goal.returns-clause-refusal
returns-clause-refusal g c =
    let start : c.copied-start.result ≡ c.args.self.now.study.start = c.copied-start.ensures ∙ ap (λ (k : BenchState). k.study.start) c.self.view_is in
    let same : positions_asked (with_start (plain_study (marked_study c.args.self.now)) c.copied-start.result)
    ≡ positions_asked (marked_study c.args.self.now) =
    ap (λ s. positions_asked (with_start (plain_study (marked_study c.args.self.now)) s)) start ∙ asked-plain (marked_study c.args.self.now) in
    subst (λ (ps : List Position). IfErr c.annotate.result (IsOutside (g.V.Values.source.held c.args.values.now) ps)) same c.annotate.ensures.refusal

pub returns-clause-found : goal.returns-clause-found
returns-clause-found g c =
    let start : c.copied-start.result ≡ c.args.self.now.study.start = c.copied-start.ensures ∙ ap (λ (k : BenchState). k.study.start) c.self.view_is in
    let same : positions_asked (with_start (plain_study (marked_study c.args.self.now)) c.copied-start.result)
    ≡ positions_asked (marked_study c.args.self.now) =
    ap (λ s. positions_asked (with_start (plain_study (marked_study c.args.self.now)) s)) start ∙ asked-plain (marked_study c.args.self.now) in
    subst (λ (ps : List Position). OnOk c.annotate.result (AllHeld (g.V.Values.source.held c.args.values.now) ps)) same c.annotate.ensures.found

pub returns-clause-asked : goal.returns-clause-asked
returns-clause-asked g c =
    let start : c.copied-start.result ≡ c.args.self.now.study.start = c.copied-start.ensures ∙ ap (λ (k : BenchState). k.study.start) c.self.view_is in
    let same : positions_asked (with_start (plain_study (marked_study c.args.self.now)) c.copied-start.result)
    ≡ positions_asked (marked_study c.args.self.now) =
    ap (λ s. positions_asked (with_start (plain_study (marked_study c.args.self.now)) s)) start ∙ asked-plain (marked_study c.args.self.now) in
    subst (λ (ps : List Position). HasAsked (length ps) c.annotate.result (g.V.Values.source.asked_of c.args.values.now)
    (g.V.Values.source.asked_of c.annotate.new.values)) same c.annotate.ensures.asked

pub returns-clause-first : goal.returns-clause-first
returns-clause-first g c =
    let start : c.copied-start.result ≡ c.args.self.now.study.start = c.copied-start.ensures ∙ ap (λ (k : BenchState). k.study.start) c.self.view_is in
    let same : positions_asked (with_start (plain_study (marked_study c.args.self.now)) c.copied-start.result)
    ≡ positions_asked (marked_study c.args.self.now) =
    ap (λ s. positions_asked (with_start (plain_study (marked_study c.args.self.now)) s)) start ∙ asked-plain (marked_study c.args.self.now) in
    subst (λ (ps : List Position). IfErr c.annotate.result (TellsFirstFault g.V.Values.source
    c.args.values.now ps c.annotate.new.values)) same c.annotate.ensures.first
