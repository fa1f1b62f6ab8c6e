use Rattle.std.proofs.Common.{Bool, refl, sym, ◌∙◌, subst}
use Rattle.study_board.specs.Position.{Position}
use Rattle.study_notation.specs.Matching.{move_of}
use Rattle.study_tree.specs.Tree.{has_spot}
use Rattle.study_marks.specs.Study.{plain_study}
use Rattle.study_marks.specs.BenchState.{marked_study}
use Rattle.study_script.specs.declared.document.Document.TheVariants as held
use Rattle.study_reply.specs.declared.refusal.Refusal.TheVariants.{NoSuchNode}
use Rattle.study_script.specs.State.{Environment, quiet}
use Rattle.study_script.specs.SessionHolds.{Holds}
use Rattle.study_script.specs.Replies.{refused_reply, IsMoveReply, IsMoveReplyAt}
use Rattle.study_script.proofs.Executions.{executed_weaker}
use Rattle.study_script.proofs.PlainNodes.{start_there, start_gone, position_at-plain}
use Rattle.std.proofs.Common.{◌≡◌, Some}
use Rattle.study_command.specs.Documents.{after_move}
use Rattle.study_command.specs.Parser.{insert}
use Rattle.study_script.specs.SessionHolds.{bench_seen}
use Rattle.study_script.proofs.DocumentsLeft.{leaves_ruled}
use Rattle.study_script.proofs.changes.insert_at.Goals as goal

pub insert_san-requires : goal.insert_san-requires
insert_san-requires g c =
    record { at = (start_there (marked_study c.args.bench.now) c.args.path c.in-Some.start (sym c.in-Some.is ∙ c.start_at.ensures)).1 }

pub returns-in-Some-clause-done : goal.returns-in-Some-clause-done
returns-in-Some-clause-done g c = λ s h.
    let shown = marked_study c.args.bench.now in
    let old = plain_study shown in
    let there = start_there shown c.args.path c.in-Some.start (sym c.in-Some.is ∙ c.start_at.ensures) in executed_weaker
    {I = λ (o : Environment). IsMoveReply s o old c.args.path (move_of c.in-Some.start.position c.args.san.now)}
    {J = λ (o : Environment). IsMoveReplyAt s o old c.args.path c.args.san.now (has_spot old.tree c.args.path)}
    {H = Holds g.P.PageSource.honest g.P.PageSource.gives (held.Study c.insert_san.new.bench) c.insert_san.new.tables}
    {K = Holds g.P.PageSource.honest g.P.PageSource.gives (held.Study c.insert_san.new.bench) c.insert_san.new.tables} c.insert_san.result
    (λ o r i. subst (λ (x : Bool). IsMoveReplyAt s o old c.args.path c.args.san.now x r) (sym there.0)
    (subst (λ (x : Position). IsMoveReply s o old c.args.path (move_of x c.args.san.now) r)
    (there.1 ∙ sym (position_at-plain shown c.args.path)) i)) (λ t m. m) (c.insert_san.ensures.done s h)

pub returns-clause-done : goal.returns-clause-done
returns-clause-done g c = λ s h. let shown = marked_study c.args.bench.now in (
  quiet,
  s,
  subst (λ (x : Bool). IsMoveReplyAt s quiet (plain_study shown) c.args.path c.args.san.now x (refused_reply s NoSuchNode))
      (sym (start_gone shown c.args.path (sym c.in-None.is ∙ c.start_at.ensures))) refl,
  h,
)

pub returns-in-Some-clause-document : goal.returns-in-Some-clause-document
returns-in-Some-clause-document g c =
    let shown = marked_study c.args.bench.now in
    let there = start_there shown c.args.path c.in-Some.start (sym c.in-Some.is ∙ c.start_at.ensures) in
    leaves_ruled c.insert_san.result (insert c.args.path c.args.san.now)
    (after_move (plain_study shown) c.args.path (move_of c.in-Some.start.position c.args.san.now))
    (bench_seen c.args.bench.now) (bench_seen c.insert_san.new.bench)
    (λ e. subst (λ (x : Position). after_move (plain_study shown) c.args.path (move_of x c.args.san.now) ≡ Some (bench_seen c.insert_san.new.bench))
    (there.1 ∙ sym (position_at-plain shown c.args.path)) e)
    c.insert_san.ensures.document
