use Rattle.std.proofs.Common.{Result, refl, sym, ◌∙◌, subst}
use Rattle.study_notation.specs.declared.start.Start.{Start}
use Rattle.study_reply.specs.declared.refusal.Refusal.{Refusal}
use Rattle.study_reply.specs.Words.{solve_text}
use Rattle.study_script.specs.Replies.{accepted_reply, refused_reply, IsSolveReply}
use Rattle.study_script.proofs.HeldBehindReplies.{document_kept, solution_of}
use Rattle.study_script.proofs.queries.solve_at.Goals as goal

pub returns-in-Ok : goal.returns-in-Ok
returns-in-Ok g c = λ s h. let found = c.start_at.ensures s h in (
  found.0,
  s,
  subst
      (λ (x : Result Start Refusal). IsSolveReply s c.args.count.number x (accepted_reply s (solve_text c.solve.result)))
      (sym c.in-Ok.is ∙ found.1) (
        c.solve.result,
        (solution_of c.in-Ok.start.position c.args.count.number c.solve.result c.solve.ensures.forced
            c.solve.ensures.least c.solve.ensures.within c.solve.ensures.none),
        refl,
      ),
  document_kept c.args.document.now s h,
)

pub returns-in-Err : goal.returns-in-Err
returns-in-Err g c = λ s h. let found = c.start_at.ensures s h in (
  found.0,
  s,
  subst (λ (x : Result Start Refusal). IsSolveReply s c.args.count.number x (refused_reply s c.in-Err.refusal))
      (sym c.in-Err.is ∙ found.1) refl,
  document_kept c.args.document.now s h,
)
