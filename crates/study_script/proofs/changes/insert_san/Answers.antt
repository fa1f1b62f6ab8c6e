use Rattle.std.proofs.Common.{Result, refl, sym, ◌∙◌, subst}
use Rattle.study_moves.specs.declared.moves.Move.{Move}
use Rattle.study_notation.specs.declared.fault.SanFault.{SanFault}
use Rattle.study_marks.specs.Study.{plain_study}
use Rattle.study_marks.specs.BenchState.{marked_study}
use Rattle.study_reply.specs.declared.refusal.Refusal.TheVariants.{San}
use Rattle.study_script.specs.State.{quiet}
use Rattle.study_script.specs.Replies.{refused_reply, IsMoveReply}
use Rattle.study_script.proofs.changes.insert_san.Goals as goal

pub returns-in-Ok-clause-done : goal.returns-in-Ok-clause-done
returns-in-Ok-clause-done g c = λ s h. rw (← c.read_san.ensures.value) (rw c.in-Ok.is (c.insert_move.ensures.done s h))

pub returns-clause-done : goal.returns-clause-done
returns-clause-done g c = λ s h. (
  quiet,
  s,
  subst (λ (x : Result Move SanFault). IsMoveReply s quiet (plain_study (marked_study c.args.bench.now)) c.args.path x (refused_reply s (San c.in-Err.fault)))
      (sym c.in-Err.is ∙ c.read_san.ensures.value) refl,
  h,
)

pub returns-in-Ok-clause-document : goal.returns-in-Ok-clause-document
returns-in-Ok-clause-document g c = rw (← c.read_san.ensures.value) (rw c.in-Ok.is c.insert_move.ensures.document)
