use Rattle.std.proofs.Common.{Result, refl, sym, ◌∙◌, subst}
use Rattle.study_notation.specs.declared.start.Start.{Start}
use Rattle.study_notation.specs.declared.fault.FenFault.{FenFault}
use Rattle.study_command.specs.declared.command.FenCommand.TheVariants.{Position}
use Rattle.study_reply.specs.declared.refusal.Refusal.TheVariants.{Fen}
use Rattle.study_script.specs.State.{quiet}
use Rattle.study_script.specs.Replies.{refused_reply, IsStartReply}
use Rattle.std.proofs.Common.{◌≡◌, Some, Ok}
use Rattle.study_command.specs.Parser.{fen_command}
use Rattle.study_command.specs.Documents.{after_position}
use Rattle.study_script.specs.SessionHolds.{document_seen}
use Rattle.study_script.proofs.DocumentsLeft.{leaves_ruled}
use Rattle.study_script.proofs.position_commands.read_position.Goals as goal

pub returns-in-Ok-clause-done : goal.returns-in-Ok-clause-done
returns-in-Ok-clause-done g c = λ s h. rw (← c.read_fen.ensures) (rw c.in-Ok.is (c.set_position.ensures.done s h))

pub returns-in-Err-clause-done : goal.returns-in-Err-clause-done
returns-in-Err-clause-done g c = λ s h. (
  quiet,
  s,
  subst (λ (x : Result Start FenFault). IsStartReply s quiet Position s.document x (refused_reply s (Fen c.in-Err.fault)))
      (sym c.in-Err.is ∙ c.read_fen.ensures) refl,
  h,
)

pub returns-in-Ok-clause-document : goal.returns-in-Ok-clause-document
returns-in-Ok-clause-document g c =
    let old = document_seen c.args.document.now in
    let new = document_seen c.set_position.new.document in
    leaves_ruled c.set_position.result (fen_command Position c.args.fen.now) (after_position old (Ok c.in-Ok.start)) old new
    (λ e. subst (λ (x : Result Start FenFault). after_position old x ≡ Some new) (sym c.in-Ok.is ∙ c.read_fen.ensures) e) c.set_position.ensures.document
