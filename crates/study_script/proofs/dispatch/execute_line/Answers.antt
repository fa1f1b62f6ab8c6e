use Rattle.std.proofs.Common.{◌≡◌, [], Ok, Some, refl, sym, ap, subst, ◌∙◌}
use Rattle.study_reply.specs.declared.refusal.Refusal.TheVariants.{Form}
use Rattle.study_reply.specs.Names.{words_of}
use Rattle.study_command.specs.Parser.{Asks, line_seen, command_of, command_seen}
use Rattle.study_script.specs.State.{quiet}
use Rattle.study_script.specs.Replies.{accepted_reply, refused_reply, IsReplyTo, IsReplyWhere}
use Rattle.study_script.specs.Executed.{ExecutedLine, line_piece}
use Rattle.study_script.specs.Stores.{HonestOn, IsTrustedAsk}
use Rattle.study_script.specs.Session.{SessionHolds}
use Rattle.study_script.specs.Written.{IsPieceWhere, silent_piece, error_of}
use Rattle.study_script.proofs.Executions.{executed-line}
use Rattle.study_script.proofs.DonePieces.{piece-of}
use Rattle.study_script.specs.SessionHolds.{document_seen}
use Rattle.study_command.specs.Documents.{IsAfterLine}
use Rattle.study_script.specs.Executed.{LeavesLine}
use Rattle.study_script.proofs.DocumentsLeft.{leaves_line}
use Rattle.study_script.proofs.dispatch.execute_line.Goals as goal

pub returns-in-Ok-None-clause-done : goal.returns-in-Ok-None-clause-done
returns-in-Ok-None-clause-done g c = λ trusted s may d. (
  quiet,
  s,
  subst (λ (x : Asks). IsReplyWhere s quiet x (accepted_reply s []))
      c.read_command.ensures (subst (λ x. IsReplyWhere s quiet (line_seen x) (accepted_reply s [])) (sym c.in-Ok-None.is)
      (subst (λ x. IsReplyWhere s quiet (line_seen (Ok x)) (accepted_reply s [])) (sym c.in-Ok-None.field-0-is) refl)),
  d,
)

pub returns-in-Err-clause-done : goal.returns-in-Err-clause-done
returns-in-Err-clause-done g c = λ trusted s may d. (
  quiet,
  s,
  subst (λ (x : Asks). IsReplyWhere s quiet x (refused_reply s (Form c.in-Err.fault))) c.read_command.ensures
      (subst (λ x. IsReplyWhere s quiet (line_seen x) (refused_reply s (Form c.in-Err.fault))) (sym c.in-Err.is) refl),
  d,
)

pub returns-in-Ok-Some-clause-done : goal.returns-in-Ok-Some-clause-done
returns-in-Ok-Some-clause-done g c = λ trusted s may d.
    let seen : command_of c.args.line.now ≡ Ok (Some (command_seen c.in-Ok-Some.command)) =
    sym c.read_command.ensures ∙ ap line_seen (c.in-Ok-Some.is ∙ ap Ok c.in-Ok-Some.field-0-is) in
    let H = (SessionHolds g.S.Pages.PageSource.honest g.S.Pages.PageSource.gives (HonestOn trusted g.S.TableStore.honest) g.S.TableStore.files
    g.S.TableStore.headers g.S.TableStore.faults c.execute.new.document c.execute.new.tables c.execute.new.store) in
    subst (λ (x : Asks). ExecutedLine (λ o. IsReplyWhere s o x) H c.of_command.result) (sym seen)
    (subst (λ a. ExecutedLine (λ o. IsReplyTo s o (command_seen c.in-Ok-Some.command)) H a) (sym c.of_command.ensures)
    (executed-line (λ o. IsReplyTo s o (command_seen c.in-Ok-Some.command)) H c.execute.result
    (c.execute.ensures.done trusted s (subst (λ (x : Asks). IsTrustedAsk trusted x) seen may) d)))

pub returns-in-Ok-None-clause-piece : goal.returns-in-Ok-None-clause-piece
returns-in-Ok-None-clause-piece g c =
    subst (λ (x : Asks). IsPieceWhere x silent_piece) c.read_command.ensures (subst (λ x. IsPieceWhere (line_seen x) silent_piece) (sym c.in-Ok-None.is)
    (subst (λ x. IsPieceWhere (line_seen (Ok x)) silent_piece) (sym c.in-Ok-None.field-0-is) refl))

pub returns-in-Err-clause-piece : goal.returns-in-Err-clause-piece
returns-in-Err-clause-piece g c =
    let piece = error_of (words_of (Form c.in-Err.fault)) in
    subst (λ (x : Asks). IsPieceWhere x piece) c.read_command.ensures (subst (λ x. IsPieceWhere (line_seen x) piece) (sym c.in-Err.is) refl)

pub returns-in-Ok-Some-clause-piece : goal.returns-in-Ok-Some-clause-piece
returns-in-Ok-Some-clause-piece g c =
    let seen : command_of c.args.line.now ≡ Ok (Some (command_seen c.in-Ok-Some.command)) =
    sym c.read_command.ensures ∙ ap line_seen (c.in-Ok-Some.is ∙ ap Ok c.in-Ok-Some.field-0-is) in
    subst (λ (x : Asks). IsPieceWhere x (line_piece c.of_command.result)) (sym seen)
    (subst (λ a. IsPieceWhere (Ok (Some (command_seen c.in-Ok-Some.command))) (line_piece a)) (sym c.of_command.ensures)
    (piece-of (command_seen c.in-Ok-Some.command) c.execute.result))

pub returns-in-Ok-None-clause-document : goal.returns-in-Ok-None-clause-document
returns-in-Ok-None-clause-document g c =
    let here = document_seen c.args.document.now in
    subst (λ (x : Asks). IsAfterLine here x here) c.read_command.ensures (subst (λ x. IsAfterLine here (line_seen x) here) (sym c.in-Ok-None.is)
    (subst (λ x. IsAfterLine here (line_seen (Ok x)) here) (sym c.in-Ok-None.field-0-is) refl))

pub returns-in-Ok-Some-clause-document : goal.returns-in-Ok-Some-clause-document
returns-in-Ok-Some-clause-document g c =
    let old = document_seen c.args.document.now in
    let new = document_seen c.execute.new.document in
    let seen : command_of c.args.line.now ≡ Ok (Some (command_seen c.in-Ok-Some.command)) =
    sym c.read_command.ensures ∙ ap line_seen (c.in-Ok-Some.is ∙ ap Ok c.in-Ok-Some.field-0-is) in
    subst (λ (x : Asks). LeavesLine c.of_command.result x old new) (sym seen)
    (subst (λ a. LeavesLine a (Ok (Some (command_seen c.in-Ok-Some.command))) old new) (sym c.of_command.ensures)
    (leaves_line c.execute.result (command_seen c.in-Ok-Some.command) old new c.execute.ensures.document))
