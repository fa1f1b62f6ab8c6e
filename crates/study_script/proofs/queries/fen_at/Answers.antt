use Rattle.std.proofs.Common.{sym, ap, ◌∙◌}
use Rattle.study_script.specs.Replies.{fen_reply}
use Rattle.study_script.proofs.HeldBehindReplies.{document_kept}
use Rattle.study_script.proofs.queries.fen_at.Goals as goal

pub returns-in-Ok : goal.returns-in-Ok
returns-in-Ok g c = λ s h. let found = c.start_at.ensures s h in
    (found.0, s, ap (fen_reply s) (sym c.in-Ok.is ∙ found.1), document_kept c.args.document.now s h)

pub returns-in-Err : goal.returns-in-Err
returns-in-Err g c = λ s h. let found = c.start_at.ensures s h in
    (found.0, s, ap (fen_reply s) (sym c.in-Err.is ∙ found.1), document_kept c.args.document.now s h)
