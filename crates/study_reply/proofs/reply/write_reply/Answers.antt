use Rattle.study_text.proofs.TextTaken.{OnErr-known}
use Rattle.study_reply.proofs.reply.write_reply.Goals as goal

pub returns-in_err-put_reply-in-Ok-Some-clause-err : goal.returns-in_err-put_reply-in-Ok-Some-clause-err
returns-in_err-put_reply-in-Ok-Some-clause-err g c = rw (c.in-Ok-Some.is, c.in-Ok-Some.field-0-is) (OnErr-known _ _ c.in_err-put_reply-in-Ok-Some.ensures.err)

pub returns-in_err-put_refused-in-Err-clause-err : goal.returns-in_err-put_refused-in-Err-clause-err
returns-in_err-put_refused-in-Err-clause-err g c = rw c.in-Err.is (OnErr-known _ _ c.in_err-put_refused-in-Err.ensures.err)
