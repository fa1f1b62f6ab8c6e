use Rattle.study_web.proofs.dispatch.answer_run.Goals as goal

pub returns : goal.returns
returns g c =
    let ended = c.replies_over-ended in (
      ended.result.summary,
      c.ran.ensures.ended,
      ended.ensures.own,
      ended.ensures.shape,
      rw c.ran.ensures.text ended.ensures.fits,
      λ trusted right trusts. rw c.ran.ensures.text (ended.ensures.outcome trusted right trusts),
    )
