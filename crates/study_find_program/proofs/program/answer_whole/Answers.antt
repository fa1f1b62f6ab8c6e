use Rattle.std.proofs.Common.{inr, refl}
use Rattle.study_find_program.proofs.StopsWritten.{whole_or_stopped}
use Rattle.study_find_program.proofs.program.answer_whole.Goals as goal

pub returns-in-Err-clause-list : goal.returns-in-Err-clause-list
returns-in-Err-clause-list g c h = (g.W.Write.contents c.answer_watched-answered.new.out, inr refl, c.flush.ensures.bytes)

pub returns-in-Ok-clause-list : goal.returns-in-Ok-clause-list
returns-in-Ok-clause-list g c h =
    let options = c.args.options.now in
    let written = g.W.Write.contents c.answer_watched-answered.new.out in (
      written,
      whole_or_stopped c.answer_watched-answered.result options.request options.output (g.W.Write.contents c.args.out.now) written
          (c.answer_watched-answered.ensures.answered h) (c.answer_watched-answered.ensures.stopped h),
      c.flush.ensures.bytes,
    )
