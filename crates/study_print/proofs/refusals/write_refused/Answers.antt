use Rattle.std.proofs.Common.{List, ℕ, subst, ◌∙◌}
use Rattle.std.specs.Prelude.{OnOk}
use Rattle.std.specs.Io.KnownBytes.{Appends}
use Rattle.study_text.specs.Taken.{TakesPrefix}
use Rattle.study_reply.specs.Replied.{refused_words}
use Rattle.study_print.proofs.Refused.{shown_as}
use Rattle.study_print.proofs.refusals.write_refused.Goals as goal

pub returns-clause-ok : goal.returns-clause-ok
returns-clause-ok g c =
    subst (λ (t : List ℕ). OnOk c.write_refusal.result (Appends (g.W.Write.contents c.args.out.now) (g.W.Write.contents c.write_refusal.new.out) t))
    (shown_as c.args.number c.args.line.now c.as_slice.result.now c.reason.result.now (refused_words c.args.refused.now)
    (c.as_slice.ensures.value ∙ c.in_ok-name.ensures) c.reason.ensures) c.write_refusal.ensures.ok

pub returns-clause-device : goal.returns-clause-device
returns-clause-device g c failed =
    subst (λ (t : List ℕ). TakesPrefix (g.W.Write.contents c.args.out.now) (g.W.Write.contents c.write_refusal.new.out) t)
    (shown_as c.args.number c.args.line.now c.as_slice.result.now c.reason.result.now (refused_words c.args.refused.now)
    (c.as_slice.ensures.value ∙ c.in_ok-name.ensures) c.reason.ensures) (c.write_refusal.ensures.device failed)
