use Rattle.std.proofs.Common.{◌≡◌, sym, ◌∙◌}
use Rattle.std.proofs.lemmas.Result.{IfOk-weaker}
use Rattle.study_reply.specs.Replied.{refused_words, error_text}
use Rattle.study_print.specs.Refusals.{refusal_name}
use Rattle.study_print.proofs.Refused.{name-of}
use Rattle.study_print.proofs.refusals.refusal_name.Goals as goal

pub returns : goal.returns
returns g c =
    IfOk-weaker c.refused_words.result (λ name. name.items ≡ refused_words c.args.refused.now)
    (λ name. name.items ≡ refusal_name (error_text c.args.refused.now))
    (λ name e. e ∙ sym (name-of (refused_words c.args.refused.now))) c.refused_words.ensures
