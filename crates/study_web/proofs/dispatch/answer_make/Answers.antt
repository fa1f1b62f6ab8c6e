use Rattle.std.proofs.Common.{refl}
use Rattle.study_web.specs.Answers.{IsMadeFile, IsMakeDenial, IsNoMemory}
use Rattle.study_web.proofs.Denials.{whole_reported}
use Rattle.study_web.proofs.dispatch.answer_make.Goals as goal

pub returns : goal.returns
returns g c =
    let spans = c.args.spans.now in
    let bytes = c.args.bytes.now in
    whole_reported c.file_of.result (λ v. v.items) (IsMadeFile spans bytes c.args.class) (IsMakeDenial spans bytes c.args.class) IsNoMemory
    c.answer_of.result.text.items c.answer_of.result.ended c.answer_of.ensures.text c.answer_of.ensures.none c.file_of.ensures.file c.file_of.ensures.none refl
