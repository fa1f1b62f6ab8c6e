use Rattle.std.proofs.Common.{◌≡◌, refl}
use Rattle.study_web.specs.Answers.{IsNoMemory, IsOutOfMemory}
use Rattle.study_web.specs.CoreWords.{core_words}
use Rattle.study_web.proofs.Denials.{whole_reported}
use Rattle.study_web.proofs.dispatch.of_words.Goals as goal

pub returns : goal.returns
returns g c =
    whole_reported c.words_of.result (λ v. v.items) (λ text. text ≡ core_words) IsOutOfMemory IsNoMemory
    c.answer_of.result.text.items c.answer_of.result.ended c.answer_of.ensures.text c.answer_of.ensures.none c.words_of.ensures.text
    c.words_of.ensures.none refl
