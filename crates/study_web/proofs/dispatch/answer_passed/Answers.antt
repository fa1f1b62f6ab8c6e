use Rattle.std.proofs.Common.{◌≡◌, refl}
use Rattle.study_view.specs.Setup.{passed_squares}
use Rattle.study_web.specs.Answers.{IsNoMemory, IsOutOfMemory}
use Rattle.study_web.specs.Setup.{squares_text}
use Rattle.study_web.proofs.Denials.{whole_reported}
use Rattle.study_web.proofs.dispatch.answer_passed.Goals as goal

pub returns : goal.returns
returns g c =
    let p = c.args.start.now.position in
    whole_reported c.passed_of.result (λ v. v.items) (λ text. text ≡ squares_text (passed_squares p.men p.to_move)) IsOutOfMemory IsNoMemory
    c.answer_of.result.text.items c.answer_of.result.ended c.answer_of.ensures.text c.answer_of.ensures.none c.passed_of.ensures.text
    c.passed_of.ensures.none refl
