use Rattle.std.proofs.Common.{◌≡◌, refl}
use Rattle.study_import.specs.Imported.{script_of}
use Rattle.study_web.specs.Answers.{IsNoMemory, IsOutOfMemory}
use Rattle.study_web.proofs.Denials.{whole_reported}
use Rattle.study_web.proofs.dispatch.of_import.Goals as goal

pub returns : goal.returns
returns g c =
    whole_reported c.imported_of.result (λ v. v.items) (λ text. text ≡ script_of c.args.choice c.args.pgn.now) IsOutOfMemory IsNoMemory
    c.answer_of.result.text.items c.answer_of.result.ended c.answer_of.ensures.text c.answer_of.ensures.none c.imported_of.ensures.text
    c.imported_of.ensures.none
    refl
