use Rattle.std.proofs.Common.{sym, subst, ◌∙◌}
use Rattle.study_marks.specs.declared.mark.Mark.{Mark}
use Rattle.study_marks.specs.Study.{Study}
use Rattle.study_page.specs.Page.{IsPage}
use Rattle.study_page.proofs.laws.plain_studies_have_one_page.Goals as goal

pub returns : goal.returns
returns c plain number t u h j =
    let same = c.annotations_are_unique.ensures h.0 j.0 h.2 j.2 (h.1 ∙ sym j.1) in
    c.pages_are_unique.ensures j.0 number t u (subst (λ (s : Study Mark). IsPage s number t) same h.3) j.3
