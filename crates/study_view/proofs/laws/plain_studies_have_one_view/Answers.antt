use Rattle.std.proofs.Common.{sym, subst, ◌∙◌}
use Rattle.study_marks.specs.declared.mark.Mark.{Mark}
use Rattle.study_marks.specs.Study.{Study}
use Rattle.study_view.specs.View.{IsView}
use Rattle.study_view.proofs.laws.plain_studies_have_one_view.Goals as goal

pub returns : goal.returns
returns c plain path t u h j =
    let same = c.annotations_are_unique.ensures h.0 j.0 h.2 j.2 (h.1 ∙ sym j.1) in
    c.views_are_unique.ensures j.0 path t u (subst (λ (s : Study Mark). IsView s path t) same h.3) j.3
