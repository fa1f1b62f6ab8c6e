use Rattle.std.proofs.Common.{refl, ap, ◌∙◌, subst}
use Rattle.study_marks.specs.BenchState.{marked_study}
use Rattle.study_head.specs.declared.verdict.Judgement.{Judgement}
use Rattle.study_html.specs.declared.element.Element.TheVariants as element
use Rattle.study_html.specs.Elements.{element_text}
use Rattle.study_html.specs.Markup.{IsWellNested}
use Rattle.study_page.specs.Page.{entry_content}
use Rattle.study_page.proofs.WholePage.{from-nothing}
use Rattle.study_page.proofs.page.entry_of.Goals as goal

pub returns-clause-text : goal.returns-clause-text
returns-clause-text g c h =
    let s = marked_study c.args.bench.now in
    let parts = c.in_ok-found.found.parts in
    let p = c.in_ok-found.ensures.text h in (
      parts.faults,
      parts.duals,
      parts.tries,
      parts.zugzwangs,
      parts.defences,
      parts.ends,
      c.in_ok-found.found.facts,
      p.0,
      c.in_ok-found.ensures.facts h,
      p.1,
      p.2,
      p.3,
      p.4,
      p.5,
      from-nothing _ _ _ c.new-page.ensures c.in_ok-put.ensures
          ∙ ap (element_text (element.Entry c.args.info.number)) (from-nothing _ _ _ c.new-content.ensures c.in_ok-put_entry.ensures
          ∙ ap (λ (j : Judgement). entry_content s c.args.info j parts.faults parts.duals parts.tries parts.zugzwangs parts.defences parts.ends)
          c.entry_judgement-judged.ensures.judged),
    )

pub returns-clause-rows : goal.returns-clause-rows
returns-clause-rows g c h = (_, (c.in_ok-found.found.facts, c.in_ok-found.ensures.facts h, refl), c.in_ok-rows.ensures)

pub returns-clause-entry : goal.returns-clause-entry
returns-clause-entry g c = (
  _,
  subst IsWellNested c.as_slice-content.ensures.text c.as_slice-content.ensures.nested,
  from-nothing _ _ _ c.new-page.ensures c.in_ok-put.ensures,
)
