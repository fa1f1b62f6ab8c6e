use Rattle.std.proofs.Common.{ℕ, List, take, get_or, inl, inr, sym, ◌∙◌, ap, subst}
use Rattle.std.proofs.lemmas.List.{get_or-take}
use Rattle.study_values.specs.Cells.{value_of}
use Rattle.study_prober.specs.Sources.{IsGivenPage}
use Rattle.study_tablefile.specs.PageSource.{page_of}
use Rattle.study_prober.proofs.Cells.{cells_of_text}
use Rattle.study_prober.proofs.Faults.{passed_on}
use Rattle.study_prober.proofs.open_table.read_value_from_page.Goals as goal

pub returns-clause-ok : goal.returns-clause-ok
returns-clause-ok g c = λ t honest same.
    let page = c.in_ok-page.ensures.ok t honest same in
    let text = page_of t c.args.held.now.header.version c.args.key.number in
    c.value_at.ensures ∙ ap value_of (ap (λ (bytes : List ℕ). get_or bytes c.args.at 0) page ∙ sym (get_or-take 4096 text c.args.at 0 c.requires.at)
    ∙ ap (λ (cells : List ℕ). get_or cells c.args.at 0) (cells_of_text t c.args.held.now.header.version c.args.key.number))

pub returns-clause-more : goal.returns-clause-more
returns-clause-more g c = λ e h.
    elim (c.cache_page.ensures.more e h) [
      | inl was ↦ inl was
      | inr new ↦ inr (
        new.0,
        λ t honest same. new.1 ∙ ap (λ (bytes : List ℕ). take 4096 bytes) (c.in_ok-page.ensures.ok t honest same)
            ∙ cells_of_text t c.args.held.now.header.version c.args.key.number,
      )
    ]

pub returns-in_err-page-clause-whole : goal.returns-in_err-page-clause-whole
returns-in_err-page-clause-whole g c = λ t honest same complete d n reported. c.in_err-page.ensures.whole t honest same
    complete d n (passed_on c.from_residual.result _ _ c.from_residual.ensures.1 reported)

pub returns-clause-read : goal.returns-clause-read
returns-clause-read g c = (
  take 4096 c.page.new.into,
  c.in_ok-page.ensures.checked,
  c.value_at.ensures ∙ ap value_of (sym (get_or-take 4096 c.page.new.into c.args.at 0 c.requires.at)),
)

pub returns-clause-given : goal.returns-clause-given
returns-clause-given g c = λ e h.
    elim (c.cache_page.ensures.more e h) [
      | inl was ↦ inl was
      | inr new ↦ inr (
        new.0,
        subst (λ (xs : List ℕ). IsGivenPage g.S.PageSource.gives c.args.held.now c.args.key.number xs)
            (sym new.1) c.in_ok-page.ensures.checked,
      )
    ]
