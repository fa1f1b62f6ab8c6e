use Rattle.std.proofs.Common.{ℕ, List, get_or, inl, inr, sym, ◌∙◌, ap, subst, ◌%◌}
use Rattle.study_values.specs.Cells.{value_of}
use Rattle.study_prober.specs.Sources.{IsGivenPage, cells_on_page}
use Rattle.study_prober.specs.declared.page_cache.PageKey.{PageKey}
use Rattle.study_prober.proofs.Cells.{page_of_cell, cell_of_page, value_of_cell}
use Rattle.study_prober.proofs.open_table.value_of_number.Goals as goal

pub read_value_from_page-requires-clause-number : goal.read_value_from_page-requires-clause-number
read_value_from_page-requires-clause-number g c = rw c.page_key-key.ensures (page_of_cell c.args.held.now.header.class c.args.number c.requires.number)

pub returns-in-Some-clause-ok : goal.returns-in-Some-clause-ok
returns-in-Some-clause-ok g c = λ t honest same kept.
    let found = c.in-Some.ensures.found in
    let own =
    kept.is (_, found.0) found.1 (ap (λ (k : PageKey). k.class) c.page_key-key.ensures ∙ sym same)
    ∙ ap (λ (k : PageKey). cells_on_page t k.number) c.page_key-key.ensures in
    c.value_at.ensures ∙ ap value_of (found.2 ∙ ap (λ (cells : List ℕ). get_or cells (c.args.number % 4096) 0) own ∙ cell_of_page t c.args.number)

pub returns-in-None-clause-ok : goal.returns-in-None-clause-ok
returns-in-None-clause-ok g c =
    λ t honest same kept. value_of_cell t c.args.number c.read_value_from_page.result
    (rw c.page_key-key.ensures at (c.read_value_from_page.ensures.ok t honest same))

pub returns-in-None-clause-more : goal.returns-in-None-clause-more
returns-in-None-clause-more g c = λ e h.
    elim (c.read_value_from_page.ensures.more e h) [
      | inl was ↦ inl (c.in-None.ensures.fewer e was)
      | inr new ↦ inr (
        ap (λ (k : PageKey). k.class) (new.0 ∙ c.page_key-key.ensures),
        λ t honest same. new.1 t honest same ∙ ap (λ (k : PageKey). cells_on_page t k.number) (sym new.0),
      )
    ]

pub returns-in-Some-clause-read : goal.returns-in-Some-clause-read
returns-in-Some-clause-read g c = λ kept.
    let found = c.in-Some.ensures.found in
    let checked = kept (_, found.0) found.1 (ap (λ (k : PageKey). k.class) c.page_key-key.ensures) in (
      found.0.items,
      subst (λ (k : PageKey). IsGivenPage g.S.PageSource.gives c.args.held.now k.number found.0.items)
          c.page_key-key.ensures checked,
      c.value_at.ensures ∙ ap value_of found.2,
    )

pub returns-in-None-clause-read : goal.returns-in-None-clause-read
returns-in-None-clause-read g c = λ kept. rw c.page_key-key.ensures at c.read_value_from_page.ensures.read

pub returns-in-None-clause-given : goal.returns-in-None-clause-given
returns-in-None-clause-given g c = λ e h.
    elim (c.read_value_from_page.ensures.given e h) [
      | inl was ↦ inl (c.in-None.ensures.fewer e was)
      | inr new ↦ inr (
        new.0 ∙ c.page_key-key.ensures,
        subst (λ (k : PageKey). IsGivenPage g.S.PageSource.gives c.args.held.now k.number e.1.items)
            c.page_key-key.ensures new.1,
      )
    ]
