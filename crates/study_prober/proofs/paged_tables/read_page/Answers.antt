use Rattle.std.proofs.Common.{inr, rules, ◌<◌, ℕ, refl, sym, ◌∙◌, ap, subst}
use Rattle.std.specs.Prelude.{Some, slice_set}
use Rattle.study_material.specs.declared.class.Class.{Class}
use Rattle.study_values.specs.Size.{pages_of}
use Rattle.study_prober.specs.declared.open_table.OpenTable.{OpenTable}
use Rattle.study_prober.specs.Sources.{IsHeaderOf}
use Rattle.study_prober.proofs.HeldSources.{held_at}
use Rattle.study_prober.proofs.GivenPages.{one_held}
use Rattle.study_prober.proofs.paged_tables.read_page.Goals as goal

pub cells-requires-clause-header : goal.cells-requires-clause-header
cells-requires-clause-header g c =
    let is = held_at c.args.sources.now.items c.args.class c.number-at.result c.index_mut.result.now c.in-Some.held c.number-at.ensures.value
    (search rules) c.index_mut.ensures.value c.in-Some.is in
    let header = c.requires.headers c.args.class c.in-Some.held is.1 in
    subst (λ (x : Class). IsHeaderOf c.in-Some.held.header x) (sym header.class) header

pub cells-requires-clause-number : goal.cells-requires-clause-number
cells-requires-clause-number g c =
    let is = held_at c.args.sources.now.items c.args.class c.number-at.result c.index_mut.result.now c.in-Some.held c.number-at.ensures.value
    (search rules) c.index_mut.ensures.value c.in-Some.is in
    let header = c.requires.headers c.args.class c.in-Some.held is.1 in
    subst (λ (x : Class). c.args.number < pages_of x) (sym header.class) c.requires.number

pub returns-in-Some-clause-asked : goal.returns-in-Some-clause-asked
returns-in-Some-clause-asked g c =
    let is = held_at c.args.sources.now.items c.args.class c.number-at.result c.index_mut.result.now c.in-Some.held c.number-at.ensures.value
    (search rules) c.index_mut.ensures.value c.in-Some.is in
    inr (record {
      before = c.in-Some.held;
      after = c.cells.new.self;
      small = is.0;
      was = is.1;
      is = ap (λ (i : ℕ). slice_set c.args.sources.now.items i (Some c.cells.new.self)) c.number-at.ensures.value;
      header = c.cells.ensures.header;
      honest_alike = c.cells.ensures.same;
      give_alike = c.cells.ensures.alike;
    })

pub returns-in-Some-clause-reported : goal.returns-in-Some-clause-reported
returns-in-Some-clause-reported g c = λ h t was honest of.
    let is = held_at c.args.sources.now.items c.args.class c.number-at.result c.index_mut.result.now c.in-Some.held c.number-at.ensures.value
    (search rules) c.index_mut.ensures.value c.in-Some.is in
    let one = one_held g.S.PageSource.gives c.args.sources.now.items c.args.class c.args.class c.in-Some.held h is.1 refl was in
    let header = c.requires.headers c.args.class c.in-Some.held is.1 in
    c.cells.ensures.ok t (subst (λ (x : OpenTable g.row.S.Denot). g.S.PageSource.honest x.source t x.header.version) (sym one) honest) (of ∙ sym header.class)

pub returns-in-Some-clause-whole : goal.returns-in-Some-clause-whole
returns-in-Some-clause-whole g c = λ h t was honest of complete.
    let is = held_at c.args.sources.now.items c.args.class c.number-at.result c.index_mut.result.now c.in-Some.held c.number-at.ensures.value
    (search rules) c.index_mut.ensures.value c.in-Some.is in
    let one = one_held g.S.PageSource.gives c.args.sources.now.items c.args.class c.args.class c.in-Some.held h is.1 refl was in
    let header = c.requires.headers c.args.class c.in-Some.held is.1 in
    c.cells.ensures.whole t (subst (λ (x : OpenTable g.row.S.Denot). g.S.PageSource.honest x.source t x.header.version) (sym one) honest)
    (of ∙ sym header.class) complete

pub returns-in-Some-clause-damaged : goal.returns-in-Some-clause-damaged
returns-in-Some-clause-damaged g c = λ d n reported.
    let is = held_at c.args.sources.now.items c.args.class c.number-at.result c.index_mut.result.now c.in-Some.held c.number-at.ensures.value
    (search rules) c.index_mut.ensures.value c.in-Some.is in
    let at = c.cells.ensures.damaged d n reported in
    (at.0 ∙ (c.requires.headers c.args.class c.in-Some.held is.1).class, at.1)
