use Rattle.std.proofs.Common.{◌∙◌, ap, sym, subst}
use Rattle.std.specs.Prelude.{Option, is_some}
use Rattle.study_prober.specs.declared.open_table.OpenTable.{OpenTable}
use Rattle.study_prober.specs.PagedTables.{Paged, IsSameSource, MayFail, SourcesAreRight, held_of}
use Rattle.study_prober.proofs.PagedAnswers.{fails_as_before}
use Rattle.study_prober.proofs.HeldSources.{no_table_by}
use Rattle.study_prober.proofs.ReadPages.{asked-same, asked-alike, asked-right, asked-kept, asked-given, asked-held, read-values, read-whole, read-fails}
use Rattle.study_prober.proofs.paged_tables.PagedTablesCellPages.read_cells.Goals as goal

pub read_page-answer-requires-clause-headers : goal.read_page-answer-requires-clause-headers
read_page-answer-requires-clause-headers g c = c.self.invariant.0.header

pub invariant_of-self : goal.invariant_of-self
invariant_of-self g c = (
  asked-kept g.S.PageSource.gives g.S.PageSource.honest c.args.class c.self.inside.sources.items c.read_page-answer.new.sources.items
      c.read_page-answer.ensures.asked (λ v. v.items) c.self.inside.kept.entries c.self.invariant.0,
  asked-given g.S.PageSource.gives g.S.PageSource.honest c.args.class c.self.inside.sources.items c.read_page-answer.new.sources.items
      c.read_page-answer.ensures.asked (λ v. v.items) c.self.inside.kept.entries c.self.invariant.0 c.self.invariant.1,
)

pub returns-clause-game : goal.returns-clause-game
returns-clause-game g c = λ right.
    read-values g.S.PageSource.honest c.self.inside.sources.items c.args.class c.args.number c.read_page-answer.new.into c.read_page-answer.result
    c.read_page-answer.ensures.no_table
    (subst (λ (w : Paged g.row.S.Denot). SourcesAreRight g.S.PageSource.honest w.sources) (sym c.self.view_is) right) c.read_page-answer.ensures.reported

pub returns-clause-no_damage : goal.returns-clause-no_damage
returns-clause-no_damage g c = λ right.
    read-whole g.S.PageSource.honest c.self.inside.sources.items c.args.class c.args.number c.read_page-answer.new.into c.read_page-answer.result
    c.read_page-answer.ensures.no_table
    (subst (λ (w : Paged g.row.S.Denot). SourcesAreRight g.S.PageSource.honest w.sources) (sym c.self.view_is) right) c.read_page-answer.ensures.whole

pub returns-clause-stays_honest : goal.returns-clause-stays_honest
returns-clause-stays_honest g c = λ right.
    asked-right g.S.PageSource.gives g.S.PageSource.honest c.args.class c.self.inside.sources.items c.read_page-answer.new.sources.items
    c.read_page-answer.ensures.asked
    (subst (λ (w : Paged g.row.S.Denot). SourcesAreRight g.S.PageSource.honest w.sources) (sym c.self.view_is) right)

pub returns-clause-failed_so : goal.returns-clause-failed_so
returns-clause-failed_so g c = λ f reported.
    subst (λ (w : Paged g.row.S.Denot). MayFail g.S.PageSource.gives (held_of w.sources c.args.class) c.args.class f) c.self.view_is
    (read-fails g.S.PageSource.honest c.self.inside.sources.items c.args.class c.args.number c.read_page-answer.new.into c.read_page-answer.result
    c.read_page-answer.ensures.no_table g.S.PageSource.gives f c.requires c.read_page-answer.ensures.unread reported)

pub returns-clause-fails_as_before : goal.returns-clause-fails_as_before
returns-clause-fails_as_before g c = λ d f.
    let same = ap (λ (w : Paged g.row.S.Denot). held_of w.sources d) c.self.view_is in
    let old = c.self.inside.sources.items in
    let new = c.read_page-answer.new.sources.items in
    let asked = c.read_page-answer.ensures.asked in
    fails_as_before g.S.PageSource.gives g.S.PageSource.honest d f (held_of c.args.self.now.sources d) (held_of new d)
    (subst (λ (o : Option (OpenTable g.row.S.Denot)). IsSameSource g.S.PageSource.honest o (held_of new d)) same
    (asked-same g.S.PageSource.gives g.S.PageSource.honest c.args.class old new asked d))
    (λ h k was now. asked-alike g.S.PageSource.gives g.S.PageSource.honest c.args.class old new asked d h k (same ∙ was) now)

pub returns-clause-no_table : goal.returns-clause-no_table
returns-clause-no_table g c = λ d.
    no_table_by _ _ (ap (λ (w : Paged g.row.S.Denot). held_of w.sources c.args.class) c.self.view_is) (c.read_page-answer.ensures.no_table d)

pub returns-clause-same_tables : goal.returns-clause-same_tables
returns-clause-same_tables g c = λ d.
    asked-held g.S.PageSource.gives g.S.PageSource.honest c.args.class c.self.inside.sources.items c.read_page-answer.new.sources.items
    c.read_page-answer.ensures.asked d ∙ ap (λ (w : Paged g.row.S.Denot). is_some (held_of w.sources d)) c.self.view_is
