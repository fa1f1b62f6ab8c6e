use Rattle.std.proofs.Common.{◌≡◌, ◌/◌, ◌∙◌, ap, sym, subst}
use Rattle.study_material.specs.declared.class.Class.{Class}
use Rattle.study_prober.specs.PageCache.{key_at}
use Rattle.study_prober.specs.PagedTables.{Paged, IsSameSource, SourcesAreRight, held_of}
use Rattle.study_values.specs.Index.{index_of}
use Rattle.study_prober.specs.Sources.{IsGivenPage}
use Rattle.study_prober.proofs.GivenPages.{put_seen, fewer_seen, on_err}
use Rattle.study_prober.proofs.KeptCells.{again_seen, none_seen}
use Rattle.study_prober.proofs.PagedAnswers.{answered, undamaged, failed_so, fails_as_before}
use Rattle.study_prober.proofs.HeldSources.{no_table_by, stays_right_at}
use Rattle.study_prober.proofs.Tables.{one_class}
use Rattle.study_prober.proofs.paged_tables.PagedTablesValues.value.Goals as goal

pub returns-clause-stays_honest : goal.returns-clause-stays_honest
returns-clause-stays_honest g c =
    stays_right_at g.S.PageSource.honest c.args.self.now.sources c.self.inside.sources.items
    c.probe_paged-answer.new.sources.items (ap (λ (w : Paged g.row.S.Denot). w.sources) c.self.view_is)
    c.probe_paged-answer.ensures.sources

pub returns-clause-no_table : goal.returns-clause-no_table
returns-clause-no_table g c = λ d. no_table_by _ _ (ap (λ (w : Paged g.row.S.Denot). held_of w.sources d) c.self.view_is)
    (c.probe_paged-answer.ensures.no_table d)

pub returns-clause-whole : goal.returns-clause-whole
returns-clause-whole g c =
    λ d h t n of held. c.probe_paged-answer.ensures.whole d h t n of
    (ap (λ (w : Paged g.row.S.Denot). held_of w.sources d) c.self.view_is ∙ held)

pub returns-clause-failed : goal.returns-clause-failed
returns-clause-failed g c =
    λ d h k of before. c.probe_paged-answer.ensures.failed d h k of
    (ap (λ (w : Paged g.row.S.Denot). held_of w.sources d) c.self.view_is ∙ before)

pub returns-clause-again : goal.returns-clause-again
returns-clause-again g c = λ d of.
    again_seen (λ v. v.items) c.self.inside.sources.items c.probe_paged-answer.new.sources.items c.args.self.now.sources
    c.self.inside.kept.entries c.args.self.now.kept c.probe_paged-answer.result d (index_of c.args.p.now)
    (ap (λ (w : Paged g.row.S.Denot). w.sources) c.self.view_is)
    (ap (λ (w : Paged g.row.S.Denot). w.kept) c.self.view_is) (c.probe_paged-answer.ensures.again d of)

pub returns-clause-read : goal.returns-clause-read
returns-clause-read g c = λ d h of was. c.probe_paged-answer.ensures.read d h of (ap (λ (w : Paged g.row.S.Denot). held_of w.sources d) c.self.view_is ∙ was)

pub returns-clause-unread : goal.returns-clause-unread
returns-clause-unread g c = λ d h f of was. c.probe_paged-answer.ensures.unread d h f of (ap (λ (w : Paged g.row.S.Denot). held_of w.sources d) c.self.view_is
    ∙ was)

pub returns-clause-put : goal.returns-clause-put
returns-clause-put g c = λ d h of was.
    put_seen (λ v. v.items) (λ k cells. (k ≡ key_at d (index_of c.args.p.now))
    × IsGivenPage g.S.PageSource.gives h (index_of c.args.p.now / 4096) cells) c.self.inside.kept.entries
    c.probe_paged-answer.new.pages.entries c.args.self.now.kept
    (ap (λ (w : Paged g.row.S.Denot). w.kept) c.self.view_is)
    (c.probe_paged-answer.ensures.put d h of (ap (λ (w : Paged g.row.S.Denot). held_of w.sources d) c.self.view_is
    ∙ was))

pub returns-clause-refused : goal.returns-clause-refused
returns-clause-refused g c =
    on_err c.probe_paged-answer.result _ _
    (fewer_seen (λ v. v.items) c.self.inside.kept.entries c.probe_paged-answer.new.pages.entries c.args.self.now.kept
    (ap (λ (w : Paged g.row.S.Denot). w.kept) c.self.view_is)) c.probe_paged-answer.ensures.refused

pub returns-clause-alike : goal.returns-clause-alike
returns-clause-alike g c = λ d h k was now. c.probe_paged-answer.ensures.alike d h k (ap (λ (w : Paged g.row.S.Denot). held_of w.sources d) c.self.view_is
    ∙ was) now

pub returns-clause-given : goal.returns-clause-given
returns-clause-given g c = λ d of.
    let same = ap (λ (w : Paged g.row.S.Denot). held_of w.sources d) c.self.view_is in
    let probed = c.probe_paged-answer.ensures in
    answered g.S.PageSource.gives d (index_of c.args.p.now) (held_of c.args.self.now.sources d) c.probe_paged-answer.result
    (λ b reported. let none = (probed.no_table b).0 reported in sym same
    ∙ ap (λ (x : Class). held_of c.self.inside.sources.items x) (one_class d b c.args.p.now of none.0) ∙ none.1)
    (λ none. (probed.no_table d).1 (of, same ∙ none))
    (λ h was. probed.read d h of (same ∙ was))
    (λ h f was. probed.unread d h f of (same ∙ was))
    (λ b page reported. let at = probed.damaged b page reported in (one_class b d c.args.p.now at.0 of, at.1))
    (λ h page was. probed.not_whole d h page (same ∙ was))

pub returns-clause-no_damage : goal.returns-clause-no_damage
returns-clause-no_damage g c = λ right.
    let probed = c.probe_paged-answer.ensures in
    undamaged g.S.PageSource.honest c.self.inside.sources.items c.args.p.now c.probe_paged-answer.result
    (subst (λ (w : Paged g.row.S.Denot). SourcesAreRight g.S.PageSource.honest w.sources) (sym c.self.view_is) right)
    (λ d. (probed.no_table d).1) probed.whole probed.damaged

pub returns-clause-once : goal.returns-clause-once
returns-clause-once g c = λ d h k of before after none.
    c.probe_paged-answer.ensures.once d h k of
    (ap (λ (w : Paged g.row.S.Denot). held_of w.sources d) c.self.view_is ∙ before) after
    (none_seen (λ v. v.items) c.self.inside.kept.entries c.args.self.now.kept d (index_of c.args.p.now)
    (ap (λ (w : Paged g.row.S.Denot). w.kept) c.self.view_is) none)

pub returns-clause-failed_so : goal.returns-clause-failed_so
returns-clause-failed_so g c = λ d f of reported.
    let same = ap (λ (w : Paged g.row.S.Denot). held_of w.sources d) c.self.view_is in
    let probed = c.probe_paged-answer.ensures in
    failed_so g.S.PageSource.gives d (index_of c.args.p.now / 4096) f (held_of c.args.self.now.sources d) c.probe_paged-answer.result
    (λ none. (probed.no_table d).1 (of, same ∙ none)) (λ h was. probed.unread d h f of (same ∙ was) reported) (probed.inside d f of reported) reported

pub returns-clause-fails_as_before : goal.returns-clause-fails_as_before
returns-clause-fails_as_before g c = λ d f.
    let same = ap (λ (w : Paged g.row.S.Denot). held_of w.sources d) c.self.view_is in
    let probed = c.probe_paged-answer.ensures in
    fails_as_before g.S.PageSource.gives g.S.PageSource.honest d f (held_of c.args.self.now.sources d) (held_of c.probe_paged-answer.new.sources.items d)
    (subst (λ o. IsSameSource g.S.PageSource.honest o (held_of c.probe_paged-answer.new.sources.items d)) same (probed.sources d))
    (λ h k was now. probed.alike d h k (same ∙ was) now)
