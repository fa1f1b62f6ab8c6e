use Rattle.std.proofs.Common.{inl, inr, ◌≡◌, ◌≤◌, ◌<◌, ◌/◌, ℕ, length, rules, sym, ◌∙◌, ap, subst}
use Rattle.std.specs.Prelude.{None}
use Rattle.study_prober.specs.declared.page_cache.PageKey.{PageKey}
use Rattle.study_prober.specs.declared.open_table.OpenTable.{OpenTable}
use Rattle.study_prober.specs.PageCache.{key_at}
use Rattle.study_prober.specs.PagedTables.{held_of}
use Rattle.study_values.specs.Index.{index_of}
use Rattle.study_material.specs.declared.class.Class.{Class}
use Rattle.study_material.specs.Class.{IsOf}
use Rattle.study_table.proofs.SetLemmas.{class_number-injective}
use Rattle.study_prober.proofs.HeldSources.{header_own, held_other, none_past, kept_after, same_after, held_at}
use Rattle.study_prober.proofs.KeptCells.{again_none, again_at}
use Rattle.study_prober.proofs.Tables.{one_class}
use Rattle.study_prober.specs.Sources.{IsGivenPage, failed_after}
use Rattle.study_prober.proofs.GivenPages.{given_after, alike_after, one_held, read_at, unread_at, bad_at}
use Rattle.study_text.specs.Counts.{next_count}
use Rattle.study_prober.specs.PageCache.{kept_cell}
use Rattle.study_prober.proofs.ProbedSources.{number_in, value_at_index, whole_at, count_at, game_at}
use Rattle.study_values.specs.Number.{cells_of}
use Rattle.study_index.proofs.ClassLaws.{below, numbered}
use Rattle.study_prober.proofs.Cells.{page_of_cell}
use Rattle.study_prober.proofs.paged_tables.probe_paged.Goals as goal

pub value_of_number-requires-clause-header : goal.value_of_number-requires-clause-header
value_of_number-requires-clause-header g c =
    let is = held_at c.args.sources.now.items c.class_of-class.result.0 c.number-at.result c.index_mut.result.now
    c.in-Some.held c.number-at.ensures.value (search rules) c.index_mut.ensures.value c.in-Some.is in
    header_own g.S.PageSource.honest (λ v. v.items) c.args.sources.now.items c.args.pages.now.entries
    c.class_of-class.result.0 c.in-Some.held c.requires.kept is.1

pub value_of_number-requires-clause-number : goal.value_of_number-requires-clause-number
value_of_number-requires-clause-number g c =
    let is = held_at c.args.sources.now.items c.class_of-class.result.0 c.number-at.result c.index_mut.result.now
    c.in-Some.held c.number-at.ensures.value (search rules) c.index_mut.ensures.value c.in-Some.is in
    number_in c.in-Some.held.header c.class_of-class.result.0 c.args.p.now c.index.result
    (c.requires.kept.header c.class_of-class.result.0 c.in-Some.held is.1) c.men-men.ensures.valid
    c.class_of-class.ensures.class c.index.ensures.least

pub returns-in-Some-clause-kept : goal.returns-in-Some-clause-kept
returns-in-Some-clause-kept g c =
    let is = held_at c.args.sources.now.items c.class_of-class.result.0 c.number-at.result c.index_mut.result.now
    c.in-Some.held c.number-at.ensures.value (search rules) c.index_mut.ensures.value c.in-Some.is in
    rw c.number-at.ensures.value (kept_after g.S.PageSource.honest (λ v. v.items) c.args.sources.now.items
    c.args.pages.now.entries c.value_of_number.new.pages.entries c.class_of-class.result.0 c.in-Some.held
    c.value_of_number.new.held c.requires.kept is.0 is.1 c.value_of_number.ensures.header c.value_of_number.ensures.same
    c.value_of_number.ensures.more)

pub returns-in-Some-clause-sources : goal.returns-in-Some-clause-sources
returns-in-Some-clause-sources g c = λ d.
    let is = held_at c.args.sources.now.items c.class_of-class.result.0 c.number-at.result c.index_mut.result.now
    c.in-Some.held c.number-at.ensures.value (search rules) c.index_mut.ensures.value c.in-Some.is in
    rw c.number-at.ensures.value (same_after g.S.PageSource.honest c.args.sources.now.items c.class_of-class.result.0
    d c.in-Some.held c.value_of_number.new.held is.0 is.1 c.value_of_number.ensures.header c.value_of_number.ensures.same)

pub returns-in-Some-clause-reported : goal.returns-in-Some-clause-reported
returns-in-Some-clause-reported g c = λ d h t of held honest same.
    let is = held_at c.args.sources.now.items c.class_of-class.result.0 c.number-at.result c.index_mut.result.now
    c.in-Some.held c.number-at.ensures.value (search rules) c.index_mut.ensures.value c.in-Some.is in
    value_at_index g.S.PageSource.honest (λ v. v.items) c.args.sources.now.items c.args.pages.now.entries
    c.class_of-class.result.0 d c.args.p.now c.in-Some.held h t c.index.result c.value_of_number.result c.requires.kept
    is.1 (one_class d c.class_of-class.result.0 c.args.p.now of c.class_of-class.ensures.class) held honest same
    c.index.ensures.value c.value_of_number.ensures.ok

pub returns-in-Some-clause-whole : goal.returns-in-Some-clause-whole
returns-in-Some-clause-whole g c = λ d h t n of held honest same complete.
    let is = held_at c.args.sources.now.items c.class_of-class.result.0 c.number-at.result c.index_mut.result.now
    c.in-Some.held c.number-at.ensures.value (search rules) c.index_mut.ensures.value c.in-Some.is in
    whole_at g.S.PageSource.honest (λ v. v.items) c.args.sources.now.items c.args.pages.now.entries
    c.class_of-class.result.0 d c.in-Some.held h t n c.value_of_number.result c.requires.kept is.1
    (one_class d c.class_of-class.result.0 c.args.p.now of c.class_of-class.ensures.class) held honest same
    complete c.value_of_number.ensures.whole

pub returns-in-Some-clause-damaged : goal.returns-in-Some-clause-damaged
returns-in-Some-clause-damaged g c = λ d n reported.
    let is = held_at c.args.sources.now.items c.class_of-class.result.0 c.number-at.result c.index_mut.result.now
    c.in-Some.held c.number-at.ensures.value (search rules) c.index_mut.ensures.value c.in-Some.is in
    let at = c.value_of_number.ensures.damaged d n reported in
    let own : d ≡ c.class_of-class.result.0 = at.0 ∙ (c.requires.kept.header c.class_of-class.result.0 c.in-Some.held is.1).class in
    (subst (λ (x : Class). IsOf x c.args.p.now) (sym own) c.class_of-class.ensures.class, at.1 ∙ ap (λ (m : ℕ). m / 4096) c.index.ensures.value)

pub returns-in-Some-clause-failed : goal.returns-in-Some-clause-failed
returns-in-Some-clause-failed g c = λ d h k of before after.
    let is = held_at c.args.sources.now.items c.class_of-class.result.0 c.number-at.result c.index_mut.result.now
    c.in-Some.held c.number-at.ensures.value (search rules) c.index_mut.ensures.value c.in-Some.is in
    count_at g.S.PageSource.failed (λ count. failed_after count c.value_of_number.result) c.args.sources.now.items
    c.class_of-class.result.0 d c.number-at.result c.in-Some.held h c.value_of_number.new.held k c.number-at.ensures.value is.0 is.1
    (one_class d c.class_of-class.result.0 c.args.p.now of c.class_of-class.ensures.class) before after
    c.value_of_number.ensures.failed

pub returns-in-Some-clause-game : goal.returns-in-Some-clause-game
returns-in-Some-clause-game g c =
    let is = held_at c.args.sources.now.items c.class_of-class.result.0 c.number-at.result c.index_mut.result.now
    c.in-Some.held c.number-at.ensures.value (search rules) c.index_mut.ensures.value c.in-Some.is in
    game_at g.S.PageSource.honest (λ v. v.items) c.args.sources.now.items c.args.pages.now.entries
    c.class_of-class.result.0 c.args.p.now c.in-Some.held c.index.result c.value_of_number.result c.requires.kept is.1
    c.men-men.ensures.valid c.class_of-class.ensures.class c.index.ensures.value c.value_of_number.ensures.ok

pub returns-in-Some-clause-others : goal.returns-in-Some-clause-others
returns-in-Some-clause-others g c = λ d far.
    rw c.number-at.ensures.value
    (held_other c.args.sources.now.items c.class_of-class.result.0 d _
    (λ e. far (subst (λ (x : Class). IsOf x c.args.p.now) (class_number-injective c.class_of-class.result.0 d e)
    c.class_of-class.ensures.class)))

pub returns-then-len-at-clause-again : goal.returns-then-len-at-clause-again
returns-then-len-at-clause-again g c = λ d of.
    let past : length c.args.sources.now.items ≤ c.number-at.result = search rules in
    let none =
    none_past c.args.sources.now.items c.class_of-class.result.0
    (subst (λ (n : ℕ). length c.args.sources.now.items ≤ n) c.number-at.ensures.value past) in
    again_none g.S.PageSource.honest (λ v. v.items) c.args.sources.now.items c.args.pages.now.entries
    c.class_of-class.result.0 d (index_of c.args.p.now) _ c.requires.kept none
    (one_class d c.class_of-class.result.0 c.args.p.now of c.class_of-class.ensures.class)

pub returns-in-None-clause-again : goal.returns-in-None-clause-again
returns-in-None-clause-again g c = λ d of.
    let none : held_of c.args.sources.now.items c.class_of-class.result.0 ≡ None = search rules in
    again_none g.S.PageSource.honest (λ v. v.items) c.args.sources.now.items c.args.pages.now.entries
    c.class_of-class.result.0 d (index_of c.args.p.now) _ c.requires.kept none
    (one_class d c.class_of-class.result.0 c.args.p.now of c.class_of-class.ensures.class)

pub returns-in-Some-clause-again : goal.returns-in-Some-clause-again
returns-in-Some-clause-again g c = λ d of.
    let is = held_at c.args.sources.now.items c.class_of-class.result.0 c.number-at.result c.index_mut.result.now
    c.in-Some.held c.number-at.ensures.value (search rules) c.index_mut.ensures.value c.in-Some.is in
    let own = (c.requires.kept.header c.class_of-class.result.0 c.in-Some.held is.1).class in
    again_at (λ v. v.items) c.args.sources.now.items c.args.pages.now.entries c.value_of_number.result
    c.in-Some.held.header.class c.class_of-class.result.0 d c.number-at.result c.index.result
    (index_of c.args.p.now) c.in-Some.held c.value_of_number.new.held c.number-at.ensures.value is.1
    (own ∙ sym (one_class d c.class_of-class.result.0 c.args.p.now of c.class_of-class.ensures.class))
    c.index.ensures.value c.value_of_number.ensures.again

pub returns-in-Some-clause-read : goal.returns-in-Some-clause-read
returns-in-Some-clause-read g c = λ d h of was.
    let is = held_at c.args.sources.now.items c.class_of-class.result.0 c.number-at.result c.index_mut.result.now
    c.in-Some.held c.number-at.ensures.value (search rules) c.index_mut.ensures.value c.in-Some.is in
    let one = one_held g.S.PageSource.gives c.args.sources.now.items c.class_of-class.result.0 d c.in-Some.held h
    is.1 (one_class d c.class_of-class.result.0 c.args.p.now of c.class_of-class.ensures.class) was in
    let own = (c.requires.kept.header c.class_of-class.result.0 c.in-Some.held is.1).class in
    read_at g.S.PageSource.gives c.in-Some.held h c.index.result (index_of c.args.p.now) c.value_of_number.result one
    c.index.ensures.value
    (c.value_of_number.ensures.read (λ e i at. c.requires.given.given e c.in-Some.held i
    (ap (λ (x : Class). held_of c.args.sources.now.items x) (at ∙ own) ∙ is.1)))

pub returns-in-Some-clause-given : goal.returns-in-Some-clause-given
returns-in-Some-clause-given g c =
    let is = held_at c.args.sources.now.items c.class_of-class.result.0 c.number-at.result c.index_mut.result.now
    c.in-Some.held c.number-at.ensures.value (search rules) c.index_mut.ensures.value c.in-Some.is in
    let own = (c.requires.kept.header c.class_of-class.result.0 c.in-Some.held is.1).class in
    rw c.number-at.ensures.value (given_after g.S.PageSource.gives (λ v. v.items) c.args.sources.now.items
    c.args.pages.now.entries c.value_of_number.new.pages.entries c.class_of-class.result.0 c.in-Some.held
    c.value_of_number.new.held c.requires.given is.0 is.1 own c.value_of_number.ensures.header c.value_of_number.ensures.alike
    (λ e i. elim (c.value_of_number.ensures.given e i) [
      | inl old ↦ inl old
      | inr new ↦ inr (
        ap (λ (k : PageKey). k.class) new.0 ∙ own,
        subst (λ (k : PageKey). IsGivenPage g.S.PageSource.gives c.in-Some.held k.number e.1.items) (sym new.0)
            new.1,
      )
    ]))

pub returns-in-Some-clause-put : goal.returns-in-Some-clause-put
returns-in-Some-clause-put g c = λ d h of was e i.
    let is = held_at c.args.sources.now.items c.class_of-class.result.0 c.number-at.result c.index_mut.result.now
    c.in-Some.held c.number-at.ensures.value (search rules) c.index_mut.ensures.value c.in-Some.is in
    let here = one_class d c.class_of-class.result.0 c.args.p.now of c.class_of-class.ensures.class in
    let one = one_held g.S.PageSource.gives c.args.sources.now.items c.class_of-class.result.0 d c.in-Some.held h is.1 here was in
    let own = (c.requires.kept.header c.class_of-class.result.0 c.in-Some.held is.1).class in
    elim (c.value_of_number.ensures.given e i) [
      | inl old ↦ inl old
      | inr new ↦ inr (
        new.0 ∙ ap (λ (x : Class). key_at x c.index.result) (own ∙ sym here) ∙ ap (λ (m : ℕ). key_at d m) c.index.ensures.value,
        subst (λ (x : OpenTable g.row.S.Denot). IsGivenPage g.S.PageSource.gives x (index_of c.args.p.now / 4096)
            e.1.items) one (subst (λ (m : ℕ). IsGivenPage g.S.PageSource.gives c.in-Some.held (m / 4096) e.1.items)
            c.index.ensures.value new.1),
      )
    ]

pub returns-in-Some-clause-alike : goal.returns-in-Some-clause-alike
returns-in-Some-clause-alike g c = λ d h k was now.
    let is = held_at c.args.sources.now.items c.class_of-class.result.0 c.number-at.result c.index_mut.result.now
    c.in-Some.held c.number-at.ensures.value (search rules) c.index_mut.ensures.value c.in-Some.is in
    alike_after g.S.PageSource.gives c.args.sources.now.items c.class_of-class.result.0 d c.in-Some.held
    c.value_of_number.new.held h k is.0 is.1 c.value_of_number.ensures.alike was (rw (← c.number-at.ensures.value) now)

pub returns-in-Some-clause-unread : goal.returns-in-Some-clause-unread
returns-in-Some-clause-unread g c = λ d h f of was reported.
    let is = held_at c.args.sources.now.items c.class_of-class.result.0 c.number-at.result c.index_mut.result.now
    c.in-Some.held c.number-at.ensures.value (search rules) c.index_mut.ensures.value c.in-Some.is in
    let one = one_held g.S.PageSource.gives c.args.sources.now.items c.class_of-class.result.0 d c.in-Some.held h
    is.1 (one_class d c.class_of-class.result.0 c.args.p.now of c.class_of-class.ensures.class) was in
    unread_at g.S.PageSource.gives c.in-Some.held h c.index.result (index_of c.args.p.now) f one c.index.ensures.value
    (c.value_of_number.ensures.unread f reported)

pub returns-in-Some-clause-not_whole : goal.returns-in-Some-clause-not_whole
returns-in-Some-clause-not_whole g c = λ d h n was reported.
    let is = held_at c.args.sources.now.items c.class_of-class.result.0 c.number-at.result c.index_mut.result.now
    c.in-Some.held c.number-at.ensures.value (search rules) c.index_mut.ensures.value c.in-Some.is in
    let at = c.value_of_number.ensures.damaged d n reported in
    let own : d ≡ c.class_of-class.result.0 = at.0 ∙ (c.requires.kept.header c.class_of-class.result.0 c.in-Some.held is.1).class in
    let one = one_held g.S.PageSource.gives c.args.sources.now.items c.class_of-class.result.0 d c.in-Some.held h is.1 own was in
    bad_at g.S.PageSource.gives c.in-Some.held h _ n one (sym at.1) (c.value_of_number.ensures.not_whole d n reported)

pub returns-in-Some-clause-once : goal.returns-in-Some-clause-once
returns-in-Some-clause-once g c = λ d h k of before after unkept.
    let is = held_at c.args.sources.now.items c.class_of-class.result.0 c.number-at.result c.index_mut.result.now
    c.in-Some.held c.number-at.ensures.value (search rules) c.index_mut.ensures.value c.in-Some.is in
    let own = (c.requires.kept.header c.class_of-class.result.0 c.in-Some.held is.1).class in
    let here = one_class d c.class_of-class.result.0 c.args.p.now of c.class_of-class.ensures.class in
    let none = ap (λ (x : Class). kept_cell (λ v. v.items) c.args.pages.now.entries x c.index.result) (own ∙ sym here)
    ∙ ap (λ (m : ℕ). kept_cell (λ v. v.items) c.args.pages.now.entries d m) c.index.ensures.value ∙ unkept in
    count_at g.S.PageSource.asked next_count c.args.sources.now.items c.class_of-class.result.0 d c.number-at.result
    c.in-Some.held h c.value_of_number.new.held k c.number-at.ensures.value is.0 is.1 here before after (c.value_of_number.ensures.once none)

pub returns-in-Some-clause-inside : goal.returns-in-Some-clause-inside
returns-in-Some-clause-inside g c = λ d f of reported.
    let r = numbered d c.args.p.now c.index.result c.men-men.ensures.valid of c.index.ensures.least in
    page_of_cell d (index_of c.args.p.now) (subst (λ n. n < cells_of d) c.index.ensures.value (below d c.index.result r.0 r.1))
