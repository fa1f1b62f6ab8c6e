use Rattle.std.proofs.Common.{◌≡◌, ◌∷◌, is_some, rules}
use Rattle.study_material.specs.declared.class.Class.{Class}
use Rattle.study_prober.specs.PagedTables.{held_of, MayFail}
use Rattle.study_web.proofs.OpenEach.{opened_on, given_on, fails_on}
use Rattle.study_web.proofs.Shelves.{still_named}
use Rattle.study_web.proofs.tables.+open_each.Goals as goal

pub returns-in-Ok-clause-opened : goal.returns-in-Ok-clause-opened
returns-in-Ok-clause-opened g n c =
    opened_on (λ (d : Class). is_some (held_of c.args.tables.now.sources d)) (λ d. is_some (held_of c.open_table.new.tables.sources d))
    (λ d. is_some (held_of c.open_each.new.tables.sources d)) (λ d. g.S.TableStore.headers c.args.store.now d)
    (λ d. g.S.TableStore.headers c.open_table.new.store d) c.open_each.result c.in-Some.class.now c.in-Some.rest.now
    c.open_table.ensures.headers (λ d. c.in-Ok.ensures.opened d) c.open_each.ensures.opened

pub returns-in-Ok-clause-given : goal.returns-in-Ok-clause-given
returns-in-Ok-clause-given g n c =
    let all =
    given_on (λ (d : Class). is_some (held_of c.args.tables.now.sources d)) (λ d. is_some (held_of c.open_table.new.tables.sources d))
    (λ d. is_some (held_of c.open_each.new.tables.sources d)) (λ d. g.S.TableStore.headers c.args.store.now d)
    (λ d. g.S.TableStore.headers c.open_table.new.store d) c.open_each.result c.in-Some.class.now c.in-Some.rest.now
    c.open_table.ensures.headers c.open_each.ensures.grows c.in-Ok.ensures.given c.open_each.ensures.given in
    let e : c.args.classes.now ≡ c.in-Some.class.now ∷ c.in-Some.rest.now = search rules in λ d. rw e (all d)

pub returns-in-Ok-clause-fails : goal.returns-in-Ok-clause-fails
returns-in-Ok-clause-fails g n c =
    fails_on (λ (d : Class) f. MayFail g.S.Pages.PageSource.gives (held_of c.args.tables.now.sources d) d f)
    (λ d f. MayFail g.S.Pages.PageSource.gives (held_of c.open_table.new.tables.sources d) d f)
    (λ d f. MayFail g.S.Pages.PageSource.gives (held_of c.open_each.new.tables.sources d) d f)
    (g.S.TableStore.faults c.args.store.now) (g.S.TableStore.faults c.open_table.new.store) c.open_each.result c.open_table.ensures.faults
    c.in-Ok.ensures.fails c.open_each.ensures.fails

pub returns-in-Ok-clause-named : goal.returns-in-Ok-clause-named
returns-in-Ok-clause-named g n c =
    still_named (g.S.TableStore.headers c.open_table.new.store) (g.S.TableStore.headers c.args.store.now)
    (g.S.TableStore.faults c.open_table.new.store) (g.S.TableStore.faults c.args.store.now) c.open_table.ensures.headers
    c.open_table.ensures.faults c.open_each.result c.open_each.ensures.named
