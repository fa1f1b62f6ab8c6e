use Rattle.std.proofs.Common.{is_some, inl, inr}
use Rattle.std.proofs.lemmas.Bool.{false≢true}
use Rattle.study_prober.specs.PagedTables.{held_of}
use Rattle.study_web.proofs.Opening.{held_as, among_all}
use Rattle.study_web.proofs.tables.open_tables.Goals as goal

pub returns-clause-held : goal.returns-clause-held
returns-clause-held g c = λ d.
    held_as (g.S.TableStore.headers c.args.store.now d) (is_some (held_of c.open_each.new.tables.sources d))
    (λ h. elim (c.in-Ok-open_each.ensures.opened d h) [ inl k ↦ absurd (false≢true (rw c.in-Ok.ensures at k)) | inr o ↦ o ])
    (λ h. c.in-Ok-open_each.ensures.given d (rw (c.as_slice.ensures, c.all.ensures) (among_all d)) h)

pub returns-clause-fails : goal.returns-clause-fails
returns-clause-fails g c = λ d f h.
    elim (c.in-Ok-open_each.ensures.fails d f h) [ inl k ↦ absurd (rw c.in-Ok.ensures at k) | inr t ↦ t ]
