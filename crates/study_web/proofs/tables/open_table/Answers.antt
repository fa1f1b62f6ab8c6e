use Rattle.std.proofs.Common.{true, is_some, refl, sym, subst, ◌∙◌}
use Rattle.study_prober.specs.PagedTables.{held_of}
use Rattle.study_material.specs.declared.class.Class.{Class}
use Rattle.study_script.specs.State.{IsOpened}
use Rattle.study_web.specs.Opened.{IsOfTables}
use Rattle.study_web.proofs.Opening.{grows_with, opened_with, fails_with, source_denied}
use Rattle.study_web.proofs.tables.open_table.Goals as goal

pub returns-in-Ok-add-clause-grows : goal.returns-in-Ok-add-clause-grows
returns-in-Ok-add-clause-grows g c = λ d h.
    let added = c.in-Ok-add.ensures.added in
    grows_with c.args.tables.now c.add.new.self c.args.class added.0 c.in-Ok-add.ensures.places added.6 d h

pub returns-in-Ok-add-clause-opened : goal.returns-in-Ok-add-clause-opened
returns-in-Ok-add-clause-opened g c = λ d h.
    let added = c.in-Ok-add.ensures.added in
    opened_with c.args.tables.now c.add.new.self c.args.class added.0 c.in-Ok-add.ensures.places added.6
    (λ (k : Class). IsOpened (g.S.TableStore.headers c.args.store.now k)) (c.in-Ok.ensures.opened refl) d h

pub returns-in-Ok-add-clause-fails : goal.returns-in-Ok-add-clause-fails
returns-in-Ok-add-clause-fails g c = λ d f h.
    let added = c.in-Ok-add.ensures.added in
    fails_with c.args.tables.now c.add.new.self c.args.class added.0 c.in-Ok-add.ensures.places added.6 g.S.Pages.PageSource.gives c.in-Ok.source
    added.4 (g.S.TableStore.faults c.args.store.now) c.in-Ok.ensures.fails d f h

pub returns-in-Err : goal.returns-in-Err
returns-in-Err g c =
    let headers = g.S.TableStore.headers c.args.store.now in
    let faults = g.S.TableStore.faults c.args.store.now in
    record {
      right = λ h r. tt;
      grows = λ d h. tt;
      opened = λ d. tt;
      given = tt;
      fails = λ d f. tt;
      named = subst (IsOfTables headers faults) (sym c.denial_of.ensures)
          (source_denied (is_some (held_of c.args.tables.now.sources c.args.class)) g.S.Pages.PageSource.gives g.S.Pages.PageSource.honest
          c.in-Ok.source headers faults c.args.class (sym c.holds.ensures ∙ c.if-holds.false) (c.in-Ok.ensures.opened refl) c.in-Ok.ensures.given
          c.in-Ok.ensures.fails c.in-Err.fault c.in-Err.ensures.fault);
      stays = c.pages.ensures.stays true;
      headers = c.pages.ensures.headers;
      faults = c.pages.ensures.faults;
    }
