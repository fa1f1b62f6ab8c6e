use Rattle.std.proofs.Common.{◌≡◌, ℕ, Bool, true, false, List, Option, Result, Err, refl, sym, subst, ◌∙◌}
use Rattle.study_material.specs.declared.class.Class.{Class}
use Rattle.study_tablefile.specs.Format.{IsVersionOf}
use Rattle.study_values.specs.declared.fault.SourceFault.{SourceFault}
use Rattle.study_tablefile.specs.PageSource.{Question, of_header, of_page}
use Rattle.study_prober.specs.HeaderAnswers.{paged_fault}
use Rattle.study_script.specs.declared.store.StoreFault.{StoreFault}
use Rattle.study_script.specs.State.{IsGiven, IsGivenAs, IsQuestionOf}
use Rattle.study_script.specs.Stores.{HonestOn, StoreSeen}
use Rattle.study_script.proofs.HeldTables.{store_same, store_with}
use Rattle.study_script.proofs.PagedReplies.{reported_is, accepted_none, open_held, open_unopened, open_done, open_refused, gives_right, paged_with}
use Rattle.study_script.proofs.table_commands.open_class.Goals as goal

pub returns-then-holds : goal.returns-then-holds
returns-then-holds g c = λ trusted s may h seen.
    open_held g.S.Pages.PageSource.honest g.S.Pages.PageSource.gives c.args.tables.now s h c.args.class
    (StoreSeen (HonestOn trusted g.S.TableStore.honest) g.S.TableStore.files g.S.TableStore.headers g.S.TableStore.faults c.args.store.now) seen
    (sym c.holds.ensures ∙ c.if-holds.true)

pub returns-in-Err : goal.returns-in-Err
returns-in-Err g c = λ trusted s may h seen.
    rw c.refusal_of_store.ensures (open_unopened g.S.Pages.PageSource.honest g.S.Pages.PageSource.gives c.args.tables.now s h c.args.class
    (StoreSeen (HonestOn trusted g.S.TableStore.honest) g.S.TableStore.files g.S.TableStore.headers g.S.TableStore.faults c.pages.new.self)
    (store_same (HonestOn trusted g.S.TableStore.honest) g.S.TableStore.files g.S.TableStore.headers g.S.TableStore.faults c.args.store.now c.pages.new.self
    s (λ b all k is. c.pages.ensures.stays b k (all k is)) c.pages.ensures.files c.pages.ensures.headers c.pages.ensures.faults seen) c.in-Err.fault
    (sym c.holds.ensures ∙ c.if-holds.false)
    (subst (λ (k : Option (Result (List ℕ) StoreFault)). IsGiven k (Err c.in-Err.fault)) (seen.known.headers_known c.args.class) c.in-Err.ensures.given))

pub returns-in-Ok-add : goal.returns-in-Ok-add
returns-in-Ok-add g c = λ trusted s may h seen.
    let honest = g.S.Pages.PageSource.honest in
    let lacks = sym c.holds.ensures ∙ c.if-holds.false in
    let known = seen.known.headers_known c.args.class in
    let seen' = store_same (HonestOn trusted g.S.TableStore.honest) g.S.TableStore.files g.S.TableStore.headers g.S.TableStore.faults c.args.store.now
    c.pages.new.self s (λ b all k is. c.pages.ensures.stays b k (all k is)) c.pages.ensures.files c.pages.ensures.headers c.pages.ensures.faults seen in
    let reported = c.in-Ok-add.ensures.fault.0 in
    let fails : (q : Question) (f : SourceFault) → IsQuestionOf c.args.class q → g.S.Pages.PageSource.gives c.in-Ok.source q (Err f)
    → s.shelf.faults c.args.class f ≡ true = λ q f ask m. sym (seen.known.faults_known c.args.class f) ∙ c.in-Ok.ensures.fails q f ask m in
    let is_reported = subst (λ (k : Option (Result (List ℕ) StoreFault)). IsGivenAs k (s.shelf.faults c.args.class) reported) known
    (reported_is (g.S.Pages.PageSource.gives c.in-Ok.source of_header)
    (g.S.TableStore.headers c.args.store.now c.args.class) (s.shelf.faults c.args.class) reported (c.in-Ok-add.ensures.fault.1 lacks).0
    (c.in-Ok.ensures.opened refl) c.in-Ok.ensures.given (λ f m. fails of_header f tt m)) in
    let none = accepted_none (paged_fault false c.args.class reported) c.in-Ok-add.field-0 (rw lacks at c.in-Ok-add.ensures.fault.2) in
    let source = c.in-Ok.ensures.right (subst (λ (b : Bool). g.S.TableStore.honest c.args.store.now b c.args.class) (sym h.by_pages)
    (seen.is_honest c.args.class may)) in
    let own = c.in-Ok-add.ensures.own source.table source.version source.known source.is_honest in
    let right =
    c.in-Ok-add.ensures.honest source.version
    (subst (λ (k : Class). IsVersionOf k source.version) own source.known) h.values
    (gives_right honest c.in-Ok.source c.args.class source own) in
    let added = c.in-Ok-add.ensures.added in
    open_done honest g.S.Pages.PageSource.gives c.args.tables.now s h c.args.class
    (StoreSeen (HonestOn trusted g.S.TableStore.honest) g.S.TableStore.files g.S.TableStore.headers g.S.TableStore.faults c.pages.new.self) c.add.new.self
    reported
    (store_with (HonestOn trusted g.S.TableStore.honest) g.S.TableStore.files g.S.TableStore.headers g.S.TableStore.faults c.pages.new.self s c.args.class
    seen') (paged_with honest g.S.Pages.PageSource.gives c.args.tables.now c.add.new.self s c.args.class added.0 h right
    c.in-Ok-add.ensures.places added.6
    (λ n f inside m. fails (of_page n) f inside (added.4.back (of_page n) (Err f) m))) lacks is_reported none

pub returns-in-Err-add : goal.returns-in-Err-add
returns-in-Err-add g c = λ trusted s may h seen.
    let honest = g.S.Pages.PageSource.honest in
    let lacks = sym c.holds.ensures ∙ c.if-holds.false in
    let known = seen.known.headers_known c.args.class in
    let seen' = store_same (HonestOn trusted g.S.TableStore.honest) g.S.TableStore.files g.S.TableStore.headers g.S.TableStore.faults c.args.store.now
    c.pages.new.self s (λ b all k is. c.pages.ensures.stays b k (all k is)) c.pages.ensures.files c.pages.ensures.headers c.pages.ensures.faults seen in
    let reported = c.in-Err-add.ensures.fault.0 in
    let fails : (q : Question) (f : SourceFault) → IsQuestionOf c.args.class q → g.S.Pages.PageSource.gives c.in-Ok.source q (Err f)
    → s.shelf.faults c.args.class f ≡ true = λ q f ask m. sym (seen.known.faults_known c.args.class f) ∙ c.in-Ok.ensures.fails q f ask m in
    let is_reported = subst (λ (k : Option (Result (List ℕ) StoreFault)). IsGivenAs k (s.shelf.faults c.args.class) reported) known
    (reported_is (g.S.Pages.PageSource.gives c.in-Ok.source of_header)
    (g.S.TableStore.headers c.args.store.now c.args.class) (s.shelf.faults c.args.class) reported (c.in-Err-add.ensures.fault.1 lacks).0
    (c.in-Ok.ensures.opened refl) c.in-Ok.ensures.given (λ f m. fails of_header f tt m)) in
    rw c.refusal_of_paged.ensures
    (open_refused honest g.S.Pages.PageSource.gives c.args.tables.now s h c.args.class
    (StoreSeen (HonestOn trusted g.S.TableStore.honest) g.S.TableStore.files g.S.TableStore.headers g.S.TableStore.faults c.pages.new.self)
    c.add.new.self reported c.in-Err-add.fault c.in-Err-add.ensures.same seen' lacks is_reported
    (rw lacks at c.in-Err-add.ensures.fault.2))
