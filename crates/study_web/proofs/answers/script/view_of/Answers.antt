use Rattle.std.proofs.Common.{Bool, true, is_some, filter, subst, sym, ◌∙◌}
use Rattle.study_material.specs.declared.class.Class.{Class}
use Rattle.study_material.specs.Class.{class_list}
use Rattle.study_prober.specs.PagedTables.{held_of}
use Rattle.study_command.specs.Paths.{steps_of}
use Rattle.study_script.specs.SessionHolds.{document_seen}
use Rattle.study_command.specs.Documents.{Document}
use Rattle.study_script.specs.State.{StoreKnowledge, is_among}
use Rattle.study_web.specs.Answers.{IsNever, IsUnread}
use Rattle.study_web.specs.Opened.{IsHeldAs, IsOfTables}
use Rattle.study_web.specs.Views.{IsValueFaultOver, LacksNode, LacksNodeOver, OverStore}
use Rattle.study_web.proofs.Denials.{weaker_denial}
use Rattle.study_web.proofs.Opening.{among_chosen}
use Rattle.study_web.proofs.ViewsLeft.{view_over}
use Rattle.study_web.proofs.answers.script.view_of.Goals as goal

pub returns-in-Ok-run_to_end-clause-text : goal.returns-in-Ok-run_to_end-clause-text
returns-in-Ok-run_to_end-clause-text g c = λ right.
    let chosen : Class → Bool = λ d. is_some (held_of c.in-Ok.tables.sources d) in
    let classes = filter chosen class_list in
    let left = c.in-Ok-run_to_end.left in
    let store = c.open_tables.new.store in
    let shelf : StoreKnowledge = record { files = g.S.TableStore.files store; headers = g.S.TableStore.headers store; faults = g.S.TableStore.faults store } in
    let same = c.open_tables.ensures.faults in
    let is = c.in-Ok-run_to_end.ensures.left classes (c.in-Ok.ensures.right right) (λ d. sym (among_chosen chosen d))
    (λ d f m. same d f ∙ c.in-Ok.ensures.fails d f m) in
    view_over c.view_of_end.result (λ v. v.items) (g.S.TableStore.headers c.args.store.now) (g.S.TableStore.faults c.args.store.now) classes shelf
    c.args.script.now (steps_of c.args.path.now) is.0 (document_seen left.document) left.refused.items
    (λ d. rw (among_chosen chosen d) (c.in-Ok.ensures.held d)) same is.1.document is.2 (c.view_of_end.ensures.text is.1.values is.1.marks)

pub returns-in-Ok-run_to_end-clause-none : goal.returns-in-Ok-run_to_end-clause-none
returns-in-Ok-run_to_end-clause-none g c =
    let chosen : Class → Bool = λ d. is_some (held_of c.in-Ok.tables.sources d) in
    let classes = filter chosen class_list in
    let left = c.in-Ok-run_to_end.left in
    let store = c.open_tables.new.store in
    let shelf : StoreKnowledge = record { files = g.S.TableStore.files store; headers = g.S.TableStore.headers store; faults = g.S.TableStore.faults store } in
    let same = c.open_tables.ensures.faults in
    let headers = g.S.TableStore.headers c.args.store.now in
    let faults = g.S.TableStore.faults c.args.store.now in
    let steps = steps_of c.args.path.now in
    let held : (d : Class) → IsHeldAs (headers d) (is_among classes d) = λ d. rw (among_chosen chosen d) (c.in-Ok.ensures.held d) in
    weaker_denial _ (λ fault. ((d : Class) → g.S.TableStore.honest c.args.store.now true d)
    → OverStore headers faults (IsValueFaultOver c.args.script.now fault))
    (LacksNode (document_seen left.document) steps)
    (((d : Class) → g.S.TableStore.honest c.args.store.now true d) → OverStore headers faults (LacksNodeOver c.args.script.now steps))
    (λ fault no_value right. let is = c.in-Ok-run_to_end.ensures.left classes (c.in-Ok.ensures.right right) (λ d. sym (among_chosen chosen d))
    (λ d f m. same d f ∙ c.in-Ok.ensures.fails d f m) in (classes, held, shelf, same, (is.0, left.refused.items, is.2, no_value is.0 is.1)))
    (λ lacks right. let is = c.in-Ok-run_to_end.ensures.left classes (c.in-Ok.ensures.right right) (λ d. sym (among_chosen chosen d))
    (λ d f m. same d f ∙ c.in-Ok.ensures.fails d f m) in
    (classes, held, shelf, same, (is.0, left.refused.items, is.2, subst (λ (x : Document). LacksNode x steps) is.1.document lacks)))
    (IsOfTables headers faults) IsNever (IsUnread c.args.script.now) (λ fault never. absurd never) c.view_of_end.result c.view_of_end.ensures.none
