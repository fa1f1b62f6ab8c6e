use Rattle.std.proofs.Common.{rules, ◌≡◌, ℕ, Bool, List, Option, Result, Ok, Err, sym, ap, subst, ◌∙◌}
use denote.Enum.Bare.{differs_true, differs_false}
use Rattle.study_material.specs.contracts.class.Class.{the_type}
use Rattle.study_material.specs.Needs.{needs_of}
use Rattle.study_table.specs.Table.{Table}
use Rattle.study_table.specs.TableSet.{first_missing}
use Rattle.study_script.specs.State.{IsGiven}
use Rattle.study_script.specs.declared.store.StoreFault.{StoreFault}
use Rattle.study_script.specs.Stores.{HonestOn, StoreSeen}
use Rattle.study_script.specs.Decided.{IsFileRefusal}
use Rattle.study_script.proofs.HeldTables.{may_add, whole_with, store_with, same_at, other_at}
use Rattle.study_script.proofs.ClassReplies.{load_held, load_missing, load_refused, load_other, load_done}
use Rattle.study_script.proofs.table_commands.load_class.Goals as goal

pub returns-then-has_table : goal.returns-then-has_table
returns-then-has_table g c = λ trusted s may h seen.
    load_held c.args.tables.now s h c.args.class
    (StoreSeen (HonestOn trusted g.S.TableStore.honest) g.S.TableStore.files g.S.TableStore.headers g.S.TableStore.faults c.args.store.now) seen
    (sym c.has_table.ensures.value ∙ c.if-has_table.true)

pub returns-in-Some : goal.returns-in-Some
returns-in-Some g c = λ trusted s may h seen.
    load_missing c.args.tables.now s h c.args.class
    (StoreSeen (HonestOn trusted g.S.TableStore.honest) g.S.TableStore.files g.S.TableStore.headers g.S.TableStore.faults c.args.store.now) seen
    c.in-Some.need (sym c.has_table.ensures.value ∙ c.if-has_table.false)
    (ap (λ (held : List (Option Table)). first_missing held (needs_of c.args.class)) (sym c.tables.ensures) ∙ sym c.first_missing.ensures ∙ c.in-Some.is)

pub returns-in_err-table : goal.returns-in_err-table
returns-in_err-table g c = λ trusted s may h seen.
    let honest = subst (λ (b : Bool). g.S.TableStore.honest c.args.store.now b c.args.class) (sym h.whole) (seen.is_honest c.args.class may) in
    let missing = ap (λ (held : List (Option Table)). first_missing held (needs_of c.args.class))
    (sym c.tables.ensures) ∙ sym c.first_missing.ensures ∙ c.in_default.is in
    let refusal = c.in_err-table.field-0.0 in
    let is : c.from_residual.result ≡ Err refusal = search rules in
    rw is
    (load_refused c.args.tables.now s h c.args.class
    (StoreSeen (HonestOn trusted g.S.TableStore.honest) g.S.TableStore.files g.S.TableStore.headers g.S.TableStore.faults c.read_table_file.new.store)
    (c.read_table_file.ensures.store trusted s seen) refusal
    (sym c.has_table.ensures.value ∙ c.if-has_table.false) missing
    (subst (λ (k : Option (Result (List ℕ) StoreFault)). IsFileRefusal k refusal)
    (seen.known.files_known c.args.class) (c.in_err-table.ensures.refused honest)))

pub returns-then-ne : goal.returns-then-ne
returns-then-ne g c = λ trusted s may h seen.
    let honest = subst (λ (b : Bool). g.S.TableStore.honest c.args.store.now b c.args.class) (sym h.whole) (seen.is_honest c.args.class may) in
    let read = c.in_ok-table.ensures.read honest in
    let missing = ap (λ (held : List (Option Table)). first_missing held (needs_of c.args.class))
    (sym c.tables.ensures) ∙ sym c.first_missing.ensures ∙ c.in_default.is in
    let other = differs_true the_type _ _ (sym c.ne.ensures ∙ c.if-ne.true) in
    rw c.class-then-ne.ensures.value
    (load_other c.args.tables.now s h c.args.class
    (StoreSeen (HonestOn trusted g.S.TableStore.honest) g.S.TableStore.files g.S.TableStore.headers g.S.TableStore.faults c.read_table_file.new.store)
    (c.read_table_file.ensures.store trusted s seen) read.0 c.in_ok-table.table
    (sym c.has_table.ensures.value ∙ c.if-has_table.false) missing
    (subst (λ (k : Option (Result (List ℕ) StoreFault)). IsGiven k (Ok read.0))
    (seen.known.files_known c.args.class) read.1) read.2
    (other_at c.in_ok-table.table.class c.args.class (λ e. other (c.class.ensures.value ∙ e))))

pub add_table-requires : goal.add_table-requires
add_table-requires g c =
    let missing = ap (λ (held : List (Option Table)). first_missing held (needs_of c.args.class))
    (sym c.tables.ensures) ∙ sym c.first_missing.ensures ∙ c.in_default.is in
    let same = sym c.class.ensures.value ∙ differs_false the_type (search rules) _ _ (sym c.ne.ensures ∙ c.if-ne.false) in
    may_add c.args.tables.now.tables c.args.class c.in_ok-table.table.class same (sym c.has_table.ensures.value ∙ c.if-has_table.false) missing

pub returns : goal.returns
returns g c = λ trusted s may h seen.
    let honest = subst (λ (b : Bool). g.S.TableStore.honest c.args.store.now b c.args.class) (sym h.whole) (seen.is_honest c.args.class may) in
    let read = c.in_ok-table.ensures.read honest in
    let missing = ap (λ (held : List (Option Table)). first_missing held (needs_of c.args.class))
    (sym c.tables.ensures) ∙ sym c.first_missing.ensures ∙ c.in_default.is in
    let same = sym c.class.ensures.value ∙ differs_false the_type (search rules) _ _ (sym c.ne.ensures ∙ c.if-ne.false) in
    load_done c.args.tables.now s h c.args.class (StoreSeen (HonestOn trusted g.S.TableStore.honest) g.S.TableStore.files g.S.TableStore.headers
    g.S.TableStore.faults c.read_table_file.new.store)
    (store_with (HonestOn trusted g.S.TableStore.honest) g.S.TableStore.files g.S.TableStore.headers g.S.TableStore.faults c.read_table_file.new.store s
    c.args.class (c.read_table_file.ensures.store trusted s seen)) c.add_table.new.tables read.0 c.in_ok-table.table
    (sym c.has_table.ensures.value ∙ c.if-has_table.false) missing
    (subst (λ (k : Option (Result (List ℕ) StoreFault)). IsGiven k (Ok read.0))
    (seen.known.files_known c.args.class) read.1) read.2 (same_at c.in_ok-table.table.class c.args.class same)
    (whole_with c.args.tables.now c.add_table.new.tables s c.in_ok-table.table c.args.class c.has_table.ensures.closed h read.3 same c.add_table.ensures.held)
