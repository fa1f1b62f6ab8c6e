use Rattle.std.proofs.Common.{◌∙◌, sym, ap, List, Option}
use Rattle.study_material.specs.declared.class.Class.{Class}
use Rattle.study_material.specs.Needs.{needs_of}
use Rattle.study_material.specs.Class.{class_number}
use Rattle.study_table.specs.Table.{Table}
use Rattle.study_table.specs.TableSet.{first_missing}
use Rattle.study_table.proofs.SetLemmas.{closed_with}
use Rattle.study_table.proofs.table_set.TableSet.add.Goals as goal

pub invariant_of-self : goal.invariant_of-self
invariant_of-self g c =
    closed_with c.self.inside.tables.items c.args.table c.number.result c.first_missing.result c.self.invariant c.class-class.ensures.complete
    (c.number.ensures.value ∙ ap class_number c.class-class.ensures.value)
    (c.first_missing.ensures ∙ ap (λ (x : Class). first_missing c.args.self.now (needs_of x))
    c.class-class.ensures.value
    ∙ ap (λ (held : List (Option Table)). first_missing held (needs_of c.args.table.class))
    (sym c.self.view_is)) c.in_default.is
