use Rattle.std.proofs.Common.{sym, ap, subst}
use Rattle.std.specs.Prelude.{List, Option}
use Rattle.study_table.specs.Table.{Table}
use Rattle.study_prober.specs.WholeTables.{Whole, TablesAreRight}
use Rattle.study_prober.proofs.Tables.{right_added}
use Rattle.study_prober.proofs.whole_tables.WholeTables.add.Goals as goal

pub returns-clause-honest : goal.returns-clause-honest
returns-clause-honest g c = λ right own.
    right_added c.add.result c.self.inside.tables c.add.new.self c.args.table c.add.ensures.added c.add.ensures.same
    (subst (λ (held : List (Option Table)). TablesAreRight held) (sym (ap (λ (w : Whole). w.tables) c.self.view_is)) right) own
