use Rattle.study_search.proofs.Faults.{read}
use Rattle.study_search.proofs.OtherSide.{page-there}
use Rattle.study_search.proofs.by_cells.read_page.Goals as goal

pub read_cells-requires : goal.read_cells-requires
read_cells-requires g c = page-there c.args.class c.args.page c.requires

pub returns-clause-faults : goal.returns-clause-faults
returns-clause-faults g c =
    read g.V.Values.source c.args.class c.args.values.now c.read_cells.result
    c.read_cells.ensures.no_table c.read_cells.ensures.failed_so c.read_cells.ensures.no_damage
