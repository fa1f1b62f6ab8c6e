use Rattle.std.proofs.Common.{◌∙◌, ap}
use Rattle.study_tablefile.specs.Format.{page_cells_of}
use Rattle.study_prober.proofs.ReadPages.{copied}
use Rattle.study_prober.proofs.whole_tables.copy_cells.Goals as goal

pub returns : goal.returns
returns c = rw c.copy_from_slice.ensures.after
    (copied c.split_at.result.1.now c.min-count.result c.min-count.ensures ∙ ap page_cells_of c.split_at.ensures.back)
