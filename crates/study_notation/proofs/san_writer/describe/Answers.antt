use Rattle.std.proofs.Common.{sym}
use Rattle.study_notation.proofs.OneCoordinate.{not_both}
use Rattle.study_notation.proofs.san_writer.describe.Goals as goal
use Rattle.study_notation.proofs.san_writer.describe.Goals.{then-gives_file, else-gives_file, then-gives_rank, else-gives_rank}

pub returns-clause-one : goal.returns-clause-one
returns-clause-one c = elim c.if-gives_file.branch [
  | else-gives_file w ↦ rw w.result-is tt
  | then-gives_file w ↦ rw w.result-is (elim c.if-gives_rank.branch [
    | else-gives_rank v ↦ rw v.result-is tt
    | then-gives_rank v ↦ absurd (not_both c.args.p.now c.args.man.now c.args.m.now.target (sym w.if-gives_file.ensures) (sym v.if-gives_rank.ensures))
  ])
]
