use Rattle.std.proofs.Common.{◌≡◌, ◌≤◌, ◌+◌, ◌-◌, ◌*◌, ◌++◌}
use Rattle.study_notation.specs.FenSpelling.{rank_field}
use Rattle.study_notation.proofs.RowText.{rest_text}
use Rattle.study_notation.proofs.fen_writer.write_rank.Given as goal

abbrev pub invariant-loop-file : goal.invariant-loop-file
invariant-loop-file g l =
    (l.out.bytes ++ rest_text l.men (8 * l.rank + l.file) (8 - l.file) l.empty ≡ l.initial.out.bytes
    ++ rank_field l.men l.rank) × (l.empty ≤ l.file)
