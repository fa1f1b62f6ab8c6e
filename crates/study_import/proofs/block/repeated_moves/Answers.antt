use Rattle.std.proofs.Common.{◌-◌, sym, ap, ◌∙◌}
use Rattle.study_marks.specs.BenchState.{marked_study}
use Rattle.study_import.proofs.Moved.{size_plain}
use Rattle.study_import.proofs.block.repeated_moves.Goals as goal

pub returns : goal.returns
returns g c =
    c.saturating_sub.ensures
    ∙ ap (λ n. c.args.notes.now.moves - n) (c.new_nodes.ensures ∙ ap (λ n. n - 1) (c.size.ensures.size ∙ sym (size_plain (marked_study c.args.bench.now))))
