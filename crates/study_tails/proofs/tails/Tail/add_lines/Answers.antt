use Rattle.std.proofs.Common.{◌++◌, [], ap, map, ◌∙◌}
use Rattle.study_tree.proofs.Outcomes.{on_ok-then}
use Rattle.study_marks.specs.Edits.{PlainStudy}
use Rattle.study_tails.specs.Study.{text_of}
use Rattle.study_tails.specs.Lines.{study_lines}
use Rattle.study_tails.specs.Blocks.{widen_study}
use Rattle.study_tails.proofs.LinesWritten.{tail_written}
use Rattle.study_tails.proofs.tails.Tail.add_lines.Goals as goal

pub returns : goal.returns
returns g c =
    on_ok-then c.add_inserts.result
    (λ h. tail_written c.self.inside.start c.self.inside.stipulation (map text_of c.self.inside.tags.now) c.self.inside.tree.below
    c.args.out.now c.add_head.new.out c.add_inserts.new.out c.self.invariant.0 c.in_ok-add_head.ensures h
    ∙ ap (λ (u : PlainStudy). c.args.out.now ++ study_lines [] (widen_study u)) c.self.view_is)
    c.add_inserts.ensures
