use Rattle.std.proofs.Common.{refl, sym, ◌∙◌}
use Rattle.study_command.proofs.PathRead.{some_place}
use Rattle.study_command.proofs.path.read_path.Goals as goal

pub returns-else-is_root-clause-root : goal.returns-else-is_root-clause-root
returns-else-is_root-clause-root g c = λ root.
    absurd (some_place c.args.path.now (sym (c.if-is_root.ensures.places refl) ∙ root))
