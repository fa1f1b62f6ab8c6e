use Rattle.std.proofs.Common.{◌++◌, append_assoc, ap, ◌∙◌}
use Rattle.std.specs.Prelude.{codes}
use Rattle.std.proofs.lemmas.Result.{on_ok_weaker}
use Rattle.study_import.specs.Blocks.{repeated_words}
use Rattle.study_import.proofs.block.add_repeated_words.Goals as goal

pub returns : goal.returns
unfolding repeated_words
returns g c = on_ok_weaker c.add-2.result (λ h. h ∙ ap (λ t. t ++ c.args.name.now) c.in_ok-add.ensures
    ∙ append_assoc c.args.out.now (codes "TagTwice at ") c.args.name.now) c.add-2.ensures
