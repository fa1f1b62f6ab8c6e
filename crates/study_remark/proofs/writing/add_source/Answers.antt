use Rattle.std.proofs.Common.{◌≡◌, ◌++◌, List, ℕ, OnOk, subst}
use Rattle.std.specs.Prelude.{codes}
use Rattle.study_remark.specs.Remarks.{stipulated_words}
use Rattle.study_remark.proofs.writing.add_source.Goals as goal

pub returns : goal.returns
unfolding stipulated_words
returns g c = subst (λ (w : List ℕ). OnOk c.add_both.result (c.add_both.new.out ≡ c.args.out.now ++ (codes "stipulated by " ++ w)))
    c.source_words.ensures c.add_both.ensures
