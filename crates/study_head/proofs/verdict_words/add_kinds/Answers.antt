use Rattle.std.proofs.Common.{List, ℕ, ◌++◌, ap, ◌∙◌, append_assoc}
use Rattle.std.specs.Prelude.{codes}
use Rattle.std.proofs.lemmas.Result.{on_ok_weaker}
use Rattle.study_head.specs.Verdict.{part_words}
use Rattle.study_head.proofs.verdict_words.add_kinds.Goals as goal

pub returns : goal.returns
returns g c =
    let k = c.args.counts.now in
    let a = part_words k.variations (codes " in a variation") (codes " in variations") in
    let b = part_words k.last (codes " in a last move") (codes " in last moves") in
    let d = part_words k.time (codes " wastes time") (codes " waste time") in
    let text = c.args.text.now in
    on_ok_weaker c.add_part-3.result
    (λ e. e ∙ ap (λ (x : List ℕ). x ++ d) c.in_ok-add_part-2.ensures ∙ ap (λ (x : List ℕ). (x ++ b) ++ d) c.in_ok-add_part.ensures
    ∙ append_assoc (text ++ a) b d ∙ append_assoc text a (b ++ d))
    c.add_part-3.ensures
