use Rattle.std.proofs.Common.{ℕ, List, length, take, ap, ◌∙◌}
use Rattle.study_entry.proofs.Padded.{padded_length, padded_front, padded_zeros}
use Rattle.study_entry.proofs.name.Name.of.Goals as goal

pub invariant_of-result : goal.invariant_of-result
invariant_of-result c =
    let few = c.first-kept.ensures.within in
    rw c.padded.ensures (few, padded_length c.first-kept.result.now few, padded_zeros c.first-kept.result.now)

pub returns : goal.returns
returns c =
    ap (λ (b : List ℕ). take (length c.first-kept.result.now) b) c.padded.ensures
    ∙ padded_front c.first-kept.result.now ∙ c.first-kept.ensures.value
