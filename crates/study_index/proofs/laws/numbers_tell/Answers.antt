use Rattle.std.proofs.lemmas.List.Sorted.{Contains-permutation, IsPermutation-sym}
use Rattle.study_values.specs.Number.{without_bit}
use Rattle.study_index.specs.Decoded.{slots_of, decoded_men}
use Rattle.study_index.proofs.DecodedNumbers.{encoded_by}
use Rattle.study_index.proofs.ComputedIndex.{decoded_of_numbered}
use Rattle.study_index.proofs.laws.numbers_tell.Goals as goal

pub returns : goal.returns
returns c = λ k n q e.
    let t = encoded_by k n q (decoded_of_numbered k n q e) in
    let men = decoded_men (slots_of k) (without_bit n) in
    record {
      men = t.same_men;
      same = λ m. (Contains-permutation men q.men m t.same_men, Contains-permutation q.men men m (IsPermutation-sym men q.men t.same_men));
      to_move = t.same_side;
      passed = t.same_passed;
    }
