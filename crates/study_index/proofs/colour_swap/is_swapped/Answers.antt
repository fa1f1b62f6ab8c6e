use Rattle.std.proofs.Common.{◌≡◌, ◌≤◌, ◌*◌, ℕ, List, length, filter, nat_lt}
use Rattle.study_board.specs.declared.men.Man.{Man}
use Rattle.study_material.specs.Lists.{is_other_than_king, is_swapped}
use Rattle.study_material.proofs.MenBesideKings.{few_others}
use Rattle.study_index.specs.Weights.{balance_of}
use Rattle.study_index.proofs.HeavierSide.{swapped_by_weights}
use Rattle.study_index.proofs.colour_swap.is_swapped.Goals as goal

by_weights : (xs men : List Man) (n : ℕ) → xs ≡ men → n ≡ balance_of xs → length (filter is_other_than_king men) ≤ 2
    → nat_lt (10 * length xs) n ≡ is_swapped men
by_weights xs men n e f l = rw (f, e) (swapped_by_weights men l)

pub returns : goal.returns
returns c = by_weights _ _ _ c.men-men.ensures.value c.balance_of.ensures (few_others c.args.p.now c.men-men.ensures.valid)
