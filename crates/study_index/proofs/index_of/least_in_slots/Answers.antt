use Rattle.std.proofs.Common.{ap, ◌∙◌}
use Rattle.study_values.specs.Canonical.{canonical_number}
use Rattle.study_index.proofs.Slots.{sort_by_slot-alone}
use Rattle.study_index.proofs.index_of.least_in_slots.Goals as goal

pub returns-in-len1 : goal.returns-in-len1
returns-in-len1 c =
    c.canonical_number.ensures ∙ ap (λ l. canonical_number c.args.frame.has_pawns c.args.frame.to_move c.args.frame.swap_colours l)
    (sort_by_slot-alone c.args.frame.swap_colours c.args.men.now _ c.in-len1.len_at_least c.in-len1.len_below c.a-item.is)
