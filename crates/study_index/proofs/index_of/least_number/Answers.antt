use Rattle.study_values.specs.Number.{IsLeastNumber}
use Rattle.study_index.proofs.ComputedIndex.{least_number-only}
use Rattle.study_index.proofs.WithBit.{number_small}
use Rattle.study_index.proofs.TurnedNumbers.{least_found, no_none, the_some}
use Rattle.study_index.proofs.index_of.least_number.Goals as goal

pub unreachable-requires : goal.unreachable-requires
unreachable-requires c =
    no_none {P = IsLeastNumber c.args.p.now} (least_found c.args.p.now _ _ _ _ _ _ c.men-men.ensures.value c.men-men.ensures.valid c.is_swapped-colours.ensures
    c.has_pawn.ensures c.to_move.ensures c.side_after.ensures c.in-None.ensures)

pub returns-clause-least : goal.returns-clause-least
returns-clause-least c =
    the_some {P = IsLeastNumber c.args.p.now} c.in-Some.n
    (least_found c.args.p.now _ _ _ _ _ _ c.men-men.ensures.value c.men-men.ensures.valid
    c.is_swapped-colours.ensures
    c.has_pawn.ensures c.to_move.ensures c.side_after.ensures c.in-Some.ensures)

pub returns-clause-value : goal.returns-clause-value
returns-clause-value c =
    least_number-only c.args.p.now c.in-Some.n c.men-men.ensures.valid
    (the_some {P = IsLeastNumber c.args.p.now} c.in-Some.n
    (least_found c.args.p.now _ _ _ _ _ _ c.men-men.ensures.value c.men-men.ensures.valid
    c.is_swapped-colours.ensures
    c.has_pawn.ensures c.to_move.ensures c.side_after.ensures c.in-Some.ensures))

pub returns-clause-small : goal.returns-clause-small
returns-clause-small c =
    number_small c.args.p.now c.in-Some.n c.men-men.ensures.valid
    (the_some {P = IsLeastNumber c.args.p.now} c.in-Some.n
    (least_found c.args.p.now _ _ _ _ _ _ c.men-men.ensures.value c.men-men.ensures.valid
    c.is_swapped-colours.ensures
    c.has_pawn.ensures c.to_move.ensures c.side_after.ensures c.in-Some.ensures)).number
