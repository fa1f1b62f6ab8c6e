use Rattle.study_index.proofs.DecodedKings.{decoded_kings}
use Rattle.study_index.proofs.decoding.decode_slots.Goals as goal

pub position_of_men-requires-clause-kings : goal.position_of_men-requires-clause-kings
position_of_men-requires-clause-kings c = rw (c.as_slice.ensures.value, c.decode_men_in-setup.ensures.men)
    (decoded_kings c.args.slots.now c.args.n c.requires.slots)
