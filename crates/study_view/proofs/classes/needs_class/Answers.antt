use Rattle.study_view.proofs.ClassesNeeded.{needs_class_by}
use Rattle.study_view.proofs.classes.needs_class.Goals as goal

pub returns : goal.returns
returns c =
    needs_class_by c.args.p.now c.class_of-own.result.0 c.args.class c.order.result.items c.as_slice.result.now c.is_in.result
    c.positions_have_one_class.ensures c.men-men.ensures.valid c.class_of-own.ensures.class c.order.ensures c.as_slice.ensures.value c.is_in.ensures
