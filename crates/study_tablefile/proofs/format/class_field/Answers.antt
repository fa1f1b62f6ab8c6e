use Rattle.std.proofs.Common.{sym}
use Rattle.study_values.proofs.ClassBounds.{short_name}
use Rattle.std.proofs.lemmas.List.{length-take-le}
use Rattle.study_tablefile.proofs.format.class_field.Goals as goal

pub slice_bounds-copy_from_slice-end : goal.slice_bounds-copy_from_slice-end
slice_bounds-copy_from_slice-end c = sym (length-take-le _ _ (rw c.as_bytes-name.ensures.value (rw c.name.ensures (short_name c.args.class))))

pub copy_from_slice-requires : goal.copy_from_slice-requires
copy_from_slice-requires c = length-take-le _ _ (rw c.as_bytes-name.ensures.value (rw c.name.ensures (short_name c.args.class)))
