use Rattle.std.proofs.Common.{◌≡◌, ◌&&◌, drop, find}
use Rattle.std.specs.Str.{bytes_eq}
use Rattle.study_tablefile.specs.Format.{is_known_version, class_field}
use Rattle.study_tablefile.specs.Reading.{class_named}
use Rattle.study_tablefile.proofs.reader.class_of_field.Given as goal

abbrev pub invariant-loop-class : goal.invariant-loop-class
invariant-loop-class l = class_named l.version l.field
    ≡ find (λ c. is_known_version l.version c && bytes_eq l.field (class_field c)) (drop l.class-index l.class-items)
