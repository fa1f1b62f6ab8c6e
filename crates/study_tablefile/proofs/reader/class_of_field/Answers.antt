use Rattle.std.proofs.Common.{Bool, ◌&&◌, ◌<◌, List, length, sym, subst, ◌∙◌}
use Rattle.std.specs.Str.{bytes_eq}
use Rattle.study_material.specs.declared.class.Class.{Class}
use Rattle.study_material.specs.declared.class.Class.TheVariants.{KK}
use Rattle.study_tablefile.specs.Format.{is_known_version, class_field}
use Rattle.study_tablefile.proofs.BytesGiven.{find_here, find_later}
use Rattle.study_tablefile.proofs.reader.class_of_field.Goals as goal

pub returns-then-is_class_field : goal.returns-then-is_class_field
returns-then-is_class_field c =
    let test : Class → Bool = λ d. is_known_version c.args.version d && bytes_eq c.args.field.now (class_field d) in
    sym (c.loop-class.invariant ∙ find_here test _ c.loop-class.class-index KK
    (subst (λ (l : List Class). c.loop-class.class-index < length l) (sym c.all-class-items.ensures)
    c.loop-class-test.true) (sym c.is_class_field.ensures ∙ c.if-is_class_field.true))

pub loop-class-preserved : goal.loop-class-preserved
loop-class-preserved c =
    let test : Class → Bool = λ d. is_known_version c.args.version d && bytes_eq c.args.field.now (class_field d) in
    c.loop-class.invariant ∙ find_later test _ c.loop-class.class-index KK
    (subst (λ (l : List Class). c.loop-class.class-index < length l) (sym c.all-class-items.ensures)
    c.loop-class-test.true) (sym c.is_class_field.ensures ∙ c.if-is_class_field.false)
