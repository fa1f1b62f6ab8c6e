use Rattle.std.proofs.Common.{rules}
use Rattle.std.proofs.lemmas.List.Elements.{All-more}
use Rattle.study_material.specs.declared.class.Class.TheVariants.{KK}
use Rattle.study_material.specs.Class.{class_list, IsNameOf}
use Rattle.study_material.proofs.ClassNames.{other_name, no_class}
use Rattle.study_material.proofs.class.Class.parse.Goals as goal

pub loop-class-preserved : goal.loop-class-preserved
loop-class-preserved c =
    All-more (λ d. IsNameOf c.args.text.now d → ⊥) class_list c.loop-class.class-index KK c.loop-class-test.true c.loop-class.invariant
    (other_name _ _ _ _ c.name.ensures c.eq.ensures c.if-eq.false)

pub returns-clause-none : goal.returns-clause-none
returns-clause-none c = (λ e. no_class c.args.text.now c.loop-class.class-index c.loop-class-test.false c.loop-class.invariant, λ h. search rules)
