use Rattle.std.proofs.Common.{Err, IsErrOf, subst}
use Rattle.study_values.specs.Values.{ProbeAnswer}
use Rattle.study_values.specs.declared.values.ProbeFault.TheVariants.{TableRead, PageDamaged}
use Rattle.study_values.specs.declared.fault.SourceFault.TheVariants.{Device}
use Rattle.study_prober.proofs.failing_values.FailingValuesValues.value.Goals as goal
use Rattle.study_prober.proofs.failing_values.FailingValuesValues.value.Goals.{then-eq+then-holds, else-eq}

pub returns-clause-damaged : goal.returns-clause-damaged
returns-clause-damaged g c = λ d n e.
    elim c.if-eq.branch [
      | then-eq+then-holds w ↦
          let one : IsErrOf (Err (TableRead Device)) (PageDamaged d n) = subst (λ (r : ProbeAnswer). IsErrOf r (PageDamaged d n)) w.answer-is e in
          let no : ⊥ = cc in absurd no
      | else-eq w ↦ w.value-answer.ensures.damaged d n (subst (λ (r : ProbeAnswer). IsErrOf r (PageDamaged d n)) w.answer-is e)
    ]
