-- A call that probes nothing.
use Rattle.study_values.specs.Values.{ValueSource}
use Rattle.study_facts.specs.Asked.{AllEvaluated}
use Rattle.study_facts.proofs.Asking.{none-asked}

pub nothing_asked : {V : Type 0} (source : ValueSource V) (v : V)
    → AllEvaluated source v v
nothing_asked source v = none-asked source v
