use Rattle.study_facts.proofs.FaultsListed.{faults-of-solution}
use Rattle.study_facts.proofs.laws.faults_are_of_the_solution.Goals as goal

pub returns : goal.returns
returns c = faults-of-solution
