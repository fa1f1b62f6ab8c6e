use Rattle.study_index.proofs.ClassLaws.{same_class, same_game}
use Rattle.study_index.proofs.laws.alike_mates_agree.Goals as goal

pub returns : goal.returns
returns c = λ p q h. record { same_home = λ k o. same_class p q k h o; same_game = same_game p q h }
