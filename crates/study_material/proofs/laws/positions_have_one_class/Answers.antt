use Rattle.std.proofs.Common.{sym, ◌∙◌}
use Rattle.study_material.proofs.Classes.{lists_of-injective}
use Rattle.study_material.proofs.EachHasClass.{class_exists}
use Rattle.study_material.proofs.laws.positions_have_one_class.Goals as goal

pub returns : goal.returns
returns c = λ p v. let e = class_exists p v in record { class = e.0; is = e.1; one = λ d h. lists_of-injective d e.0 (h ∙ sym e.1) }
