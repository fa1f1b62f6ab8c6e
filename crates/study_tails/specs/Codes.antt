-- The parts that a `Model` must have beside its view. No contract uses them.
use Rattle.std.specs.Prelude.{ℕ, List, Option, refl}
use Rattle.std.specs.Coded.{Coded, code_by, coded×, coded_ℕ, coded_list, coded_option}
use Rattle.study_tree.specs.Codes.{plain_code}
use Rattle.study_tree.specs.Tree.{Plain}
use Rattle.study_marks.specs.declared.stipulation.Stipulation.{Stipulation}
use Rattle.study_marks.specs.contracts.stipulation.Stipulation.{the_row as stipulation_row}
use Rattle.study_wide_text.specs.declared.start.WideStart.{WideStart}
use Rattle.study_wide_text.specs.contracts.start.WideStart.{the_row as start_row}
use Rattle.study_notation.specs.declared.start.Start.{Start}
use Rattle.study_notation.specs.contracts.start.Start.{the_row as plain_start_row}
use Rattle.study_marks.specs.Edits.{PlainStudy}
use Rattle.study_tails.specs.Study.{WideStudy}

abbrev pub unit_code : Coded (Unit {0})
unit_code = code_by ℕ coded_ℕ (λ _. 0) (λ _. tt) (λ _. refl)

abbrev pub study_code : Coded WideStudy
study_code =
    code_by (WideStart × (Stipulation × (List (Option (List ℕ)) × Plain (Unit {0}))))
    (coded× start_row.coded (coded× stipulation_row.coded (coded× (coded_list (coded_option (coded_list coded_ℕ))) (plain_code unit_code))))
    (λ s. (s.start, (s.stipulation, (s.tags, s.tree)))) (λ p. record { start = p.0; stipulation = p.1.0; tags = p.1.1.0; tree = p.1.1.1 }) (λ _. refl)

abbrev pub plain_study_code : Coded PlainStudy
plain_study_code =
    code_by (Start × (Stipulation × (List (Option (List ℕ)) × Plain (Unit {0}))))
    (coded× plain_start_row.coded (coded× stipulation_row.coded (coded× (coded_list (coded_option (coded_list coded_ℕ))) (plain_code unit_code))))
    (λ s. (s.start, (s.stipulation, (s.tags, s.tree)))) (λ p. record { start = p.0; stipulation = p.1.0; tags = p.1.1.0; tree = p.1.1.1 }) (λ _. refl)
