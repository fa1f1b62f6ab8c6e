use Rattle.std.proofs.Common.{inl, inr, refl}
use Rattle.std.proofs.lemmas.Bool.{cases_Bool}
use lib.Utf8.{scalar}
use Rattle.study_import_program.proofs.code_page.character_with.Goals as goal

pub returns-in-Some : goal.returns-in-Some
returns-in-Some c = let v = c.in-Some.ensures.value in rw v.0 v.1

pub returns-in-None : goal.returns-in-None
returns-in-None c =
    elim (cases_Bool (scalar c.args.code)) [
      | inl is ↦ absurd (c.in-None.ensures.value is)
      | inr other ↦ rw other refl
    ]
