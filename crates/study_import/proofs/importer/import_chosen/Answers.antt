use Rattle.std.proofs.Common.{◌≡◌, ℕ, List, [], ◌++◌, sym, ap, ◌∙◌, arith}
use Rattle.std.proofs.lemmas.List.{nil_from_length}
use Rattle.study_import.specs.Imported.{still_written}
use Rattle.study_import.proofs.Ended.{script_is}
use Rattle.study_import.proofs.importer.import_chosen.Goals as goal

pub returns : goal.returns
returns g c =
    let none : c.loop-rest.rest.now ≡ [] = nil_from_length c.loop-rest.rest.now (omega (arith, c.in_default.len_below)) in
    c.in_ok-finish.ensures.written
    ∙ ap (λ (rest : List ℕ). c.loop-rest.out ++ still_written c.loop-rest.importer rest) (sym none)
    ∙ c.loop-rest.invariant ∙ script_is c.args.choice c.args.text.now
