use Rattle.std.proofs.Common.{ℕ, List, [], ◌++◌, ap, sym, ◌∙◌}
use Rattle.std.proofs.lemmas.Result.{on_ok_weaker}
use Rattle.study_import.specs.Imported.{written_of, tally_ahead}
use Rattle.study_import.proofs.Ended.{last_one}
use Rattle.study_import.proofs.importer.Importer.end_last_line.Goals as goal

pub returns-clause-written : goal.returns-clause-written
returns-clause-written g c =
    let one = last_one c.args.self.now.line (sym c.has_no_line.ensures ∙ c.if-has_no_line.false) in
    on_ok_weaker c.end_line.result
    (λ h. ap (λ (lines : List (List ℕ)). c.args.out.now ++ written_of c.args.self.now lines) one ∙ h [])
    c.end_line.ensures.written

pub returns-clause-tally : goal.returns-clause-tally
returns-clause-tally g c =
    let one = last_one c.args.self.now.line (sym c.has_no_line.ensures ∙ c.if-has_no_line.false) in
    on_ok_weaker c.end_line.result
    (λ h. ap (tally_ahead c.args.self.now) one ∙ h [])
    c.end_line.ensures.tally
