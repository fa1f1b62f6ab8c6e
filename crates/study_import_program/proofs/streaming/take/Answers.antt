use Rattle.std.proofs.Common.{ℕ, List, ◌∷◌, ◌++◌, sym, ap, subst, ◌∙◌}
use Rattle.std.proofs.lemmas.Result.{on_err_weaker}
use Rattle.study_import.specs.Imported.{still_written}
use Rattle.study_import_program.specs.Streams.{AppendsFront}
use Rattle.study_import_program.proofs.Streamed.{stopped_put}
use Rattle.study_import_program.proofs.streaming.take.Goals as goal

pub returns-in-Ok-clause-err : goal.returns-in-Ok-clause-err
returns-in-Ok-clause-err g c =
    let old = g.W.Write.contents c.args.out.now in
    let new = g.W.Write.contents c.put_block.new.out in
    on_err_weaker c.put_block.result
    (λ h. stopped_put c.args.byte c.args.importer.now c.take.new.self old new c.take.new.out
    (λ bytes. ap (λ (t : List ℕ). t ++ still_written c.args.importer.now (c.args.byte ∷ bytes)) (sym c.new-text.ensures) ∙ c.in-Ok.ensures.written bytes)
    (subst (λ (t : List ℕ). AppendsFront old new t) c.as_slice.ensures h))
    c.put_block.ensures.err
