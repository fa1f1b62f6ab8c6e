use Rattle.std.proofs.Common.{◌∷◌, []}
use Rattle.std.specs.Prelude.{decimal}
use Rattle.std.proofs.lemmas.Result.{on_err_weaker}
use Rattle.study_text.proofs.TextTaken.{TakesPrefix-first, TakesPrefix-second, OnErr-known}
use Rattle.study_text.proofs.paths.write_next.Goals as goal

pub returns-in_err-write_text-clause-err : goal.returns-in_err-write_text-clause-err
returns-in_err-write_text-clause-err g c =
    OnErr-known _ _ (TakesPrefix-first (g.W.Write.contents c.args.out.now) (g.W.Write.contents c.write_text.new.out)
    (46 ∷ []) (decimal c.args.place) c.in_err-write_text.ensures.err)

pub returns-clause-err : goal.returns-clause-err
returns-clause-err g c =
    on_err_weaker _ (λ h. TakesPrefix-second (g.W.Write.contents c.args.out.now) (g.W.Write.contents c.write_text.new.out)
    (g.W.Write.contents c.write_number.new.out) (46 ∷ []) (decimal c.args.place) c.in_ok-write_text.ensures.ok h)
    c.write_number.ensures.err
