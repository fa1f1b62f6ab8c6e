use Rattle.std.proofs.Common.{ℕ, ◌++◌, subst}
use Rattle.std.specs.Prelude.{codes, decimal, OnErr}
use Rattle.study_material.specs.Class.{name_of}
use Rattle.study_text.specs.Taken.{TakesPrefix}
use Rattle.study_reply.specs.Words.{reply_line}
use Rattle.study_reply.proofs.table_reply.put_table_reply.Goals as goal

pub returns-in-Built-clause-err : goal.returns-in-Built-clause-err
returns-in-Built-clause-err g c = rw c.in-Built.is c.put_built.ensures.err

pub returns-in-Loaded-clause-err : goal.returns-in-Loaded-clause-err
returns-in-Loaded-clause-err g c =
    rw c.in-Loaded.is
    (subst
    (λ (n : ℕ). OnErr c.put_size.result
    (TakesPrefix (g.W.Write.contents c.args.out.now) (g.W.Write.contents c.put_size.new.out)
    (codes "loaded " ++ (name_of c.in-Loaded.class ++ reply_line (codes " cells ") (decimal n)))))
    c.cells.ensures c.put_size.ensures.err)
