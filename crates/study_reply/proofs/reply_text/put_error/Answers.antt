use Rattle.std.proofs.Common.{List, [], ◌∷◌, ◌++◌, ℕ, sym, append_assoc, subst}
use Rattle.std.specs.Prelude.{codes, OnErr}
use Rattle.study_text.specs.Taken.{TakesPrefix}
use Rattle.study_text.specs.Pieces.{piece_text}
use Rattle.study_reply.proofs.reply_text.put_error.Goals as goal

pub returns-clause-err : goal.returns-clause-err
returns-clause-err g c =
    subst
    (λ (t : List ℕ). OnErr c.write_pieces.result
    (TakesPrefix (g.W.Write.contents c.args.out.now) (g.W.Write.contents c.write_pieces.new.out) (codes "error " ++ t)))
    (sym (append_assoc (piece_text c.args.words.0) (piece_text c.args.words.1) (10 ∷ []))) c.write_pieces.ensures.err
