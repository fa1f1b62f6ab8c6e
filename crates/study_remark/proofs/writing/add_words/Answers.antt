use Rattle.std.proofs.Common.{◌≡◌, ◌++◌, List, ℕ, OnOk, subst}
use Rattle.std.specs.Prelude.{codes}
use Rattle.study_remark.proofs.writing.add_words.Goals as goal

pub returns-in-Doubted : goal.returns-in-Doubted
returns-in-Doubted g c =
    rw c.in-Doubted.is (subst (λ (w : List ℕ). OnOk c.add_both-in-Doubted.result (c.add_both-in-Doubted.new.out ≡ c.args.out.now ++ (codes "the stipulation " ++ w)))
    c.doubt_words.ensures c.add_both-in-Doubted.ensures)

pub returns-in-Latin1 : goal.returns-in-Latin1
returns-in-Latin1 g c =
    rw c.in-Latin1.is (subst (λ (w : List ℕ). OnOk c.add_both-in-Latin1.result (c.add_both-in-Latin1.new.out ≡ c.args.out.now ++ (codes "read as Latin 1: " ++ w)))
    c.original_name-in-Latin1.ensures c.add_both-in-Latin1.ensures)

pub returns-in-Tail : goal.returns-in-Tail
returns-in-Tail g c = rw c.in-Tail.is c.add_between.ensures
