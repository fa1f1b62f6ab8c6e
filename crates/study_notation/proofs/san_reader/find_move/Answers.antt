use Rattle.std.proofs.Common.{sym}
use Rattle.study_notation.specs.Matching.{matches}
use Rattle.study_notation.proofs.TwoAgree.{picked_two}
use Rattle.study_notation.proofs.san_reader.find_move.Goals as goal

pub returns-then-is_some : goal.returns-then-is_some
returns-then-is_some c = picked_two (matches c.args.p.now c.args.san.now) c.args.moves.now c.loop-m.m-index
    c.loop-m.found c.m-item.result _ c.loop-m-test.true c.m-item.is (sym c.if-matches.ensures)
    (sym c.if-is_some.ensures) c.loop-m.invariant
