use Rattle.std.proofs.Common.{◌≡◌, ◌++◌}
use Rattle.std.specs.List.{flat_map}
use Rattle.study_board.specs.Squares.{squares_of}
use Rattle.study_wide.specs.LegalList.{legal_between, legal_from}
use Rattle.study_wide.proofs.movegen.add_moves_of.Given as goal

-- with the moves to the squares that are left the list has all moves of the man
abbrev pub invariant-loop-target : goal.invariant-loop-target
invariant-loop-target l =
    l.list.items ++ flat_map (legal_between l.p l.man.at) (squares_of l.target-iterator) ≡ l.initial.list.items ++ legal_from l.p l.man.at
