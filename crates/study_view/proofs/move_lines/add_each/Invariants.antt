use Rattle.std.proofs.Common.{◌≡◌, ◌++◌, take}
use Rattle.std.specs.List.{flat_map}
use Rattle.study_view.specs.Marking.{line_of_move}
use Rattle.study_view.proofs.move_lines.add_each.Given as goal

abbrev pub invariant-loop-x : goal.invariant-loop-x
invariant-loop-x g l =
    l.text ≡ l.fn.text ++ flat_map (line_of_move l.fn.here.aim.now l.fn.here.depth l.fn.here.start.now l.fn.here.value l.fn.count) (take l.x-index l.list)
