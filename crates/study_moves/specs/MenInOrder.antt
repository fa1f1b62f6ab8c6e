-- Not part of any public contract: a man carried up past others to its place.
use Rattle.std.specs.Prelude.{nat_lt, if◌then◌else◌}
use Rattle.study_board.specs.declared.men.Man.{Man}

-- the second of two men if it stands below the first, otherwise the first
abbrev pub lower_man : Man → Man → Man
lower_man x y = if nat_lt y.at x.at then y else x

-- the other man of the two
abbrev pub higher_man : Man → Man → Man
higher_man x y = if nat_lt y.at x.at then x else y
