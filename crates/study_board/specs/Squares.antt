-- The squares of a set as a list.
use Rattle.std.specs.Prelude.{ℕ, List, filter}
use Rattle.std.specs.List.{range_with_len}
use Rattle.study_board.specs.Sets.{has}

-- the squares of the set, in the order a1, b1, .., h8
unfoldable pub squares_of : ℕ → List ℕ
squares_of set = filter (has set) (range_with_len 0 64)
