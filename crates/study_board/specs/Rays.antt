-- Not part of any public contract: the tables of lines, with the direction of one square from another, and the squares in a direction.
use Rattle.std.specs.Prelude.{ℕ, [], slice_index_or}
use Rattle.study_board.specs.declared.attack_tables.TheConstants.{DIRECTION}
use Rattle.study_board.specs.declared.ray_tables.TheConstants.{RAY}

unfoldable pub direction_of : ℕ → ℕ → ℕ
direction_of a y = slice_index_or (slice_index_or DIRECTION a []) y 0

unfoldable pub ray_of : ℕ → ℕ → ℕ
ray_of d a = slice_index_or (slice_index_or RAY d []) a 0
