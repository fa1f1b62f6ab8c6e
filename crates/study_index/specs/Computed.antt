-- The index and the position of a number as functions, as they are computed.
use Rattle.std.specs.Prelude.{ℕ, Bool, ◌&&◌, ◌==◌, nat_lt, Option, Some, None, if◌then◌else◌}
use Rattle.std.specs.Option.{is_none}
use Rattle.study_board.specs.Position.{Position, in_order, first_fault}
use Rattle.study_material.specs.declared.class.Class.{Class}
use Rattle.study_values.specs.Number.{has_bit, without_bit, cells_of}
use Rattle.study_index.specs.Decoded.{slots_of, decoded_men, decoded_side, passed_behind}
use Rattle.study_values.specs.Index.{index_of}

-- the position of the men, the side and the passed square that a number encodes
abbrev pub position_decoded : Class → ℕ → Position
position_decoded c n = record {
  men = in_order (decoded_men (slots_of c) (without_bit n));
  to_move = decoded_side (slots_of c) (without_bit n);
  passed = passed_behind (has_bit n) (decoded_side (slots_of c) (without_bit n)) (decoded_men (slots_of c) (without_bit n));
}

abbrev pub is_entry : Class → ℕ → Bool
is_entry c n = nat_lt n (cells_of c)
    && is_none (first_fault (position_decoded c n).men (position_decoded c n).to_move (position_decoded c n).passed)
    && (index_of (position_decoded c n) == n)

-- the position of a number of the class, if it is the index of one
unfoldable pub position_numbered : Class → ℕ → Option Position
position_numbered c n = if is_entry c n then Some (position_decoded c n) else None
