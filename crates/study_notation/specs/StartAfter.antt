-- The start after a legal move.
use Rattle.study_board.specs.Men.{is_pawn}
use Rattle.std.specs.Prelude.{ℕ, ◌+◌, Bool, false, ◌||◌, nat_lt, if◌then◌else◌}
use Rattle.std.specs.Option.{option_map_or}
use Rattle.study_board.specs.declared.men.Side.{Side}
use Rattle.study_board.specs.declared.men.Side.TheVariants.{White, Black}
use Rattle.study_board.specs.Position.{Position, man_at}
use Rattle.study_moves.specs.declared.moves.Move.{Move}
use Rattle.study_moves.specs.Rules.{after}
use Rattle.study_notation.specs.declared.start.Start.{Start}
use Rattle.study_moves.specs.LegalList.{is_capture}

-- one more, at most 65,535
abbrev pub one_more : ℕ → ℕ
one_more n = if nat_lt n 65535 then n + 1 else n

-- a capture or a pawn's move sets the clock back
unfoldable pub resets_clock : Position → Move → Bool
resets_clock p m = option_map_or (λ man. is_pawn man || is_capture p man m.target) (man_at p.men m.origin) false

-- the number rises after Black's move
abbrev pub number_after : Side → ℕ → ℕ
number_after White n = n
number_after Black n = one_more n

unfoldable pub start_after : Start → Move → Start
start_after s m = record {
  position = after s.position m;
  clock = if resets_clock s.position m then 0 else one_more s.clock;
  number = number_after s.position.to_move s.number;
}
