-- Positions without a passed square on which no legal move captures.
use Rattle.std.specs.Prelude.{ℕ, Bool, false, ◌&&◌, Option, Some, None, if◌then◌else◌}
use Rattle.std.specs.List.{list_any}
use Rattle.study_board.specs.Position.{Position}
use Rattle.study_moves.specs.Rules.{is_en_passant, is_legal}

-- some man captures on this passed square by a legal move
abbrev pub is_capturable_en_passant : Position → Option ℕ → Bool
is_capturable_en_passant p None = false
is_capturable_en_passant p (Some x) = list_any
    (λ man. is_en_passant p.passed man x && is_legal p (record { origin = man.at; target = x; promoted = None })) p.men

abbrev pub has_legal_en_passant : Position → Bool
has_legal_en_passant p = is_capturable_en_passant p p.passed

abbrev pub without_passed : Position → Position
without_passed p = record { men = p.men; to_move = p.to_move; passed = None }

abbrev pub without_idle_passed_square : Position → Position
without_idle_passed_square p = if has_legal_en_passant p then p else without_passed p
