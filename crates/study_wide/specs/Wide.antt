-- Positions of up to 32 men with rights to castle. The board of one is a position as elsewhere, but for the number of its men.
use Rattle.std.specs.Prelude.{◌≡◌, ℕ, ◌≤◌, Bool, true, ◌||◌, nat_lt, List, Option, Some, None, if◌then◌else◌}
use Rattle.std.specs.List.{count_by}
use Rattle.study_board.specs.declared.men.Side.{Side}
use Rattle.study_board.specs.declared.men.Side.TheVariants.{White, Black}
use Rattle.study_board.specs.declared.men.Man.{Man}
use Rattle.study_board.specs.declared.fault.PositionFault.{PositionFault}
use Rattle.study_board.specs.Men.{same_side}
use Rattle.study_board.specs.Position.{Position}
use Rattle.study_board.specs.Sound.{IsSound, fault_among}
use Rattle.study_wide.specs.declared.rights.Rights.{Rights}
use Rattle.study_wide.specs.declared.wide.WideFault.{WideFault}
use Rattle.study_wide.specs.declared.wide.WideFault.TheVariants.{TooManyMen, Men, Castling}
use Rattle.study_wide.specs.Rights.{rights_fit}

pub record Wide : Type 0 where
  pub board : Position
  pub rights : Rights

abbrev pub of_side : Side → Man → Bool
of_side s m = same_side m.side s

-- a side has more than sixteen men
abbrev pub is_crowded : List Man → Bool
is_crowded men = nat_lt 16 (count_by (of_side White) men) || nat_lt 16 (count_by (of_side Black) men)

-- in order, without a fault, at most sixteen men a side, and with rights whose kings and rooks are in place
pub record IsWide (g : Wide) : Type 0 where
  pub sound : IsSound g.board
  pub few : (s : Side) → count_by (of_side s) g.board.men ≤ 16
  pub fit : rights_fit g.board.men g.rights ≡ true

abbrev pub fault_of_men : Option PositionFault → Bool → Option WideFault
fault_of_men (Some fault) fit = Some (Men fault)
fault_of_men None fit = if fit then None else Some Castling

-- the first reason why these men, in any order, are not a position
unfoldable pub wide_fault : List Man → Side → Option ℕ → Rights → Option WideFault
wide_fault men to_move passed rights =
    if is_crowded men then Some TooManyMen
    else fault_of_men (fault_among men to_move passed) (rights_fit men rights)
