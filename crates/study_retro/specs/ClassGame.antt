-- Not part of any public contract: chess with the material of a class, as a numbered game.
use Rattle.std.specs.Prelude.{◌≡◌, true, List, Option}
use Rattle.study_board.specs.Position.{Position}
use Rattle.study_moves.specs.Rules.{is_legal, after}
use Rattle.study_moves.specs.Game.{IsMate}
use Rattle.study_material.specs.declared.class.Class.{Class}
use Rattle.study_material.specs.Needs.{LeadsOn}
use Rattle.study_values.specs.Number.{cells_of}
use Rattle.study_index.specs.Computed.{position_numbered}
use Rattle.study_values.specs.Index.{index_of}
use Rattle.study_index.specs.Laws.{AreAlikeIn}
use Rattle.study_material.specs.Class.{is_of}
use Rattle.study_table.specs.Game.{value_in}
use Rattle.study_table.specs.Table.{Table}
use Rattle.study_levels.specs.Numbered.{Numbered}

-- the positions of the class, and those of the classes that it needs, whose values are in the loaded tables
abbrev pub class_game : Class → List (Option Table) → Numbered Position
class_game c held = record {
  legal = λ p m. is_legal p m ≡ true;
  after = after;
  mate = IsMate;
  size = cells_of c;
  position = position_numbered c;
  home = is_of c;
  index = index_of;
  known = LeadsOn c;
  outside = value_in held;
  image = AreAlikeIn c;
}
