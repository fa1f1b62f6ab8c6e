-- Studies that were written as PGN.
use Rattle.std.specs.Prelude.{◌≡◌, ◌+◌, ◌≤◌, ℕ, true, List, [], ◌∷◌, map, Option, Some, None}
use Rattle.std.specs.List.{flat_map, AllByRecursion}
use Rattle.study_board.specs.Position.{IsValid}
use Rattle.study_tree.specs.Forest.{Forest, nodes_in}
use Rattle.study_tree.specs.Edits.{IsWithin}
use Rattle.study_marks.specs.declared.mark.Mark.{Mark}
use Rattle.study_marks.specs.declared.tag.TagName.{TagName}
use Rattle.study_marks.specs.Study.{Study, mapped, tag_of, IsPlayable, AreDistinct}
use Rattle.study_marks.specs.Edits.{PlainStudy, is_tag_text}
use Rattle.study_command.specs.Parser.{trim}
use Rattle.study_pgn.specs.Tags.{text_or_unknown}
use Rattle.study_pgn.specs.Pgn.{pgn_text}
use Rattle.study_games.specs.Games.{games_of}
use Rattle.study_import.specs.Blocks.{six_names}
use Rattle.study_import.specs.Imported.{all_games}
use Rattle.study_import.specs.Meant.{studies_in, studies_of_game}
use Rattle.study_import.specs.Laws.{IsCounted}

-- the nodes without their marks
abbrev pub without_marks : Forest Mark → Forest (Unit {0})
without_marks f = mapped (λ _. tt) f

-- a known tag has a text that a study accepts, without spaces at its ends
abbrev pub IsTagged : Option (List ℕ) → Type 0
IsTagged None = Unit {0}
IsTagged (Some text) = (is_tag_text text ≡ true) × (trim text ≡ text)

-- a study that commands of a script can make: its start is that of a FEN, its moves are legal, no two siblings have the same move, it is at most 256 plies
-- deep, and has at most 4,096 nodes
pub record CanBeMade (s : Study Mark) : Type 0 where
  pub valid : IsValid s.start.position
  pub clock : s.start.clock ≤ 9999
  pub positive : 1 ≤ s.start.number
  pub number : s.start.number ≤ 9999
  pub counted : IsCounted s.stipulation.goal
  pub tags : (name : TagName) → IsTagged (tag_of s.tags name)
  pub playable : IsPlayable s.start.position (without_marks s.tree.below)
  pub distinct : AreDistinct (without_marks s.tree.below)
  pub within : IsWithin 256 (without_marks s.tree.below)
  pub few : nodes_in (without_marks s.tree.below) + 1 ≤ 4096

-- the same study without marks; for an unknown tag the text that is written for it
abbrev pub unmarked_study : Study Mark → PlainStudy
unmarked_study s = record {
  start = s.start;
  stipulation = s.stipulation;
  tags = map (λ name. Some (text_or_unknown name (tag_of s.tags name))) six_names;
  tree = record { label = tt; below = without_marks s.tree.below };
}

-- the PGN of a study reads back as that study: its start, stipulation, tags and tree, in order
abbrev pub AreReadBack : Type 0
AreReadBack = (s : Study Mark) → CanBeMade s → studies_in (all_games None) (pgn_text s) ≡ Some (unmarked_study s) ∷ []

-- a file of such studies, one after the other, is cut into their texts again, in order, and each reads back as its study
pub record IsFileReadBack (ss : List (Study Mark)) : Type 0 where
  pub texts : map (λ g. g.text) (games_of (flat_map pgn_text ss)) ≡ map (λ s. Some (pgn_text s)) ss
  pub studies : map (λ g. studies_of_game (all_games None) g.text) (games_of (flat_map pgn_text ss)) ≡ map (λ s. Some (unmarked_study s) ∷ []) ss

abbrev pub AreFilesReadBack : Type 0
AreFilesReadBack = (ss : List (Study Mark)) → AllByRecursion CanBeMade ss → IsFileReadBack ss
