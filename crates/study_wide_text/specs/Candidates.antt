-- Not part of any public contract: the moves among which a text is sought, one of each man, to the target that the text gives and with its promotion.
use Rattle.std.specs.Prelude.{ℕ, Bool, ◌&&◌, List, map, filter, Option}
use Rattle.study_board.specs.declared.men.Kind.{Kind}
use Rattle.study_board.specs.declared.men.Man.{Man}
use Rattle.study_board.specs.Position.{Position}
use Rattle.study_moves.specs.declared.moves.Move.{Move}
use Rattle.study_moves.specs.Rules.{is_legal}

abbrev pub move_to : ℕ → Option Kind → Man → Move
move_to target promoted man = record { origin = man.at; target = target; promoted = promoted }

unfoldable pub candidates : Position → (Move → Bool) → ℕ → Option Kind → List Move
candidates p q target promoted = filter (λ m. is_legal p m && q m) (map (move_to target promoted) p.men)
