-- The moves of a game whose positions have any number of men, with rights to castle: the rules by which its study is followed.
use Rattle.std.specs.Prelude.{Bool, false, not, [], ◌∷◌, None}
use Rattle.std.specs.Option.{option_map_or}
use Rattle.study_tree.specs.Forest.{none}
use Rattle.study_marks.specs.declared.stipulation.Stipulation.{Stipulation}
use Rattle.study_wide.specs.Wide.{Wide}
use Rattle.study_wide.specs.LegalList.{is_in_check, is_wide_mate}
use Rattle.study_wide_text.specs.declared.start.WideStart.{WideStart}
use Rattle.study_games.specs.declared.spelling.Claim.{Claim}
use Rattle.study_games.specs.declared.spelling.Claim.TheVariants.{Check, Mate}
use Rattle.study_reading.specs.Followed.{Rules}
use Rattle.study_reading.specs.Notes.{GameRead, game_of, none_yet}
use Rattle.study_tails.specs.Study.{WideStudy, node_at}
use Rattle.study_tails.specs.Moves.{wide_after_move_text}

-- what the signs behind a move claim is false of the position after it
abbrev pub is_wide_false : Claim → Wide → Bool
is_wide_false Check g = not (is_in_check g)
is_wide_false Mate g = not (is_wide_mate g)

-- the rules of a game of any number of men. The lines of its script are written from the tree, so none is while it is read
abbrev pub wide_men : Rules WideStudy
wide_men = record {
  begins = λ s. s.start.position.board.to_move;
  played = wide_after_move_text;
  inserted = λ s at added. [];
  is_false = λ s at claim. option_map_or (λ n. is_wide_false claim n.start.position) (node_at s at) false;
}

-- a study with the root alone and no tags
abbrev pub bare_study : WideStart → Stipulation → WideStudy
bare_study start aim = record {
  start = start;
  stipulation = aim;
  tags = None ∷ None ∷ None ∷ None ∷ None ∷ None ∷ [];
  tree = record { label = tt; below = none };
}

-- before the first token
abbrev pub no_wide_moves : WideStart → Stipulation → GameRead WideStudy
no_wide_moves start aim = game_of (bare_study start aim) [] 0 [] 0 [] none_yet
