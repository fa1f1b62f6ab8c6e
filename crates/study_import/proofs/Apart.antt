-- The text written for a game depends on no other game.
use Rattle.std.proofs.Common.{◌≡◌, ℕ, List, [], ◌∷◌, ◌++◌, None, refl, sym, ap, ◌∙◌, append_assoc}
use Rattle.study_games.specs.Games.{Game, games_of, games_from}
use Rattle.study_games.specs.Laws.{number_behind, lines_of}
use Rattle.study_games.proofs.Isolated.{isolated as games_isolated}
use Rattle.study_import.specs.declared.importer.Choice.{Choice}
use Rattle.study_import.specs.Blocks.{Tally, tally_with_game, reported_text, blocks}
use Rattle.study_import.specs.Imported.{no_game, script_of, tally_of, tally_behind}
use Rattle.study_import.specs.Laws.{reported_texts, IsIsolated}

blocks_cut : (c : Choice) (t : Tally) (gs hs : List Game) → blocks c t (gs ++ hs) ≡ reported_texts c t gs ++ blocks c (tally_behind c t gs) hs
blocks_cut c t [] hs = refl
blocks_cut c t (g ∷ gs) hs =
    ap (λ (x : List ℕ). reported_text c t g ++ x) (blocks_cut c (tally_with_game c t g) gs hs)
    ∙ sym (append_assoc (reported_text c t g) (reported_texts c (tally_with_game c t g) gs) (blocks c (tally_behind c (tally_with_game c t g) gs) hs))

pub isolated : IsIsolated
unfolding script_of tally_of
isolated c front b a is moves tags =
    ap (blocks c no_game) (games_isolated front b a is moves tags)
    ∙ blocks_cut c no_game (games_of a) (games_from (number_behind 1 (lines_of a)) None (lines_of b))
