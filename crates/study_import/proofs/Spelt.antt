-- The block of a game, by the language of its letters.
use Rattle.std.proofs.Common.{◌≡◌, List, ℕ, Option, Some, None, Result, Ok, Err, sym, ap, subst, ◌∙◌}
use Rattle.study_notation.specs.declared.start.Start.{Start}
use Rattle.study_import.specs.declared.importer.Choice.{Choice}
use Rattle.study_games.specs.declared.language.Language.{Language}
use Rattle.study_reading.specs.declared.movetext.MovesFault.{MovesFault}
use Rattle.study_import.specs.FewMen.{Ended}
use Rattle.study_import.specs.Blocks.{Entry, faulty_block, read_block, game_read, language_by, language_of, moves_block}
use Rattle.study_import.specs.BlocksRead.{Adds}

module _ {E : Type 0} (r : Result ℕ E) (old new : List ℕ) (c : Choice) (e : Entry) (start : Start) where
  abbrev Added : Option Language → Type 0
  Added l = Adds {E = E} r old new (moves_block c e start l)

  -- in English letters
  pub english_added : (x : Ended) → game_read e.text start ≡ Ok x → Adds {E = E} r old new (read_block c e start None (Ok x))
      → Added (language_of e.text start)
  unfolding language_of
  english_added x is h =
      subst Added (sym (ap (language_by e.text start) is))
      (subst (λ (y : Result Ended MovesFault). Adds {E = E} r old new (read_block c e start None y)) (sym is) h)

  -- in those of another language
  pub foreign_added : (fault : MovesFault) (l : Language) → game_read e.text start ≡ Err fault → language_by e.text start (Err fault) ≡ Some l
      → Added (Some l) → Added (language_of e.text start)
  unfolding language_of
  foreign_added fault l is by h = subst Added (sym (ap (language_by e.text start) is ∙ by)) h

  -- in none
  pub unread_added : (fault : MovesFault) → game_read e.text start ≡ Err fault → language_by e.text start (Err fault) ≡ None
      → Adds {E = E} r old new (faulty_block c e start fault) → Added (language_of e.text start)
  unfolding language_of
  unread_added fault is by h =
      subst Added (sym (ap (language_by e.text start) is ∙ by))
      (subst (λ (y : Result Ended MovesFault). Adds {E = E} r old new (read_block c e start None y)) (sym is) h)
