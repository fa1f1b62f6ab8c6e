-- The blocks of a game with more men, by the language of its letters.
use Rattle.std.proofs.Common.{◌≡◌, List, ℕ, Option, Some, None, Result, Ok, Err, sym, ap, subst, ◌∙◌}
use Rattle.study_wide_text.specs.declared.start.WideStart.{WideStart}
use Rattle.study_import.specs.declared.importer.Choice.{Choice}
use Rattle.study_games.specs.declared.language.Language.{Language}
use Rattle.study_reading.specs.declared.movetext.MovesFault.{MovesFault}
use Rattle.study_import.specs.Blocks.{Entry, WideRead, text_in, wide_read, wide_faulty, wide_read_block, wide_language_by, wide_language_of, wide_moves_block}
use Rattle.study_import.specs.BlocksRead.{Adds}

module _ {E : Type 0} (r : Result ℕ E) (old new : List ℕ) (c : Choice) (e : Entry) (start : WideStart) where
  abbrev Added : Option Language → Type 0
  Added l = Adds {E = E} r old new (wide_moves_block c e start l)

  -- in the letters of a language, by what is read in them
  pub read_added : (l : Option Language) (x : Result WideRead MovesFault) → wide_read (text_in l e.text) start ≡ x
      → Adds {E = E} r old new (wide_read_block c e start l x) → Added l
  read_added l x is h = subst (λ (y : Result WideRead MovesFault). Adds {E = E} r old new (wide_read_block c e start l y)) (sym is) h

  -- in English letters
  pub english_added : (x : WideRead) → wide_read e.text start ≡ Ok x → Adds {E = E} r old new (wide_read_block c e start None (Ok x))
      → Added (wide_language_of e.text start)
  unfolding wide_language_of
  english_added x is h = subst Added (sym (ap (wide_language_by e.text start) is)) (read_added None (Ok x) is h)

  -- in those of another language
  pub foreign_added : (fault : MovesFault) (l : Language) → wide_read e.text start ≡ Err fault → wide_language_by e.text start (Err fault) ≡ Some l
      → Added (Some l) → Added (wide_language_of e.text start)
  unfolding wide_language_of
  foreign_added fault l is by h = subst Added (sym (ap (wide_language_by e.text start) is ∙ by)) h

  -- in none
  pub unread_added : (fault : MovesFault) → wide_read e.text start ≡ Err fault → wide_language_by e.text start (Err fault) ≡ None
      → Adds {E = E} r old new (wide_faulty c e start fault) → Added (wide_language_of e.text start)
  unfolding wide_language_of
  unread_added fault is by h = subst Added (sym (ap (wide_language_by e.text start) is ∙ by)) (read_added None (Err fault) is h)
