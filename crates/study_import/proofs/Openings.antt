-- The first comment states a valid stipulation.
use Rattle.std.proofs.Common.{◌≡◌, ℕ, Bool, true, false, List, length, Result, Ok, Err, subst, refl}
use Rattle.std.specs.Prelude.{◌==◌, not, nat_le, if◌then◌else◌}
use Rattle.study_games.specs.Tokens.{Token}
use Rattle.study_reading.specs.declared.token_effects.Reason.{Reason}
use Rattle.study_reading.specs.declared.notes.Notes.{Notes}
use Rattle.study_reading.specs.Followed.{Rules}
use Rattle.study_reading.specs.Taken.{Taken, after_token}
use Rattle.study_reading.specs.Notes.{GameRead, GameTaken, with_token, noted_on, is_header_tag, misplaced, placed_or, with_signs, signs_noted, game_taken}
use Rattle.study_reading.specs.Movetext.{Ended, read_moves}
use Rattle.study_import.proofs.AimsCounted.{IsNoted, opening_noted}
use Rattle.study_import.proofs.Kept.{kept}

module _ {S : Type 0} (rules : Rules S) where
  abbrev HasOpening : GameRead S → Type 0
  HasOpening g = IsNoted g.notes

  noted_opening : (n : Notes) (x : Result (Taken S) Reason) (t : GameTaken S) → IsNoted n → noted_on n x ≡ Ok t → HasOpening t.game
  noted_opening n (Err why) t h e = absurd cc
  noted_opening n (Ok u) t h e =
      let is : record { game = record { reading = u.reading; notes = n }; ended = u.ended } ≡ t = cc in subst (λ (z : GameTaken S). HasOpening z.game) is h

  signed_opening : (token : Token) (x : Result (GameTaken S) Reason) (t : GameTaken S) → ((u : GameTaken S) → x ≡ Ok u → HasOpening u.game)
      → signs_noted rules token x ≡ Ok t → HasOpening t.game
  signed_opening token (Err why) t f e = absurd cc
  signed_opening token (Ok u) t f e = let is : with_signs rules token u ≡ t = cc in subst (λ (z : GameTaken S). HasOpening z.game) is (f u refl)

  opening_or : (g : GameRead S) (n : Notes) (x : Result (Taken S) Reason) (t : GameTaken S) (token : Token) (in_header : Bool) → HasOpening g → IsNoted n
      → (if in_header then Ok (record { game = g; ended = false }) else signs_noted rules token (noted_on n x)) ≡ Ok t → HasOpening t.game
  opening_or g n x t token true h k e = let is : record { game = g; ended = false } ≡ t = cc in subst (λ (z : GameTaken S). HasOpening z.game) is h
  opening_or g n x t token false h k e = signed_opening token (noted_on n x) t (λ u is. noted_opening n x u k is) e

  opening_taken : (g : GameRead S) (token : Token) (t : GameTaken S) → HasOpening g → game_taken rules g token ≡ Ok t → HasOpening t.game
  opening_taken g token t h e =
      opening_or g (with_token g.notes (nat_le 1 g.reading.lines.cut) (not (length g.reading.lines.waiting == 0)) token)
      (placed_or (misplaced g.notes (nat_le 1 g.reading.lines.cut) token) (after_token rules g.reading token)) t token (is_header_tag g.notes token) h
      (opening_noted g.notes (nat_le 1 g.reading.lines.cut) (not (length g.reading.lines.waiting == 0)) token h) e

  pub opening_given : (n : ℕ) (fresh : Bool) (text : List ℕ) (g : GameRead S) (x : Ended S) → IsNoted g.notes → read_moves rules n fresh text g ≡ Ok x
      → IsNoted x.game.notes
  opening_given n fresh text g x h e = kept rules HasOpening (λ g s h. h) opening_taken n fresh text g x h e
