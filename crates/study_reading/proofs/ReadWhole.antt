-- Each token has at least one byte, so that a game is read to its end.
use Rattle.std.proofs.Common.{◌≡◌, ℕ, zero, suc, ◌≤◌, Bool, true, false, List, [], ◌∷◌, length, Option, Some, None, Result, Ok, Err, refl, arith}
use Rattle.std.specs.Prelude.{◌==◌, if◌then◌else◌}
use Rattle.study_games.specs.Tokens.{Token, Lexed, lexed_token}
use Rattle.study_games.proofs.Within.{Within, within_lexed}
use Rattle.study_reading.specs.declared.token_effects.Reason.{Reason}
use Rattle.study_reading.specs.declared.movetext.MovesFault.{MovesFault}
use Rattle.study_reading.specs.declared.numbering.Numbering.{Numbering}
use Rattle.study_reading.specs.Followed.{Rules}
use Rattle.study_reading.specs.Notes.{GameRead, GameTaken, game_taken}
use Rattle.study_reading.specs.Movetext.{Ended, goes_on, game_numbered, with_numbering, on_numbered, on_token, read_moves}

module _ {S : Type 0} (rules : Rules S) where
  same_if : (b : Bool) (x y z : Result (Ended S) MovesFault) → y ≡ z → (if b then x else y) ≡ (if b then x else z)
  same_if true x y z e = refl
  same_if false x y z e = e

  same_on : (p q : GameRead S → Result (Ended S) MovesFault) (left : ℕ) (behind : List ℕ) (t : Result (GameTaken S) Reason) → ((g : GameRead S) → p g ≡ q g)
      → goes_on p left behind t ≡ goes_on q left behind t
  same_on p q left behind (Err why) h = refl
  same_on p q left behind (Ok t) h = same_if t.ended _ (p t.game) (q t.game) (h t.game)

  same_numbered : (p q : GameRead S → Result (Ended S) MovesFault) (left : ℕ) (g : GameRead S) (t : Token) (behind : List ℕ) (s : Option Numbering)
      → ((h : GameRead S) → p h ≡ q h) → on_numbered rules p left g t behind s ≡ on_numbered rules q left g t behind s
  same_numbered p q left g t behind None h = refl
  same_numbered p q left g t behind (Some s) h = same_on p q left behind (game_taken rules (with_numbering g s) t) h

  pub same_token : (p q : List ℕ → GameRead S → Result (Ended S) MovesFault) (left n : ℕ) (g : GameRead S) (x : Lexed) → Within n x
      → ((bs : List ℕ) (h : GameRead S) → length bs ≤ n → p bs h ≡ q bs h) → on_token rules p left g x ≡ on_token rules q left g x
  same_token p q left n g (Err fault) w h = refl
  same_token p q left n g (Ok x) w h = same_numbered (p x.1) (q x.1) left g x.0 x.1 (game_numbered rules g x.0 x.1) (λ k. h x.1 k w)

  pub moves_same : (n m : ℕ) (fresh : Bool) (text : List ℕ) (g : GameRead S) → length text ≤ n → length text ≤ m
      → read_moves rules n fresh text g ≡ read_moves rules m fresh text g
  moves_same zero zero fresh text g h k = refl
  moves_same zero (suc m) fresh [] g h k = refl
  moves_same zero (suc m) fresh (b ∷ bs) g h k = absurd (omega arith)
  moves_same (suc n) zero fresh [] g h k = refl
  moves_same (suc n) zero fresh (b ∷ bs) g h k = absurd (omega arith)
  moves_same (suc n) (suc m) fresh [] g h k = refl
  moves_same (suc n) (suc m) fresh (b ∷ bs) g h k =
      same_token (read_moves rules n (b == 10)) (read_moves rules m (b == 10)) (length (b ∷ bs)) (length bs) g (lexed_token fresh b bs) (within_lexed fresh b bs)
      (λ rest x le. moves_same n m (b == 10) rest x (omega arith) (omega arith))
