-- Invariants of reading the moves of a game.
use Rattle.std.proofs.Common.{◌≡◌, ℕ, zero, suc, Bool, true, false, List, [], ◌∷◌, length, Option, Some, None, Result, Ok, Err, refl, subst}
use Rattle.std.specs.Prelude.{◌==◌, if◌then◌else◌}
use Rattle.study_games.specs.Tokens.{Token, Lexed, lexed_token}
use Rattle.study_games.specs.declared.token.TokenFault.{TokenFault}
use Rattle.study_reading.specs.declared.token_effects.Reason.{Reason}
use Rattle.study_reading.specs.declared.movetext.MovesFault.{MovesFault}
use Rattle.study_reading.specs.declared.movetext.Stop.{Stop}
use Rattle.study_reading.specs.declared.movetext.Stop.TheVariants as stop
use Rattle.study_reading.specs.declared.numbering.Numbering.{Numbering}
use Rattle.study_reading.specs.Followed.{Rules}
use Rattle.study_reading.specs.Notes.{GameRead, GameTaken, game_taken}
use Rattle.study_reading.specs.Movetext.{Ended, goes_on, with_numbering, game_numbered, on_numbered, on_token, fault_at, read_moves}

module _ {S : Type 0} (rules : Rules S) (P : GameRead S → Type 0) (numbers : (g : GameRead S) (s : Numbering) → P g → P (with_numbering g s))
    (step : (g : GameRead S) (token : Token) (t : GameTaken S) → P g → game_taken rules g token ≡ Ok t → P t.game) where
  kept_end : (g : GameRead S) (x : Ended S) (none : Bool) → P g → (if none then Ok (record { game = g; behind = [] }) else fault_at stop.OpenVariation 0) ≡ Ok x
      → P x.game
  kept_end g x true h e = let is : record { game = g; behind = [] } ≡ x = cc in subst (λ (z : Ended S). P z.game) is h
  kept_end g x false h e = absurd cc

  kept_or : (next : GameRead S → Result (Ended S) MovesFault) (t : GameTaken S) (behind : List ℕ) (x : Ended S) (ended : Bool) → P t.game
      → ((h : GameRead S) → P h → next h ≡ Ok x → P x.game) → (if ended then Ok (record { game = t.game; behind = behind }) else next t.game) ≡ Ok x → P x.game
  kept_or next t behind x true h f e = let is : record { game = t.game; behind = behind } ≡ x = cc in subst (λ (z : Ended S). P z.game) is h
  kept_or next t behind x false h f e = f t.game h e

  kept_on : (next : GameRead S → Result (Ended S) MovesFault) (g : GameRead S) (left : ℕ) (behind : List ℕ) (x : Ended S) (taken_on : Result (GameTaken S) Reason)
      → ((t : GameTaken S) → taken_on ≡ Ok t → P t.game) → ((h : GameRead S) → P h → next h ≡ Ok x → P x.game) → goes_on next left behind taken_on ≡ Ok x → P x.game
  kept_on next g left behind x (Err why) f k e = absurd cc
  kept_on next g left behind x (Ok t) f k e = kept_or next t behind x t.ended (f t refl) k e

  kept_numbered : (next : GameRead S → Result (Ended S) MovesFault) (g : GameRead S) (left : ℕ) (token : Token) (behind : List ℕ) (x : Ended S) (s : Option Numbering)
      → P g
      → ((h : GameRead S) → P h → next h ≡ Ok x → P x.game) → on_numbered rules next left g token behind s ≡ Ok x → P x.game
  kept_numbered next g left token behind x None h k e = absurd cc
  kept_numbered next g left token behind x (Some s) h k e =
      kept_on next (with_numbering g s) left behind x (game_taken rules (with_numbering g s) token) (λ t is. step (with_numbering g s) token t (numbers g s h) is) k e

  kept_lexed : (next : List ℕ → (GameRead S) → Result (Ended S) MovesFault) (g : GameRead S) (left : ℕ) (x : Ended S) (token : Lexed) → P g
      → ((bs : List ℕ) (h : GameRead S) → P h → next bs h ≡ Ok x → P x.game) → on_token rules next left g token ≡ Ok x → P x.game
  kept_lexed next g left x (Err fault) h k e = absurd cc
  kept_lexed next g left x (Ok y) h k e = kept_numbered (next y.1) g left y.0 y.1 x (game_numbered rules g y.0 y.1) h (k y.1) e

  pub kept : (n : ℕ) (fresh : Bool) (text : List ℕ) (g : GameRead S) (x : Ended S) → P g → read_moves rules n fresh text g ≡ Ok x → P x.game
  kept zero fresh text g x h e = kept_end g x (length g.reading.lines.waiting == 0) h e
  kept (suc n) fresh [] g x h e = kept_end g x (length g.reading.lines.waiting == 0) h e
  kept (suc n) fresh (b ∷ bs) g x h e =
      kept_lexed (read_moves rules n (b == 10)) g (length (b ∷ bs)) x (lexed_token fresh b bs) h (λ rest k l is. kept n (b == 10) rest k x l is) e

  -- ---- why a reading stops

  module _ (Q : Stop → Type 0) (open_line : Q stop.OpenVariation) (no_token : (fault : TokenFault) → Q (stop.Token fault)) (no_number : Q stop.Numbering)
      (taking : (g : GameRead S) (token : Token) (why : Reason) → P g → game_taken rules g token ≡ Err why → Q (stop.Taking why)) where
    stops_at : (why : Stop) (left : ℕ) (fault : MovesFault) → Q why
        → ◌≡◌ {A = Result (Ended S) MovesFault} (fault_at why left) (Err fault) → Q fault.why
    stops_at why left fault h e = let is : record { why = why; left = left } ≡ fault = err_is (record { why = why; left = left }) fault e in
        subst (λ (z : MovesFault). Q z.why) is h
      where
        err_is : (x y : MovesFault) → ◌≡◌ {A = Result (Ended S) MovesFault} (Err x) (Err y) → x ≡ y
        err_is x y e = cc

    stops_end : (g : GameRead S) (fault : MovesFault) (none : Bool)
        → (if none then Ok (record { game = g; behind = [] }) else fault_at stop.OpenVariation 0) ≡ Err fault → Q fault.why
    stops_end g fault true e = absurd cc
    stops_end g fault false e = stops_at stop.OpenVariation 0 fault open_line e

    stops_or : (next : GameRead S → Result (Ended S) MovesFault) (t : GameTaken S) (behind : List ℕ) (fault : MovesFault) (ended : Bool) → P t.game
        → ((h : GameRead S) → P h → next h ≡ Err fault → Q fault.why) → (if ended then Ok (record { game = t.game; behind = behind }) else next t.game) ≡ Err
        fault → Q fault.why
    stops_or next t behind fault true h f e = absurd cc
    stops_or next t behind fault false h f e = f t.game h e

    stops_on : (next : GameRead S → Result (Ended S) MovesFault) (g : GameRead S) (left : ℕ) (behind : List ℕ) (fault : MovesFault) (taken_on : Result (GameTaken S) Reason)
        → ((t : GameTaken S) → taken_on ≡ Ok t → P t.game) → ((why : Reason) → taken_on ≡ Err why → Q (stop.Taking why))
        → ((h : GameRead S) → P h → next h ≡ Err fault → Q fault.why) → goes_on next left behind taken_on ≡ Err fault → Q fault.why
    stops_on next g left behind fault (Err why) f r k e = stops_at (stop.Taking why) left fault (r why refl) e
    stops_on next g left behind fault (Ok t) f r k e = stops_or next t behind fault t.ended (f t refl) k e

    stops_numbered : (next : GameRead S → Result (Ended S) MovesFault) (g : GameRead S) (left : ℕ) (token : Token) (behind : List ℕ) (fault : MovesFault)
        (s : Option Numbering) → P g
        → ((h : GameRead S) → P h → next h ≡ Err fault → Q fault.why) → on_numbered rules next left g token behind s ≡ Err fault → Q fault.why
    stops_numbered next g left token behind fault None h k e = stops_at stop.Numbering left fault no_number e
    stops_numbered next g left token behind fault (Some s) h k e =
        let i = with_numbering g s in
        let p = numbers g s h in
        stops_on next i left behind fault (game_taken rules i token) (λ t is. step i token t p is) (λ why is. taking i token why p is) k e

    stops_lexed : (next : List ℕ → (GameRead S) → Result (Ended S) MovesFault) (g : GameRead S) (left : ℕ) (fault : MovesFault) (token : Lexed) → P g
        → ((bs : List ℕ) (h : GameRead S) → P h → next bs h ≡ Err fault → Q fault.why) → on_token rules next left g token ≡ Err fault → Q fault.why
    stops_lexed next g left fault (Err why) h k e = stops_at (stop.Token why) left fault (no_token why) e
    stops_lexed next g left fault (Ok y) h k e = stops_numbered (next y.1) g left y.0 y.1 fault (game_numbered rules g y.0 y.1) h (k y.1) e

    pub stops : (n : ℕ) (fresh : Bool) (text : List ℕ) (g : GameRead S) (fault : MovesFault) → P g → read_moves rules n fresh text g ≡ Err fault → Q fault.why
    stops zero fresh text g fault h e = stops_end g fault (length g.reading.lines.waiting == 0) e
    stops (suc n) fresh [] g fault h e = stops_end g fault (length g.reading.lines.waiting == 0) e
    stops (suc n) fresh (b ∷ bs) g fault h e =
        stops_lexed (read_moves rules n (b == 10)) g (length (b ∷ bs)) fault (lexed_token fresh b bs) h (λ rest k l is. stops n (b == 10) rest k fault l is) e
