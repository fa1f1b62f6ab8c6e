-- The moves of a game, one token after the other.
use Rattle.std.proofs.Common.{◌≡◌, ℕ, suc, Bool, false, List, [], ◌∷◌, length, Option, Some, None, Result, Ok, Err, ap, ◌∙◌}
use Rattle.std.specs.Prelude.{◌==◌, unwrap_or}
use Rattle.study_reading.specs.declared.lines.LineFault.TheVariants as line_fault
use Rattle.study_reading.specs.declared.moves.MoveFault.TheVariants as move_fault
use Rattle.study_reading.specs.declared.notes.Notes.{Notes}
use Rattle.study_reading.specs.declared.token_effects.Reason.{Reason}
use Rattle.study_reading.specs.declared.token_effects.Reason.TheVariants as reason
use Rattle.study_reading.specs.declared.movetext.MovesFault.{MovesFault}
use Rattle.study_reading.specs.declared.movetext.Stop.TheVariants as stop
use Rattle.study_games.specs.declared.token.TokenFault.TheVariants.{Byte}
use Rattle.study_reading.specs.Followed.{Rules}
use Rattle.study_reading.specs.Reading.{Reading}
use Rattle.study_reading.specs.Taken.{Taken, Takes}
use Rattle.study_reading.specs.Notes.{GameRead, GameTaken, noted_on, game_taken}
use Rattle.study_games.specs.Tokens.{Token, Lexed, lexed_token, token_at, begins_feed}
use Rattle.study_reading.specs.declared.numbering.Numbering.{Numbering}
use Rattle.study_reading.specs.Movetext.{Ended, goes_on, game_numbered, with_numbering, on_numbered, on_token, read_moves}
use Rattle.study_reading.specs.MovesRead.{IsReported, TakesIn}

abbrev lexed_or : Option Lexed → Lexed
lexed_or o = unwrap_or o (Err Byte)

module _ {S : Type 0} (rules : Rules S) (n m : ℕ) (fresh : Bool) (r : GameRead S) (t : Token) (behind : List ℕ) where
  read_by : (b : ℕ) (bs : List ℕ) → n ≡ suc m → token_at fresh (b ∷ bs) ≡ Some (Ok (t, behind))
      → read_moves rules n fresh (b ∷ bs) r
      ≡ on_numbered rules (read_moves rules m (b == 10) behind) (length (b ∷ bs)) r t behind (game_numbered rules r t behind)
  read_by b bs e k =
      let l : lexed_token fresh b bs ≡ Ok (t, behind) = ap lexed_or k in
      ap (λ (i : ℕ). read_moves rules i fresh (b ∷ bs) r) e ∙ ap (on_token rules (read_moves rules m (b == 10)) (length (b ∷ bs)) r) l

  numbered_by : (b : ℕ) (bs : List ℕ) (s : Option Numbering) → n ≡ suc m → token_at fresh (b ∷ bs) ≡ Some (Ok (t, behind))
      → game_numbered rules r t behind ≡ s
      → read_moves rules n fresh (b ∷ bs) r ≡ on_numbered rules (read_moves rules m (b == 10) behind) (length (b ∷ bs)) r t behind s
  numbered_by b bs s e k i = read_by b bs e k ∙ ap (on_numbered rules (read_moves rules m (b == 10) behind) (length (b ∷ bs)) r t behind) i

  pub step_on : (rest : List ℕ) (s : Numbering) (next : GameRead S) → n ≡ suc m → token_at fresh rest ≡ Some (Ok (t, behind))
      → game_numbered rules r t behind ≡ Some s
      → game_taken rules (with_numbering r s) t ≡ Ok (record { game = next; ended = false })
      → read_moves rules n fresh rest r ≡ read_moves rules m (begins_feed rest) behind next
  step_on [] s next e k i h = absurd cc
  step_on (b ∷ bs) s next e k i h = numbered_by b bs (Some s) e k i ∙ ap (goes_on (read_moves rules m (b == 10) behind) (length (b ∷ bs)) behind) h

  pub stop_on : (rest : List ℕ) (s : Numbering) (why : Reason) → n ≡ suc m → token_at fresh rest ≡ Some (Ok (t, behind))
      → game_numbered rules r t behind ≡ Some s
      → game_taken rules (with_numbering r s) t ≡ Err why → read_moves rules n fresh rest r ≡ Err (record { why = stop.Taking why; left = length rest })
  stop_on [] s why e k i h = absurd cc
  stop_on (b ∷ bs) s why e k i h = numbered_by b bs (Some s) e k i ∙ ap (goes_on (read_moves rules m (b == 10) behind) (length (b ∷ bs)) behind) h

  -- a number that does not fit
  pub unfit_on : (rest : List ℕ) → n ≡ suc m → token_at fresh rest ≡ Some (Ok (t, behind)) → game_numbered rules r t behind ≡ None
      → read_moves rules n fresh rest r ≡ Err (record { why = stop.Numbering; left = length rest })
  unfit_on [] e k i = absurd cc
  unfit_on (b ∷ bs) e k i = numbered_by b bs None e k i

-- a reported reason, or want of memory
pub reported_by : {S : Type 0} (why : Reason) (x : Result (GameTaken S) Reason) (new : GameRead S) (expected : Result (Ended S) MovesFault) (left : ℕ)
    → TakesIn (Err why) x new
    → (x ≡ Err why → expected ≡ Err (record { why = stop.Taking why; left = left })) → IsReported (stop.Taking why) expected left
reported_by (reason.Move move_fault.NoSuchNode) x new expected left h f = f h
reported_by (reason.Move (move_fault.San fault)) x new expected left h f = f h
reported_by (reason.Move move_fault.TooDeep) x new expected left h f = f h
reported_by (reason.Move move_fault.TreeFull) x new expected left h f = f h
reported_by (reason.Move move_fault.OutOfMemory) x new expected left h f = tt
reported_by (reason.Line line_fault.NoMoveBefore) x new expected left h f = f h
reported_by (reason.Line line_fault.TooNested) x new expected left h f = f h
reported_by (reason.Line line_fault.NotOpened) x new expected left h f = f h
reported_by (reason.Line line_fault.OutOfMemory) x new expected left h f = tt
reported_by reason.TagInMoves x new expected left h f = f h
reported_by reason.NullMove x new expected left h f = f h
reported_by reason.BehindWord x new expected left h f = f h

-- a token that was taken, with its note
pub noted_takes : {S : Type 0} (answer : Result Bool Reason) (x : Result (Taken S) Reason) (new : Reading S) (n : Notes) → Takes answer x new
    → TakesIn answer (noted_on n x) (record { reading = new; notes = n })
noted_takes (Ok ended) x new n h = ap (noted_on n) h
noted_takes (Err (reason.Move move_fault.NoSuchNode)) x new n h = ap (noted_on n) h
noted_takes (Err (reason.Move (move_fault.San fault))) x new n h = ap (noted_on n) h
noted_takes (Err (reason.Move move_fault.TooDeep)) x new n h = ap (noted_on n) h
noted_takes (Err (reason.Move move_fault.TreeFull)) x new n h = ap (noted_on n) h
noted_takes (Err (reason.Move move_fault.OutOfMemory)) x new n h = tt
noted_takes (Err (reason.Line line_fault.NoMoveBefore)) x new n h = ap (noted_on n) h
noted_takes (Err (reason.Line line_fault.TooNested)) x new n h = ap (noted_on n) h
noted_takes (Err (reason.Line line_fault.NotOpened)) x new n h = ap (noted_on n) h
noted_takes (Err (reason.Line line_fault.OutOfMemory)) x new n h = tt
noted_takes (Err reason.TagInMoves) x new n h = ap (noted_on n) h
noted_takes (Err reason.NullMove) x new n h = ap (noted_on n) h
noted_takes (Err reason.BehindWord) x new n h = ap (noted_on n) h
