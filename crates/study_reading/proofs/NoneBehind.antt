-- The text behind a result.
use Rattle.std.proofs.Common.{◌≡◌, ℕ, zero, suc, ◌≤◌, Bool, false, List, [], ◌∷◌, length, Option, Some, None, Result, Ok, Err, refl, sym, ap, subst, ◌∙◌, arith}
use Rattle.std.specs.Prelude.{◌==◌, unwrap_or, if◌then◌else◌}
use Rattle.study_games.specs.declared.token.TokenFault.{TokenFault}
use Rattle.study_games.specs.declared.token.TokenFault.TheVariants as token_fault
use Rattle.study_games.specs.Tokens.{Token, Lexed, lexed_token, token_at, begins_feed, is_in_line}
use Rattle.study_reading.specs.declared.lines.LineFault.TheVariants as line_fault
use Rattle.study_reading.specs.declared.moves.MoveFault.TheVariants as move_fault
use Rattle.study_reading.specs.declared.token_effects.Reason.TheVariants as reason
use Rattle.study_reading.specs.declared.movetext.MovesFault.{MovesFault}
use Rattle.study_reading.specs.declared.movetext.Stop.{Stop}
use Rattle.study_reading.specs.declared.movetext.Stop.TheVariants as stop
use Rattle.study_reading.specs.Movetext.{Ended}
use Rattle.study_reading.specs.MovesRead.{IsReported}
use Rattle.study_reading.specs.Behind.{is_of_moves, behind_fault, moves_or, moves_left, moves_in, ended_unless, to_the_end}
use Rattle.study_games.proofs.Within.{Within, behind_le, within_lexed}

-- ---- a token

abbrev lexed_or : Option Lexed → Lexed
lexed_or o = unwrap_or o (Err token_fault.Byte)

left_on : (n m : ℕ) (fresh : Bool) (rest : List ℕ) (x : Lexed) → n ≡ suc m → token_at fresh rest ≡ Some x
    → moves_left n fresh rest ≡ moves_or (moves_left m (begins_feed rest)) rest x
left_on n m fresh [] x e k = absurd cc
left_on n m fresh (b ∷ bs) x e k =
    let l : lexed_token fresh b bs ≡ x = ap lexed_or k in
    ap (λ (i : ℕ). moves_left i fresh (b ∷ bs)) e ∙ ap (moves_or (moves_left m (b == 10)) (b ∷ bs)) l

-- behind a place where no token begins, and behind a token that is not a move, the search goes on
pub fault_on : (n m : ℕ) (fresh : Bool) (rest : List ℕ) (fault : TokenFault) (later : List ℕ) → n ≡ suc m → token_at fresh rest ≡ Some (Err fault)
    → later ≡ behind_fault fault rest → moves_left m (begins_feed rest) later ≡ moves_left n fresh rest
fault_on n m fresh rest fault later e k is = ap (moves_left m (begins_feed rest)) is ∙ sym (left_on n m fresh rest (Err fault) e k)

pub token_on : (n m : ℕ) (fresh : Bool) (rest : List ℕ) (t : Token) (later : List ℕ) → n ≡ suc m → token_at fresh rest ≡ Some (Ok (t, later))
    → is_of_moves t ≡ false → moves_left m (begins_feed rest) later ≡ moves_left n fresh rest
token_on n m fresh rest t later e k is =
    sym (ap (λ (b : Bool). if b then Some (length rest) else moves_left m (begins_feed rest) later) is) ∙ sym (left_on n m fresh rest (Ok (t, later)) e k)

-- ---- a text is searched to its end

fault_within : (fault : TokenFault) (b : ℕ) (bs : List ℕ) → length (behind_fault fault (b ∷ bs)) ≤ length bs
fault_within token_fault.OpenComment b bs = omega arith
fault_within token_fault.OpenString b bs = behind_le is_in_line bs
fault_within token_fault.TagForm b bs = omega arith
fault_within token_fault.Byte b bs = omega arith

same_or : (p q : List ℕ → Option ℕ) (b : ℕ) (bs : List ℕ) (x : Lexed) → Within (length bs) x → ((rest : List ℕ) → length rest ≤ length bs → p rest ≡ q rest)
    → moves_or p (b ∷ bs) x ≡ moves_or q (b ∷ bs) x
same_or p q b bs (Err fault) w h = h (behind_fault fault (b ∷ bs)) (fault_within fault b bs)
same_or p q b bs (Ok x) w h = ap (λ (o : Option ℕ). if is_of_moves x.0 then Some (length (b ∷ bs)) else o) (h x.1 w)

pub left_same : (n m : ℕ) (fresh : Bool) (text : List ℕ) → length text ≤ n → length text ≤ m → moves_left n fresh text ≡ moves_left m fresh text
left_same zero zero fresh text h k = refl
left_same zero (suc m) fresh [] h k = refl
left_same zero (suc m) fresh (b ∷ bs) h k = absurd (omega arith)
left_same (suc n) zero fresh [] h k = refl
left_same (suc n) zero fresh (b ∷ bs) h k = absurd (omega arith)
left_same (suc n) (suc m) fresh [] h k = refl
left_same (suc n) (suc m) fresh (b ∷ bs) h k =
    same_or (moves_left n (b == 10)) (moves_left m (b == 10)) b bs (lexed_token fresh b bs) (within_lexed fresh b bs)
    (λ rest le. left_same n m (b == 10) rest (omega arith) (omega arith))

-- ---- a game

unless_is : {S : Type 0} (x y : Ended S) (o : Option ℕ) → ended_unless x o ≡ Ok y → (o ≡ None) × (x ≡ y)
unless_is x y None e = (refl, let is : x ≡ y = cc in is)
unless_is x y (Some left) e = absurd cc

-- a game that is read to its end is read up to its result, with no moves behind it
pub end_is : {S : Type 0} (r : Result (Ended S) MovesFault) (x : Ended S) → to_the_end r ≡ Ok x → r ≡ Ok x
end_is (Err fault) x e = absurd cc
end_is (Ok y) x e = ap (λ (z : Ended _). Ok z) (unless_is y x (moves_in y.behind) e).1

pub none_behind : {S : Type 0} (r : Result (Ended S) MovesFault) (x : Ended S) → to_the_end r ≡ Ok x → moves_in x.behind ≡ None
none_behind (Err fault) x e = absurd cc
none_behind (Ok y) x e = let is = unless_is y x (moves_in y.behind) e in sym (ap (λ (z : Ended _). moves_in z.behind) is.1) ∙ is.0

-- a fault before the end
pub still_reported : {S : Type 0} (why : Stop) (expected : Result (Ended S) MovesFault) (left : ℕ) → IsReported why expected left
    → IsReported why (to_the_end expected) left
still_reported (stop.Taking (reason.Move move_fault.NoSuchNode)) expected left h = ap to_the_end h
still_reported (stop.Taking reason.BehindWord) expected left h = ap to_the_end h
still_reported (stop.Taking (reason.Move (move_fault.San fault))) expected left h = ap to_the_end h
still_reported (stop.Taking (reason.Move move_fault.TooDeep)) expected left h = ap to_the_end h
still_reported (stop.Taking (reason.Move move_fault.TreeFull)) expected left h = ap to_the_end h
still_reported (stop.Taking (reason.Move move_fault.OutOfMemory)) expected left h = tt
still_reported (stop.Taking (reason.Line line_fault.NoMoveBefore)) expected left h = ap to_the_end h
still_reported (stop.Taking (reason.Line line_fault.TooNested)) expected left h = ap to_the_end h
still_reported (stop.Taking (reason.Line line_fault.NotOpened)) expected left h = ap to_the_end h
still_reported (stop.Taking (reason.Line line_fault.OutOfMemory)) expected left h = tt
still_reported (stop.Taking reason.TagInMoves) expected left h = ap to_the_end h
still_reported (stop.Taking reason.NullMove) expected left h = ap to_the_end h
still_reported (stop.Token fault) expected left h = ap to_the_end h
still_reported stop.OpenVariation expected left h = ap to_the_end h
still_reported stop.Numbering expected left h = ap to_the_end h
still_reported stop.BehindResult expected left h = ap to_the_end h

-- why it is not read to its end
module _ (Q : Stop → Type 0) (behind_result : Q stop.BehindResult) where
  stops_unless : {S : Type 0} (x : Ended S) (o : Option ℕ) (fault : MovesFault) → ended_unless x o ≡ Err fault → Q fault.why
  stops_unless x None fault e = absurd cc
  stops_unless x (Some left) fault e = let is : record { why = stop.BehindResult; left = left } ≡ fault = cc in
      subst (λ (z : MovesFault). Q z.why) is behind_result

  pub stops_at_end : {S : Type 0} (r : Result (Ended S) MovesFault) (fault : MovesFault) → ((f : MovesFault) → r ≡ Err f → Q f.why) → to_the_end r ≡ Err fault
      → Q fault.why
  stops_at_end (Err f) fault h e = let is : f ≡ fault = cc in subst (λ (z : MovesFault). Q z.why) is (h f refl)
  stops_at_end (Ok x) fault h e = stops_unless x (moves_in x.behind) fault e
