-- Counts and notes beside the moves.
use Rattle.std.specs.Prelude.{ℕ, Bool, true, false, not, ◌&&◌, ◌==◌, nat_le, List, length, codes, Option, Some, None, Result, Ok, Err, if◌then◌else◌}
use Rattle.std.specs.Str.{bytes_eq}
use Rattle.study_board.specs.Position.{Position, in_check}
use Rattle.study_moves.specs.LegalList.{is_mate}
use Rattle.study_notation.specs.declared.fault.SanFault.TheVariants.{NotSan}
use Rattle.study_games.specs.Games.{one_more}
use Rattle.study_games.specs.Symbols.{said_of, claim_in}
use Rattle.study_games.specs.declared.spelling.Claim.{Claim}
use Rattle.study_games.specs.declared.spelling.Claim.TheVariants.{Check, Mate}
use Rattle.study_games.specs.declared.symbols.Outcome.{Outcome}
use Rattle.study_games.specs.declared.symbols.Said.{Said}
use Rattle.study_games.specs.declared.symbols.Said.TheVariants as say
use Rattle.study_games.specs.Tokens.{Token, blank, aside, opening, closing, star, tag, comment, rest, sign, symbol}
use Rattle.study_reading.specs.declared.notes.Notes.{Notes}
use Rattle.study_reading.specs.declared.moves.MoveFault.TheVariants as move_fault
use Rattle.study_reading.specs.declared.token_effects.Reason.{Reason}
use Rattle.study_reading.specs.declared.token_effects.Reason.TheVariants as reason
use Rattle.study_reading.specs.Aims.{aim_in, goal_signed, is_unread_comment}
use Rattle.study_reading.specs.Followed.{Rules}
use Rattle.study_reading.specs.Reading.{Reading}
use Rattle.study_reading.specs.declared.lines.Waiting.{Waiting}
use Rattle.study_reading.specs.Taken.{Taken, reading_of, after_token}

abbrev pub none_yet : Notes
none_yet = record {
  comments = 0;
  words = 0;
  asides = 0;
  moves = 0;
  null_moves = 0;
  moves_behind = 0;
  wrong_signs = 0;
  in_header = true;
  before_moves = true;
  behind_word = false;
  has_comment = false;
  opening = None;
  opening_goal = None;
  opening_unread = false;
  outcome = None;
  numbering = record { first = None; pairs = false };
}

-- a token other than a tag, a blank and a comment ends the header
abbrev pub after_header : Notes → Notes
after_header n = record n { in_header = false; behind_word = false }

-- blanks, comments and NAGs do not end what a word begins
abbrev pub with_word : Notes → Notes
with_word n = record n { in_header = false; words = one_more n.words; behind_word = true }

abbrev pub with_aside : Notes → Notes
with_aside n = record n { in_header = false; asides = one_more n.asides }

-- the first comment in braces states the stipulation, if no move precedes it
abbrev pub with_comment : Notes → List ℕ → Notes
with_comment n text =
    if n.before_moves && not n.has_comment
    then record n {
      comments = one_more n.comments;
      has_comment = true;
      opening = aim_in text;
      opening_goal = goal_signed text;
      opening_unread = is_unread_comment text;
    }
    else record n { comments = one_more n.comments }

-- cut: a null move of this line precedes it
abbrev pub with_null_move : Notes → Bool → Notes
with_null_move n cut = record n {
  in_header = false;
  before_moves = false;
  behind_word = false;
  null_moves = if cut then n.null_moves else one_more n.null_moves;
}

abbrev pub with_move : Notes → Bool → Notes
with_move n cut = record n {
  in_header = false;
  before_moves = false;
  behind_word = false;
  moves = if cut then n.moves else one_more n.moves;
  moves_behind = if cut then one_more n.moves_behind else n.moves_behind;
}

-- waits: a line waits, so that a result is ignored
abbrev pub with_result : Notes → Bool → Outcome → Notes
with_result n waits outcome = record n { in_header = false; behind_word = false; outcome = if waits then n.outcome else Some outcome }

abbrev pub with_said : Notes → Bool → Bool → Said → Notes
with_said n cut waits say.Number = after_header n
with_said n cut waits (say.Result outcome) = with_result n waits outcome
with_said n cut waits say.NullMove = with_null_move n cut
with_said n cut waits say.Passing = record n { in_header = false }
with_said n cut waits say.Aside = with_aside n
with_said n cut waits say.Word = with_word n
with_said n cut waits say.Move = with_move n cut

abbrev pub with_sign : Notes → Bool → Bool → Notes
with_sign n cut is_null = if is_null then with_null_move n cut else with_aside n

abbrev pub with_token : Notes → Bool → Bool → Token → Notes
with_token n cut waits blank = n
with_token n cut waits (tag name value) = n
with_token n cut waits (comment text) = with_comment n text
with_token n cut waits (rest text) = record n { comments = one_more n.comments }
with_token n cut waits aside = with_aside n
with_token n cut waits opening = after_header n
with_token n cut waits closing = after_header n
with_token n cut waits star = after_header n
with_token n cut waits (sign text) = with_sign n cut (bytes_eq text (codes "--"))
with_token n cut waits (symbol text) = with_said n cut waits (said_of text)

-- ---- both together

-- the state of reading a game, and the notes
pub record GameRead (S : Type 0) : Type 0 where
  pub reading : Reading S
  pub notes : Notes

abbrev pub game_of : {S : Type 0} → S → List ℕ → ℕ → List Waiting → ℕ → List ℕ → Notes → GameRead S
game_of study path begun waiting cut inserts notes = record { reading = reading_of study path begun waiting cut inserts; notes = notes }

pub record GameTaken (S : Type 0) : Type 0 where
  pub game : GameRead S
  pub ended : Bool

-- a tag of the header, already read
abbrev pub is_header_tag : Notes → Token → Bool
is_header_tag n (tag name value) = n.in_header
is_header_tag n other = false

abbrev pub noted_on : {S : Type 0} → Notes → Result (Taken S) Reason → Result (GameTaken S) Reason
noted_on n (Err why) = Err why
noted_on n (Ok t) = Ok (record { game = record { reading = t.reading; notes = n }; ended = t.ended })

-- ---- words among the moves

-- a word is a comment only behind a move; and a move right behind a word may be a part of it, as in `King d3`, if no null move precedes it in its line
abbrev pub said_misplaced : Notes → Bool → Said → Option Reason
said_misplaced n cut say.Word = if n.before_moves then Some (reason.Move (move_fault.San NotSan)) else None
said_misplaced n cut say.Move = if n.behind_word && not cut then Some reason.BehindWord else None
said_misplaced n cut other = None

abbrev pub misplaced : Notes → Bool → Token → Option Reason
misplaced n cut (symbol text) = said_misplaced n cut (said_of text)
misplaced n cut other = None

abbrev pub placed_or : {S : Type 0} → Option Reason → Result (Taken S) Reason → Result (Taken S) Reason
placed_or (Some why) t = Err why
placed_or None t = t

-- a token that is not a tag of the header
abbrev pub token_taken : {S : Type 0} → Rules S → GameRead S → Token → Result (GameTaken S) Reason
token_taken rules g token =
    noted_on (with_token g.notes (nat_le 1 g.reading.lines.cut) (not (length g.reading.lines.waiting == 0)) token)
    (placed_or (misplaced g.notes (nat_le 1 g.reading.lines.cut) token) (after_token rules g.reading token))

-- ---- signs of check and mate

-- whether what the signs behind a move claim is false of the position after it
abbrev pub is_false : Claim → Position → Bool
is_false Check p = not (in_check p.men p.to_move)
is_false Mate p = not (is_mate p)

module _ {S : Type 0} where
  -- of the move that was just played, unless a null move precedes it in its line
  abbrev pub is_wrong_claim : Rules S → Reading S → Option Claim → Bool
  is_wrong_claim rules r None = false
  is_wrong_claim rules r (Some claim) = not (nat_le 1 r.lines.cut) && rules.is_false r.study r.lines.path claim

  abbrev pub is_wrong_said : Rules S → Reading S → List ℕ → Said → Bool
  is_wrong_said rules r text say.Move = is_wrong_claim rules r (claim_in text)
  is_wrong_said rules r text other = false

  abbrev pub is_wrong : Rules S → Reading S → Token → Bool
  is_wrong rules r (symbol text) = is_wrong_said rules r text (said_of text)
  is_wrong rules r other = false

abbrev pub more_if : Bool → ℕ → ℕ
more_if true n = one_more n
more_if false n = n

module _ {S : Type 0} where
  abbrev pub with_signs : Rules S → Token → GameTaken S → GameTaken S
  with_signs rules token t = record {
    game = record {
      reading = t.game.reading;
      notes = record t.game.notes { wrong_signs = more_if (is_wrong rules t.game.reading token) t.game.notes.wrong_signs };
    };
    ended = t.ended;
  }

  abbrev pub signs_noted : Rules S → Token → Result (GameTaken S) Reason → Result (GameTaken S) Reason
  signs_noted rules token (Err why) = Err why
  signs_noted rules token (Ok t) = Ok (with_signs rules token t)

  -- ---- a token

  abbrev pub game_taken : Rules S → GameRead S → Token → Result (GameTaken S) Reason
  game_taken rules g token =
      if is_header_tag g.notes token then Ok (record { game = g; ended = false }) else signs_noted rules token (token_taken rules g token)
