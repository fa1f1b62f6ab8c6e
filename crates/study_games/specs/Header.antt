-- The header of a game: its tags.
use Rattle.std.specs.Prelude.{ℕ, zero, suc, Bool, true, ◌&&◌, ◌||◌, ◌==◌, List, [], ◌∷◌, length, Option, Some, None, Ok, Err, if◌then◌else◌}
use Rattle.std.specs.Option.{option_map}
use Rattle.std.specs.Str.{bytes_eq}
use Rattle.study_games.specs.declared.token.TokenFault.{TokenFault}
use Rattle.study_games.specs.declared.token.TokenFault.TheVariants.{TagForm, OpenString}
use Rattle.study_games.specs.declared.header.HeaderFault.{HeaderFault}
use Rattle.study_games.specs.declared.header.HeaderStep.{HeaderStep as StepRead}
use Rattle.study_games.specs.declared.header.HeaderStep.TheVariants as read
use Rattle.study_games.specs.Tokens.{Lexed, lexed_token, begins_feed, blank, tag, comment, rest}

-- a tag: its name, and its value with its backslashes
abbrev pub Pair : Type 0
Pair = List ℕ × List ℕ

-- the next token of a header: the header continues, with a tag or with a blank or a comment; or the token should be a tag and is not one; or the header
-- ends before it
pub data Step : Type 0 where
  on : Option Pair → (behind : List ℕ) → Step
  no_tag : TokenFault → Step
  ended : Step

abbrev pub step_of : Lexed → Step
step_of (Ok (tag name value, behind)) = on (Some (name, value)) behind
step_of (Ok (blank, behind)) = on None behind
step_of (Ok (comment text, behind)) = on None behind
step_of (Ok (rest text, behind)) = on None behind
step_of (Ok other) = ended
step_of (Err TagForm) = no_tag TagForm
step_of (Err OpenString) = no_tag OpenString
step_of (Err other) = ended

-- fresh: the text begins a line
abbrev pub step_at : Bool → List ℕ → Step
step_at fresh [] = ended
step_at fresh (b ∷ bs) = step_of (lexed_token fresh b bs)

abbrev pub with_tags : (List ℕ → List Pair) → Step → List Pair
with_tags next (on (Some pair) behind) = pair ∷ next behind
with_tags next (on None behind) = next behind
with_tags next other = []

-- the tags of a header, reading at most n tokens
abbrev pub tags_in : ℕ → Bool → List ℕ → List Pair
tags_in zero fresh text = []
tags_in (suc n) fresh text = with_tags (tags_in n (begins_feed text)) (step_at fresh text)

abbrev pub with_fault : (List ℕ → Option HeaderFault) → ℕ → Step → Option HeaderFault
with_fault next left (on pair behind) = next behind
with_fault next left (no_tag why) = Some (record { why = why; left = left })
with_fault next left ended = None

-- the first token that should be a tag and is not one; left: the number of bytes from its place on
abbrev pub fault_in : ℕ → Bool → List ℕ → Option HeaderFault
fault_in zero fresh text = None
fault_in (suc n) fresh text = with_fault (fault_in n (begins_feed text)) (length text) (step_at fresh text)

-- the value of the first tag with this name
abbrev pub value_of : List ℕ → List Pair → Option (List ℕ)
value_of name [] = None
value_of name (t ∷ ts) = if bytes_eq t.0 name then Some t.1 else value_of name ts

-- the number of tags with this name
abbrev pub named_count : List ℕ → List Pair → ℕ
named_count name [] = 0
named_count name (t ∷ ts) = if bytes_eq t.0 name then suc (named_count name ts) else named_count name ts

-- each token has at least one byte, so that the length of a game is enough
unfoldable pub tags_of : List ℕ → List Pair
tags_of game = tags_in (length game) true game

unfoldable pub header_fault : List ℕ → Option HeaderFault
header_fault game = fault_in (length game) true game

-- the step as contracts see it
abbrev pub step_seen : StepRead → Step
step_seen (read.On pair behind) = on (option_map (λ x. (x.0.now, x.1.now)) pair) behind.now
step_seen (read.NoTag why) = no_tag why
step_seen read.End = ended

-- ---- the text of a value

-- a quotation mark or a backslash after a backslash
abbrev pub is_escaped : ℕ → ℕ → Bool
is_escaped b c = b == 92 && (c == 34 || c == 92)

-- the first byte of the text, after a backslash if one escapes it, and the rest
abbrev pub unescaped_at : List ℕ → Option (ℕ × List ℕ)
unescaped_at (b ∷ c ∷ bs) = if is_escaped b c then Some (c, bs) else Some (b, c ∷ bs)
unescaped_at (b ∷ []) = Some (b, [])
unescaped_at [] = None

abbrev pub unescape : List ℕ → List ℕ
unescape (b ∷ c ∷ bs) = if is_escaped b c then c ∷ unescape bs else b ∷ unescape (c ∷ bs)
unescape bs = bs
