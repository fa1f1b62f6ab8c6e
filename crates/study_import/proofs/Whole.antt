-- Each token has at least one byte, so that a game is read to its end.
use Rattle.std.proofs.Common.{◌≡◌, ℕ, zero, suc, ◌≤◌, Bool, List, [], ◌∷◌, length, Option, Some, None, Ok, Err, refl}
use Rattle.std.proofs.Common.{sym, ap, ◌∙◌, arith}
use Rattle.std.specs.Prelude.{◌==◌}
use Rattle.study_games.specs.declared.token.TokenFault.TheVariants.{OpenComment, TagForm, OpenString, Byte}
use Rattle.study_games.specs.declared.header.HeaderFault.{HeaderFault}
use Rattle.study_games.specs.Tokens.{Lexed, behind}
use Rattle.study_games.specs.Tokens.{lexed_token, blank}
use Rattle.study_games.specs.Tokens.{aside, opening, closing, star, tag, comment, rest, sign, symbol}
use Rattle.study_games.specs.Header.{Pair, Step, on, no_tag, ended, step_of, with_tags, tags_in, with_fault, fault_in}
use Rattle.study_games.proofs.Within.{Within, within_lexed}

-- ---- headers

abbrev pub StepWithin : ℕ → Step → Type 0
StepWithin n (on pair behind) = length behind ≤ n
StepWithin n other = Unit {0}

pub within_step : (n : ℕ) (x : Lexed) → Within n x → StepWithin n (step_of x)
within_step n (Ok (tag name value, behind)) h = h
within_step n (Ok (blank, behind)) h = h
within_step n (Ok (comment text, behind)) h = h
within_step n (Ok (rest text, behind)) h = h
within_step n (Ok (aside, behind)) h = tt
within_step n (Ok (opening, behind)) h = tt
within_step n (Ok (closing, behind)) h = tt
within_step n (Ok (star, behind)) h = tt
within_step n (Ok (sign text, behind)) h = tt
within_step n (Ok (symbol text, behind)) h = tt
within_step n (Err TagForm) h = tt
within_step n (Err OpenString) h = tt
within_step n (Err OpenComment) h = tt
within_step n (Err Byte) h = tt

pub same_tags : (p q : List ℕ → List Pair) (n : ℕ) (s : Step) → StepWithin n s → ((bs : List ℕ) → length bs ≤ n → p bs ≡ q bs) → with_tags p s ≡ with_tags q s
same_tags p q n (on (Some pair) behind) w h = ap (λ (ps : List Pair). pair ∷ ps) (h behind w)
same_tags p q n (on None behind) w h = h behind w
same_tags p q n (no_tag why) w h = refl
same_tags p q n ended w h = refl

tags_none : (n : ℕ) (fresh : Bool) → tags_in n fresh [] ≡ []
tags_none zero fresh = refl
tags_none (suc n) fresh = refl

pub tags_same : (n m : ℕ) (fresh : Bool) (text : List ℕ) → length text ≤ n → length text ≤ m → tags_in n fresh text ≡ tags_in m fresh text
tags_same n m fresh [] h k = tags_none n fresh ∙ sym (tags_none m fresh)
tags_same zero m fresh (b ∷ bs) h k = absurd (omega arith)
tags_same (suc n) zero fresh (b ∷ bs) h k = absurd (omega arith)
tags_same (suc n) (suc m) fresh (b ∷ bs) h k =
    same_tags (tags_in n (b == 10)) (tags_in m (b == 10)) (length bs) (step_of (lexed_token fresh b bs))
    (within_step (length bs) (lexed_token fresh b bs) (within_lexed fresh b bs))
    (λ rest le. tags_same n m (b == 10) rest (omega arith) (omega arith))

pub same_fault : (p q : List ℕ → Option HeaderFault) (left n : ℕ) (s : Step) → StepWithin n s → ((bs : List ℕ) → length bs ≤ n → p bs ≡ q bs)
    → with_fault p left s ≡ with_fault q left s
same_fault p q left n (on pair behind) w h = h behind w
same_fault p q left n (no_tag why) w h = refl
same_fault p q left n ended w h = refl

fault_none : (n : ℕ) (fresh : Bool) → fault_in n fresh [] ≡ None
fault_none zero fresh = refl
fault_none (suc n) fresh = refl

pub fault_same : (n m : ℕ) (fresh : Bool) (text : List ℕ) → length text ≤ n → length text ≤ m → fault_in n fresh text ≡ fault_in m fresh text
fault_same n m fresh [] h k = fault_none n fresh ∙ sym (fault_none m fresh)
fault_same zero m fresh (b ∷ bs) h k = absurd (omega arith)
fault_same (suc n) zero fresh (b ∷ bs) h k = absurd (omega arith)
fault_same (suc n) (suc m) fresh (b ∷ bs) h k =
    same_fault (fault_in n (b == 10)) (fault_in m (b == 10)) (length (b ∷ bs)) (length bs) (step_of (lexed_token fresh b bs))
    (within_step (length bs) (lexed_token fresh b bs) (within_lexed fresh b bs)) (λ rest le. fault_same n m (b == 10) rest (omega arith) (omega arith))
