-- A text in English letters is as long as before.
use Rattle.std.proofs.Common.{◌≡◌, ℕ, zero, suc, ◌-◌, Bool, true, List, [], ◌∷◌, length, take, Some, Ok, Err, refl, ap, arith, length-append, length-take}
use Rattle.std.specs.Prelude.{◌==◌, map}
use Rattle.study_games.specs.declared.language.Language.{Language}
use Rattle.study_games.specs.declared.symbols.Said.{Said}
use Rattle.study_games.specs.declared.symbols.Said.TheVariants as said
use Rattle.study_games.specs.Symbols.{said_of}
use Rattle.study_games.specs.Tokens.{Token, Lexed, lexed_token, blank, aside, opening, closing, star, tag, comment, rest, sign, symbol}
use Rattle.study_games.specs.Languages.{english_byte, said_in_english, token_in_english, english_then, english_from, in_english}
use Rattle.study_games.proofs.Within.{Within, within_lexed}

map_length : (f : ℕ → ℕ) (xs : List ℕ) → length (map f xs) ≡ length xs
map_length f [] = refl
map_length f (x ∷ xs) = ap suc (map_length f xs)

said_length : (language : Language) (s : Said) (bytes : List ℕ) → length (said_in_english language s bytes) ≡ length bytes
said_length language said.Move bytes = map_length (english_byte language) bytes
said_length language said.Number bytes = refl
said_length language (said.Result outcome) bytes = refl
said_length language said.NullMove bytes = refl
said_length language said.Passing bytes = refl
said_length language said.Aside bytes = refl
said_length language said.Word bytes = refl

token_length : (language : Language) (t : Token) (bytes : List ℕ) → length (token_in_english language t bytes) ≡ length bytes
token_length language (symbol text) bytes = said_length language (said_of text) bytes
token_length language blank bytes = refl
token_length language aside bytes = refl
token_length language opening bytes = refl
token_length language closing bytes = refl
token_length language star bytes = refl
token_length language (tag name value) bytes = refl
token_length language (comment text) bytes = refl
token_length language (rest text) bytes = refl
token_length language (sign text) bytes = refl

then_length : (next : List ℕ → List ℕ) (language : Language) (text : List ℕ) (x : Lexed) → Within (length text) x
    → ((bs : List ℕ) → length (next bs) ≡ length bs) → length (english_then next language text (Some x)) ≡ length text
then_length next language text (Err fault) w h = refl
then_length next language text (Ok x) w h =
    let bytes = take (length text - length x.1) text in
    omega (
      arith,
      w,
      h x.1,
      length-append (token_in_english language x.0 bytes) (next x.1),
      token_length language x.0 bytes,
      length-take (length text - length x.1) text,
    )

more : (n : ℕ) (x : Lexed) → Within n x → Within (suc n) x
more n (Err fault) w = tt
more n (Ok x) w = omega arith

english_length : (n : ℕ) (language : Language) (fresh : Bool) (text : List ℕ) → length (english_from n language fresh text) ≡ length text
english_length zero language fresh text = refl
english_length (suc n) language fresh [] = refl
english_length (suc n) language fresh (b ∷ bs) =
    then_length (english_from n language (b == 10)) language (b ∷ bs) (lexed_token fresh b bs)
    (more (length bs) (lexed_token fresh b bs) (within_lexed fresh b bs)) (english_length n language (b == 10))

pub places_kept : (language : Language) (text : List ℕ) → length (in_english language text) ≡ length text
unfolding in_english
places_kept language text = english_length (length text) language true text
