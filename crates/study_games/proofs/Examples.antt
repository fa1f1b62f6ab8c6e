-- Small examples of the definitions, which compute.
use Rattle.std.proofs.Common.{◌≡◌, true, false, [], ◌∷◌, ◌++◌, Some, None, Ok, Err, refl}
use Rattle.std.specs.Prelude.{codes}
use Rattle.study_games.specs.declared.token.TokenFault.TheVariants.{OpenComment, OpenString, Byte}
use Rattle.study_games.specs.declared.symbols.Said.TheVariants.{Number, Result, NullMove, Aside, Word, Move}
use Rattle.study_games.specs.declared.spelling.Claim.TheVariants.{Check, Mate}
use Rattle.study_games.specs.declared.symbols.Outcome.TheVariants.{WhiteWins, BlackWins, Drawn}
use Rattle.study_games.specs.Tokens.{token_at, lexed_token, tag_at, comment_at, ends_tag, behind_value, tag, comment, symbol, sign, blank, aside}
use Rattle.study_games.specs.Symbols.{is_word, said_of, san_in, without_passing, claim_in}
use Rattle.study_games.specs.declared.language.Language.TheVariants.{German, Dutch}
use Rattle.study_games.specs.Languages.{english_byte, in_english}

-- marks inside a value, as Scid writes them
marks_inside : token_at true (codes "[Site \"A \"slip\" \\ of\" ] 1.") ≡ Some (Ok (tag (codes "Site") (codes "A \"slip\" \\ of"), codes " 1."))
unfolding lexed_token tag_at ends_tag behind_value
marks_inside = refl

-- an escaped mark does not end a value
escaped_mark : token_at true (codes "[White \"C:\\\"]") ≡ Some (Err OpenString)
unfolding lexed_token tag_at ends_tag behind_value
escaped_mark = refl

braces : token_at false (codes "{a {b} c") ≡ Some (Ok (comment (codes "a {b"), codes " c"))
unfolding lexed_token comment_at
braces = refl

open_brace : token_at false (codes "{a") ≡ Some (Err OpenComment)
unfolding lexed_token comment_at
open_brace = refl

move_with_signs : token_at false (codes "c8=Q+-! x") ≡ Some (Ok (symbol (codes "c8=Q+-"), codes "! x"))
unfolding lexed_token
move_with_signs = refl

two_dashes : token_at false (codes "-- Kf4") ≡ Some (Ok (sign (codes "--"), codes " Kf4"))
unfolding lexed_token
two_dashes = refl

-- `1…Kf5`: the number ends before the dots
number_and_dots : token_at false (49 ∷ 226 ∷ 128 ∷ 166 ∷ codes "Kf5") ≡ Some (Ok (symbol (codes "1"), 226 ∷ 128 ∷ 166 ∷ codes "Kf5"))
unfolding lexed_token
number_and_dots = refl

dots_and_move : token_at false (226 ∷ 128 ∷ 166 ∷ codes "Kf5") ≡ Some (Ok (blank, codes "Kf5"))
unfolding lexed_token
dots_and_move = refl

-- `Kd3…`
dots_behind_move : token_at false (codes "Kd3" ++ (226 ∷ 128 ∷ 166 ∷ codes " x")) ≡ Some (Ok (symbol (codes "Kd3" ++ (226 ∷ 128 ∷ 166 ∷ [])), codes " x"))
unfolding lexed_token
dots_behind_move = refl

-- `+–` with an en dash
judgement_with_dash : token_at false (43 ∷ 226 ∷ 128 ∷ 147 ∷ codes " x") ≡ Some (Ok (sign (43 ∷ 226 ∷ 128 ∷ 147 ∷ []), codes " x"))
unfolding lexed_token
judgement_with_dash = refl

-- a space that does not break, in UTF-8 and in Windows-1252, and a thin space
hard_space : token_at false (194 ∷ 160 ∷ codes "Kf7") ≡ Some (Ok (blank, codes "Kf7"))
unfolding lexed_token
hard_space = refl

byte_space : token_at false (160 ∷ codes "Kf7") ≡ Some (Ok (blank, codes "Kf7"))
unfolding lexed_token
byte_space = refl

before_hard_space : token_at false (codes "Kf7" ++ (194 ∷ 160 ∷ codes "Kg5")) ≡ Some (Ok (symbol (codes "Kf7"), 194 ∷ 160 ∷ codes "Kg5"))
unfolding lexed_token
before_hard_space = refl

before_byte_space : token_at false (codes "Kf7" ++ (160 ∷ codes "Kg5")) ≡ Some (Ok (symbol (codes "Kf7"), 160 ∷ codes "Kg5"))
unfolding lexed_token
before_byte_space = refl

before_thin_space : token_at false (codes "+-" ++ (226 ∷ 128 ∷ 137 ∷ codes "Kg5")) ≡ Some (Ok (sign (codes "+-"), 226 ∷ 128 ∷ 137 ∷ codes "Kg5"))
unfolding lexed_token
before_thin_space = refl

-- `à` has the byte A0 and is a letter
letter_with_byte : token_at false (195 ∷ 160 ∷ codes " x") ≡ Some (Ok (symbol (195 ∷ 160 ∷ []), codes " x"))
unfolding lexed_token
letter_with_byte = refl

escape_line : token_at true (codes "%( {") ≡ Some (Ok (blank, []))
unfolding lexed_token
escape_line = refl

percent_inside : token_at false (codes "%( {") ≡ Some (Err Byte)
unfolding lexed_token
percent_inside = refl

nag_without_number : token_at false (codes "$ Kf4") ≡ Some (Ok (aside, codes " Kf4"))
unfolding lexed_token
nag_without_number = refl

half : said_of (codes "1/2") ≡ Result Drawn
unfolding said_of
half = refl

number : said_of (codes "12") ≡ Number
unfolding said_of
number = refl

null_move : said_of (codes "Z0") ≡ NullMove
unfolding said_of
null_move = refl

-- an en dash
dash : said_of (226 ∷ 128 ∷ 147 ∷ []) ≡ NullMove
unfolding said_of
dash = refl

-- results with en dashes: `1–0`, `0–1`, `1/2–1/2`, `½–½`
won : said_of (49 ∷ 226 ∷ 128 ∷ 147 ∷ 48 ∷ []) ≡ Result WhiteWins
unfolding said_of
won = refl

lost : said_of (48 ∷ 226 ∷ 128 ∷ 147 ∷ 49 ∷ []) ≡ Result BlackWins
unfolding said_of
lost = refl

shared : said_of (codes "1/2" ++ (226 ∷ 128 ∷ 147 ∷ codes "1/2")) ≡ Result Drawn
unfolding said_of
shared = refl

halves : said_of (194 ∷ 189 ∷ 226 ∷ 128 ∷ 147 ∷ 194 ∷ 189 ∷ []) ≡ Result Drawn
unfolding said_of
halves = refl

-- `–+` with an en dash
dash_and_sign : said_of (226 ∷ 128 ∷ 147 ∷ 43 ∷ []) ≡ Aside
unfolding said_of
dash_and_sign = refl

glued : said_of (codes "1Kd3") ≡ Move
unfolding said_of is_word
glued = refl

wins : said_of (codes "wins") ≡ Word
unfolding said_of is_word
wins = refl

-- `schlägt`
captures : said_of (codes "schl" ++ (195 ∷ 164 ∷ codes "gt")) ≡ Word
unfolding said_of is_word
captures = refl

unfinished : said_of (codes "Kd") ≡ Move
unfolding said_of is_word
unfinished = refl

castled : said_of (codes "O-O") ≡ Move
unfolding said_of is_word
castled = refl

castled_without_dashes : said_of (codes "OOO") ≡ Move
unfolding said_of is_word
castled_without_dashes = refl

check_claimed : claim_in (codes "e8=Q+") ≡ Some Check
unfolding claim_in
check_claimed = refl

mate_claimed : claim_in (codes "Ra8#") ≡ Some Mate
unfolding claim_in
mate_claimed = refl

-- `Kd3+-`: White is winning
judged : claim_in (codes "Kd3+-") ≡ None
unfolding claim_in
judged = refl

-- `±`
judgement : said_of (194 ∷ 177 ∷ []) ≡ Aside
unfolding said_of
judgement = refl

in_passing : san_in (codes "exd3ep+") ≡ codes "exd3"
unfolding san_in without_passing
in_passing = refl

long : san_in (codes "Ke3-d3") ≡ codes "Ke3d3"
unfolding san_in without_passing
long = refl

-- `Kg3–f3+–` with en dashes
long_dash : san_in (codes "Kg3" ++ (226 ∷ 128 ∷ 147 ∷ (codes "f3+" ++ (226 ∷ 128 ∷ 147 ∷ [])))) ≡ codes "Kg3f3"
unfolding san_in without_passing
long_dash = refl

-- `0−0` with a minus sign
castling_dash : san_in (48 ∷ 226 ∷ 136 ∷ 146 ∷ 48 ∷ []) ≡ codes "0-0"
unfolding san_in without_passing
castling_dash = refl

castling : san_in (codes "0-0+") ≡ codes "0-0"
unfolding san_in without_passing
castling = refl

-- `c8=` and a queen
figurine : san_in (codes "c8=" ++ (226 ∷ 153 ∷ 149 ∷ [])) ≡ codes "c8=Q"
unfolding san_in without_passing
figurine = refl

-- tags and comments are unchanged
moves_in_german : in_english German (codes "[White \"S. D.\"] 1. Sf3 {Sf3} Txd8+ 2. e8=D") ≡ codes "[White \"S. D.\"] 1. Nf3 {Sf3} Rxd8+ 2. e8=Q"
unfolding in_english english_byte said_of is_word lexed_token tag_at ends_tag behind_value comment_at
moves_in_german = refl

-- `Q` is no letter of Dutch
moves_in_two_languages : in_english Dutch (codes "Pf3 Qd5 (O-O) 1-0") ≡ codes "Nf3 Yd5 (O-O) 1-0"
unfolding in_english english_byte said_of is_word lexed_token
moves_in_two_languages = refl
