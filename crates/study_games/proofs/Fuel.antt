-- Readings that are counted down, one step.
use Rattle.std.proofs.Common.{◌≡◌, ℕ, zero, suc, ◌-◌, ◌<◌, Bool, true, List, ◌++◌, length, take, Some, Ok, refl, sym, ap, ◌∙◌, append_assoc, arith}
use Rattle.std.specs.Prelude.{◌==◌, if◌then◌else◌}
use Rattle.study_games.specs.Words.{first_word}
use Rattle.study_games.specs.Tokens.{Token, token_at, begins_feed}
use Rattle.study_games.specs.Header.{step_at, with_tags, tags_in, with_fault, fault_in}
use Rattle.study_games.specs.Characters.{character_at, is_utf8_behind, begins_utf8, read_at}
use Rattle.study_games.specs.declared.language.Language.{Language}
use Rattle.study_games.specs.Languages.{token_in_english, english_then, english_from}
use Rattle.study_games.specs.Closed.{depth_after, depth_then, depth_from}
use Rattle.study_games.specs.Ascii.{behind_or, word_at, ascii_of, spelled_behind, spelled_in}

pub tags_more : (n : ℕ) (fresh : Bool) (text : List ℕ) → 0 < n → tags_in n fresh text ≡ with_tags (tags_in (n - 1) (begins_feed text)) (step_at fresh text)
tags_more zero fresh text h = absurd (omega (arith, h))
tags_more (suc m) fresh text h = let e : suc m - 1 ≡ m = omega arith in rw e refl

pub fault_more : (n : ℕ) (fresh : Bool) (text : List ℕ) → 0 < n
    → fault_in n fresh text ≡ with_fault (fault_in (n - 1) (begins_feed text)) (length text) (step_at fresh text)
fault_more zero fresh text h = absurd (omega (arith, h))
fault_more (suc m) fresh text h = let e : suc m - 1 ≡ m = omega arith in rw e refl

pub utf8_more : (n : ℕ) (text : List ℕ) → 0 < n
    → begins_utf8 n text ≡ (if length text == 0 then true else is_utf8_behind (begins_utf8 (n - 1)) (character_at text))
utf8_more zero text h = absurd (omega (arith, h))
utf8_more (suc m) text h = let e : suc m - 1 ≡ m = omega arith in rw e refl

pub word_more : (n : ℕ) (table : List ℕ) → 0 < n → word_at n table ≡ word_at (n - 1) (behind_or (first_word table))
word_more zero table h = absurd (omega (arith, h))
word_more (suc m) table h = let e : suc m - 1 ≡ m = omega arith in rw e refl

pub spelled_more : (n : ℕ) (utf8 : Bool) (text : List ℕ) → 0 < n → spelled_in n utf8 text ≡ spelled_behind (spelled_in (n - 1) utf8) (read_at utf8 text)
spelled_more zero utf8 text h = absurd (omega (arith, h))
spelled_more (suc m) utf8 text h = let e : suc m - 1 ≡ m = omega arith in rw e refl

-- a character is spelled, and the rest is read
pub spelled_on : (n : ℕ) (utf8 : Bool) (text behind : List ℕ) (c : ℕ) (out new : List ℕ) → 0 < n → Some (c, behind) ≡ read_at utf8 text
    → new ≡ out ++ ascii_of c
    → new ++ spelled_in (n - 1) utf8 behind ≡ out ++ spelled_in n utf8 text
spelled_on n utf8 text behind c out new some read added =
    ap (λ (t : List ℕ). t ++ spelled_in (n - 1) utf8 behind) added
    ∙ append_assoc out (ascii_of c) (spelled_in (n - 1) utf8 behind)
    ∙ ap (λ (t : List ℕ). out ++ t) (ap (spelled_behind (spelled_in (n - 1) utf8)) read ∙ sym (spelled_more n utf8 text some))

pub english_more : (n : ℕ) (language : Language) (fresh : Bool) (text : List ℕ) → 0 < n
    → english_from n language fresh text ≡ english_then (english_from (n - 1) language (begins_feed text)) language text (token_at fresh text)
english_more zero language fresh text h = absurd (omega (arith, h))
english_more (suc m) language fresh text h = let e : suc m - 1 ≡ m = omega arith in rw e refl

-- a token is written, and the rest is read
pub english_on : (n : ℕ) (language : Language) (fresh feed : Bool) (text behind bytes : List ℕ) (t : Token) (out new : List ℕ) → 0 < n
    → Some (Ok (t, behind)) ≡ token_at fresh text → bytes ≡ take (length text - length behind) text → new ≡ out ++ token_in_english language t bytes
    → feed ≡ begins_feed text → new ++ english_from (n - 1) language feed behind ≡ out ++ english_from n language fresh text
english_on n language fresh feed text behind bytes t out new some read cut added next =
    let on = english_from (n - 1) language (begins_feed text) in
    ap (λ (b : Bool). new ++ english_from (n - 1) language b behind) next
    ∙ ap (λ (x : List ℕ). x ++ on behind) (added ∙ ap (λ (x : List ℕ). out ++ token_in_english language t x) cut)
    ∙ append_assoc out (token_in_english language t (take (length text - length behind) text)) (on behind)
    ∙ ap (λ (x : List ℕ). out ++ x) (ap (english_then on language text) read ∙ sym (english_more n language fresh text some))

pub depth_more : (n depth : ℕ) (fresh : Bool) (text : List ℕ) → 0 < n
    → depth_from n depth fresh text ≡ depth_then (λ more behind. depth_from (n - 1) more (begins_feed text) behind) depth (token_at fresh text)
depth_more zero depth fresh text h = absurd (omega (arith, h))
depth_more (suc m) depth fresh text h = let e : suc m - 1 ≡ m = omega arith in rw e refl

-- a token is counted, and the rest is read
pub depth_on : (n depth new : ℕ) (fresh feed : Bool) (text behind : List ℕ) (t : Token) → 0 < n → Some (Ok (t, behind)) ≡ token_at fresh text
    → new ≡ depth_after depth t → feed ≡ begins_feed text → depth_from (n - 1) new feed behind ≡ depth_from n depth fresh text
depth_on n depth new fresh feed text behind t some read counted next =
    ap (λ (b : Bool). depth_from (n - 1) new b behind) next
    ∙ ap (λ (k : ℕ). depth_from (n - 1) k (begins_feed text) behind) counted
    ∙ ap (depth_then (λ more rest. depth_from (n - 1) more (begins_feed text) rest) depth) read ∙ sym (depth_more n depth fresh text some)
