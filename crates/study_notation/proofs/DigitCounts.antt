-- Counts in digits.
use Rattle.std.proofs.Common.{◌≡◌, ℕ, ◌+◌, ◌*◌, ◌-◌, ◌^◌, ◌<◌, ◌≤◌, true, leb, List, length, get_or, take, ◌∙◌, arith}
use Rattle.std.specs.List.{list_all}
use Rattle.std.specs.Char.{digit_value}
use Rattle.std.specs.Str.Parse.{digits_value}
use Rattle.std.proofs.lemmas.Bool.{le-leb, and_from}
use Rattle.std.proofs.lemmas.Bool.Decides.{nat_tests}
use Rattle.std.proofs.lemmas.Int.Digits.{digits_value_more}
use Rattle.std.proofs.lemmas.List.Folds.{list_all_more}
use Rattle.std.proofs.lemmas.Grind.{pow_more}
use Rattle.study_notation.specs.Fen.{is_digit}

pub digit_is : (d : ℕ) → 48 ≤ d → d ≤ 57 → digit_value d ≡ d - 48
digit_is d low high = grind (arith, nat_tests)

pub digit_tests : (d : ℕ) → 48 ≤ d → d ≤ 57 → is_digit d ≡ true
digit_tests d low high = and_from (leb 48 d) (leb d 57) (le-leb 48 d low) (le-leb d 57 high)

pub record CountsTo (text : List ℕ) (i n : ℕ) : Type 0 where
  pub value : n ≡ digits_value 10 (take i text)
  pub digits : list_all is_digit (take i text) ≡ true
  pub below : n < 10 ^ i

pub one_more_digit : (text : List ℕ) (i n : ℕ) → i < length text → CountsTo text i n → 48 ≤ get_or text i 0
    → get_or text i 0 ≤ 57 → CountsTo text (i + 1) (10 * n + (get_or text i 0 - 48))
one_more_digit text i n lt so_far low high =
    let e = digit_is (get_or text i 0) low high in
    let more = digits_value_more 10 text i lt in
    record {
      value = omega (arith, e, more, so_far.value);
      digits = list_all_more is_digit text i 0 lt ∙ and_from (list_all is_digit (take i text))
          (is_digit (get_or text i 0)) so_far.digits (digit_tests (get_or text i 0) low high);
      below = omega (arith, pow_more 10 i, so_far.below);
    }
