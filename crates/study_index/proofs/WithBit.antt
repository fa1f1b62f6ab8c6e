-- The bit of an index, and the number without it.
use Rattle.std.proofs.Common.{◌≡◌, ℕ, ◌+◌, ◌*◌, ◌<◌, ◌≤◌, Bool, true, false, List, [], ◌∷◌, length, Some, sym, ◌∙◌, ap, subst, arith}
use Rattle.std.specs.List.{All}
use Rattle.std.proofs.lemmas.Bool.Decides.{nat_tests}
use Rattle.std.proofs.lemmas.List.Elements.{All-tail}
use Rattle.std.proofs.lemmas.List.Sorted.{All-permutation, length_permutation}
use Rattle.study_board.specs.declared.men.Side.{Side}
use Rattle.study_board.specs.declared.men.Side.TheVariants.{White, Black}
use Rattle.study_board.specs.declared.men.Man.{Man}
use Rattle.study_board.specs.Position.{Position, IsValid}
use Rattle.study_board.specs.Symmetry.{image}
use Rattle.study_board.proofs.ImagesValid.{valid_image}
use Rattle.study_moves.specs.EnPassant.{has_legal_en_passant}
use Rattle.study_material.proofs.MenBesideKings.{few_men}
use Rattle.study_values.specs.Number.{number, king_places, side_number, append_squares, with_bit, has_bit, without_bit, has_pawn, IsNumber}
use Rattle.study_values.specs.Number.{IsLeastNumber, IsIndex}
use Rattle.study_index.proofs.NumbersReadOff.{number-parts, listed-place}

pub without-with : (b : Bool) (m : ℕ) → m < 16777216 → without_bit (with_bit b m) ≡ m
without-with true m l = omega arith
without-with false m l = omega arith

pub has-with : (b : Bool) (m : ℕ) → m < 16777216 → has_bit (with_bit b m) ≡ b
has-with true m l = grind (arith, nat_tests)
has-with false m l = grind (arith, nat_tests)

abbrev OnBoard : Man → Type 0
OnBoard m = m.at < 64

counted_small : (h : ℕ) (xs : List Man) → h < 64 → length xs ≤ 3 → All OnBoard xs → append_squares h xs < 16777216
counted_small h [] l few all = omega arith
counted_small h (a ∷ []) l few all = (let la = all 0 a (omega arith) in omega (arith, la))
counted_small h (a ∷ b ∷ []) l few all = (let la = all 0 a (omega arith) in let lb = all 1 b (omega arith) in omega (arith, la, lb))
counted_small h (a ∷ b ∷ c ∷ []) l few all =
    (let la = all 0 a (omega arith) in let lb = all 1 b (omega arith) in let lc = all 2 c (omega arith) in omega (arith, la, lb, lc))
counted_small h (a ∷ b ∷ c ∷ d ∷ xs) l few all = absurd (omega arith)

small_head : (pawns : Bool) (side : Side) (q : ℕ) → q < king_places pawns → side_number side * king_places pawns + q < 64
small_head true White q l = omega arith
small_head true Black q l = omega arith
small_head false White q l = omega arith
small_head false Black q l = omega arith

-- the number of at most four men
counted : (pawns : Bool) (side : Side) (xs : List Man) (n : ℕ) → length xs ≤ 4 → All OnBoard xs → number pawns side xs ≡ Some n → n < 16777216
unfolding number
counted pawns side [] n few all e = absurd (let no : ⊥ = cc in no)
counted pawns side (k ∷ rest) n few all e =
    let p = number-parts pawns side k rest n e in
    let l = listed-place pawns k.at p.0 (all 0 k (omega arith)) p.1 in
    subst (λ m. m < 16777216) (sym p.2)
    (counted_small (side_number side * king_places pawns + p.0) rest (small_head pawns side p.0 l.1) (omega arith) (All-tail OnBoard k rest all))

pub number_small : (p : Position) (n : ℕ) → IsValid p → IsNumber p n → n < 16777216
number_small p n v h =
    let w = valid_image h.by p v h.admitted in
    let same = length_permutation (image h.by p).men h.filling h.fills.each_once in
    counted (has_pawn p.men) (image h.by p).to_move h.filling n (let f = few_men (image h.by p) w in omega (arith, same, f))
    (All-permutation OnBoard (image h.by p).men h.filling h.fills.each_once w.on_board) h.is

-- the parts of an index
pub record HasParts (p : Position) (n : ℕ) : Type 0 where
  pub least : IsLeastNumber p (without_bit n)
  pub bit : has_bit n ≡ has_legal_en_passant p
  pub small : without_bit n < 16777216
  pub is : n ≡ with_bit (has_legal_en_passant p) (without_bit n)

pub HasParts-from : (p : Position) (n : ℕ) → IsValid p → IsIndex p n → HasParts p n
HasParts-from p n v i =
    let small = number_small p i.number v i.least.number in
    let number : without_bit n ≡ i.number = ap without_bit i.is ∙ without-with (has_legal_en_passant p) i.number small in
    record {
      least = subst (λ m. IsLeastNumber p m) (sym number) i.least;
      bit = ap has_bit i.is ∙ has-with (has_legal_en_passant p) i.number small;
      small = subst (λ m. m < 16777216) (sym number) small;
      is = i.is ∙ ap (λ m. with_bit (has_legal_en_passant p) m) (sym number);
    }
