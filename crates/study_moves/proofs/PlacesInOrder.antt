-- Lists of the legal moves that come before a place in the order of moves.
use Rattle.std.proofs.Common.{◌≡◌, ℕ, ◌+◌, ◌<◌, ◌≤◌, true, List, [], ◌∷◌, ◌++◌}
use Rattle.std.proofs.Common.{length, get_or, sym, ◌∙◌, arith, subst, inl, inr}
use Rattle.std.proofs.lemmas.Bool.{cases_lt}
use Rattle.std.proofs.lemmas.Grind.{common_steps}
use Rattle.study_board.specs.Position.{Position}
use Rattle.study_moves.specs.declared.moves.Move.{Move}
use Rattle.study_moves.specs.Rules.{is_legal}
use Rattle.study_moves.specs.Order.{move_place, AreMovesBelow}

pub no_moves_below : (p : Position) (n : ℕ) → ((m : Move) → is_legal p m ≡ true → n ≤ move_place m) → AreMovesBelow p [] n
no_moves_below p n h = record {
  legal = λ k d lt. absurd (omega arith);
  below = λ k d lt. absurd (omega arith);
  ordered = λ i j d lt lt'. absurd (omega arith);
  complete = λ m l lt. absurd (omega (arith, h m l));
}

-- no legal move has a place from n on and below n'
pub no_moves_between : (p : Position) (xs : List Move) (n n' : ℕ) → n ≤ n'
    → ((m : Move) → is_legal p m ≡ true → move_place m < n' → move_place m < n) → AreMovesBelow p xs n
    → AreMovesBelow p xs n'
no_moves_between p xs n n' le h a = record {
  legal = a.legal;
  below = λ k d lt. omega (arith, a.below k d lt);
  ordered = a.ordered;
  complete = λ m l lt. a.complete m l (h m l lt);
}

at_push : (xs : List Move) (y d : Move) (k : ℕ) → k < length xs → get_or (xs ++ y ∷ []) k d ≡ get_or xs k d
at_push xs y d k lt = grind (arith, common_steps)

at_pushed : (xs : List Move) (y d : Move) → get_or (xs ++ y ∷ []) (length xs) d ≡ y
at_pushed xs y d = grind (arith, common_steps)

length_pushed : (xs : List Move) (y : Move) → length (xs ++ y ∷ []) ≡ length xs + 1
length_pushed xs y = grind (arith, common_steps)

-- exactly one legal move from n on and below n'
pub one_move_between : (p : Position) (xs : List Move) (y : Move) (n n' : ℕ) → is_legal p y ≡ true → n ≤ move_place y → move_place y < n'
    → ((m : Move) → is_legal p m ≡ true → n ≤ move_place m → move_place m < n' → m ≡ y)
    → AreMovesBelow p xs n → AreMovesBelow p (xs ++ y ∷ []) n'
one_move_between p xs y n n' ly low high only a =
    let len = length_pushed xs y in
    let cases : (P : Move → Type 0) → ((k : ℕ) (d : Move) → k < length xs → P (get_or xs k d)) → P y
    → (k : ℕ) (d : Move) → k < length (xs ++ y ∷ []) → P (get_or (xs ++ y ∷ []) k d) =
    λ P old new k d lt.
    elim (cases_lt k (length xs)) [
      | inl s ↦ subst P (sym (at_push xs y d k s)) (old k d s)
      | inr s ↦ let e : k ≡ length xs = omega arith in rw e (subst P (sym (at_pushed xs y d)) new)
    ] in
    record {
      legal = cases (λ m. is_legal p m ≡ true) a.legal ly;
      below = cases (λ m. move_place m < n') (λ k d lt. omega (arith, a.below k d lt)) high;
      ordered = λ i j d lt lt'.
          let s : i < length xs = omega (arith, len) in
          rw (at_push xs y d i s)
          (elim (cases_lt j (length xs)) as (λ _. move_place (get_or xs i d) < move_place (get_or (xs ++ y ∷ []) j d)) [
            | inl t ↦ rw (at_push xs y d j t) (a.ordered i j d lt t)
            | inr t ↦ let e : j ≡ length xs = omega (arith, len) in rw (e, at_pushed xs y d) (omega (arith, a.below i d s))
          ]);
      complete = λ m l lt.
          elim (cases_lt (move_place m) n) [
            | inl t ↦ let c = a.complete m l t in (c.0, omega (arith, c.1, len), at_push xs y m c.0 c.1 ∙ c.2)
            | inr t ↦ let e : m ≡ y = only m l t lt in (length xs, omega (arith, len), at_pushed xs y m ∙ sym e)
          ];
    }
