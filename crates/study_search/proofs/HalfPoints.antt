-- A mutual zugzwang by the value of the position first, and then by that of the same men with the other side to move.
use Rattle.std.proofs.Common.{arith, ◌≡◌, ℕ, ◌+◌, ◌-◌, ◌<◌, Bool, true, false, Result, Ok, Err, IfOk, ◌↔◌, sym, ◌∙◌, subst}
use Rattle.std.proofs.lemmas.Bool.{false≢true}
use Rattle.study_board.specs.Position.{Position}
use Rattle.study_moves.specs.EnPassant.{has_legal_en_passant}
use Rattle.study_moves.specs.Laws.{EachHasAtMostOneValue}
use Rattle.study_zugzwang.specs.Zugzwang.{IsZugzwang, EitherCanMove, Scores, ScoresLessThan, handed_on}
use Rattle.study_zugzwang.proofs.Zugzwangs.{one-score, won-enough}
use Rattle.study_search.specs.Listed.{OtherScoresLess}

-- whose side to move wins, the position is none
pub none-won : EachHasAtMostOneValue → (p : Position) (k : ℕ) → Scores p k → k ≡ 2 → (false ≡ true) ↔ IsZugzwang p
none-won law p k x e = ((λ f. absurd (false≢true f)), (λ z. (won-enough law p (handed_on p) k x e).1 z.less))

-- else it is one if the other side scores what is left of a point
pub zugzwang-left : {E : Type 0} → EachHasAtMostOneValue → (p : Position) (k : ℕ) (r : Result Bool E) → Scores p k → k < 3
    → IfOk r (λ b. (b ≡ true) ↔ OtherScoresLess p (2 - k)) → IfOk r (λ b. (b ≡ true) ↔ IsZugzwang p)
zugzwang-left law p k (Ok b) x few h = (
  (λ e.
      let o = h.0 e in
      let low = o.2.2 in
      let less : k + o.2.0 < 2 = omega (arith, few, low) in
      record { none_passed = o.0; either = o.1; less = (k, o.2.0, x, o.2.1, less) }),
  (λ z.
      let same : z.less.0 ≡ k = one-score law p z.less.0 k z.less.2 x in
      let less = z.less.4 in
      let low : z.less.1 < 2 - k = omega (arith, same, less) in
      h.1 (z.none_passed, z.either, (z.less.1, z.less.3, low))),
)
zugzwang-left law p k (Err e) x few h = tt

pub none-passing : (p : Position) (n : ℕ) → has_legal_en_passant p ≡ true → (false ≡ true) ↔ OtherScoresLess p n
none-passing p n e = ((λ f. absurd (false≢true f)), (λ o. absurd (false≢true (sym o.0 ∙ e))))

pub none-other : (p : Position) (n : ℕ) → ¬ (EitherCanMove p) → (false ≡ true) ↔ OtherScoresLess p n
none-other p n h = ((λ f. absurd (false≢true f)), (λ o. absurd (h o.1)))

pub other-by : {E : Type 0} (p q : Position) (n : ℕ) (r : Result Bool E) → has_legal_en_passant p ≡ false → q ≡ handed_on p → EitherCanMove p
    → IfOk r (λ b. (b ≡ true) ↔ ScoresLessThan q n) → IfOk r (λ b. (b ≡ true) ↔ OtherScoresLess p n)
other-by p q n (Ok b) none is either h = (
  (λ e. (none, either, subst (λ (x : Position). ScoresLessThan x n) is (h.0 e))),
  (λ o. h.1 (subst (λ (x : Position). ScoresLessThan x n) (sym is) o.2)),
)
other-by p q n (Err e) none is either h = tt
