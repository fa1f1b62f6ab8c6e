-- The opponent forces a position of the line.
use Rattle.std.proofs.Common.{◌≡◌, ℕ, ◌+◌, ◌*◌, ◌≤◌, true, List, [], ◌∷◌, length, inl, inr, zero, suc, arith, refl}
use Rattle.study_board.specs.Position.{Position}
use Rattle.study_moves.specs.declared.moves.Move.{Move}
use Rattle.study_moves.specs.Rules.{after}
use Rattle.study_marks.specs.Study.{position_after}
use Rattle.study_facts.specs.Repetition.{IsNear, is_in_history}
use Rattle.study_review.specs.Laws.{IsPlayAgainst, TimeLossIsForced}

abbrev Reaches : (Position → Move) → List Position → ℕ → Position → Type 0
Reaches answer line k q =
    (play : List Move) × IsPlayAgainst answer q play × (length play ≤ k) × (is_in_history line (position_after q play) ≡ true)

near-reached : (answer : Position → Move) (line : List Position) (k : ℕ) (q : Position) → 1 ≤ k → IsNear line q → Reaches answer line k q
near-reached answer line k q few (inl here) = ([], tt, (let z : 0 ≤ k = omega arith in z), here)
near-reached answer line k q few (inr next) = (next.0 ∷ [], next.1, few, next.2)

pub time-loss-is-forced : TimeLossIsForced
time-loss-is-forced line zero q answer h rule = near-reached answer line 1 q (omega arith) h
time-loss-is-forced line (suc m) q answer (inl near) rule = near-reached answer line (2 * suc m + 1) q (omega arith) near
time-loss-is-forced line (suc m) q answer (inr far) rule =
    let n = far.0 in
    let h = answer (after q n) in
    let won = rule (after q n) far.2 in
    let rest = time-loss-is-forced line m (after (after q n) h) answer (far.3 h won) rule in (
      n ∷ h ∷ rest.0,
      (far.1, refl, won, rest.1),
      (let few : length rest.0 ≤ 2 * m + 1 = rest.2 in let z : length (n ∷ h ∷ rest.0) ≤ 2 * suc m + 1 = omega (arith, few) in z),
      rest.3,
    )
