use Rattle.std.proofs.Common.{◌≡◌, ◌≤◌, length, drop, [], ◌∷◌, eqb}
use Rattle.std.specs.List.{slice_split}
use Rattle.study_notation.proofs.placement.cut_last.Given as goal

abbrev pub invariant-loop-i : goal.invariant-loop-i
invariant-loop-i l = (l.i ≤ length l.text) × (slice_split (λ b. eqb b 47) (drop l.i l.text) ≡ drop l.i l.text ∷ [])

abbrev pub decreases-loop-i : goal.decreases-loop-i
decreases-loop-i l = l.i
