use Rattle.std.proofs.Common.{ℕ, ◌≡◌, ◌≢◌, ◌+◌, ◌||◌, ◌∙◌, sym, ap, arith, inl, inr}
use Rattle.std.proofs.lemmas.Bool.{false≢true, or_cases, or_left, or_right}
use Rattle.study_board.specs.Sets.{has}
use Rattle.study_board.proofs.SetBits.{has-zero}
use Rattle.study_levels.proofs.BlockLemmas.{in_part, below_or}
use Rattle.study_levels.proofs.cell_blocks.squares_with.Goals as goal
use Rattle.study_levels.proofs.cell_blocks.squares_with.Goals.{then-has_byte, else-has_byte}

pub loop-at-init : goal.loop-at-init
loop-at-init c = record {
  within = omega arith;
  here = λ y on e. absurd (false≢true (sym (ap (λ (s : ℕ). has s y) c.empty-set.ensures ∙ has-zero y) ∙ e));
  all = λ y l. absurd (omega (arith, l));
}

pub loop-at-preserved : goal.loop-at-preserved
loop-at-preserved c =
    let inv = c.loop-at.invariant in
    let fits = c.loop-at-test.true in
    elim c.if-has_byte.branch [
      | then-has_byte w ↦
          let both : (y : ℕ) → has c.if-has_byte.set y ≡ (has c.loop-at.set y || has w.squares_among.result y) =
          λ y. ap (λ (s : ℕ). has s y) w.set-is ∙ w.union-set.ensures y in
          record {
            within = fits;
            here = λ y on e. elim (or_cases _ _ (sym (both y) ∙ e)) [
              | inl s ↦ inv.here y on s
              | inr s ↦ w.squares_among.ensures.here y on s
            ];
            all = λ y b e. both y ∙ elim (below_or y c.loop-at.at) [
              | inl l ↦ or_left _ _ (inv.all y l e)
              | inr g ↦ or_right _ _ (w.squares_among.ensures.all y g b e)
            ];
          }
      | else-has_byte w ↦
          let same : (y : ℕ) → has c.if-has_byte.set y ≡ has c.loop-at.set y = λ y. ap (λ (s : ℕ). has s y) w.set-is in
          record {
            within = fits;
            here = λ y on e. inv.here y on (sym (same y) ∙ e);
            all = λ y b e. same y ∙ elim (below_or y c.loop-at.at) [
              | inl l ↦ inv.all y l e
              | inr g ↦ absurd (in_part c.args.cells.now (λ x. x ≢ c.args.byte) c.loop-at.at (c.loop-at.at + 16) y g b fits
                  (c.has_byte.ensures w.if-has_byte.false) e)
            ];
          }
    ]
