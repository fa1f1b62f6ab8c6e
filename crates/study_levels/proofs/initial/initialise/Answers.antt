use Rattle.std.proofs.Common.{arith, ℕ, ◌≡◌, ◌≢◌, ◌<◌, ◌≤◌, ◌+◌, ◌*◌, ◌/◌, true, length, slice_index, ◌∙◌, sym, subst, inl, inr}
use Rattle.std.proofs.lemmas.Bool.{false≢true}
use Rattle.std.proofs.lemmas.List.{get_or_past}
use Rattle.study_levels.specs.Numbered.{CellIsHeld, HasPosition}
use Rattle.study_levels.proofs.BlockLemmas.{below_or, below_row}
use Rattle.study_levels.proofs.FirstLemmas.{held-more}
use Rattle.study_levels.proofs.initial.initialise.Goals as goal
use Rattle.study_levels.proofs.initial.initialise.Goals.{then-initialise_row, else-initialise_row}

pub loop-number-preserved : goal.loop-number-preserved
loop-number-preserved g c =
    let inv = c.loop-number.invariant in
    let mid = c.loop-number.cells in
    let new = c.initialise_row.new.cells in
    let n = c.loop-number.number in
    let e = c.row_end-number.result in
    let here = c.loop-number-test.true in
    let size-is = c.cells-size.ensures in
    let end = c.row_end-number.ensures in
    let above : n < e = end.above in
    let few : e ≤ 64 * (n / 64) + 64 = end.row in
    let within : e ≤ (g.G.Game.numbered c.args.game.now).size = (let w = end.within in omega (arith, w, size-is)) in
    let low : n < (g.G.Game.numbered c.args.game.now).size = omega (arith, above, within) in
    let size : length new ≡ (g.G.Game.numbered c.args.game.now).size = c.initialise_row.ensures.size ∙ inv.size in
    let more : (c.loop-number.far ≡ true → c.if-initialise_row.far ≡ true) × (c.initialise_row.result ≡ true → c.if-initialise_row.far ≡ true) =
    elim c.if-initialise_row.branch [
      | then-initialise_row w ↦ (λ x. w.far-is, λ x. w.far-is)
      | else-initialise_row w ↦ (λ x. w.far-is ∙ x, λ x. absurd (false≢true (sym w.if-initialise_row.false ∙ x)))
    ] in
    record {
      there = within;
      size = size;
      begins = λ l. (let f = end.full (omega (arith, l, size-is)) in omega (arith, f));
      zero = λ j b. elim (below_or e (g.G.Game.numbered c.args.game.now).size) [
        | inl l ↦
            let f = end.full (omega (arith, l, size-is)) in
            c.initialise_row.ensures.other j (inr (omega (arith, f, b))) ∙ inv.zero j (omega (arith, above, b))
        | inr past ↦ get_or_past new j 0 (omega (arith, past, b, size))
      ];
      numbered = below_row (λ (j : ℕ). slice_index new j ≢ 0 → HasPosition (g.G.Game.numbered c.args.game.now) j) n e e
          (λ j b x. inv.numbered j (omega (arith, b)) (λ z. x (c.initialise_row.ensures.other j (inl b) ∙ z)))
          (λ y on b x. c.initialise_row.ensures.numbered y on (omega (arith, b, within)) x)
          few
          (λ j a b. absurd (omega (arith, a, b)));
      held = λ outer. below_row (λ (j : ℕ). CellIsHeld (g.G.Game.numbered c.args.game.now) c.if-initialise_row.far 0 j (slice_index new j)) n e e
          (λ j b. subst (λ (x : ℕ). CellIsHeld (g.G.Game.numbered c.args.game.now) c.if-initialise_row.far 0 j x)
          (sym (c.initialise_row.ensures.other j (inl b)))
          (held-more _ _ _ more.0 _ 0 _ (inv.held outer j (omega (arith, b)))))
          (λ y on b. held-more _ _ _ more.1 _ 0 _ (c.initialise_row.ensures.held outer y on (omega (arith, b, within))))
          few
          (λ j a b. absurd (omega (arith, a, b)));
    }
