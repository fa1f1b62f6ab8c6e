use Rattle.std.proofs.Common.{◌≡◌, ℕ, ◌+◌, ◌*◌, ◌≤◌, slice_index, inl, inr, arith, sym, ◌∙◌}
use Rattle.study_levels.specs.Numbered.{HasPosition, TellWins, leads_in}
use Rattle.study_levels.proofs.BlockLemmas.{below_rows}
use Rattle.study_levels.proofs.CellsLemmas.{dropped-then, dropped-tells, dropped-has}
use Rattle.study_levels.proofs.levels.confirm_losses.Goals as goal

pub loop-row-preserved : goal.loop-row-preserved
loop-row-preserved g c =
    let inv = c.loop-row.invariant in
    let old = c.args.cells.now in
    let mid = c.loop-row.cells in
    let new = c.confirm_row.new.cells in
    let row = c.loop-row.row in
    let m = c.next_due_row-row-in-loop-row.result in
    let next = c.next_due_row-row-in-loop-row.ensures in
    let above = next.above in
    let rest : (j : ℕ) → 64 * (row + 1) ≤ j → slice_index new j ≡ slice_index old j =
    λ j b. c.confirm_row.ensures.other j (inr (omega (arith, b))) ∙ inv.rest j (omega (arith, b)) in
    let now : TellWins (g.G.Game.numbered c.args.game.now) c.args.level old → TellWins (g.G.Game.numbered c.args.game.now) c.args.level mid =
    λ tells. dropped-tells c.args.level (leads_in (g.G.Game.numbered c.args.game.now))
    (g.G.Game.numbered c.args.game.now).mate (g.G.Game.numbered c.args.game.now).position old mid inv.fall tells in
    record {
      there = next.within;
      size = c.confirm_row.ensures.size ∙ inv.size;
      numbered = dropped-has c.args.level (HasPosition (g.G.Game.numbered c.args.game.now)) mid new inv.numbered c.confirm_row.ensures.fall;
      fall = dropped-then c.args.level old mid new inv.fall c.confirm_row.ensures.fall;
      rest = λ j b. rest j (omega (arith, b, above));
      lost = λ outer tells. below_rows _ row m
          (λ j b p e s. inv.lost outer tells j b p e (sym (c.confirm_row.ensures.other j (inl b)) ∙ s))
          (λ y on p e s. c.confirm_row.ensures.lost outer (now tells) y on p e s)
          (λ j a b p e s. absurd (next.none j a b s));
      kept = λ outer tells. below_rows _ row m
          (λ j b p q e l o m. c.confirm_row.ensures.other j (inl b) ∙ inv.kept outer tells j b p q e l o m)
          (λ y on p q e l o m. c.confirm_row.ensures.kept outer (now tells) y on p q e l (inv.rest (64 * row + y) (omega arith) ∙ o) m)
          (λ j a b p q e l o m. absurd (next.none j a b (rest j a ∙ o)));
    }

pub returns-clause-kept : goal.returns-clause-kept
returns-clause-kept g c = λ outer tells i p q e l o m.
    let b = c.requires.laws.below i p e in
    c.loop-row.invariant.kept outer tells i (omega arith) p q e l o m
