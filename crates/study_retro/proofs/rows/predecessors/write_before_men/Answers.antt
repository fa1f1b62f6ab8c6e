use Rattle.std.proofs.Common.{◌≡◌, ◌<◌, ◌+◌, ◌*◌, ◌∷◌, ◌++◌, [], ℕ, true, List, Contains, inl, inr, sym, ◌∙◌, subst, arith}
use Rattle.std.proofs.lemmas.List.{take_all}
use Rattle.std.proofs.lemmas.List.Elements.{Contains-get_or, Contains-push_cases}
use Rattle.study_board.specs.declared.men.Man.{Man}
use Rattle.study_board.specs.Sets.{has}
use Rattle.study_retro.specs.Predecessors.{IsBeforeBy}
use Rattle.study_levels.specs.Propagation.{AreSet, IsSetWhere}
use Rattle.study_retro.specs.RowBack.{IsBeforeRowBy}
use Rattle.study_retro.specs.RowLevels.{IsBeforeRow}
use Rattle.study_retro.specs.Still.{on_square}
use Rattle.study_levels.proofs.CellsLemmas.{each-more}
use Rattle.study_retro.proofs.BackLemmas.{set-then, set-kept, set-why, before_found}
use Rattle.study_retro.proofs.rows.predecessors.write_before_men.Goals as goal

pub loop-slot-init : goal.loop-slot-init
loop-slot-init g c = record {
  size = c.write_before_last-count.ensures.size ∙ c.requires.cells;
  rise = c.write_before_last-count.ensures.rise;
  last = c.write_before_last-count.ensures.done;
  done = λ m i. absurd (let l = i.1 in omega (arith, l));
}

pub write_before_man_of_row-more-requires-clause-man : goal.write_before_man_of_row-more-requires-clause-man
write_before_man_of_row-more-requires-clause-man g c =
    let men = c.as_slice-man-items.result.now in
    let there : Contains men c.man-item.result = subst (λ (x : Man). Contains men x) (sym c.man-item.is)
    (Contains-get_or men c.loop-slot.slot _ c.loop-slot-test.true) in
    subst (λ (xs : List Man). Contains xs c.man-item.result) c.as_slice-man-items.ensures.value there

pub loop-slot-preserved : goal.loop-slot-preserved
loop-slot-preserved g c =
    let row = c.args.row.now in
    let inv = c.loop-slot.invariant in
    let m = c.man-item.result in
    let men = c.as_slice-man-items.result.now in
    let cell = c.args.change.cell in
    let over = c.args.change.over in
    let mid = c.loop-slot.cells in
    let new = c.write_before_man_of_row-more.new.cells in
    let Why : ℕ → Type 0 = IsBeforeRow row.class row.number c.args.decided in
    let Q : Man → Type 0 = λ x. (n y : ℕ) → y < 64 → has c.args.decided y ≡ true → IsBeforeBy row.class (64 * row.number + y) x n
    → IsSetWhere cell over new n in
    let more : AreSet Why cell over mid new =
    set-why cell over (IsBeforeRowBy row.class row.number c.args.decided m) Why mid new (λ n w. (w.0, w.1, w.2, (m, w.3)))
    c.write_before_man_of_row-more.ensures.rise in
    record {
      size = c.write_before_man_of_row-more.ensures.size ∙ inv.size;
      rise = set-then cell over Why c.args.cells.now mid new inv.rise more;
      last = λ n y on e b. set-kept cell over Why mid new more c.requires.cell n (inv.last n y on e b);
      done = each-more Q men c.loop-slot.slot m c.loop-slot-test.true
          (λ x i n y on e b. set-kept cell over Why mid new more c.requires.cell n (inv.done x i n y on e b))
          (subst Q c.man-item.is (λ n y on e b. c.write_before_man_of_row-more.ensures.done n y on e b));
    }

pub returns-clause-done : goal.returns-clause-done
returns-clause-done g c = λ n y on e b.
    let row = c.args.row.now in
    let men = c.as_slice-man-items.result.now in
    let inv = c.loop-slot.invariant in
    let q = c.requires.numbered y on e in
    let t = before_found row.class (64 * row.number + y) q.0 q.1 (row.others.items ++ on_square row.last y ∷ []) row.to_move (row.encoded y on) n b in
    let C : List Man → Type 0 = λ xs. Contains xs t.0 in
    elim (Contains-push_cases row.others.items (on_square row.last y) t.0 t.1) [
      | inl among ↦ inv.done t.0
          (subst C (sym (take_all c.loop-slot.slot men (let h = c.loop-slot-test.false in omega (arith, h))))
          (subst C (sym c.as_slice-man-items.ensures.value) among))
          n y on e t.2
      | inr same ↦ inv.last n y on e (subst (λ (m : Man). IsBeforeBy row.class (64 * row.number + y) m n) (sym same) t.2)
    ]
