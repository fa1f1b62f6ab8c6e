use Rattle.std.proofs.Common.{ℕ, inl, arith, List, Contains, refl, sym, ◌∙◌, subst}
use Rattle.std.proofs.lemmas.List.{take_all}
use Rattle.std.proofs.lemmas.List.Elements.{Contains-get_or}
use Rattle.study_board.specs.declared.men.Man.{Man}
use Rattle.study_retro.specs.Predecessors.{IsBefore, IsBeforeBy}
use Rattle.study_levels.specs.Propagation.{AreSet, IsSetWhere}
use Rattle.study_levels.proofs.CellsLemmas.{each-more}
use Rattle.study_retro.proofs.BackLemmas.{set-then, set-kept, set-why, before_found}
use Rattle.study_retro.proofs.numbers.predecessors.write_before.Goals as goal

pub loop-slot-init : goal.loop-slot-init
loop-slot-init g c = record {
  size = c.requires.cells;
  rise = λ i. inl refl;
  done = λ m i. absurd (let l = i.1 in omega (arith, l));
}

pub write_before_man-more-requires-clause-man : goal.write_before_man-more-requires-clause-man
write_before_man-more-requires-clause-man g c =
    let men = c.as_slice-man-items.result.now in
    let there : Contains men c.man-item.result = subst (λ (x : Man). Contains men x) (sym c.man-item.is)
    (Contains-get_or men c.loop-slot.slot _ c.loop-slot-test.true) in
    subst (λ (xs : List Man). Contains xs c.man-item.result) c.as_slice-man-items.ensures.value there

pub loop-slot-preserved : goal.loop-slot-preserved
loop-slot-preserved g c =
    let inv = c.loop-slot.invariant in
    let m = c.man-item.result in
    let men = c.as_slice-man-items.result.now in
    let k = c.args.change.cell in
    let over = c.args.change.over in
    let Why : ℕ → Type 0 = IsBefore c.args.class c.args.number in
    let mid = c.loop-slot.cells in
    let new = c.write_before_man-more.new.cells in
    let Q : Man → Type 0 = λ x. (n : ℕ) → IsBeforeBy c.args.class c.args.number x n → IsSetWhere k over new n in
    let more : AreSet Why k over mid new =
    set-why k over (IsBeforeBy c.args.class c.args.number m) Why mid new (λ i b. (m, b)) c.write_before_man-more.ensures.rise in
    record {
      size = c.write_before_man-more.ensures.size ∙ inv.size;
      rise = set-then k over Why c.args.cells.now mid new inv.rise more;
      done = each-more Q men c.loop-slot.slot m c.loop-slot-test.true
          (λ x i n b. set-kept k over Why mid new more c.requires.cell n (inv.done x i n b))
          (subst Q c.man-item.is (λ n b. c.write_before_man-more.ensures.done n b));
    }

pub returns-clause-done : goal.returns-clause-done
returns-clause-done g c = λ n b.
    let men = c.as_slice-man-items.result.now in
    let t = before_found c.args.class c.args.number c.requires.numbered.0 c.requires.numbered.1 c.decode_men-setup.result.men.items
    c.decode_men-setup.result.to_move
    (c.decode_men-setup.ensures.men, c.decode_men-setup.ensures.to_move) n b in
    let C : List Man → Type 0 = λ xs. Contains xs t.0 in
    c.loop-slot.invariant.done t.0
    (subst C (sym (take_all c.loop-slot.slot men (let h = c.loop-slot-test.false in omega (arith, h)))) (subst C (sym c.as_slice-man-items.ensures.value) t.1))
    n t.2
