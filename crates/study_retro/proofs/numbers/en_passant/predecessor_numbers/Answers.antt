use Rattle.std.proofs.Common.{◌≡◌, ℕ, ◌<◌, inl, inr, List, length, Contains, arith, sym, subst, ap}
use Rattle.std.proofs.lemmas.List.{take_all}
use Rattle.std.proofs.lemmas.List.Elements.{Contains-get_or}
use Rattle.study_moves.specs.declared.moves.Move.{Move}
use Rattle.study_retro.specs.Predecessors.{IsNumberBefore}
use Rattle.study_levels.proofs.CellsLemmas.{each-more}
use Rattle.study_retro.proofs.numbers.en_passant.predecessor_numbers.Goals as goal

pub loop-by-init : goal.loop-by-init
loop-by-init c = record {
  few = (let e : length c.new-list.result.items ≡ 0 = ap length c.new-list.ensures in omega (arith, e));
  all = λ m i. absurd (let l = i.1 in omega (arith, l));
  only = λ n i. absurd (let l : i.0 < 0 = subst (λ (xs : List ℕ). i.0 < length xs) c.new-list.ensures i.1 in omega (arith, l));
}

pub add_predecessor-requires-clause-by : goal.add_predecessor-requires-clause-by
add_predecessor-requires-clause-by c =
    let C : List Move → Type 0 = λ xs. Contains xs c.by-item.result in
    let there : Contains c.as_slice-by-items.result.now c.by-item.result =
    subst (λ (x : Move). Contains c.as_slice-by-items.result.now x) (sym c.by-item.is)
    (Contains-get_or c.as_slice-by-items.result.now c.loop-by.by-index _ c.loop-by-test.true) in
    (c.unmoves-moves.ensures.exact c.by-item.result).0 (subst C c.as_slice-by-items.ensures.value there)

pub add_predecessor-requires-clause-room : goal.add_predecessor-requires-clause-room
add_predecessor-requires-clause-room c = let f = c.loop-by.invariant.few in let l = c.loop-by-test.true in
    let k = c.as_slice-by-items.ensures.fits in omega (arith, f, l, k)

pub loop-by-preserved : goal.loop-by-preserved
loop-by-preserved c =
    let inv = c.loop-by.invariant in
    let more = c.add_predecessor.ensures.more in
    let m = c.by-item.result in
    let moves = c.as_slice-by-items.result.now in
    let Q : Move → Type 0 = λ x. (n : ℕ) → IsNumberBefore c.args.class c.args.at.now c.args.number x n → Contains c.add_predecessor.new.list.items n in
    record {
      few = (let f = inv.few in let g = c.add_predecessor.ensures.few in omega (arith, f, g));
      all =
          each-more Q moves c.loop-by.by-index m c.loop-by-test.true (λ x i n b. (more n).1 (inl (inv.all x i n b)))
          (subst Q c.by-item.is (λ n b. (more n).1 (inr b)));
      only = λ n i. elim ((more n).0 i) [ inl j ↦ inv.only n j | inr b ↦ record { by = m; is = b } ];
    }

pub returns : goal.returns
returns c = λ n. (
  c.loop-by.invariant.only n,
  λ b.
      let C : List Move → Type 0 = λ xs. Contains xs b.by in
      let there : Contains c.as_slice-by-items.result.now b.by =
      subst C (sym c.as_slice-by-items.ensures.value)
      ((c.unmoves-moves.ensures.exact b.by).1 (record { from = b.is.from; leads = b.is.leads })) in
      c.loop-by.invariant.all b.by
      (subst C
      (sym
      (take_all c.loop-by.by-index c.as_slice-by-items.result.now
      (let h = c.loop-by-test.false in omega (arith, h)))) there) n b.is,
)
