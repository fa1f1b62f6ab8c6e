use Rattle.std.proofs.Common.{◌≡◌, ◌+◌, ◌*◌, ℕ, sym, ◌∙◌, ap, subst}
use Rattle.study_board.proofs.SquareLists.{none-of-empty}
use Rattle.study_index.specs.Computed.{position_numbered}
use Rattle.study_index.proofs.ClassLaws.{below}
use Rattle.study_index.proofs.ComputedIndex.{decoded_of_numbered}
use Rattle.study_retro.specs.Predecessors.{IsBeforeFrom}
use Rattle.study_levels.specs.Propagation.{AreSet}
use Rattle.study_retro.proofs.RowSets.{set-none, set-more}
use Rattle.study_retro.proofs.SquaresKept.{first-as}
use Rattle.study_retro.proofs.rows.predecessors.write_predecessors_one_by_one.Goals as goal

pub loop-square-init : goal.loop-square-init
loop-square-init g c = record { size = c.requires.cells; set = set-none _ _ _ _ _ _ c.into_iter-square-iterator.ensures.into_iter_gives }

pub new-one-requires : goal.new-one-requires
new-one-requires g c =
    let class = c.args.departure.now.class in
    let y = c.from.result in
    let f = first-as _ _ _ y c.in-Some.ensures.steps (c.from.ensures ∙ c.number.ensures.value) in
    let number = 64 * c.args.departure.now.row + y in
    let q = c.requires.numbered y f.inside (c.loop-square.invariant.set.among y f.inside f.there) in
    below class number q.0 (decoded_of_numbered class number q.0 q.1)

pub write_from-requires-clause-numbered : goal.write_from-requires-clause-numbered
write_from-requires-clause-numbered g c =
    let y = c.from.result in
    let f = first-as _ _ _ y c.in-Some.ensures.steps (c.from.ensures ∙ c.number.ensures.value) in
    let q = c.requires.numbered y f.inside (c.loop-square.invariant.set.among y f.inside f.there) in
    (q.0, ap (λ (n : ℕ). position_numbered c.args.departure.now.class n) c.new-one.ensures.number ∙ q.1)

pub write_from-requires-clause-led : goal.write_from-requires-clause-led
write_from-requires-clause-led g c = λ q at.
    let y = c.from.result in
    let f = first-as _ _ _ y c.in-Some.ensures.steps (c.from.ensures ∙ c.number.ensures.value) in
    c.requires.led y q f.inside (c.loop-square.invariant.set.among y f.inside f.there)
    (ap (λ (n : ℕ). position_numbered c.args.departure.now.class n) (sym c.new-one.ensures.number) ∙ at)

pub loop-square-preserved : goal.loop-square-preserved
loop-square-preserved g c =
    let f = first-as _ _ _ c.from.result c.in-Some.ensures.steps (c.from.ensures ∙ c.number.ensures.value) in
    let inv = c.loop-square.invariant in
    let class = c.args.departure.now.class in
    let man = c.args.man.now in
    let a = c.args.origin in
    let cell = c.args.change.cell in
    let over = c.args.change.over in
    let new = c.write_from.new.cells in
    let number : c.new-one.result.number ≡ 64 * c.args.departure.now.row + c.from.result = c.new-one.ensures.number in
    record {
      size = c.write_from.ensures.size ∙ inv.size;
      set = set-more _ _ _ _ _ _ _ f c.requires.cell _ _ _ inv.set
          (subst (λ (m : ℕ). AreSet (IsBeforeFrom class m man a) cell over c.loop-square.cells new) number c.write_from.ensures.rise)
          (λ n w. c.write_from.ensures.done n (subst (λ (m : ℕ). IsBeforeFrom class m man a n) (sym number) w));
    }

pub returns-clause-done : goal.returns-clause-done
returns-clause-done g c = λ n y on e w. c.loop-square.invariant.set.done n y on e (none-of-empty _ c.in-None.ensures.steps.0 y on) w
