use Rattle.std.proofs.Common.{◌≡◌, ℕ, Some, sym, ◌∙◌, ap, subst}
use Rattle.std.proofs.lemmas.Bool.{false≢true, not-true, not-false}
use Rattle.study_board.specs.declared.men.Side.{Side}
use Rattle.study_board.specs.Men.{same_side}
use Rattle.study_board.proofs.EqualMen.{side_same}
use Rattle.study_board.proofs.SquareLists.{first-of, none-of-empty}
use Rattle.study_index.proofs.ClassLaws.{below}
use Rattle.study_index.proofs.ComputedIndex.{decoded_of_numbered}
use Rattle.study_index.specs.Computed.{position_numbered}
use Rattle.study_retro.specs.Predecessors.{IsBeforeBy, IsBeforeFrom}
use Rattle.study_levels.specs.Propagation.{AreSet}
use Rattle.study_retro.proofs.BackLemmas.{set-why, led_came, before_in, in_before}
use Rattle.study_retro.proofs.RowSets.{ForSome, set-none, set-more}
use Rattle.study_retro.proofs.numbers.predecessors.write_before_man.Goals as goal

-- no man of the other side has moved
pub returns-then-ne-clause-done : goal.returns-then-ne-clause-done
returns-then-ne-clause-done g c = λ n b.
    let came = led_came c.args.class c.args.number c.requires.numbered.0 c.requires.numbered.1 c.args.mover.setup.now.men.items c.args.mover.setup.now.to_move
    c.requires.encodes c.args.mover.man.now c.requires.man b.0 n b.1 b.2 in
    absurd (false≢true (sym (sym (side_same _ _) ∙ not-true _ (sym c.ne.ensures ∙ c.if-ne.true))
    ∙ ap (λ (s : Side). same_side c.args.mover.man.now.side s) c.other.ensures ∙ came.0))

pub loop-origin-init : goal.loop-origin-init
loop-origin-init g c = record { size = c.requires.cells; set = set-none _ _ _ _ _ _ c.into_iter-origin-iterator.ensures.into_iter_gives }

pub new-departure-requires : goal.new-departure-requires
new-departure-requires g c =
    below c.args.class c.args.number c.requires.numbered.0 (decoded_of_numbered c.args.class c.args.number c.requires.numbered.0 c.requires.numbered.1)

pub write_from-requires-clause-led : goal.write_from-requires-clause-led
write_from-requires-clause-led g c = λ q at.
    let f = first-of _ _ _ c.in-Some.ensures.steps in
    let a = c.in-Some.origin in
    let here : position_numbered c.args.class c.args.number ≡ Some q =
    subst (λ (n : ℕ). position_numbered c.args.class n ≡ Some q) c.new-departure.ensures.number at in
    let his = sym (ap (λ (s : Side). same_side c.args.mover.man.now.side s) c.other.ensures)
    ∙ sym (side_same _ _) ∙ not-false _ (sym c.ne.ensures ∙ c.if-ne.false) in
    before_in c.args.class c.args.number q here c.args.mover.setup.now.men.items c.args.mover.setup.now.to_move c.requires.encodes
    c.args.mover.man.now c.requires.man c.unmove_origins-all.result _ c.as_slice.ensures.value c.unmove_origins-all.ensures a f.inside his
    (c.loop-origin.invariant.set.among a f.inside f.there)

pub loop-origin-preserved : goal.loop-origin-preserved
loop-origin-preserved g c =
    let f = first-of _ _ _ c.in-Some.ensures.steps in
    let a = c.in-Some.origin in
    let inv = c.loop-origin.invariant in
    let man = c.args.mover.man.now in
    let class = c.args.class in
    let number : c.new-departure.result.number ≡ c.args.number = c.new-departure.ensures.number in
    let cell = c.args.change.cell in
    let over = c.args.change.over in
    let new = c.write_from.new.cells in
    record {
      size = c.write_from.ensures.size ∙ inv.size;
      set = set-more _ _ _ _ _ _ _ f c.requires.cell _ _ _ inv.set
          (subst (λ (m : ℕ). AreSet (IsBeforeFrom class m man a) cell over c.loop-origin.cells new) number c.write_from.ensures.rise)
          (λ n w. c.write_from.ensures.done n (subst (λ (m : ℕ). IsBeforeFrom class m man a n) (sym number) w));
    }

pub returns-clause-rise : goal.returns-clause-rise
returns-clause-rise g c =
    let From : ℕ → ℕ → Type 0 = λ a n. IsBeforeFrom c.args.class c.args.number c.args.mover.man.now a n in
    set-why c.args.change.cell c.args.change.over (ForSome c.unmove_origins-all.result From c.args.change.cell c.args.change.over)
    (IsBeforeBy c.args.class c.args.number c.args.mover.man.now) c.args.cells.now c.loop-origin.cells
    (λ n w. (w.0, w.1, w.3)) c.loop-origin.invariant.set.rise

pub returns-clause-done : goal.returns-clause-done
returns-clause-done g c = λ n b.
    let e = in_before c.args.class c.args.number c.requires.numbered.0 c.requires.numbered.1 c.args.mover.setup.now.men.items c.args.mover.setup.now.to_move
    c.requires.encodes c.args.mover.man.now c.requires.man c.unmove_origins-all.result _ c.as_slice.ensures.value c.unmove_origins-all.ensures b.0 n b.1 b.2 in
    c.loop-origin.invariant.set.done n b.0 b.1 e (none-of-empty _ c.in-None.ensures.steps.0 b.0 b.1) b.2
