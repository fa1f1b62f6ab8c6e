use Rattle.std.proofs.Common.{arith, ℕ, ◌≡◌, ◌≢◌, ◌+◌, ◌*◌, ◌<◌, ◌||◌, Bool, true, false, slice_index, refl, ap, ◌∙◌, sym, subst, inl, inr}
use Rattle.std.proofs.lemmas.Bool.{false≢true}
use Rattle.study_board.specs.Sets.{has}
use Rattle.study_board.proofs.SquareLists.{first-of, none-of-empty}
use Rattle.study_levels.specs.Numbered.{CellIsHeld, HasPosition}
use Rattle.study_levels.proofs.FirstLemmas.{held-more}
use Rattle.study_levels.proofs.SquaresLeft.{still-among, taken-too}
use Rattle.study_levels.proofs.initial.write_each_first.Goals as goal

either : (a b : Bool) → b ≡ true → (a || b) ≡ true
either true b e = refl
either false b e = e

pub loop-square-preserved : goal.loop-square-preserved
loop-square-preserved g c =
    let f = first-of _ _ _ c.in-Some.ensures.steps in
    let inv = c.loop-square.invariant in
    let set = c.loop-square.square-iterator in
    let z = c.from.result in
    let row = c.args.row in
    let mid = c.loop-square.cells in
    let new = c.write_first-far.new.cells in
    let same : z ≡ c.in-Some.square = c.from.ensures ∙ c.number.ensures.value in
    let in-set : has c.args.squares z ≡ true = inv.among z (omega (arith, same, f.inside)) (ap (λ (x : ℕ). has set x) same ∙ f.there) in
    let kept : (i : ℕ) → i ≢ 64 * row + z → slice_index new i ≡ slice_index mid i = λ i out. c.write_first-far.ensures.other i out in
    let apart : (y : ℕ) → has set y ≡ false → 64 * row + y ≢ 64 * row + z = λ y gone q.
    let is : y ≡ c.in-Some.square = omega (arith, q, same) in
    false≢true (sym gone ∙ ap (λ (x : ℕ). has set x) is ∙ f.there) in
    let far = c.loop-square.far || c.write_first-far.result in
    let more : (c.loop-square.far ≡ true → far ≡ true) × (c.write_first-far.result ≡ true → far ≡ true) =
    (λ e. ap (λ (b : Bool). b || c.write_first-far.result) e, λ e. either c.loop-square.far c.write_first-far.result e) in
    let taken : (Q : ℕ → Type 0) → ((x : ℕ) → x < 64 → has c.args.squares x ≡ true → has set x ≡ false → Q x) → Q z
    → (x : ℕ) → x < 64 → has c.args.squares x ≡ true → has c.next.new.self x ≡ false → Q x =
    λ Q before here. taken-too c.args.squares set c.in-Some.square c.next.new.self f Q before (subst Q same here) in
    record {
      among = still-among c.args.squares set c.in-Some.square c.next.new.self f inv.among;
      size = c.write_first-far.ensures.size ∙ inv.size;
      other = λ i out.
          kept i (λ e. (let on = f.inside in elim out [ inl l ↦ omega (arith, l, e) | inr l ↦ omega (arith, l, e, on, same) ])) ∙ inv.other i out;
      kept = λ y on e.
          kept (64 * row + y) (λ q. (let is : y ≡ z = omega (arith, q) in
          false≢true (sym e ∙ subst (λ (x : ℕ). has c.args.squares x ≡ true) (sym is) in-set))) ∙ inv.kept y on e;
      held = λ outer. taken (λ (y : ℕ). 64 * row + y < (g.G.Game.numbered c.args.game.now).size
          → CellIsHeld (g.G.Game.numbered c.args.game.now) far 0 (64 * row + y) (slice_index new (64 * row + y)))
          (λ y on e gone b. subst (λ (x : ℕ). CellIsHeld (g.G.Game.numbered c.args.game.now) far 0 (64 * row + y) x)
          (sym (kept (64 * row + y) (apart y gone)))
          (held-more _ _ _ more.0 _ 0 _ (inv.held outer y on e gone b)))
          (λ b. held-more _ _ _ more.1 _ 0 _ (c.write_first-far.ensures.held b outer));
      numbered = taken (λ (y : ℕ). 64 * row + y < (g.G.Game.numbered c.args.game.now).size
          → slice_index new (64 * row + y) ≢ 0 → HasPosition (g.G.Game.numbered c.args.game.now) (64 * row + y))
          (λ y on e gone b x. inv.numbered y on e gone b (λ w. x (kept (64 * row + y) (apart y gone) ∙ w)))
          (λ b x. c.write_first-far.ensures.numbered b x);
    }

pub returns-clause-held : goal.returns-clause-held
returns-clause-held g c = λ outer y on e.
    c.loop-square.invariant.held outer y on e (none-of-empty _ c.in-None.ensures.steps.0 y on)

pub returns-clause-numbered : goal.returns-clause-numbered
returns-clause-numbered g c = λ y on e.
    c.loop-square.invariant.numbered y on e (none-of-empty _ c.in-None.ensures.steps.0 y on)
