use Rattle.std.proofs.Common.{◌≡◌, ◌+◌, ◌*◌, ◌<◌, ℕ, sym, ◌∙◌, subst, arith}
use Rattle.study_board.specs.Position.{Position}
use Rattle.study_board.proofs.SquareLists.{first-of, none-of-empty}
use Rattle.study_values.specs.Index.{index_of}
use Rattle.study_index.specs.Moved.{IsMoved}
use Rattle.study_retro.specs.Predecessors.{IsBeforeFrom}
use Rattle.study_retro.specs.RowBack.{IsItOrTwin}
use Rattle.study_retro.proofs.BackLemmas.{before_is, set-why}
use Rattle.study_retro.proofs.RowBackLemmas.{fit_before, fit_below}
use Rattle.study_retro.proofs.RowSets.{set-none, set-more}
use Rattle.study_retro.proofs.rows.predecessors.write_moved_one_by_one.Goals as goal

pub loop-square-init : goal.loop-square-init
loop-square-init g c = record { size = c.requires.cells; set = set-none _ _ _ _ _ _ c.into_iter-square-iterator.ensures.into_iter_gives }

pub write_with_twin-requires-clause-number : goal.write_with_twin-requires-clause-number
write_with_twin-requires-clause-number g c =
    let f = first-of _ _ _ c.in-Some.ensures.steps in
    let y = c.in-Some.square in
    let class = c.args.departure.now.class in
    let man = c.args.man.now in
    let a = c.args.origin in
    let number = 64 * c.args.departure.now.row + y in
    let into = c.loop-square.invariant.set.among y f.inside f.there in
    let q = c.requires.numbered y f.inside into in
    let low : number < 16777216 = let r = c.requires.plain in let on = f.inside in omega (arith, r, on) in
    let fits : (p : Position) → IsMoved class number man.at a p → index_of p ≡ c.number_to-before.result =
    λ p moved. c.number_to-before.ensures p (subst (λ (x : ℕ). IsMoved class number x a p) (sym c.requires.from) moved) in
    (fit_below class number q.0 q.1 low man a c.number_to-before.result c.requires.passes fits (c.requires.led y q.0 f.inside into q.1)).0

pub write_with_twin-requires-clause-plain : goal.write_with_twin-requires-clause-plain
write_with_twin-requires-clause-plain g c =
    let f = first-of _ _ _ c.in-Some.ensures.steps in
    let y = c.in-Some.square in
    let class = c.args.departure.now.class in
    let man = c.args.man.now in
    let a = c.args.origin in
    let number = 64 * c.args.departure.now.row + y in
    let into = c.loop-square.invariant.set.among y f.inside f.there in
    let q = c.requires.numbered y f.inside into in
    let low : number < 16777216 = let r = c.requires.plain in let on = f.inside in omega (arith, r, on) in
    let fits : (p : Position) → IsMoved class number man.at a p → index_of p ≡ c.number_to-before.result =
    λ p moved. c.number_to-before.ensures p (subst (λ (x : ℕ). IsMoved class number x a p) (sym c.requires.from) moved) in
    (fit_below class number q.0 q.1 low man a c.number_to-before.result c.requires.passes fits (c.requires.led y q.0 f.inside into q.1)).1

pub loop-square-preserved : goal.loop-square-preserved
loop-square-preserved g c =
    let f = first-of _ _ _ c.in-Some.ensures.steps in
    let y = c.in-Some.square in
    let inv = c.loop-square.invariant in
    let class = c.args.departure.now.class in
    let row = c.args.departure.now.row in
    let man = c.args.man.now in
    let a = c.args.origin in
    let k = c.number_to-before.result in
    let number = 64 * row + y in
    let into = inv.set.among y f.inside f.there in
    let q = c.requires.numbered y f.inside into in
    let low : number < 16777216 = let r = c.requires.plain in let on = f.inside in omega (arith, r, on) in
    let fits : (p : Position) → IsMoved class number man.at a p → index_of p ≡ k =
    λ p moved. c.number_to-before.ensures p (subst (λ (x : ℕ). IsMoved class number x a p) (sym c.requires.from) moved) in
    record {
      size = c.write_with_twin.ensures.size ∙ inv.size;
      set = set-more _ _ _ _ _ _ _ f c.requires.cell _ _ _ inv.set
          (set-why c.args.change.cell c.args.change.over (IsItOrTwin class k) (IsBeforeFrom class number man a) c.loop-square.cells c.write_with_twin.new.cells
          (λ n w. fit_before class number q.0 q.1 low man a k c.requires.passes fits (c.requires.led y q.0 f.inside into q.1) n w)
          c.write_with_twin.ensures.rise)
          (λ n w. c.write_with_twin.ensures.done n (before_is class number q.0 q.1 man a k fits n w));
    }

pub returns-clause-done : goal.returns-clause-done
returns-clause-done g c = λ n y on e w. c.loop-square.invariant.set.done n y on e (none-of-empty _ c.in-None.ensures.steps.0 y on) w
