use Rattle.std.proofs.Common.{◌≡◌, ◌+◌, ◌*◌, ◌<◌, ℕ, true, List, [], ◌∷◌, ◌++◌, Some, refl, sym, ◌∙◌, ap, subst}
use Rattle.std.proofs.lemmas.Bool.{and_parts}
use Rattle.study_board.specs.declared.men.Man.{Man}
use Rattle.study_board.specs.Sets.{has}
use Rattle.study_board.proofs.SquareLists.{first-of, none-of-empty}
use Rattle.study_moves.specs.Unmoves.{is_unmove_origin, comes}
use Rattle.study_material.specs.declared.class.Class.{Class}
use Rattle.study_index.specs.Computed.{position_numbered}
use Rattle.study_retro.specs.Predecessors.{IsBeforeFrom}
use Rattle.study_levels.specs.Propagation.{AreSet, IsSetWhere}
use Rattle.study_retro.specs.RowBack.{IsBeforeRowBy, IsBeforeRowFrom}
use Rattle.study_retro.specs.RowMoves.{AreOnDistinctSquares}
use Rattle.study_retro.specs.Still.{on_square}
use Rattle.study_retro.proofs.BackLemmas.{set-why}
use Rattle.study_retro.proofs.CheckLemmas.{made-for}
use Rattle.study_retro.proofs.RowBackLemmas.{row_apart, row_led, row_came}
use Rattle.study_retro.proofs.RowSets.{ForSome, set-none, set-more}
use Rattle.study_retro.proofs.rows.predecessors.write_before_man_from.Goals as goal

pub loop-origin-init : goal.loop-origin-init
loop-origin-init g c = record { size = c.requires.cells; set = set-none _ _ _ _ _ _ refl }

pub squares_allowing_unmove-requires-clause-comes : goal.squares_allowing_unmove-requires-clause-comes
squares_allowing_unmove-requires-clause-comes g c =
    let f = first-of _ _ _ c.in-Some.ensures.steps in
    let a = c.in-Some.origin in
    let there : has c.into_iter-origin-iterator.result a ≡ true = c.loop-origin.invariant.set.among a f.inside f.there in
    ap (λ (xs : List Man). comes xs c.new-checks.result.man.now a) c.new-checks.ensures.others
    ∙ ap (λ (m : Man). comes c.as_slice-others.result.now m a) c.new-checks.ensures.man
    ∙ sym (ap (λ (set : ℕ). has set a) c.into_iter-origin-iterator.ensures.into_iter_gives ∙ c.origins_among-origin-items.ensures a f.inside)
    ∙ there

pub write_predecessors-requires-clause-numbered : goal.write_predecessors-requires-clause-numbered
write_predecessors-requires-clause-numbered g c = λ y on e.
    let row = c.args.row.now in
    let both = and_parts _ _ (sym (c.intersection-led.ensures y) ∙ e) in
    let q = c.requires.numbered y on both.0 in (
      q.0,
      ap (λ (d : ℕ). position_numbered c.args.departure.now.class (64 * d + y)) c.requires.row
          ∙ subst (λ (d : Class). position_numbered d (64 * row.number + y) ≡ Some q.0) (sym c.requires.class) q.1,
    )

pub write_predecessors-requires-clause-led : goal.write_predecessors-requires-clause-led
write_predecessors-requires-clause-led g c = λ y q on e at.
    let row = c.args.row.now in
    let man = c.args.man.now in
    let f = first-of _ _ _ c.in-Some.ensures.steps in
    let a = c.in-Some.origin in
    let both = and_parts _ _ (sym (c.intersection-led.ensures y) ∙ e) in
    let here : position_numbered row.class (64 * row.number + y) ≡ Some q =
    subst (λ (d : Class). position_numbered d (64 * row.number + y) ≡ Some q) c.requires.class
    (ap (λ (d : ℕ). position_numbered c.args.departure.now.class (64 * d + y)) (sym c.requires.row) ∙ at) in
    row_led row.class (64 * row.number + y) y q here row.others.items row.last row.to_move (row.encoded y on) man c.requires.man c.requires.side a f.inside
    c.squares_allowing_unmove.result
    (made-for (λ xs last side m. AreOnDistinctSquares (xs ++ on_square last y ∷ [])
    → has c.squares_allowing_unmove.result y ≡ is_unmove_origin (xs ++ on_square last y ∷ []) side m a)
    (c.new-checks.ensures.others ∙ c.as_slice-others.ensures.value) c.new-checks.ensures.last c.new-checks.ensures.side c.new-checks.ensures.man
    (c.squares_allowing_unmove.ensures y on)) both.1

pub loop-origin-preserved : goal.loop-origin-preserved
loop-origin-preserved g c =
    let row = c.args.row.now in
    let man = c.args.man.now in
    let f = first-of _ _ _ c.in-Some.ensures.steps in
    let a = c.in-Some.origin in
    let inv = c.loop-origin.invariant in
    let cell = c.args.change.cell in
    let over = c.args.change.over in
    let mid = c.loop-origin.cells in
    let new = c.write_predecessors.new.cells in
    let number = row.number in
    let is_class : c.args.departure.now.class ≡ row.class = c.requires.class in
    let is_row : c.args.departure.now.row ≡ number = c.requires.row in
    let From : ℕ → ℕ → Type 0 = λ y n. IsBeforeFrom row.class (64 * number + y) man a n in
    let to_row : (y n : ℕ) → IsBeforeFrom c.args.departure.now.class (64 * c.args.departure.now.row + y) man a n → From y n =
    λ y n b. subst (λ (d : ℕ). IsBeforeFrom row.class (64 * d + y) man a n) is_row
    (subst (λ (d : Class). IsBeforeFrom d (64 * c.args.departure.now.row + y) man a n) is_class b) in
    let of_row : (y n : ℕ) → From y n → IsBeforeFrom c.args.departure.now.class (64 * c.args.departure.now.row + y) man a n =
    λ y n b. subst (λ (d : Class). IsBeforeFrom d (64 * c.args.departure.now.row + y) man a n) (sym is_class)
    (subst (λ (d : ℕ). IsBeforeFrom row.class (64 * d + y) man a n) (sym is_row) b) in
    let more : AreSet (IsBeforeRowFrom row.class number c.args.decided man a) cell over mid new =
    set-why cell over (IsBeforeRowFrom c.args.departure.now.class c.args.departure.now.row c.intersection-led.result man a)
    (IsBeforeRowFrom row.class number c.args.decided man a) mid new
    (λ n w. (w.0, w.1, (and_parts _ _ (sym (c.intersection-led.ensures w.0) ∙ w.2)).0, to_row w.0 n w.3)) c.write_predecessors.ensures.rise in
    let led : (n y : ℕ) → y < 64 → has c.args.decided y ≡ true → From y n → IsSetWhere cell over new n =
    λ n y on e b.
    let q = c.requires.numbered y on e in
    let came = row_came row.class (64 * number + y) y q.0 q.1 row.others.items row.last row.to_move (row.encoded y on) man c.requires.man a n f.inside b in
    let word = made-for (λ xs last side m. AreOnDistinctSquares (xs ++ on_square last y ∷ [])
    → has c.squares_allowing_unmove.result y ≡ is_unmove_origin (xs ++ on_square last y ∷ []) side m a)
    (c.new-checks.ensures.others ∙ c.as_slice-others.ensures.value) c.new-checks.ensures.last c.new-checks.ensures.side c.new-checks.ensures.man
    (c.squares_allowing_unmove.ensures y on) in
    let apart = row_apart row.class (64 * number + y) y q.0 q.1 row.others.items row.last row.to_move (row.encoded y on) in
    c.write_predecessors.ensures.done n y on (c.intersection-led.ensures y ∙ rw (e, word apart ∙ came.1) refl) (of_row y n b) in
    record {
      size = c.write_predecessors.ensures.size ∙ inv.size;
      set = set-more _ _ _ _ _ _ _ f c.requires.cell _ _ _ inv.set more (λ n w. led n w.0 w.1 w.2 w.3);
    }

pub returns-clause-rise : goal.returns-clause-rise
returns-clause-rise g c =
    let row = c.args.row.now in
    let From : ℕ → ℕ → Type 0 = λ a n. IsBeforeRowFrom row.class row.number c.args.decided c.args.man.now a n in
    set-why c.args.change.cell c.args.change.over (ForSome c.into_iter-origin-iterator.result From c.args.change.cell c.args.change.over)
    (IsBeforeRowBy row.class row.number c.args.decided c.args.man.now) c.args.cells.now c.loop-origin.cells
    (λ n w. (w.3.0, w.3.1, w.3.2, (w.0, w.1, w.3.3))) c.loop-origin.invariant.set.rise

pub returns-clause-done : goal.returns-clause-done
returns-clause-done g c = λ n y on e b.
    let row = c.args.row.now in
    let q = c.requires.numbered y on e in
    let came = row_came row.class (64 * row.number + y) y q.0 q.1 row.others.items row.last row.to_move (row.encoded y on)
    c.args.man.now c.requires.man b.0 n b.1 b.2 in
    let there = ap (λ (set : ℕ). has set b.0) c.into_iter-origin-iterator.ensures.into_iter_gives ∙ c.origins_among-origin-items.ensures b.0 b.1
    ∙ ap (λ (xs : List Man). comes xs c.args.man.now b.0) c.as_slice-others.ensures.value ∙ came.2 in
    c.loop-origin.invariant.set.done n b.0 b.1 there (none-of-empty _ c.in-None.ensures.steps.0 b.0 b.1) (y, on, e, b.2)
