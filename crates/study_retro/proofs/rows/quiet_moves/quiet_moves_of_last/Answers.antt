use Rattle.std.proofs.Common.{◌≡◌, ℕ, ◌+◌, ◌*◌, ◌<◌, ◌||◌, ◌++◌, ◌∷◌, [], not, Bool, true, false, inl, inr, refl, sym, ◌∙◌, subst, arith}
use Rattle.std.proofs.lemmas.Bool.{and_parts, false≢true, not-false, not-true}
use Rattle.study_board.specs.Position.{Position}
use Rattle.study_board.specs.Sets.{has}
use Rattle.study_board.proofs.EqualMen.{side_same}
use Rattle.study_material.specs.declared.class.Class.{Class}
use Rattle.study_material.specs.Class.{lists_of}
use Rattle.study_values.specs.Number.{has_both_pawns}
use Rattle.study_index.specs.Moved.{IsMoved}
use Rattle.study_retro.specs.Predecessors.{AreEncoded}
use Rattle.study_retro.specs.Still.{on_square}
use Rattle.study_retro.proofs.RowEscapeLemmas.{go_below, go_escape, go_some, go_won, last_can, last_goes}
use Rattle.study_retro.proofs.rows.quiet_moves.quiet_moves_of_last.Goals as goal

-- no man of the other side moves
pub returns-then-ne-clause-no : goal.returns-then-ne-clause-no
returns-then-ne-clause-no g c = λ y on e f. absurd (false≢true (sym f ∙ e))

pub returns-then-ne-clause-yes : goal.returns-then-ne-clause-yes
returns-then-ne-clause-yes g c = λ y q on e at x legal quiet.
    let row = c.args.row.now in
    let small = row.plain in
    let encodes = subst (λ (d : Class). AreEncoded d (64 * row.number + y) (row.others.items ++ on_square row.last y ∷ []) row.to_move) c.requires.class
    (row.encoded y on) in
    let go = last_goes c.args.game.now.class (64 * row.number + y) y q at (omega (arith, small, on)) row.others.items row.last row.to_move encodes
    x legal quiet in
    absurd (false≢true (sym (sym (side_same _ _) ∙ not-true _ (sym c.ne.ensures ∙ c.if-ne.true)) ∙ go.1))

pub squares_won-won-requires-clause-cells : goal.squares_won-won-requires-clause-cells
squares_won-won-requires-clause-cells g c = λ x onx e.
    let class = c.args.game.now.class in
    let row = c.args.row.now in
    let small = row.plain in
    let his = sym (side_same _ _) ∙ not-false _ (sym c.ne.ensures ∙ c.if-ne.false) in
    let both = and_parts (has c.targets_in_row.result x) (not (has c.promotion_squares-promoting.result x)) (sym (c.without-quiet.ensures x onx) ∙ e) in
    let stays = sym (c.promotion_squares-promoting.ensures x onx) ∙ not-true _ both.1 in
    let w = c.targets_in_row.ensures.only x onx both.0 in
    let y = w.0 in
    let number = 64 * row.number + y in
    let plain : number < 16777216 = let on = w.1 in omega (arith, small, on) in
    let encodes = subst (λ (d : Class). AreEncoded d number (row.others.items ++ on_square row.last y ∷ []) row.to_move) c.requires.class (row.encoded y w.1) in
    let q = c.requires.numbered y w.1 w.2 in
    let passes = inl (subst (λ (d : Class). has_both_pawns (lists_of d) ≡ false) c.requires.class (sym c.has_both_pawns.ensures ∙ c.if-has_both_pawns.false)) in
    let fits = λ (p : Position) (moved : IsMoved class number y x p).
    c.in-Some.ensures.numbers y x p w.1 onx (subst (λ (d : Class). IsMoved d number y x p) (sym c.requires.class) moved) in
    subst (λ (m : ℕ). 64 * c.in-Some.after + x < m) (sym c.requires.cells)
    (go_below class number q.0 q.1 plain (on_square row.last y) x onx
    (last_can class number y q.0 q.1 plain row.others.items row.last row.to_move encodes his x w.3) passes stays c.args.game.now.tables.now
    c.requires.laws c.args.cells.now (64 * c.in-Some.after + x) fits)

-- if the last man goes to a square that is neither won nor on its last rank, it escapes
pub returns-in-Some-clause-no : goal.returns-in-Some-clause-no
returns-in-Some-clause-no g c = λ y on e f.
    let class = c.args.game.now.class in
    let row = c.args.row.now in
    let small = row.plain in
    let his = sym (side_same _ _) ∙ not-false _ (sym c.ne.ensures ∙ c.if-ne.false) in
    let w = c.moves_of_last.ensures.no y on e f in
    let x = w.0 in
    let outside = or_false (has c.squares_won-won.result x) (has c.promotion_squares-promoting.result x) (sym (c.union.ensures x) ∙ w.3) in
    let stays = sym (c.promotion_squares-promoting.ensures x w.1) ∙ outside.1 in
    let there = c.targets_in_row.ensures.all x w.1 (y, on, e, w.2) in
    let quiet : has c.without-quiet.result x ≡ true = c.without-quiet.ensures x w.1 ∙ rw (there, outside.1) refl in
    let number = 64 * row.number + y in
    let plain : number < 16777216 = let on = on in omega (arith, small, on) in
    let encodes = subst (λ (d : Class). AreEncoded d number (row.others.items ++ on_square row.last y ∷ []) row.to_move) c.requires.class (row.encoded y on) in
    let q = c.requires.numbered y on e in
    let passes = inl (subst (λ (d : Class). has_both_pawns (lists_of d) ≡ false) c.requires.class (sym c.has_both_pawns.ensures ∙ c.if-has_both_pawns.false)) in
    let fits = λ (p : Position) (moved : IsMoved class number y x p).
    c.in-Some.ensures.numbers y x p on w.1 (subst (λ (d : Class). IsMoved d number y x p) (sym c.requires.class) moved) in
    go_escape class number q.0 q.1 plain (on_square row.last y) x w.1
    (last_can class number y q.0 q.1 plain row.others.items row.last row.to_move encodes his x w.2) passes stays c.args.game.now.tables.now
    c.requires.laws c.args.cells.now (64 * c.in-Some.after + x) fits c.args.level (λ v. c.squares_won-won.ensures.no x v.0 w.1 quiet outside.0 v.1 v.2)
  where
    or_false : (a b : Bool) → (a || b) ≡ false → (a ≡ false) × (b ≡ false)
    or_false false b e = (refl, e)
    or_false true b e = absurd (false≢true (sym e))

-- otherwise all of its quiet moves lose
pub returns-in-Some-clause-yes : goal.returns-in-Some-clause-yes
returns-in-Some-clause-yes g c = λ y q on e at x legal quiet.
    let class = c.args.game.now.class in
    let row = c.args.row.now in
    let small = row.plain in
    let his = sym (side_same _ _) ∙ not-false _ (sym c.ne.ensures ∙ c.if-ne.false) in
    let number = 64 * row.number + y in
    let plain : number < 16777216 = let on = on in omega (arith, small, on) in
    let encodes = subst (λ (d : Class). AreEncoded d number (row.others.items ++ on_square row.last y ∷ []) row.to_move) c.requires.class (row.encoded y on) in
    let go = last_goes class number y q at plain row.others.items row.last row.to_move encodes x legal quiet in
    let out : has c.promotion_squares-promoting.result x ≡ false = c.promotion_squares-promoting.ensures x go.0 ∙ go.3 in
    let won = (c.squares_won-won.ensures.yes x go.0 (left_true (has c.squares_won-won.result x) (has c.promotion_squares-promoting.result x)
    (sym (c.union.ensures x) ∙ c.moves_of_last.ensures.yes y x on e go.0 go.2) out)).1 in
    let passes = inl (subst (λ (d : Class). has_both_pawns (lists_of d) ≡ false) c.requires.class (sym c.has_both_pawns.ensures ∙ c.if-has_both_pawns.false)) in
    let fits = λ (p : Position) (moved : IsMoved class number y x p).
    c.in-Some.ensures.numbers y x p on go.0 (subst (λ (d : Class). IsMoved d number y x p) (sym c.requires.class) moved) in
    go_won class number q at plain (on_square row.last y) x go.0
    (last_can class number y q at plain row.others.items row.last row.to_move encodes his x go.2) passes go.3 c.args.game.now.tables.now
    c.requires.laws c.args.cells.now (64 * c.in-Some.after + x) fits c.args.level won q at
  where
    left_true : (a b : Bool) → (a || b) ≡ true → b ≡ false → a ≡ true
    left_true true b e f = refl
    left_true false b e f = absurd (false≢true (sym f ∙ e))

pub returns-in-Some-clause-some : goal.returns-in-Some-clause-some
returns-in-Some-clause-some g c = λ y q on e at. elim (c.moves_of_last.ensures.some y on e) [
  | inl there ↦ c.requires.some y q on there at
  | inr w ↦
      let class = c.args.game.now.class in
      let row = c.args.row.now in
      let small = row.plain in
      let his = sym (side_same _ _) ∙ not-false _ (sym c.ne.ensures ∙ c.if-ne.false) in
      let number = 64 * row.number + y in
      let plain : number < 16777216 = let on = on in omega (arith, small, on) in
      let encodes = subst (λ (d : Class). AreEncoded d number (row.others.items ++ on_square row.last y ∷ []) row.to_move) c.requires.class
      (row.encoded y on) in
      go_some class number q at plain (on_square row.last y) w.1.0 w.1.1
      (last_can class number y q at plain row.others.items row.last row.to_move encodes his w.1.0 w.1.2)
]
