use Rattle.std.proofs.Common.{◌≡◌, ◌+◌, ◌*◌, ◌<◌, ◌&&◌, ◌||◌, ℕ, not, true, Bool, List, [], ◌∷◌, ◌++◌, inl, inr, refl, sym, ◌∙◌, ap, subst, arith}
use Rattle.std.proofs.lemmas.Bool.{false≢true, and_parts, cases_Bool}
use Rattle.study_board.specs.declared.men.Man.{Man}
use Rattle.study_board.specs.Men.{same_side}
use Rattle.study_board.specs.Position.{is_occupied}
use Rattle.study_board.specs.Sets.{has}
use Rattle.study_board.proofs.SetBits.{has-zero}
use Rattle.study_board.proofs.SquareLists.{first-of, none-of-empty}
use Rattle.study_moves.specs.Rules.{is_legal}
use Rattle.study_moves.specs.Unmoves.{IsQuiet}
use Rattle.study_moves.specs.AnyOrder.{is_safe_target}
use Rattle.study_material.specs.declared.class.Class.{Class}
use Rattle.study_index.specs.Computed.{position_numbered}
use Rattle.study_levels.specs.Numbered.{NoLossBy}
use Rattle.study_levels.proofs.SquaresLeft.{still-among, taken-too}
use Rattle.study_retro.specs.ClassGame.{class_game}
use Rattle.study_retro.specs.Predecessors.{AreEncoded}
use Rattle.study_retro.specs.RowEscapes.{CanGo}
use Rattle.study_retro.specs.RowMoves.{AreOnDistinctSquares, goes_quietly}
use Rattle.study_retro.specs.Still.{IsWonAfter, move_to, on_square}
use Rattle.study_retro.proofs.CheckLemmas.{made-for}
use Rattle.study_retro.proofs.RowEscapeLemmas.{go_some, row_can, row_goes, row_stays, thin-cases, thin-gone}
use Rattle.study_retro.proofs.rows.quiet_moves.quiet_moves_of_man_from.Goals as goal

pub loop-target-init : goal.loop-target-init
loop-target-init g c = record {
  left = λ x on e. e;
  among = λ y on e. e;
  hold = λ y on e f. absurd (false≢true (sym f ∙ e));
  lose = λ y x q on e at in64 there gone. absurd (false≢true (sym gone ∙ there));
  some = c.requires.some;
}

-- if no number may lose the other moves need not be examined
pub returns-then-is_empty-clause-yes : goal.returns-then-is_empty-clause-yes
returns-then-is_empty-clause-yes g c = λ y q on e.
    absurd (false≢true (sym (ap (λ (s : ℕ). has s y) (c.is_empty.ensures.0 c.if-is_empty.true) ∙ has-zero y) ∙ e))

pub squares_allowing_move-requires-clause-goes : goal.squares_allowing_move-requires-clause-goes
squares_allowing_move-requires-clause-goes g c =
    let f = first-of _ _ _ c.in-Some.ensures.steps in
    let a = c.in-Some.target in
    let there : has c.into_iter-target-iterator.result a ≡ true = c.loop-target.invariant.left a f.inside f.there in
    ap (λ (xs : List Man). goes_quietly xs c.new-checks.result.man.now a) c.new-checks.ensures.others
    ∙ ap (λ (m : Man). goes_quietly c.as_slice-others.result.now m a) c.new-checks.ensures.man
    ∙ sym (ap (λ (set : ℕ). has set a) c.into_iter-target-iterator.ensures.into_iter_gives ∙ c.targets_among-target-items.ensures a f.inside)
    ∙ there

pub losing_after-lost-requires-clause-numbered : goal.losing_after-lost-requires-clause-numbered
losing_after-lost-requires-clause-numbered g c = λ y on e.
    let both = and_parts _ _ (sym (c.intersection-going.ensures y) ∙ e) in
    let q = c.requires.numbered y on (c.loop-target.invariant.among y on both.0) in
    (q.0, ap (λ (d : ℕ). position_numbered c.args.game.now.class (64 * d + y)) c.requires.row ∙ q.1)

pub losing_after-lost-requires-clause-going : goal.losing_after-lost-requires-clause-going
losing_after-lost-requires-clause-going g c = λ y on e.
    let row = c.args.row.now in
    let man = c.args.man.now in
    let a = c.in-Some.target in
    let small = row.plain in
    let both = and_parts _ _ (sym (c.intersection-going.ensures y) ∙ e) in
    let q = c.requires.numbered y on (c.loop-target.invariant.among y on both.0) in
    let encodes = subst (λ (d : Class). AreEncoded d (64 * row.number + y) (row.others.items ++ on_square row.last y ∷ []) row.to_move) c.requires.class
    (row.encoded y on) in
    let his = c.requires.side in
    let word = made-for (λ xs last side m. AreOnDistinctSquares (xs ++ on_square last y ∷ [])
    → has c.squares_allowing_move.result y
    ≡ (is_safe_target (xs ++ on_square last y ∷ []) side m a && not (is_occupied (xs ++ on_square last y ∷ []) a)))
    (c.new-checks.ensures.others ∙ c.as_slice-others.ensures.value) c.new-checks.ensures.last c.new-checks.ensures.side c.new-checks.ensures.man
    (c.squares_allowing_move.ensures y on) in
    subst (λ (d : ℕ). CanGo c.args.game.now.class (64 * d + y) man a) (sym c.requires.row)
    (row_can c.args.game.now.class (64 * row.number + y) y q.0 q.1 (omega (arith, small, on)) row.others.items row.last row.to_move encodes man c.requires.man
    his a c.squares_allowing_move.result word both.1)

pub loop-target-preserved : goal.loop-target-preserved
loop-target-preserved g c =
    let row = c.args.row.now in
    let man = c.args.man.now in
    let f = first-of _ _ _ c.in-Some.ensures.steps in
    let a = c.in-Some.target in
    let inv = c.loop-target.invariant in
    let class = c.args.game.now.class in
    let is_row : c.args.departure.now.row ≡ row.number = c.requires.row in
    let small = row.plain in
    let losing = c.loop-target.losing in
    let going = c.intersection-going.result in
    let lost = c.losing_after-lost.result in
    let new = c.union-losing.result in
    let his : same_side man.side row.to_move ≡ true = c.requires.side in
    let cases = thin-cases losing going lost c.without.result new c.without.ensures c.union-losing.ensures in
    let gone = thin-gone losing going lost c.without.result new c.without.ensures c.union-losing.ensures in
    let mine : (y : ℕ) → y < 64 → has going y ≡ true → has losing y ≡ true = λ y on e. (and_parts _ _ (sym (c.intersection-going.ensures y) ∙ e)).0 in
    let before : (y : ℕ) → y < 64 → has new y ≡ true → has losing y ≡ true = λ y on e.
    elim (cases y on e) [ inl l ↦ mine y on (c.losing_after-lost.ensures.only y on l) | inr k ↦ k.0 ] in
    let word = λ (y : ℕ) (on : y < 64). made-for (λ xs last side m. AreOnDistinctSquares (xs ++ on_square last y ∷ [])
    → has c.squares_allowing_move.result y
    ≡ (is_safe_target (xs ++ on_square last y ∷ []) side m a && not (is_occupied (xs ++ on_square last y ∷ []) a)))
    (c.new-checks.ensures.others ∙ c.as_slice-others.ensures.value) c.new-checks.ensures.last c.new-checks.ensures.side c.new-checks.ensures.man
    (c.squares_allowing_move.ensures y on) in
    record {
      left = still-among c.into_iter-target-iterator.result c.loop-target.target-iterator a c.next.new.self f inv.left;
      among = λ y on e. inv.among y on (before y on e);
      hold = λ y on e n. elim (cases_Bool (has losing y)) [
        | inl there ↦
            let k = gone y on there n in
            subst (λ (d : ℕ). NoLossBy (class_game class c.args.game.now.tables.now) c.args.cells.now c.args.level (64 * d + y)) is_row
            (c.losing_after-lost.ensures.no y on k.0 k.1)
        | inr out ↦ inv.hold y on e out
      ];
      lose = λ y x q on there at in64.
          let Loses : ℕ → Type 0 = λ z. is_legal q (move_to man z) ≡ true → IsQuiet q (move_to man z)
          → IsWonAfter (class_game class c.args.game.now.tables.now) c.args.cells.now c.args.level q (move_to man z) in
          let encodes = subst (λ (d : Class). AreEncoded d (64 * row.number + y) (row.others.items ++ on_square row.last y ∷ []) row.to_move)
          c.requires.class (row.encoded y on) in
          let plain : 64 * row.number + y < 16777216 = omega (arith, small, on) in
          let here : Loses a = λ legal quiet. elim (cases y on there) [
            | inl is_lost ↦
                c.losing_after-lost.ensures.yes
                (row_stays class (64 * row.number + y) y q at plain row.others.items row.last row.to_move encodes man c.requires.man a legal quiet)
                y q on is_lost (ap (λ (d : ℕ). position_numbered class (64 * d + y)) is_row ∙ at)
            | inr k ↦
                let go = row_goes class (64 * row.number + y) y q at plain row.others.items row.last row.to_move encodes man c.requires.man a legal quiet in
                absurd (false≢true (sym k.1 ∙ (c.intersection-going.ensures y ∙ rw (k.0, go.3 c.squares_allowing_move.result (word y on)) refl)))
          ] in
          taken-too c.into_iter-target-iterator.result c.loop-target.target-iterator a c.next.new.self f Loses
          (λ z in64 e gone legal quiet. inv.lose y z q on (before y on there) at in64 e gone legal quiet) here x in64;
      some = λ y q on e at. elim (cases_Bool (has c.loop-target.some y)) [
        | inl there ↦ inv.some y q on there at
        | inr out ↦
            let goes : has going y ≡ true = sym (ap (λ (b : Bool). b || has going y) out) ∙ (sym (c.union-some.ensures y) ∙ e) in
            let both = and_parts (has losing y) (has c.squares_allowing_move.result y) (sym (c.intersection-going.ensures y) ∙ goes) in
            let encodes = subst (λ (d : Class). AreEncoded d (64 * row.number + y) (row.others.items ++ on_square row.last y ∷ []) row.to_move)
            c.requires.class (row.encoded y on) in
            let plain : 64 * row.number + y < 16777216 = omega (arith, small, on) in
            go_some class (64 * row.number + y) q at plain man a f.inside
            (row_can class (64 * row.number + y) y q at plain row.others.items row.last row.to_move encodes man c.requires.man his a
            c.squares_allowing_move.result (word y on) both.1)
      ];
    }

pub returns-clause-yes : goal.returns-clause-yes
returns-clause-yes g c = λ y q on e at x legal quiet.
    let row = c.args.row.now in
    let small = row.plain in
    let encodes = subst (λ (d : Class). AreEncoded d (64 * row.number + y) (row.others.items ++ on_square row.last y ∷ []) row.to_move) c.requires.class
    (row.encoded y on) in
    let go = row_goes c.args.game.now.class (64 * row.number + y) y q at (omega (arith, small, on)) row.others.items row.last row.to_move encodes
    c.args.man.now c.requires.man x legal quiet in
    let there = ap (λ (set : ℕ). has set x) c.into_iter-target-iterator.ensures.into_iter_gives
    ∙ (c.targets_among-target-items.ensures x go.0
    ∙ (ap (λ (xs : List Man). goes_quietly xs c.args.man.now x) c.as_slice-others.ensures.value ∙ go.2)) in
    c.loop-target.invariant.lose y x q on e at go.0 there (none-of-empty _ c.in-None.ensures.steps.0 x go.0) legal quiet
