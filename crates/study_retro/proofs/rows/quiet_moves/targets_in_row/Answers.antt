use Rattle.std.proofs.Common.{◌≡◌, ◌+◌, ◌*◌, ◌<◌, ◌∷◌, ◌++◌, [], ℕ, List, subst}
use Rattle.study_board.specs.declared.men.Man.{Man}
use Rattle.study_board.specs.Position.{in_check}
use Rattle.study_board.specs.Sets.{has}
use Rattle.study_board.proofs.SquareLists.{first-of, none-of-empty}
use Rattle.study_retro.specs.RowEscapes.{goes_beside}
use Rattle.study_retro.specs.RowMoves.{AreOnDistinctSquares}
use Rattle.study_retro.specs.Still.{on_square}
use Rattle.study_retro.proofs.RowBackLemmas.{row_apart}
use Rattle.study_retro.proofs.SquaresKept.{gathered-more, gathered-none}
use Rattle.study_retro.proofs.rows.quiet_moves.targets_in_row.Goals as goal

pub loop-square-init : goal.loop-square-init
loop-square-init c = gathered-none _ _ _ _ c.into_iter-square-iterator.ensures.into_iter_gives c.empty-squares.ensures

pub loop-square-preserved : goal.loop-square-preserved
loop-square-preserved c =
    let row = c.args.row.now in
    let f = first-of _ _ _ c.in-Some.ensures.steps in
    let t = c.in-Some.square in
    let inv = c.loop-square.invariant in
    let from = c.targets_of_last-targets.result in
    let q = c.requires.numbered t f.inside (inv.among t f.inside f.there) in
    let word : (a : ℕ) → a < 64 → has from a ≡ goes_beside row.others.items row.last row.to_move t a =
    subst (λ (xs : List Man). ((x : ℕ) → x < 64 → has c.args.check x ≡ in_check (xs ++ on_square row.last x ∷ []) row.to_move)
    → AreOnDistinctSquares (xs ++ on_square row.last t ∷ []) → (a : ℕ) → a < 64 → has from a ≡ goes_beside xs row.last row.to_move t a)
    c.as_slice-others.ensures.value (c.targets_of_last-targets.ensures row.to_move c.requires.side) c.requires.check
    (row_apart row.class (64 * row.number + t) t q.0 q.1 row.others.items row.last row.to_move (row.encoded t f.inside)) in
    gathered-more _ _ _ _ inv _ _ f from _ word c.union-squares.ensures

pub returns-clause-only : goal.returns-clause-only
returns-clause-only c = λ x on e. c.loop-square.invariant.only x on e

pub returns-clause-all : goal.returns-clause-all
returns-clause-all c = λ x on w. c.loop-square.invariant.each x w.0 on w.1 w.2 (none-of-empty _ c.in-None.ensures.steps.0 w.0 w.1) w.3
