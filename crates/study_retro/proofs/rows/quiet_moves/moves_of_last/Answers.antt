use Rattle.std.proofs.Common.{◌≡◌, ℕ, ◌+◌, ◌*◌, ◌<◌, ◌&&◌, ◌⊎◌, ◌++◌, ◌∷◌, [], not, Bool, true, false, List, inl, inr, refl, sym, ◌∙◌, subst}
use Rattle.std.proofs.lemmas.Bool.{and_parts, false≢true, not-false, not-true}
use Rattle.study_board.specs.declared.men.Man.{Man}
use Rattle.study_board.specs.Position.{in_check}
use Rattle.study_board.specs.Sets.{has}
use Rattle.study_board.proofs.SquareLists.{first-of, none-of-empty}
use Rattle.study_retro.specs.RowEscapes.{Goes, goes_beside}
use Rattle.study_retro.specs.RowMoves.{AreOnDistinctSquares}
use Rattle.study_retro.specs.Still.{on_square}
use Rattle.study_retro.proofs.RowBackLemmas.{row_apart}
use Rattle.study_retro.proofs.SquaresKept.{has-if, kept-none, kept-if}
use Rattle.study_retro.proofs.rows.quiet_moves.moves_of_last.Goals as goal

pub loop-square-init : goal.loop-square-init
loop-square-init c = record {
  kept = kept-none _ _ _ _ _ c.into_iter-square-iterator.ensures.into_iter_gives c.empty.ensures;
  some = λ y on e. inl e;
}

inside : (a b : Bool) → a ≡ true → (a && not b) ≡ false → b ≡ true
inside a true e f = refl
inside true false e f = absurd (false≢true (sym f))
inside false false e f = absurd (false≢true e)

pub loop-square-preserved : goal.loop-square-preserved
loop-square-preserved c =
    let f = first-of _ _ _ c.in-Some.ensures.steps in
    let t = c.in-Some.square in
    let inv = c.loop-square.invariant in
    let row = c.args.row.now in
    let lost = c.args.lost in
    let into = inv.kept.among t f.inside f.there in
    let q = c.requires.numbered t f.inside into in
    let targets = c.targets_of_last-targets.result in
    let word : (x : ℕ) → x < 64 → has targets x ≡ goes_beside row.others.items row.last row.to_move t x =
    subst (λ (xs : List Man). ((x : ℕ) → x < 64 → has c.args.check x ≡ in_check (xs ++ on_square row.last x ∷ []) row.to_move)
    → AreOnDistinctSquares (xs ++ on_square row.last t ∷ []) → (x : ℕ) → x < 64 → has targets x ≡ goes_beside xs row.last row.to_move t x)
    c.as_slice-others.ensures.value (c.targets_of_last-targets.ensures row.to_move c.requires.side) c.requires.check
    (row_apart row.class (64 * row.number + t) t q.0 q.1 row.others.items row.last row.to_move (row.encoded t f.inside)) in
    record {
      kept = kept-if _ _ _ _ _ inv.kept _ _ f t refl _ _ c.with-seen.ensures.losing
          (λ e x on goes. inside (has targets x) (has lost x) (word x on ∙ goes)
          (sym (c.without.ensures x on) ∙ c.has_any.ensures.none (not-true _ e) x))
          (λ e.
          let some = c.has_any.ensures.some (not-false _ e) in
          let both = and_parts (has targets some.0) (not (has lost some.0)) (sym (c.without.ensures some.0 some.1) ∙ some.2) in
          (some.0, some.1, sym (word some.0 some.1) ∙ both.0, not-true _ both.1));
      some = has-if c.loop-square.seen.some t _ _ c.with-seen.ensures.some
          (λ (y : ℕ). (has c.args.so_far.some y ≡ true) ⊎ (has c.args.so_far.losing y ≡ true) × Goes row.others.items row.last row.to_move y) inv.some
          (λ e.
          let some = c.has_any-in-loop-square.ensures.some e in
          inr (into, (some.0, some.1, sym (word some.0 some.1) ∙ some.2)));
    }

pub returns-clause-only : goal.returns-clause-only
returns-clause-only c = λ y on e. (c.loop-square.invariant.kept.keeps y on e).0

pub returns-clause-yes : goal.returns-clause-yes
returns-clause-yes c = λ y x on e. (c.loop-square.invariant.kept.keeps y on e).1 x

pub returns-clause-no : goal.returns-clause-no
returns-clause-no c = λ y on e n. c.loop-square.invariant.kept.others y on e (none-of-empty _ c.in-None.ensures.steps.0 y on) n
