use Rattle.std.proofs.Common.{◌≡◌, ℕ, ◌∙◌, ap}
use Rattle.study_board.specs.Geometry.{ranks_apart, distance_between, rank_of}
use Rattle.study_retro.proofs.Jumps.{unjumped, not_two}
use Rattle.study_retro.proofs.numbers.en_passant.leaves_passed_square.Goals as goal

pub returns-then-abs_diff-ne2 : goal.returns-then-abs_diff-ne2
returns-then-abs_diff-ne2 c = λ e.
    let a = c.rank.ensures.value in
    let b = c.rank-2.ensures.value in
    let same : c.abs_diff.result ≡ ranks_apart c.args.by.now.origin c.args.by.now.target =
    c.abs_diff.ensures ∙ (ap (λ (x : ℕ). distance_between x c.rank-2.result) a ∙ ap (λ (x : ℕ). distance_between (rank_of c.args.by.now.origin) x) b) in
    unjumped c.args.from.now c.args.by.now c.requires (not_two (ranks_apart c.args.by.now.origin c.args.by.now.target)
    (λ f. c.if-abs_diff-ne2.true (same ∙ f)))
