use Rattle.std.proofs.Common.{List, ℕ, ◌++◌, ◌∷◌, [], ap, ◌∙◌, append_assoc, arith}
use Rattle.study_games.specs.Symbols.{with_letters}
use Rattle.study_games.proofs.Figurines.{letter_read}
use Rattle.study_games.proofs.spelling.with_letters.Goals as goal

pub loop-letter-preserved : goal.loop-letter-preserved
loop-letter-preserved c =
    let r = letter_read c.in-Some.letter c.in-Some.behind.now c.loop-letter.rest.now c.in-Some.ensures in (
      ap (λ (xs : List ℕ). xs ++ with_letters c.in-Some.behind.now) c.push.ensures.items
          ∙ append_assoc c.loop-letter.out.items (c.in-Some.letter ∷ []) (with_letters c.in-Some.behind.now)
          ∙ ap (λ (xs : List ℕ). c.loop-letter.out.items ++ xs) r.same ∙ c.loop-letter.invariant.0,
      omega (arith, r.less, c.push.ensures.len, c.loop-letter.invariant.1),
    )
