use Rattle.std.proofs.Common.{◌≡◌, ℕ, ◌&&◌, Bool, true, false, take}
use Rattle.std.specs.List.{list_any}
use Rattle.study_board.specs.declared.men.Kind.TheVariants.{King}
use Rattle.study_board.specs.Men.{is_man}
use Rattle.study_retro.specs.RowMoves.{IsOnlyKing}
use Rattle.study_retro.proofs.rows.checks.only_king.Given as goal

abbrev pub invariant-loop-m : goal.invariant-loop-m
invariant-loop-m l = record {
  none : l.some ≡ false → (f : ℕ → Bool) → list_any (λ k. is_man l.side King k && f k.at) (take l.m-index l.men) ≡ false;
  one : l.more ≡ false → l.some ≡ true → IsOnlyKing (take l.m-index l.men) l.side l.square;
}
