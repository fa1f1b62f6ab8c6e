use Rattle.std.proofs.Common.{◌≡◌, ℕ, ◌<◌, ◌≤◌, ◌&&◌, Bool, length, take}
use Rattle.std.specs.List.{list_any}
use Rattle.study_board.specs.declared.men.Man.{Man}
use Rattle.study_board.specs.Men.{attacks_square, same_side}
use Rattle.study_board.specs.Sets.{has}
use Rattle.study_retro.proofs.rows.checks.attackers_of.Given as goal

abbrev pub invariant-loop-m : goal.invariant-loop-m
invariant-loop-m l = record {
  few : length l.list.items ≤ l.m-index;
  bear : (x : ℕ) → x < 64 → (p : Man → Bool) → list_any (λ b. has b.squares x && p b.man) l.list.items
      ≡ list_any (λ m. (same_side m.side l.by && attacks_square l.men m x) && p m) (take l.m-index l.men);
}
