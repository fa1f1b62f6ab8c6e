-- A game is read to its end.
use Rattle.std.proofs.Common.{◌≡◌, length, true, false, None, Result, Ok, Err, refl, ap, subst, arith}
use Rattle.study_games.specs.Header.{tags_of, header_fault}
use Rattle.study_board.specs.declared.men.Side.TheVariants.{White}
use Rattle.study_marks.specs.declared.stipulation.Goal.TheVariants.{Win}
use Rattle.study_marks.specs.declared.stipulation.Stipulation.{Stipulation}
use Rattle.study_reading.specs.declared.movetext.MovesFault.{MovesFault}
use Rattle.study_reading.specs.Movetext.{Ended, read_moves as read_moves_by}
use Rattle.study_tails.specs.Study.{WideStudy}
use Rattle.study_tails.specs.Followed.{wide_men, no_wide_moves}
use Rattle.study_import.specs.Blocks.{no_moves, game_read, WideRead, wide_ended, wide_read}
use Rattle.study_import.specs.Laws.{AreWhole}
use Rattle.study_import.proofs.Whole.{tags_same, fault_same}
use Rattle.study_import.specs.FewMen.{few_men, read_moves}
use Rattle.study_reading.proofs.ReadWhole.{moves_same}
use Rattle.study_reading.specs.Behind.{moves_in, to_the_end}
use Rattle.study_reading.proofs.NoneBehind.{left_same, none_behind}
use Rattle.study_import.proofs.TailFound.{tail_whole}

any : Stipulation
any = record { hero = White; goal = Win }

wide_none : (x : Result (Ended WideStudy) MovesFault) (y : WideRead) → wide_ended (to_the_end x) ≡ Ok y → moves_in y.behind ≡ None
wide_none x y e = go (to_the_end x) refl e
  where
    go : (z : Result (Ended WideStudy) MovesFault) → to_the_end x ≡ z → wide_ended z ≡ Ok y → moves_in y.behind ≡ None
    go (Err fault) is h = let no : ⊥ = cc in absurd no
    go (Ok w) is h =
        let one : record { study = w.game.reading.study; notes = w.game.notes; behind = w.behind } ≡ y = cc in
        subst (λ (v : WideRead). moves_in v.behind ≡ None) one (none_behind x w is)

pub are_whole : AreWhole
unfolding game_read wide_read any tags_of header_fault moves_in
are_whole text n le = record {
  moves = λ start. ap to_the_end (moves_same few_men n (length text) true text (no_moves start) le (omega arith));
  behind = left_same n (length text) false text le (omega arith);
  ended = λ start x e. none_behind (read_moves (length text) true text (no_moves start)) x e;
  wide_moves = λ start.
      ap (λ (x : Result (Ended WideStudy) MovesFault). wide_ended (to_the_end x))
      (moves_same wide_men n (length text) true text (no_wide_moves start any) le (omega arith));
  wide_behind = λ start x e. wide_none (read_moves_by wide_men (length text) true text (no_wide_moves start any)) x e;
  tail = tail_whole text n le;
  tags = tags_same n (length text) true text le (omega arith);
  fault = fault_same n (length text) true text le (omega arith);
}
