use Rattle.std.proofs.Common.{◌≤◌, length}
use Rattle.std.proofs.lemmas.Bool.{le-ltb}
use Rattle.study_board.proofs.SoundMen.{IsValid-from_IsSound}
use Rattle.study_wide.proofs.play.narrow.Goals as goal

pub of-requires : goal.of-requires
of-requires c =
    let p = c.args.p.now.board in
    let at_most : length p.men ≤ 4 = rw (← c.men.ensures.value) c.if-men-le4.true in
    rw (c.copied_men.ensures, c.men-then-not-any.ensures.value, c.to_move.ensures, c.passed.ensures)
    (IsValid-from_IsSound p c.men.ensures.valid.sound (le-ltb 4 (length p.men) at_most))
