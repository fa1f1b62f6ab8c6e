-- The reading of a game with any number of men.
use Rattle.std.proofs.Common.{◌≡◌, ℕ, true, false, List, length, Result, Ok, Err, sym, ap, ◌∙◌}
use Rattle.study_board.specs.declared.men.Side.TheVariants.{White}
use Rattle.study_marks.specs.declared.stipulation.Goal.TheVariants.{Win}
use Rattle.study_marks.specs.declared.stipulation.Stipulation.{Stipulation}
use Rattle.study_wide_text.specs.declared.start.WideStart.{WideStart}
use Rattle.study_reading.specs.declared.movetext.MovesFault.{MovesFault}
use Rattle.study_reading.specs.Notes.{GameRead}
use Rattle.study_reading.specs.Movetext.{Ended, read_moves}
use Rattle.study_reading.specs.Behind.{to_the_end}
use Rattle.study_reading.specs.MovesRead.{IsReported}
use Rattle.study_tails.specs.Study.{WideStudy}
use Rattle.study_tails.specs.Followed.{wide_men, no_wide_moves}
use Rattle.study_import.specs.BlocksRead.{is_of_memory}
use Rattle.study_import.specs.Blocks.{wide_ended, wide_read}
use Rattle.study_import.proofs.StoppedBlock.{reported_is}

abbrev any : Stipulation
any = record { hero = White; goal = Win }

abbrev read_from : List ℕ → GameRead WideStudy → Result (Ended WideStudy) MovesFault
read_from text g = to_the_end (read_moves wide_men (length text) true text g)

-- to the end
pub read_whole_is : (text : List ℕ) (start : WideStart) (g : GameRead WideStudy) (x : Ended WideStudy) (study : WideStudy)
    → g ≡ no_wide_moves start any → read_from text g ≡ Ok x → study ≡ x.game.reading.study
    → Ok (record { study = study; notes = x.game.notes; behind = x.behind }) ≡ wide_read text start
unfolding wide_read
read_whole_is text start g x study begun e same =
    ap (λ (s : WideStudy). Ok (record { study = s; notes = x.game.notes; behind = x.behind })) same
    ∙ sym (ap (λ (h : GameRead WideStudy). wide_ended (read_from text h)) (sym begun) ∙ ap wide_ended e)

-- up to a fault
pub read_fault_is : (text : List ℕ) (start : WideStart) (g : GameRead WideStudy) (fault : MovesFault) → g ≡ no_wide_moves start any
    → IsReported fault.why (read_from text g) fault.left → is_of_memory fault.why ≡ false
    → Err fault ≡ wide_read text start
unfolding wide_read
read_fault_is text start g fault begun h none =
    sym (ap (λ (i : GameRead WideStudy). wide_ended (read_from text i)) (sym begun)
    ∙ ap wide_ended (reported_is fault.why (read_from text g) fault.left none h))
