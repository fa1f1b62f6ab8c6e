-- The part of a page with the verdict.
use Rattle.std.specs.Prelude.{ℕ, ◌==◌, Bool, true, false, not, ◌||◌, List, [], ◌++◌, length, if◌then◌else◌}
use Rattle.study_head.specs.declared.verdict.Stamp.{Stamp}
use Rattle.study_head.specs.declared.verdict.Stamp.TheVariants.{Wins, Mates, Misses, Fails, Cooked, Sound, Correct, Duals, NotRead, Refuted, Works}
use Rattle.study_head.specs.declared.verdict.Judgement.{Judgement}
use Rattle.study_head.specs.Verdict.{stamp_words, sentence, start_words}
use Rattle.study_html.specs.declared.element.Element.{Element}
use Rattle.study_html.specs.declared.element.Element.TheVariants as element
use Rattle.study_html.specs.Escape.{escaped_text}
use Rattle.study_html.specs.Elements.{element_text}

abbrev pub stamp_element : Stamp → Element
stamp_element (Wins side) = element.Wrong
stamp_element (Mates side v) = element.Wrong
stamp_element (Misses x) = element.Wrong
stamp_element (Fails m reply) = element.Wrong
stamp_element (Cooked m) = element.Wrong
stamp_element (Sound wastes missing) = element.Sound
stamp_element Correct = element.Sound
stamp_element (Duals duals counts missing) = element.Unsound
stamp_element (NotRead line) = element.Unsound
stamp_element Refuted = element.Sound
stamp_element Works = element.Unsound

-- duals are shown behind a verdict, unless the stipulation is wrong or the line is a try
abbrev pub shows_duals : Stamp → Bool
shows_duals (Wins side) = false
shows_duals (Mates side v) = false
shows_duals (Misses x) = false
shows_duals Refuted = false
shows_duals Works = false
shows_duals _ = true

unfoldable pub stamp_part : Stamp → List ℕ
stamp_part v = element_text element.Heading (element_text (stamp_element v) (escaped_text (stamp_words v)))

abbrev pub fault_list : Stamp → List ℕ → List ℕ
fault_list x items = if not (shows_duals x) || (length items == 0) then [] else element_text element.Faults items

-- the stamp, what it says, the value of the start, and these faults
unfoldable pub verdict_part : Judgement → List ℕ → List ℕ
verdict_part j faults =
    element_text element.Verdict (stamp_part j.stamp ++ (element_text element.Paragraph (escaped_text (sentence j.empty j.stamp))
    ++ (element_text element.Paragraph (escaped_text (start_words j.first j.value)) ++ fault_list j.stamp faults)))
