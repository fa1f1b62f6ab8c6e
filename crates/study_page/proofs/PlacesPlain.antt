-- The place of a study is that of the study without its marks.
use Rattle.std.proofs.Common.{◌≡◌, ℕ, List, ◌++◌, Bool, true, false, refl, sym, ap}
use Rattle.study_board.specs.Position.{Position}
use Rattle.study_tree.specs.Forest.{Forest, none, more}
use Rattle.study_marks.specs.declared.mark.Mark.{Mark}
use Rattle.study_marks.specs.Goals.{aim_of}
use Rattle.study_marks.specs.Study.{Study, mapped, plain_study, tag_of}
use Rattle.study_marks.specs.declared.tag.TagName.TheVariants.{White}
use Rattle.study_moves.specs.Rules.{after}
use Rattle.study_notation.specs.declared.start.Start.{Start}
use Rattle.study_html.specs.declared.element.Element.TheVariants.{Figure}
use Rattle.study_html.specs.Elements.{element_text}
use Rattle.study_head.specs.Diagram.{board}
use Rattle.study_entry.specs.declared.entry.EntryInfo.{EntryInfo}
use Rattle.study_head.specs.Known.{named_words}
use Rattle.study_page.specs.Sheet.{first_words, second_words, key_words, place, place_caption}

first_plain : (start : Start) (d : ℕ) (p : Position) (f : Forest Mark)
    → first_words start d p (mapped (λ (_ : Mark). tt {0}) f) ≡ first_words start d p f
first_plain start d p none = refl
first_plain start d p (more m l below rest) = refl

second_plain : (start : Start) (f : Forest Mark) → second_words start (mapped (λ (_ : Mark). tt {0}) f) ≡ second_words start f
second_plain start none = refl
second_plain start (more m l below rest) = first_plain start 1 (after start.position m) below

key_plain : (start : Start) (hero_first : Bool) (f : Forest Mark)
    → key_words start hero_first (mapped (λ (_ : Mark). tt {0}) f) ≡ key_words start hero_first f
key_plain start true f = first_plain start 0 start.position f
key_plain start false f = second_plain start f

pub place_plain : (s : Study Mark) (entry : EntryInfo) → place s entry ≡ place (plain_study s) entry
unfolding place
place_plain s entry =
    ap (λ (key : List ℕ). element_text Figure (board s.start.position
    ++ place_caption entry.number s.stipulation s.start (named_words entry.origin.names.white (tag_of s.tags White)) key))
    (sym (key_plain s.start (aim_of s).hero_first s.tree.below))
