-- A study accepts the text of each tag line.
use Rattle.std.proofs.Common.{◌≡◌, ◌≤◌, ℕ, Bool, true, false, List, length, Option, Some, None, refl, arith}
use Rattle.std.specs.Prelude.{◌==◌, if◌then◌else◌}
use Rattle.std.specs.List.{list_all}
use Rattle.std.proofs.lemmas.Bool.{le-leb, eqb-false, and_parts}
use Rattle.study_marks.specs.declared.tag.TagName.{TagName}
use Rattle.study_marks.specs.declared.tag.TagName.TheVariants as named
use Rattle.study_marks.specs.Edits.{is_printable, is_tag_text}
use Rattle.study_marks.specs.Study.{tag_name}
use Rattle.study_games.specs.Ascii.{spelled_out, short_text}
use Rattle.study_games.specs.Header.{value_of, unescape}
use Rattle.study_import.specs.Blocks.{unknown_text, tag_value_text}
use Rattle.study_import.specs.Laws.{AreTaken}
use Rattle.study_import.proofs.TagTexts.{short_prints, short_few}

unknown_taken : (name : TagName) → is_tag_text (unknown_text name) ≡ true
unknown_taken named.Event = refl
unknown_taken named.Site = refl
unknown_taken named.Date = refl
unknown_taken named.Round = refl
unknown_taken named.White = refl
unknown_taken named.Black = refl

shown_taken : (name : TagName) (text : List ℕ) (empty : Bool) → (length text == 0) ≡ empty → length text ≤ 60 → list_all is_printable text ≡ true
    → is_tag_text (if empty then unknown_text name else text) ≡ true
shown_taken name text true e few prints = unknown_taken name
shown_taken name text false e few prints =
    let some = eqb-false (length text) 0 e in rw (le-leb 1 (length text) (omega arith), le-leb (length text) 60 few, prints) refl

pub text_taken : (name : TagName) (value : Option (List ℕ)) → is_tag_text (tag_value_text name value) ≡ true
text_taken name None = unknown_taken name
text_taken name (Some value) =
    shown_taken name (short_text (spelled_out (unescape value))) (length (short_text (spelled_out (unescape value))) == 0) refl
    (short_few (unescape value)) (short_prints (unescape value))

-- the text of a tag has only printable bytes
pub value_prints : (name : TagName) (value : Option (List ℕ)) → list_all is_printable (tag_value_text name value) ≡ true
value_prints name value = (and_parts _ _ (text_taken name value)).1

pub taken : AreTaken
taken tags name = rw (text_taken name (value_of (tag_name name) tags)) refl
