-- A file of pages is well nested between its opening and its closing.
use Rattle.std.proofs.Common.{◌≡◌, ℕ, suc, ◌+◌, Bool, true, false, List, [], ◌∷◌, ◌++◌, Option, Some, None, Result, Ok, Err, inl, inr, sym, ap, subst}
use Rattle.std.proofs.Common.{append_assoc, refl}
use Rattle.std.specs.Prelude.{IfSome, codes, if◌then◌else◌}
use Rattle.std.specs.Io.KnownBytes.{Appends}
use Rattle.std.proofs.KnownBytes.{Appends-trans}
use Rattle.std.proofs.lemmas.Bool.{false≢true}
use Rattle.study_script.specs.declared.running.Summary.{Summary}
use Rattle.study_script.specs.declared.running.RunFault.{RunFault}
use Rattle.study_script.specs.declared.running.RunFault.TheVariants.{ReadDevice, WriteDevice, LineTooLong, TooManyLines, OutOfMemory}
use Rattle.study_script.specs.Written.{Piece}
use Rattle.study_report.specs.declared.line_kind.LineKind.{LineKind}
use Rattle.study_report.specs.declared.line_kind.LineKind.TheVariants.{Remark, PassedOver, NoClass, Study, Checked}
use Rattle.study_report.specs.Reported.{line_kind, entry_count}
use Rattle.study_report.specs.Remarks.{begins, statement, is_left_out, is_not_read}
use Rattle.study_command.specs.Documents.{Document, empty}
use Rattle.study_report.specs.Parts.{Part, nothing_part, refused_part, remark_part, parts_text, IsPartAs, AreParts, AreWritten, Fits}
use Rattle.study_html.specs.declared.element.Element.{Element}
use Rattle.study_html.specs.declared.element.Element.TheVariants.{Code, Head, Heads, Header, Note, Row, Rows, Strong, Table, Title, Warning}
use Rattle.study_html.specs.declared.element.Element.TheVariants as element
use Rattle.study_html.specs.Escape.{escaped_text}
use Rattle.study_html.specs.Elements.{element_text}
use Rattle.study_html.specs.Frame.{page_opening, page_closing}
use Rattle.study_html.specs.Markup.{IsWellNested}
use Rattle.study_html.proofs.MarkupGrows.{none_nested, both_nested, said_nested, spelled_nested, inside_nested}
use Rattle.study_entry.specs.declared.entry.EntryInfo.{EntryInfo}
use Rattle.study_report.specs.declared.unread_line.Unread.{Unread}
use Rattle.study_report.specs.Unread.{none_unread, unread_after}
use Rattle.study_page.specs.Page.{IsEntry}
use Rattle.study_page.specs.Lists.{refusal_words, refusal_part, summary_title, summary_part, two_heads, three_heads}
use Rattle.study_print.specs.declared.pages.EntryCount.{EntryCount}
use Rattle.study_print.specs.declared.pages.EntryCount.TheVariants.{Nothing, One, Several}
use Rattle.study_print.specs.Remarks.{left_out_words, left_out_part, fault_words, not_read_words, not_read_part, note_part, is_name, note_text, remark_text}
use Rattle.study_print.specs.Pages.{IsEntryAs, refusal_text, summary_text, end_text, writer_failed, IsEndedIf, IsEnded, IsWholeFile, IsWholeUnlessCut}

-- ---- what a line writes

word : (w : List ℕ) → IsWellNested (escaped_text w)
word w = said_nested [] w none_nested

within : (e : Element) (i : List ℕ) → IsWellNested i → IsWellNested (element_text e i)
within e i h = inside_nested [] i e none_nested h

refusal_nested : (number : ℕ) (text name reason : List ℕ) → IsWellNested (refusal_part number text name reason)
unfolding refusal_words
refusal_nested number text name reason =
    within Warning _ (both_nested _ _ (word _) (both_nested _ _ (within Code _ (word text)) (both_nested _ _ (word _)
    (both_nested _ _ (within Strong _ (word name)) (both_nested _ _ (word _) (word reason))))))

entry_nested : (number : ℕ) (text : List ℕ) → IsEntry number text → IsWellNested text
entry_nested number text entry = subst IsWellNested (sym entry.2) (within (element.Entry number) entry.0 entry.1)

explained_nested : (own : Bool) (reason : List ℕ) → IsWellNested (if own then [] else escaped_text (codes ": ") ++ escaped_text reason)
explained_nested true reason = none_nested
explained_nested false reason = both_nested _ _ (word _) (word _)

left_out_nested : (number : ℕ) (line : List ℕ) → IsWellNested (left_out_part number line)
unfolding left_out_part left_out_words
left_out_nested number line =
    within Warning _ (both_nested _ _ (word _) (both_nested _ _ (word _) (explained_nested (begins (statement line) (codes "left out: ")) _)))

not_read_nested : (line : List ℕ) → IsWellNested (not_read_part line)
unfolding not_read_part not_read_words
not_read_nested line =
    within Warning _ (both_nested _ _ (word _) (both_nested _ _ (word _) (both_nested _ _ (word _) (both_nested _ _ (word _)
    (explained_nested (begins (fault_words line) (codes "left out: ")) _)))))

note_nested : (line : List ℕ) → IsWellNested (note_part line)
unfolding note_part
note_nested line = within Note _ (spelled_nested [] _ none_nested)

note_text_nested : (line : List ℕ) (name : Bool) → IsWellNested (if name then [] else note_part line)
note_text_nested line true = none_nested
note_text_nested line false = note_nested line

remark_nested : (number : ℕ) (line : List ℕ) (left_out not_read : Bool)
    → IsWellNested (if left_out then left_out_part number line else (if not_read then not_read_part line else note_text line))
remark_nested number line true not_read = left_out_nested number line
remark_nested number line false true = not_read_nested line
remark_nested number line false false = note_text_nested line (is_name line)

text_nested : (part whole : Part) → part ≡ whole → IsWellNested whole.text → IsWellNested part.text
text_nested part whole e h = subst (λ (p : Part). IsWellNested p.text) (sym e) h

checked_nested : (number : ℕ) (line : List ℕ) (piece : Piece) (refused : Bool)
    → IsWellNested (if refused then refused_part IsEntryAs refusal_text remark_text number line piece.text else nothing_part).text
checked_nested number line piece true = refusal_nested number line _ _
checked_nested number line piece false = none_nested

part_nested : (kind : LineKind) (number : ℕ) (next : EntryInfo) (here : Document) (line : List ℕ) (part : Part)
    → IsPartAs IsEntryAs refusal_text remark_text kind number next here line part → IsWellNested part.text
part_nested Remark number next here line part h =
    text_nested part (remark_part IsEntryAs refusal_text remark_text next.number line) h (remark_nested next.number line (is_left_out line) (is_not_read line))
part_nested PassedOver number next here line part h = text_nested part nothing_part h none_nested
part_nested NoClass number next here line part h = text_nested part _ h (refusal_nested number line _ _)
part_nested Study number next here line part (inl h) = text_nested part _ h.1 (refusal_nested number line _ _)
part_nested Study number next here line part (inr (plain, text, at, entry, is)) = text_nested part _ is (entry_nested next.number text entry)
part_nested Checked number next here line part h = text_nested part _ h.2 (checked_nested number line h.0 h.0.refused)

parts_nested : (lines entries : ℕ) (unread : Unread) (here there : Document) (texts : List (List ℕ)) (parts : List Part)
    → AreParts IsEntryAs refusal_text remark_text lines entries unread here texts parts there → IsWellNested (parts_text parts)
parts_nested lines entries unread here there [] [] h = none_nested
parts_nested lines entries unread here there [] (part ∷ parts) h = absurd h
parts_nested lines entries unread here there (line ∷ more) [] h = absurd h
parts_nested lines entries unread here there (line ∷ more) (part ∷ parts) (is, (next, goes, are)) =
    both_nested part.text (parts_text parts) (part_nested (line_kind line) (suc lines) (record { number = suc entries; origin = unread.own }) here line part is)
    (parts_nested (suc lines) (entries + entry_count part.reported) (unread_after unread (suc lines) line part.reported) next there more parts are)

-- ---- the list of all entries

heads_nested : (a b c d e : List ℕ) → IsWellNested (element_text Heads (element_text Row (two_heads a b ++ three_heads c d e)))
unfolding two_heads three_heads
heads_nested a b c d e =
    let head : (w : List ℕ) → IsWellNested (element_text Head (escaped_text w)) = λ w. within Head _ (word w) in
    within Heads _ (within Row _ (both_nested _ _ (both_nested _ _ (head a) (head b)) (both_nested _ _ (head c) (both_nested _ _ (head d) (head e)))))

list_nested : (rows : List ℕ) → IsWellNested rows → IsWellNested (summary_part rows)
unfolding summary_title
list_nested rows h =
    within element.Summary _ (both_nested _ _ (within Header _ (within Title _ (word _)))
    (within Table _ (both_nested _ _ (heads_nested _ _ _ _ _) (within Rows rows h))))

summary_nested : (count : EntryCount) (rows : List ℕ) → IsWellNested rows → IsWellNested (summary_text count rows)
summary_nested Nothing rows h = none_nested
summary_nested One rows h = none_nested
summary_nested Several rows h = list_nested rows h

-- ---- the file

module _ (old begun ended new : Option (List ℕ)) (count : EntryCount) (rows : List ℕ) (nested : IsWellNested rows) where
  whole : (lines : List (List ℕ)) (refusals : ℕ) → Appends old begun page_opening
      → AreWritten IsEntryAs refusal_text remark_text empty lines begun ended refusals
      → Appends ended new (end_text count rows) → IsWholeFile old new
  whole lines refusals opened written closed =
      let parts = parts_text written.0 in
      let list = summary_text count rows in (
        parts ++ list,
        both_nested parts list (parts_nested 0 0 none_unread empty written.1 lines written.0 written.2) (summary_nested count rows nested),
        subst (Appends old new) (ap (λ (t : List ℕ). page_opening ++ t) (sym (append_assoc parts list page_closing)))
            (Appends-trans old begun new page_opening (parts ++ (list ++ page_closing)) opened
            (Appends-trans begun ended new parts (list ++ page_closing) written.3 closed)),
      )

  pub whole_by : (script : List ℕ) (left : Option (List ℕ)) (answer : Result Summary RunFault) → Appends old begun page_opening
      → Fits IsEntryAs refusal_text remark_text empty script left begun ended answer → Appends ended new (end_text count rows) → IsWholeUnlessCut old new answer
  whole_by script left (Ok summary) opened fits closed = whole _ _ opened fits closed
  whole_by script left (Err ReadDevice) opened fits closed = whole _ _ opened fits.4 closed
  whole_by script left (Err (LineTooLong n)) opened fits closed = whole _ _ opened fits.1 closed
  whole_by script left (Err TooManyLines) opened fits closed = whole _ _ opened fits.1 closed
  whole_by script left (Err WriteDevice) opened fits closed = tt
  whole_by script left (Err OutOfMemory) opened fits closed = tt

  cut : (ran answer : Result Summary RunFault) → writer_failed ran ≡ true → answer ≡ ran → IsWholeUnlessCut old new answer
  cut (Err WriteDevice) answer broken same = subst (IsWholeUnlessCut old new) (sym same) tt
  cut (Ok summary) answer broken same = absurd (false≢true broken)
  cut (Err ReadDevice) answer broken same = absurd (false≢true broken)
  cut (Err (LineTooLong n)) answer broken same = absurd (false≢true broken)
  cut (Err TooManyLines) answer broken same = absurd (false≢true broken)
  cut (Err OutOfMemory) answer broken same = absurd (false≢true broken)

  ended_if : (broken : Bool) (script : List ℕ) (left : Option (List ℕ)) (ran answer : Result Summary RunFault) → writer_failed ran ≡ broken
      → Appends old begun page_opening → Fits IsEntryAs refusal_text remark_text empty script left begun ended ran
      → IsEndedIf broken (end_text count rows) ended new ran answer → IsWholeUnlessCut old new answer
  ended_if true script left ran answer broken opened fits end = cut ran answer broken end.0
  ended_if false script left ran answer broken opened fits (inl end) =
      subst (IsWholeUnlessCut old new) (sym end.0) (whole_by script left ran opened fits end.1)
  ended_if false script left ran answer broken opened fits (inr (inl end)) = subst (IsWholeUnlessCut old new) (sym end.0) tt
  ended_if false script left ran answer broken opened fits (inr (inr end)) = subst (IsWholeUnlessCut old new) (sym end.0) tt

  pub whole_file : (left : Option (List ℕ)) (given : Option (List ℕ)) (ran answer : Result Summary RunFault) → Appends old begun page_opening
      → IfSome given (λ bytes. Fits IsEntryAs refusal_text remark_text empty bytes left begun ended ran) → IsEnded (end_text count rows) ended new ran answer
      → IfSome given (λ bytes. IsWholeUnlessCut old new answer)
  whole_file left None ran answer opened fits end = tt
  whole_file left (Some script) ran answer opened fits end = ended_if (writer_failed ran) script left ran answer refl opened fits end
