-- The list of entries with one more.
use Rattle.std.proofs.Common.{◌≡◌, ℕ, Bool, true, false, Result, Ok, Err, List, [], ◌∷◌, ◌++◌, refl, sym, ap, subst, ◌∙◌, append_assoc, append-nil}
use Rattle.std.specs.Prelude.{OnOk, if◌then◌else◌}
use Rattle.study_report.specs.Remarks.{is_left_out}
use Rattle.study_report.specs.Reported.{Entry, game_entry, games_in}
use Rattle.study_print.specs.declared.pages.EntryCount.{EntryCount}
use Rattle.study_print.specs.declared.pages.EntryCount.TheVariants.{Nothing, One, Several}
use Rattle.study_print.specs.Entries.{count_of, left_out_row, IsRowOf, AreRows, AreEntries}

rows_after : (entries : List Entry) (rows : List ℕ) (x : Entry) (row : List ℕ) → IsRowOf x row → AreRows entries rows
    → AreRows (entries ++ x ∷ []) (rows ++ row)
rows_after [] rows x row is e = (row, [], is, refl, ap (λ (t : List ℕ). t ++ row) e ∙ sym (append-nil row))
rows_after (y ∷ more) rows x row is (one, rest, its, tail, e) = (
  one,
  rest ++ row,
  its,
  rows_after more rest x row is tail,
  ap (λ (u : List ℕ). u ++ row) e ∙ append_assoc one rest row,
)

count_after : (entries : List Entry) (x : Entry) (count next : EntryCount) → count ≡ count_of entries
    → (count ≡ Nothing → next ≡ One) → (count ≡ One → next ≡ Several) → (count ≡ Several → next ≡ Several)
    → next ≡ count_of (entries ++ x ∷ [])
count_after [] x count next same f g h = f same
count_after (a ∷ []) x count next same f g h = g same
count_after (a ∷ b ∷ more) x count next same f g h = h same

pub entries_after : (entries : List Entry) (count next : EntryCount) (rows new : List ℕ) (x : Entry) → AreEntries count rows entries
    → (row : List ℕ) × IsRowOf x row × (new ≡ rows ++ row)
    → (count ≡ Nothing → next ≡ One) → (count ≡ One → next ≡ Several) → (count ≡ Several → next ≡ Several)
    → AreEntries next new (entries ++ x ∷ [])
entries_after entries count next rows new x (same, are) (row, is, e) f g h = (
  count_after entries x count next same f g h,
  subst (λ (t : List ℕ). AreRows (entries ++ x ∷ []) t) (sym e) (rows_after entries rows x row is are),
)

-- with the game that was left out
pub game_after : (entries : List Entry) (count next : EntryCount) (number : ℕ) (rows new line : List ℕ) → is_left_out line ≡ true
    → AreEntries count rows entries → new ≡ rows ++ left_out_row number line
    → (count ≡ Nothing → next ≡ One) → (count ≡ One → next ≡ Several) → (count ≡ Several → next ≡ Several)
    → AreEntries next new (entries ++ games_in number line)
game_after entries count next number rows new line out are e f g h =
    subst (λ (b : Bool). AreEntries next new (entries ++ (if b then game_entry line number ∷ [] else []))) (sym out)
    (entries_after entries count next rows new (game_entry line number) are (left_out_row number line, refl, e) f g h)

pub on-ok : {A E : Type 0} (r : Result A E) (P : Type 0) → P → OnOk r P
on-ok (Ok x) P h = h
on-ok (Err e) P h = tt

-- another remark is no entry
pub no_game_after : (entries : List Entry) (count : EntryCount) (number : ℕ) (rows line : List ℕ) → is_left_out line ≡ false
    → AreEntries count rows entries → AreEntries count rows (entries ++ games_in number line)
no_game_after entries count number rows line out are =
    subst (λ (b : Bool). AreEntries count rows (entries ++ (if b then game_entry line number ∷ [] else []))) (sym out)
    (subst (AreEntries count rows) (sym (append-nil entries)) are)
