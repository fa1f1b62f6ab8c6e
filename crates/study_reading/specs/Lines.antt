-- The current line, and the lines that wait for the end of a variation.
use Rattle.std.specs.Prelude.{◌≡◌, ℕ, ◌-◌, nat_le, List, [], ◌∷◌, ◌++◌, length, take, reverse, slice_index, Result, Ok, Err, if◌then◌else◌}
use Rattle.study_text.specs.Counts.{next_count}
use Rattle.study_reading.specs.declared.lines.Waiting.{Waiting}
use Rattle.study_reading.specs.declared.lines.LineFault.{LineFault}
use Rattle.study_reading.specs.declared.lines.LineFault.TheVariants.{NoMoveBefore, TooNested, NotOpened, OutOfMemory}

-- the node at which the next move is made; the length of its path when the line began; the waiting lines, the innermost first; and 0, or the depth of
-- parentheses after a null move of this line, including the line's own
pub record Lines : Type 0 where
  pub path : List ℕ
  pub begun : ℕ
  pub waiting : List Waiting
  pub cut : ℕ

abbrev pub lines_of : List ℕ → ℕ → List Waiting → ℕ → Lines
lines_of path begun waiting cut = record { path = path; begun = begun; waiting = reverse waiting; cut = cut }

-- a variation begins: it replaces the last move, whose place is kept
abbrev pub lines_in_variation : Lines → Lines
lines_in_variation l = record {
  path = take (length l.path - 1) l.path;
  begun = length l.path - 1;
  waiting = record { replaced = slice_index l.path (length l.path - 1); begun = l.begun } ∷ l.waiting;
  cut = 0;
}

unfoldable pub begin_line : Lines → Result Lines LineFault
begin_line l =
    if nat_le 1 l.cut then Ok (record l { cut = next_count l.cut })
    else (if nat_le (length l.path) l.begun then Err NoMoveBefore
    else (if nat_le 256 (length l.waiting) then Err TooNested
    else Ok (lines_in_variation l)))

-- the waiting line continues after the move that the variation replaced
abbrev pub lines_after_variation : Lines → List Waiting → Result Lines LineFault
lines_after_variation l [] = Err NotOpened
lines_after_variation l (w ∷ ws) = Ok (record { path = take l.begun l.path ++ w.replaced ∷ []; begun = w.begun; waiting = ws; cut = 0 })

unfoldable pub end_line : Lines → Result Lines LineFault
end_line l = if nat_le 2 l.cut then Ok (record l { cut = l.cut - 1 }) else lines_after_variation l l.waiting

-- the result, and the lines after it, unless there was no memory, which ends the run
abbrev pub Leads : {T : Type 0} → Result T LineFault → Result Lines LineFault → Lines → Lines → Type 0
Leads (Ok x) expected old new = expected ≡ Ok new
Leads (Err OutOfMemory) expected old new = Unit {0}
Leads (Err fault) expected old new = (expected ≡ Err fault) × (new ≡ old)
