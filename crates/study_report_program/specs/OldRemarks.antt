-- A script of version 1.7 as one of today.
use Rattle.std.specs.Prelude.{ℕ, ◌==◌, Bool, true, false, ◌&&◌, List, [], ◌∷◌, ◌++◌, if◌then◌else◌, codes}
use Rattle.study_report_program.specs.declared.old_remarks.LinePart.{LinePart}
use Rattle.study_report_program.specs.declared.old_remarks.LinePart.TheVariants.{Start, Hash, Rest}

abbrev pub is_start : LinePart → Bool
is_start Start = true
is_start Hash = false
is_start Rest = false

abbrev pub is_hash : LinePart → Bool
is_hash Start = false
is_hash Hash = true
is_hash Rest = false

-- `# ` at the front of a line
abbrev pub is_old : LinePart → ℕ → Bool
is_old part byte = is_hash part && byte == 32

-- how far the line is read after one byte more
abbrev pub part_after : LinePart → ℕ → LinePart
part_after part byte = if byte == 10 then Start else (if is_start part && byte == 35 then Hash else Rest)

-- the rest of a script of which a line was read so far: each line that begins with `# ` begins with `#! `
abbrev pub renewed : LinePart → List ℕ → List ℕ
renewed part [] = []
renewed part (byte ∷ bytes) = (if is_old part byte then codes "! " else byte ∷ []) ++ renewed (part_after part byte) bytes

-- the same, after the space that is owed
abbrev pub renewed_behind : Bool → LinePart → List ℕ → List ℕ
renewed_behind owed part bytes = (if owed then codes " " else []) ++ renewed part bytes
