-- Faults over the rows of a study in written order: a node, all below its first child, then all below its second.
use Rattle.std.specs.Prelude.{ℕ, ◌+◌, Bool, true, false, nat_lt, nat_eq, List, [], ◌∷◌, Option, Some, None, zero, suc, if◌then◌else◌}
use Rattle.study_tree.specs.Rows.{Row}
use Rattle.study_marks.specs.declared.mark.Mark.{Mark}
use Rattle.study_marks.specs.declared.mark.MoveMark.{MoveMark}
use Rattle.study_marks.specs.declared.mark_rules.Aim.{Aim}
use Rattle.study_marks.specs.Goals.{hero_moves}
use Rattle.study_marks.specs.Marks.{own_faults}

-- the step to a row of this depth, from a row before it of depth d, is a solution step: the opponent makes it, or the row is a
-- first child, which follows its parent at once
abbrev pub is_solution_step : Aim → ℕ → ℕ → Bool
is_solution_step a d zero = true
is_solution_step a d (suc e) = if hero_moves a e then nat_eq d e else true

-- 1 if the move that led to a row of this depth is the hero's, and a dual or a mistake
abbrev pub fault_at : Aim → ℕ → Option MoveMark → ℕ
fault_at a zero mark = 0
fault_at a (suc e) mark = own_faults (hero_moves a e) mark

-- the row is below one at depth c to which no solution step leads
abbrev pub is_below : Option ℕ → ℕ → Bool
is_below None e = false
is_below (Some c) e = nat_lt c e

-- The number of faults, among these rows, that solution steps join to the first row of their block. The row before them has depth d; the last step that is
-- not a solution step, if the rows may still be below it, led to depth c.
abbrev pub joined_faults : Aim → ℕ → Option ℕ → List (Row Mark) → ℕ
joined_faults a d c [] = 0
joined_faults a d c (x ∷ xs) =
    if is_below c x.depth then joined_faults a x.depth c xs
    else (if is_solution_step a d x.depth then fault_at a x.depth x.label.on_move + joined_faults a x.depth None xs
    else joined_faults a x.depth (Some x.depth) xs)

-- the faults of a block: its first row, and the rows that solution steps join to it
abbrev pub block_faults : Aim → List (Row Mark) → ℕ
block_faults a [] = 0
block_faults a (x ∷ xs) = fault_at a x.depth x.label.on_move + joined_faults a x.depth None xs
