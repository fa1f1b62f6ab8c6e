-- The index of a position as a function, as it is computed.
use Rattle.std.specs.Prelude.{ℕ, Bool, nat_le, List, [], ◌∷◌, unwrap_or, if◌then◌else◌}
use Rattle.study_board.specs.declared.men.Man.{Man}
use Rattle.study_board.specs.Position.{Position}
use Rattle.study_board.specs.Symmetry.{turned_side}
use Rattle.study_moves.specs.EnPassant.{has_legal_en_passant}
use Rattle.study_material.specs.Lists.{is_swapped}
use Rattle.study_values.specs.Slots.{man_slot_number}
use Rattle.study_values.specs.Number.{has_pawn, with_bit}
use Rattle.study_values.specs.Canonical.{canonical_number}

-- a man inserted after those of no later slot
unfoldable pub insert_by_slot : Bool → Man → List Man → List Man
insert_by_slot c m [] = m ∷ []
insert_by_slot c m (x ∷ xs) = if nat_le (man_slot_number c x) (man_slot_number c m) then x ∷ insert_by_slot c m xs else m ∷ x ∷ xs

-- the men in the order of their slots
abbrev pub sort_by_slot : Bool → List Man → List Man
sort_by_slot c [] = []
sort_by_slot c (m ∷ ms) = insert_by_slot c m (sort_by_slot c ms)

-- the least number of a valid position
unfoldable pub least_number : Position → ℕ
least_number p = unwrap_or (canonical_number (has_pawn p.men) (turned_side (is_swapped p.men) p.to_move) (is_swapped p.men)
    (sort_by_slot (is_swapped p.men) p.men)) 0

-- the index of a valid position
unfoldable pub index_of : Position → ℕ
index_of p = with_bit (has_legal_en_passant p) (least_number p)
