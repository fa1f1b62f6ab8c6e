-- Not part of any public contract: the image of a square, computed on its bits.
use Rattle.std.specs.Prelude.{ℕ, ◌+◌, ◌*◌, ◌/◌, ◌%◌, Bool, true, false, cond, bit_xor}
use Rattle.study_board.specs.declared.symmetry.Symmetry.{Symmetry}

abbrev pub transpose_if : Bool → ℕ → ℕ
transpose_if true x = x % 8 * 8 + x / 8
transpose_if false x = x

unfoldable pub turned_bits : Symmetry → ℕ → ℕ
turned_bits t x = bit_xor (transpose_if t.diagonal (bit_xor (bit_xor x (cond t.files 7 0)) (cond t.ranks 56 0))) (cond t.colours 56 0)
