-- Not part of any public contract: coordinates and the bytes after them as contracts see them.
use Rattle.std.specs.Prelude.{ℕ, List}
use Rattle.std.specs.Borrow.{Bor}
use Rattle.study_notation.specs.declared.san_parts.SanSquares.{SanSquares}
use Rattle.study_notation.specs.SanParts as parts

abbrev pub squares_view : SanSquares × Bor (List ℕ) → parts.SanSquares × List ℕ
squares_view x = (record { file = x.0.file; rank = x.0.rank; is_capture = x.0.is_capture; target = x.0.target }, x.1.now)
