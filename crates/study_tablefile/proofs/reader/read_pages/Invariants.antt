use Rattle.std.proofs.Common.{◌≡◌, ◌≤◌, ◌+◌, ◌*◌, ◌-◌, ℕ, List, [], drop, Some, vec_len, vec_capacity}
use Rattle.study_values.specs.Size.{pages_of}
use Rattle.study_tablefile.specs.Reading.{pages_read}
use Rattle.study_tablefile.proofs.reader.read_pages.Given as goal

abbrev pub invariant-loop-number : goal.invariant-loop-number
invariant-loop-number g l = record {
  counted : l.number ≤ pages_of l.fn.class;
  len : vec_len l.cells ≡ 4096 * l.number;
  room : 4096 * pages_of l.fn.class ≤ vec_capacity l.cells;
  read : (bytes : List ℕ) → g.R.Read.remaining l.fn.input ≡ Some bytes → (rest : List ℕ) × (g.R.Read.remaining l.input ≡ Some rest)
      × (pages_read l.fn.class l.fn.version 0 (pages_of l.fn.class) [] bytes ≡ pages_read l.fn.class l.fn.version
      l.number (pages_of l.fn.class - l.number) l.cells.items rest);
  stands : (bytes : List ℕ) → g.R.Read.remaining l.fn.input ≡ Some (drop 64 bytes) → g.R.Read.remaining l.input ≡ Some (drop (64 + 4128 * l.number) bytes);
}

abbrev pub decreases-loop-number : goal.decreases-loop-number
decreases-loop-number g l = pages_of l.fn.class - l.number
