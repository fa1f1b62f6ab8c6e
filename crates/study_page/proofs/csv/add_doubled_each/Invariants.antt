use Rattle.std.proofs.Common.{◌≡◌, ◌++◌, take}
use Rattle.std.specs.List.{flat_map}
use Rattle.study_page.specs.Csv.{quoted_byte}
use Rattle.study_page.proofs.csv.add_doubled_each.Given as goal

abbrev pub invariant-loop-byte : goal.invariant-loop-byte
invariant-loop-byte g l = l.text ≡ l.fn.text ++ flat_map quoted_byte (take l.byte-index l.bytes)
