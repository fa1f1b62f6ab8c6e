use Rattle.std.proofs.Common.{◌≡◌, ◌++◌, take}
use Rattle.std.specs.List.{flat_map}
use Rattle.study_html.specs.Escape.{lettered_byte}
use Rattle.study_html.proofs.escape.add_lettered.Given as goal

abbrev pub invariant-loop-byte : goal.invariant-loop-byte
invariant-loop-byte g l = l.text ≡ l.fn.text ++ flat_map lettered_byte (take l.byte-index l.bytes)
