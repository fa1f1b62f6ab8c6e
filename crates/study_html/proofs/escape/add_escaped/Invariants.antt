use Rattle.std.proofs.Common.{◌≡◌, ◌++◌, take}
use Rattle.std.specs.List.{flat_map}
use Rattle.study_html.specs.Escape.{entity}
use Rattle.study_html.proofs.escape.add_escaped.Given as goal

abbrev pub invariant-loop-byte : goal.invariant-loop-byte
invariant-loop-byte g l = l.text ≡ l.fn.text ++ flat_map entity (take l.byte-index l.bytes)
