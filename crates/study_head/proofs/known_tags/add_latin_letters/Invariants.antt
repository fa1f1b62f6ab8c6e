use Rattle.std.proofs.Common.{◌≡◌, ◌++◌, take}
use Rattle.std.specs.List.{flat_map}
use Rattle.study_head.specs.Known.{latin_letter}
use Rattle.study_head.proofs.known_tags.add_latin_letters.Given as goal

abbrev pub invariant-loop-byte : goal.invariant-loop-byte
invariant-loop-byte g l = l.text ≡ l.fn.text ++ flat_map latin_letter (take l.byte-index l.bytes)
