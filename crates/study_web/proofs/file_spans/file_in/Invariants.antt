use Rattle.std.proofs.Common.{◌≡◌, drop}
use Rattle.study_web.specs.Spans.{file_in}
use Rattle.study_web.proofs.file_spans.file_in.Given as goal

abbrev pub invariant-loop-span : goal.invariant-loop-span
invariant-loop-span l = file_in l.spans l.bytes l.class ≡ file_in (drop l.span-index l.spans) l.bytes l.class
