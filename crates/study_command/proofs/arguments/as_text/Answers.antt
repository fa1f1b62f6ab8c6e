use Rattle.std.proofs.lemmas.Str.{IsUtf8-from_ascii}
use Rattle.study_command.proofs.Printable.{IsAscii-from_printable}
use Rattle.study_command.proofs.arguments.as_text.Goals as goal

pub unreachable-requires : goal.unreachable-requires
unreachable-requires c = absurd (c.in-Err.ensures.cases.0 (IsUtf8-from_ascii c.args.bytes.now (IsAscii-from_printable c.args.bytes.now c.requires)))
