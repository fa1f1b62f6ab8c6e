use Rattle.std.proofs.Common.{ap, ◌∙◌, length}
use Rattle.std.specs.Str.{bytes_eq}
use Rattle.std.proofs.lemmas.List.{take-replicate}
use Rattle.study_tablefile.proofs.reader.is_padding.Goals as goal

pub returns : goal.returns
returns c = c.eq.ensures ∙ ap (bytes_eq c.args.bytes.now) (take-replicate (length c.args.bytes.now) 4096 0 c.requires)
