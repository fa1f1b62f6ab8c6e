use Rattle.std.proofs.Common.{sym, ◌∙◌}
use Rattle.study_wide_text.proofs.MeansLegal.{no_form}
use Rattle.study_wide_text.proofs.san_reader.read_move.Goals as goal

pub returns-in-None : goal.returns-in-None
returns-in-None c = no_form c.args.p.now.board c.args.text.now c.requires (sym c.parse_san.ensures ∙ c.in-None.is)
