use Rattle.study_command.proofs.LinesAgain.{lines-again, lines-again_returns}
use Rattle.study_command.proofs.laws.lines_are_read_again.Goals as goal

pub returns : goal.returns
returns c = record { feeds = lines-again; returns = lines-again_returns }
