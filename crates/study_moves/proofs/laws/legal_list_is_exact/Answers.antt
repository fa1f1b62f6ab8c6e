use Rattle.study_moves.proofs.LegalLists.{legal_list_exact, legal_list_is}
use Rattle.study_moves.proofs.laws.legal_list_is_exact.Goals as goal

pub returns-clause-legal : goal.returns-clause-legal
returns-clause-legal c = legal_list_exact

pub returns-clause-listed : goal.returns-clause-listed
returns-clause-listed c = legal_list_is
