use Rattle.study_script.proofs.queries.node_query.Goals as goal

pub returns-in-Moves : goal.returns-in-Moves
returns-in-Moves g c = λ s h. rw c.in-Moves.is (c.moves_at.ensures s h)

pub returns-in-Fen : goal.returns-in-Fen
returns-in-Fen g c = λ s h. rw c.in-Fen.is (c.fen_at.ensures s h)
