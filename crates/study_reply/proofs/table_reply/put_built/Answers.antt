use Rattle.study_reply.proofs.table_reply.put_built.Goals as goal

pub returns-clause-err : goal.returns-clause-err
returns-clause-err g c =
    rw (← c.win_piece.ensures, ← c.cells.ensures, ← c.name.ensures, ← c.as_bytes.ensures.value) c.write_pieces.ensures.err
