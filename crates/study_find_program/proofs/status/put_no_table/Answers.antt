use Rattle.study_find_program.proofs.status.put_no_table.Goals as goal

pub returns-clause-ok : goal.returns-clause-ok
returns-clause-ok g c = rw (← c.name.ensures, ← c.as_bytes.ensures.value) c.write_pieces.ensures.ok
