use Rattle.study_find_program.proofs.program.list_over_files.Goals as goal

pub returns-clause-ended : goal.returns-clause-ended
returns-clause-ended g c =
    let end = c.list_over_values.ensures.reported in
    (end.0, end.1, (λ quiet. (g.E.Write.contents c.open_tables.new.errors, c.open_tables.ensures, end.2 quiet)))
