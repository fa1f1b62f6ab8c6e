use Rattle.study_reply.proofs.reply.put_reply.Goals as goal

pub returns-in-Stipulated-clause-err : goal.returns-in-Stipulated-clause-err
returns-in-Stipulated-clause-err g c = rw c.in-Stipulated.is c.put_stipulation.ensures.err

pub returns-in-Inserted-clause-err : goal.returns-in-Inserted-clause-err
returns-in-Inserted-clause-err g c =
    rw c.in-Inserted.is (rw (← c.steps.ensures, ← c.as_str.ensures.value, ← c.as_bytes.ensures.value) c.put_inserted.ensures.err)

pub returns-in-Deleted-clause-err : goal.returns-in-Deleted-clause-err
returns-in-Deleted-clause-err g c = rw c.in-Deleted.is (rw (← c.steps-in-Deleted.ensures) c.put_node.ensures.err)

pub returns-in-Mark-clause-err : goal.returns-in-Mark-clause-err
returns-in-Mark-clause-err g c = rw c.in-Mark.is (rw (← c.steps-in-Mark.ensures) c.put_mark.ensures.err)
