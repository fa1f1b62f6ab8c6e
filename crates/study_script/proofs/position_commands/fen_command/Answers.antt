use Rattle.study_script.proofs.position_commands.fen_command.Goals as goal

pub returns-in-Position-clause-done : goal.returns-in-Position-clause-done
returns-in-Position-clause-done g c = λ s h. rw c.in-Position.is (c.read_position.ensures.done s h)

pub returns-in-Shift-clause-done : goal.returns-in-Shift-clause-done
returns-in-Shift-clause-done g c = λ s h. rw c.in-Shift.is (c.shift_document.ensures.done s h)

pub returns-in-Position-clause-document : goal.returns-in-Position-clause-document
returns-in-Position-clause-document g c = rw c.in-Position.is c.read_position.ensures.document

pub returns-in-Shift-clause-document : goal.returns-in-Shift-clause-document
returns-in-Shift-clause-document g c = rw c.in-Shift.is c.shift_document.ensures.document
