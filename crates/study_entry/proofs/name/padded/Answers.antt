use Rattle.study_entry.proofs.Padded.{padded_text}
use Rattle.study_entry.proofs.name.padded.Goals as goal

pub returns : goal.returns
returns c = rw c.copy_from_slice.ensures.after (padded_text c.args.text.now)
