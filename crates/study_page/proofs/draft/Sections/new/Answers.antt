use Rattle.study_page.proofs.draft.Sections.new.Goals as goal

pub returns : goal.returns
returns g c = record {
  faults = c.new.ensures;
  duals = c.new-2.ensures;
  tries = c.new-3.ensures;
  zugzwangs = c.new-4.ensures;
  defences = c.new-5.ensures;
  ends = c.new-6.ensures;
}
