use Rattle.std.proofs.Common.{◌≡◌, ℕ, List, ◌++◌, refl}
use Rattle.study_marks.specs.BenchState.{marked_study}
use Rattle.study_review.specs.Review.{IsReview, BeginsReview}
use Rattle.study_facts.proofs.BackSteps.{if-ok}
use Rattle.study_review.proofs.WholeReview.{whole, begins}
use Rattle.study_facts.proofs.TimeCounted.{time-counted}
use Rattle.study_review.proofs.writing.text_of.Goals as goal

pub returns-clause-text : goal.returns-clause-text
returns-clause-text g c h =
    if-ok (λ (t : List ℕ). t ≡ (c.add_head.new.text ++ c.add_waste.new.text) ++ c.add_all.new.draft.nodes)
    (IsReview (marked_study c.args.bench.now) c.args.number) c.join.result
    (λ t e.
    whole (marked_study c.args.bench.now) c.args.number c.add_all.new.draft.time_faults c.new-head.result c.add_head.new.text c.new-draft.result.faults
    c.add_all.new.draft.faults
    c.add_waste.new.text (c.add_head.new.text ++ c.add_waste.new.text) c.new-draft.result.nodes c.add_all.new.draft.nodes t c.new-head.ensures
    c.new-draft.ensures.faults c.new-draft.ensures.nodes
    c.in_ok-add_head.ensures (c.in_ok-add_all.ensures.faults h)
    (time-counted (marked_study c.args.bench.now) c.size-size.result c.new-draft.result.time_faults c.add_all.new.draft.time_faults c.new-draft.ensures.time
    c.size-size.ensures.size c.size-size.ensures.few
    (c.in_ok-add_all.ensures.time h))
    c.in_ok-add_waste.ensures refl (c.in_ok-add_all.ensures.nodes h) e)
    c.join.ensures.text

pub returns-clause-begins : goal.returns-clause-begins
returns-clause-begins g c =
    if-ok (λ (t : List ℕ). t ≡ (c.add_head.new.text ++ c.add_waste.new.text) ++ c.add_all.new.draft.nodes) (BeginsReview c.args.number) c.join.result
    (λ t e.
    begins (marked_study c.args.bench.now) c.args.number c.new-head.result c.add_head.new.text c.add_waste.new.text
    (c.add_head.new.text ++ c.add_waste.new.text) c.add_all.new.draft.nodes t c.new-head.ensures c.in_ok-add_head.ensures refl e)
    c.join.ensures.text
