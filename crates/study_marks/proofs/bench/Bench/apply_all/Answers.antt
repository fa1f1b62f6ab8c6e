use Rattle.std.proofs.Common.{◌≡◌, ℕ, take, sym, subst, arith}
use Rattle.study_marks.specs.Study.{plain_study}
use Rattle.study_marks.specs.BenchState.{marked_study}
use Rattle.study_marks.specs.EditLists.{IsStopped, HasAskedUpTo, StopsAtFault, asked_after_edits, questions_of}
use Rattle.study_marks.specs.Answers.{TellsFirstFault}
use Rattle.study_marks.proofs.EditLists.{run-next, run-refusal, run-asked, tells-at}
use Rattle.study_marks.proofs.bench.Bench.apply_all.Goals as goal

pub returns-in-Err-clause-stopped : goal.returns-in-Err-clause-stopped
returns-in-Err-clause-stopped g c =
    subst (λ (n : ℕ). IsStopped (g.V.Values.source.held c.args.values.now) (plain_study (marked_study c.args.self.now))
    c.args.edits.now n c.in-Err.refusal) (sym c.loop-edit.invariant.done)
    (run-refusal g.V.Values.source c.args.values.now c.loop-edit.values c.apply.new.values c.args.self.now c.loop-edit.self c.apply.new.self c.args.edits.now
    c.loop-edit.edit-index c.edit-item.result c.loop-edit.invariant.run c.loop-edit-test.true c.edit-item.is
    c.in-Err.refusal c.in-Err.ensures.applied)

pub returns-in-Err-clause-asked : goal.returns-in-Err-clause-asked
returns-in-Err-clause-asked g c =
    subst (λ (n : ℕ). HasAskedUpTo (plain_study (marked_study c.args.self.now)) c.args.edits.now n c.in-Err.refusal
    (g.V.Values.source.asked_of c.args.values.now) (g.V.Values.source.asked_of c.apply.new.values))
    (sym c.loop-edit.invariant.done)
    (run-asked g.V.Values.source c.args.values.now c.loop-edit.values c.apply.new.values c.args.self.now c.loop-edit.self c.apply.new.self c.args.edits.now
    c.loop-edit.edit-index c.edit-item.result c.loop-edit.invariant.run c.loop-edit-test.true c.edit-item.is
    c.in-Err.refusal c.in-Err.ensures.applied)

pub loop-edit-preserved : goal.loop-edit-preserved
loop-edit-preserved g c = record {
  run = run-next g.V.Values.source c.args.values.now c.loop-edit.values c.apply.new.values c.args.self.now c.loop-edit.self c.apply.new.self c.args.edits.now
      c.loop-edit.edit-index c.edit-item.result c.loop-edit.invariant.run c.loop-edit-test.true c.edit-item.is
      c.in_default.ensures.applied;
  fails = λ d f m. c.loop-edit.invariant.fails d f (c.apply.ensures.fails_as_before d f m);
  done = omega (arith, c.loop-edit.invariant.done);
}

pub returns-in-Err-clause-first : goal.returns-in-Err-clause-first
returns-in-Err-clause-first g c = record {
  mid = c.loop-edit.values;
  asked = subst (λ (n : ℕ). g.V.Values.source.asked_of c.loop-edit.values
      ≡ asked_after_edits (plain_study (marked_study c.args.self.now)) (take n c.args.edits.now)
      (g.V.Values.source.asked_of c.args.values.now)) (sym c.loop-edit.invariant.done) c.loop-edit.invariant.run.counts;
  fails_as_before = c.loop-edit.invariant.fails;
  first = subst (λ (n : ℕ). StopsAtFault g.V.Values.source c.loop-edit.values (plain_study (marked_study c.args.self.now))
      c.args.edits.now n c.apply.new.values c.in-Err.refusal) (sym c.loop-edit.invariant.done)
      (tells-at g.V.Values.source c.loop-edit.values c.apply.new.values (plain_study (marked_study c.args.self.now))
      c.args.edits.now
      c.loop-edit.edit-index c.edit-item.result c.in-Err.refusal c.loop-edit-test.true c.edit-item.is
      (subst (λ x. TellsFirstFault g.V.Values.source c.loop-edit.values (questions_of x c.edit-item.result)
      c.apply.new.values
      c.in-Err.refusal) c.loop-edit.invariant.run.edit c.in-Err.ensures.first));
}
