use Rattle.std.proofs.Common.{◌≡◌, List, ap, subst, ◌∙◌}
use Rattle.study_marks.specs.BenchState.{marked_study}
use Rattle.study_facts.specs.Asked.{within}
use Rattle.study_facts.proofs.Asking.{all-then, asks-then, same-asks}
use Rattle.study_facts.specs.Order.{written_order}
use Rattle.study_facts.proofs.EachAdded.{grew-each}
use Rattle.study_facts.specs.Made.{Grew}
use Rattle.study_head.specs.declared.reached.Reached.{Reached}
use Rattle.study_head.specs.Reached.{all_reached}
use Rattle.study_page.specs.Page.{AreRows}
use Rattle.study_page.specs.Rows.{FaultItems, Cards, TryRows, ZugzwangRows, DefenceRowsAmong, EndRows}
use Rattle.study_page.proofs.WholePage.{all-rows, kept-each}
use Rattle.study_page.proofs.page.parts_of.Goals as goal

pub returns-clause-text : goal.returns-clause-text
returns-clause-text g c h =
    let s = marked_study c.args.bench.now in
    let old = c.new-findings.result in
    let new = c.walk_study.new.findings in
    let none = c.new-findings.ensures in
    let each = kept-each (λ known path a b.
    Grew (FaultItems s path) a.sections.faults b.sections.faults
    × Grew (Cards s path) a.sections.duals b.sections.duals
    × Grew (TryRows s path) a.sections.tries b.sections.tries
    × Grew (ZugzwangRows s path) a.sections.zugzwangs b.sections.zugzwangs
    × Grew (DefenceRowsAmong known.now s path) a.sections.defences b.sections.defences
    × Grew (EndRows s path) a.sections.ends b.sections.ends) (λ t. t.known) (written_order s) old new
    (c.in_ok-walk_study.ensures.adds (c.in_ok-known.ensures.asked.honest h)) in
    let there : old.known.now ≡ all_reached s = ap (λ l. l.now) none.known ∙ c.as_slice.ensures.value ∙ c.in_ok-known.ensures.list h in (
      all-rows FaultItems s old.sections.faults new.sections.faults none.faults
          (grew-each _ (FaultItems s) (λ t. t.sections.faults) (λ path a b k. k.0) (written_order s) old new each),
      all-rows Cards s old.sections.duals new.sections.duals none.duals
          (grew-each _ (Cards s) (λ t. t.sections.duals) (λ path a b k. k.1) (written_order s) old new each),
      all-rows TryRows s old.sections.tries new.sections.tries none.tries
          (grew-each _ (TryRows s) (λ t. t.sections.tries) (λ path a b k. k.2) (written_order s) old new each),
      all-rows ZugzwangRows s old.sections.zugzwangs new.sections.zugzwangs none.zugzwangs
          (grew-each _ (ZugzwangRows s) (λ t. t.sections.zugzwangs) (λ path a b k. k.3) (written_order s) old new each),
      subst (λ (l : List Reached). AreRows (DefenceRowsAmong l) s new.sections.defences) there
          (all-rows (DefenceRowsAmong old.known.now) s old.sections.defences new.sections.defences none.defences
          (grew-each _ (DefenceRowsAmong old.known.now s) (λ t. t.sections.defences) (λ path a b k. k.4) (written_order s) old new each)),
      all-rows EndRows s old.sections.ends new.sections.ends none.ends
          (grew-each _ (EndRows s) (λ t. t.sections.ends) (λ path a b k. k.5) (written_order s) old new each),
    )

pub returns-in_err-walk_study-clause-asked : goal.returns-in_err-walk_study-clause-asked
returns-in_err-walk_study-clause-asked g c =
    let source = within (marked_study c.args.bench.now).start.position g.V.Values.source in
    let result = c.from_residual-in_err-walk_study.result in
    asks-then source c.args.values.now c.reached_in.new.values c.walk_study.new.values result c.in_ok-known.ensures.asked
    (same-asks source c.reached_in.new.values c.walk_study.new.values result c.in_err-walk_study.field-0.0
    c.from_residual-in_err-walk_study.ensures.1 c.in_err-walk_study.ensures.asked)

pub returns-clause-asked : goal.returns-clause-asked
returns-clause-asked g c =
    all-then (within (marked_study c.args.bench.now).start.position g.V.Values.source)
    c.args.values.now c.reached_in.new.values c.walk_study.new.values c.in_ok-known.ensures.asked c.in_ok-walk_study.ensures.asked
