use Rattle.std.proofs.Common.{ℕ, true, List, Some, is_some, subst}
use Rattle.study_script.specs.Outcome.{Outcome, initial_state}
use Rattle.study_script.specs.Written.{Fits}
use Rattle.study_web.proofs.Shelves.{shelf_in, shelf_made, honest_made}
use Rattle.study_web.proofs.Unread.{own_outcome, own_shape, own_fits}
use Rattle.study_web.proofs.answers.replies.replies_over.Goals as goal

pub returns-clause-shape : goal.returns-clause-shape
returns-clause-shape g c =
    own_shape c.args.script.now c.own_end.result.text.items c.run-summary.new.out.items (Some c.run-summary.new.script.now) c.run-summary.result
    c.own_end.result.summary c.run-summary.ensures.shape c.own_end.ensures.ended

pub returns-clause-outcome : goal.returns-clause-outcome
returns-clause-outcome g c = λ trusted right trusts.
    let made = c.new-store.ensures in
    let store = c.new-store.result in
    let first = initial_state (shelf_in store.spans.now store.bytes.now store.written) (is_some c.args.pages) in
    let own = own_outcome first c.args.script.now c.own_end.result.text.items c.run-summary.new.out.items (Some c.run-summary.new.script.now)
    c.run-summary.result c.own_end.result.summary
    (subst (λ (xs : List ℕ). Outcome true first c.args.script.now (Some c.run-summary.new.script.now) (Some xs) (Some c.run-summary.new.out.items)
    c.run-summary.result) c.new-replies.ensures.items
    (c.run-summary.ensures.outcome trusted (honest_made trusted (is_some c.args.pages) made.spans made.bytes right) trusts)) c.own_end.ensures.ended in (
      shelf_in store.spans.now store.bytes.now store.written,
      shelf_made made.spans made.bytes made.written,
      own.0,
      own.1,
    )

pub returns-clause-fits : goal.returns-clause-fits
returns-clause-fits g c =
    own_fits c.args.script.now c.own_end.result.text.items c.run-summary.new.out.items (Some c.run-summary.new.script.now) c.run-summary.result
    c.own_end.result.summary
    (subst (λ (xs : List ℕ). Fits c.args.script.now (Some c.run-summary.new.script.now) (Some xs) (Some c.run-summary.new.out.items)
    c.run-summary.result) c.new-replies.ensures.items c.run-summary.ensures.fits) c.own_end.ensures.ended
