use Rattle.std.proofs.Common.{sym, subst, OnOk}
use Rattle.study_moves.specs.Rules.{after}
use Rattle.study_marks.specs.Study.{position_at}
use Rattle.study_marks.specs.BenchState.{marked_study}
use Rattle.study_marks.specs.Queries.{asked_at, AllHeld}
use Rattle.study_script.specs.SessionHolds.{tables_held, tables_may_fail}
use Rattle.study_script.proofs.TablesFaults.{whole_reported, paged_reported}
use Rattle.study_script.proofs.table_edits.insert_move.Goals as goal

pub returns-in-Whole-clause-refusal : goal.returns-in-Whole-clause-refusal
returns-in-Whole-clause-refusal g c = rw c.in-Whole.is c.insert.ensures.refusal

pub returns-in-Whole-clause-found : goal.returns-in-Whole-clause-found
returns-in-Whole-clause-found g c =
    subst
    (λ t. OnOk c.insert.result
    (AllHeld (tables_held t) (asked_at (after (position_at (marked_study c.args.bench.now) c.args.path.now) c.args.m))))
    (sym c.in-Whole.is) c.insert.ensures.found

pub returns-in-Paged-clause-refusal : goal.returns-in-Paged-clause-refusal
returns-in-Paged-clause-refusal g c = rw c.in-Paged.is c.insert-in-Paged.ensures.refusal

pub returns-in-Paged-clause-found : goal.returns-in-Paged-clause-found
returns-in-Paged-clause-found g c =
    subst
    (λ t. OnOk c.insert-in-Paged.result
    (AllHeld (tables_held t) (asked_at (after (position_at (marked_study c.args.bench.now) c.args.path.now) c.args.m))))
    (sym c.in-Paged.is) c.insert-in-Paged.ensures.found

pub returns-in-Whole-clause-first : goal.returns-in-Whole-clause-first
returns-in-Whole-clause-first g c = whole_reported g.P.PageSource.honest g.P.PageSource.gives c.args.tables.now c.in-Whole.tables c.insert.new.values
    (asked_at (after (position_at (marked_study c.args.bench.now) c.args.path.now) c.args.m)) c.insert.result c.in-Whole.is c.insert.ensures.first

pub returns-in-Paged-clause-first : goal.returns-in-Paged-clause-first
returns-in-Paged-clause-first g c = paged_reported g.P.PageSource.honest g.P.PageSource.gives c.args.tables.now c.in-Paged.tables c.insert-in-Paged.new.values
    (asked_at (after (position_at (marked_study c.args.bench.now) c.args.path.now) c.args.m)) c.insert-in-Paged.result c.in-Paged.is
    c.insert-in-Paged.ensures.first

pub returns-in-Whole-clause-fails_as_before : goal.returns-in-Whole-clause-fails_as_before
returns-in-Whole-clause-fails_as_before g c = λ d f m. absurd m

pub returns-in-Paged-clause-fails_as_before : goal.returns-in-Paged-clause-fails_as_before
returns-in-Paged-clause-fails_as_before g c =
    λ d f m. subst (λ t. tables_may_fail g.P.PageSource.gives t d f) (sym c.in-Paged.is) (c.insert-in-Paged.ensures.fails_as_before d f m)
