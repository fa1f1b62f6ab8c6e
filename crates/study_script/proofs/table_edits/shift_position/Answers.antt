use Rattle.std.proofs.Common.{sym, subst, OnOk}
use Rattle.study_marks.specs.Study.{plain_study}
use Rattle.study_marks.specs.BenchState.{marked_study}
use Rattle.study_marks.specs.Queries.{positions_asked, AllHeld}
use Rattle.study_marks.specs.Edits.{with_start}
use Rattle.study_script.specs.SessionHolds.{tables_held, tables_may_fail}
use Rattle.study_script.proofs.TablesFaults.{whole_reported, paged_reported}
use Rattle.study_script.proofs.table_edits.shift_position.Goals as goal

pub returns-in-Whole-clause-refusal : goal.returns-in-Whole-clause-refusal
returns-in-Whole-clause-refusal g c = rw c.in-Whole.is c.shift_position.ensures.refusal

pub returns-in-Whole-clause-found : goal.returns-in-Whole-clause-found
returns-in-Whole-clause-found g c =
    subst
    (λ t. OnOk c.shift_position.result
    (AllHeld (tables_held t) (positions_asked (with_start (plain_study (marked_study c.args.bench.now)) c.args.start))))
    (sym c.in-Whole.is) c.shift_position.ensures.found

pub returns-in-Paged-clause-refusal : goal.returns-in-Paged-clause-refusal
returns-in-Paged-clause-refusal g c = rw c.in-Paged.is c.shift_position-in-Paged.ensures.refusal

pub returns-in-Paged-clause-found : goal.returns-in-Paged-clause-found
returns-in-Paged-clause-found g c =
    subst
    (λ t. OnOk c.shift_position-in-Paged.result
    (AllHeld (tables_held t) (positions_asked (with_start (plain_study (marked_study c.args.bench.now)) c.args.start))))
    (sym c.in-Paged.is) c.shift_position-in-Paged.ensures.found

pub returns-in-Whole-clause-first : goal.returns-in-Whole-clause-first
returns-in-Whole-clause-first g c = whole_reported g.P.PageSource.honest g.P.PageSource.gives c.args.tables.now c.in-Whole.tables c.shift_position.new.values
    (positions_asked (with_start (plain_study (marked_study c.args.bench.now)) c.args.start)) c.shift_position.result c.in-Whole.is
    c.shift_position.ensures.first

pub returns-in-Paged-clause-first : goal.returns-in-Paged-clause-first
returns-in-Paged-clause-first g c = paged_reported g.P.PageSource.honest g.P.PageSource.gives c.args.tables.now c.in-Paged.tables
    c.shift_position-in-Paged.new.values
    (positions_asked (with_start (plain_study (marked_study c.args.bench.now)) c.args.start)) c.shift_position-in-Paged.result c.in-Paged.is
    c.shift_position-in-Paged.ensures.first

pub returns-in-Whole-clause-fails_as_before : goal.returns-in-Whole-clause-fails_as_before
returns-in-Whole-clause-fails_as_before g c = λ d f m. absurd m

pub returns-in-Paged-clause-fails_as_before : goal.returns-in-Paged-clause-fails_as_before
returns-in-Paged-clause-fails_as_before g c =
    λ d f m. subst (λ t. tables_may_fail g.P.PageSource.gives t d f) (sym c.in-Paged.is) (c.shift_position-in-Paged.ensures.fails_as_before d f m)
