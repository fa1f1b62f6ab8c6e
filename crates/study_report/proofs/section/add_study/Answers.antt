use Rattle.study_marks.specs.BenchState.{marked_study}
use Rattle.study_report.proofs.TablesReviewed.{whole-reviewed, paged-reviewed}
use Rattle.study_report.proofs.section.add_study.Goals as goal

pub returns-in-Whole-clause-why : goal.returns-in-Whole-clause-why
returns-in-Whole-clause-why g c = (whole-reviewed g.P.PageSource.honest g.P.PageSource.gives (marked_study c.args.bench.now).start.position
    c.start-first.ensures.study.valid c.args.tables.now c.in-Whole.tables
    c.add_study.new.values c.add_study.result c.in-Whole.is c.add_study.ensures.asked).why

pub returns-in-Whole-clause-honest : goal.returns-in-Whole-clause-honest
returns-in-Whole-clause-honest g c = (whole-reviewed g.P.PageSource.honest g.P.PageSource.gives (marked_study c.args.bench.now).start.position
    c.start-first.ensures.study.valid c.args.tables.now c.in-Whole.tables
    c.add_study.new.values c.add_study.result c.in-Whole.is c.add_study.ensures.asked).honest

pub returns-in-Whole-clause-tables : goal.returns-in-Whole-clause-tables
returns-in-Whole-clause-tables g c = (whole-reviewed g.P.PageSource.honest g.P.PageSource.gives (marked_study c.args.bench.now).start.position
    c.start-first.ensures.study.valid c.args.tables.now c.in-Whole.tables
    c.add_study.new.values c.add_study.result c.in-Whole.is c.add_study.ensures.asked).tables

pub returns-in-Whole-clause-fails_as_before : goal.returns-in-Whole-clause-fails_as_before
returns-in-Whole-clause-fails_as_before g c = (whole-reviewed g.P.PageSource.honest g.P.PageSource.gives (marked_study c.args.bench.now).start.position
    c.start-first.ensures.study.valid c.args.tables.now c.in-Whole.tables
    c.add_study.new.values c.add_study.result c.in-Whole.is c.add_study.ensures.asked).fails

pub returns-in-Paged-clause-why : goal.returns-in-Paged-clause-why
returns-in-Paged-clause-why g c = (paged-reviewed g.P.PageSource.honest g.P.PageSource.gives (marked_study c.args.bench.now).start.position
    c.start-first.ensures.study.valid c.args.tables.now c.in-Paged.tables
    c.add_study-in-Paged.new.values c.add_study-in-Paged.result c.in-Paged.is c.add_study-in-Paged.ensures.asked).why

pub returns-in-Paged-clause-honest : goal.returns-in-Paged-clause-honest
returns-in-Paged-clause-honest g c = (paged-reviewed g.P.PageSource.honest g.P.PageSource.gives (marked_study c.args.bench.now).start.position
    c.start-first.ensures.study.valid c.args.tables.now c.in-Paged.tables
    c.add_study-in-Paged.new.values c.add_study-in-Paged.result c.in-Paged.is c.add_study-in-Paged.ensures.asked).honest

pub returns-in-Paged-clause-tables : goal.returns-in-Paged-clause-tables
returns-in-Paged-clause-tables g c = (paged-reviewed g.P.PageSource.honest g.P.PageSource.gives (marked_study c.args.bench.now).start.position
    c.start-first.ensures.study.valid c.args.tables.now c.in-Paged.tables
    c.add_study-in-Paged.new.values c.add_study-in-Paged.result c.in-Paged.is c.add_study-in-Paged.ensures.asked).tables

pub returns-in-Paged-clause-fails_as_before : goal.returns-in-Paged-clause-fails_as_before
returns-in-Paged-clause-fails_as_before g c = (paged-reviewed g.P.PageSource.honest g.P.PageSource.gives (marked_study c.args.bench.now).start.position
    c.start-first.ensures.study.valid c.args.tables.now c.in-Paged.tables
    c.add_study-in-Paged.new.values c.add_study-in-Paged.result c.in-Paged.is c.add_study-in-Paged.ensures.asked).fails
