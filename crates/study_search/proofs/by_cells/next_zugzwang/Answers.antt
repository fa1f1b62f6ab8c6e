use Rattle.std.proofs.Common.{arith, refl}
use Rattle.study_search.specs.ByCells.{IsFoundOn}
use Rattle.study_search.proofs.Faults.{same_on}
use Rattle.study_search.proofs.ZugzwangCells.{first-of, none-of, none-on, first-found, none-left}
use Rattle.study_search.proofs.by_cells.next_zugzwang.Goals as goal

pub next_on-requires-clause-page : goal.next_on-requires-clause-page
next_on-requires-clause-page g c =
    let below = c.loop-page-test.true in
    let within = c.end_page-end.ensures.within in
    omega (arith, below, within)

pub returns-in-Ok-Some-clause-game : goal.returns-in-Ok-Some-clause-game
returns-in-Ok-Some-clause-game g c h =
    let s = c.args.search.now in
    let page = c.loop-page.page in
    let first = first-of (IsFoundOn s page) c.args.from c.args.to c.in-Ok-Some.number c.in-Ok-Some.field-0
    (c.in-Ok-Some.ensures.game (c.loop-page.invariant.honest h)) c.in-Ok-Some.field-0-is in
    first-found s page c.args.from c.args.to c.in-Ok-Some.number (c.loop-page.invariant.none h) first

pub loop-page-preserved : goal.loop-page-preserved
loop-page-preserved g c =
    let s = c.args.search.now in
    let page = c.loop-page.page in
    record {
      none = λ h.
          none-on s page c.args.from c.args.to (c.loop-page.invariant.none h)
          (none-of (IsFoundOn s page) c.args.from c.args.to c.in-Ok-None.field-0 (c.in-Ok-None.ensures.game (c.loop-page.invariant.honest h))
          c.in-Ok-None.field-0-is);
      honest = λ h. c.next_on.ensures.honest (c.loop-page.invariant.honest h);
      tables = same_on c.loop-page.invariant.tables c.next_on.ensures.tables;
    }

pub loop-page-init : goal.loop-page-init
loop-page-init g c = record {
  none = λ h k from to low. absurd (omega (arith, from, low));
  honest = λ h. h;
  tables = record { same = λ d. refl; fails = λ d f m. m };
}

pub returns-clause-game : goal.returns-clause-game
returns-clause-game g c h =
    let past = c.loop-page-test.false in
    none-left c.args.search.now c.loop-page.page c.end_page-end.result c.args.from c.args.to c.requires.theme (omega (arith, past)) c.end_page-end.ensures.all
    (c.loop-page.invariant.none h)
