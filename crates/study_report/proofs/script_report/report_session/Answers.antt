use Rattle.std.proofs.Common.{◌≡◌, ◌+◌, List, [], ◌++◌, refl, sym, ap, subst, append_assoc, arith}
use Rattle.std.proofs.lemmas.List.{append-nil}
use Rattle.std.proofs.KnownBytes.{Consumes-nil, Consumes-kept}
use Rattle.study_command.specs.Lines.{GaveFeeds}
use Rattle.study_command.proofs.LineTaken.{has_more, has_none, gave-more, gave-same}
use Rattle.study_script.proofs.FirstLines.{Gone, gone_none, gone_ends, gone_long, gone_many, gone_more, gone_read}
use Rattle.study_script.specs.declared.running.RunFault.TheVariants.{ReadDevice, LineTooLong, TooManyLines}
use Rattle.study_script.specs.SessionHolds.{document_seen}
use Rattle.study_script.specs.Session.{SessionHolds}
use Rattle.study_script.specs.Stores.{HonestOn}
use Rattle.study_report.specs.declared.unread_line.Unread.{Unread}
use Rattle.study_report.specs.Outcome.{start_point}
use Rattle.study_report.specs.Reported.{IsAdded, Entry, listed_in}
use Rattle.study_report.specs.Written.{none_trusted, Adds, Stops}
use Rattle.study_report.proofs.FirstAdded.{HasReported, ReportedOn-more, few-reported, none_reported, reported_after, reported_listed, listed-before}
use Rattle.study_report.proofs.FirstAdded.{reported_ends, reported_long, reported_many, reported_read, reported_stops, gone_stops}
use Rattle.study_report.proofs.FirstAdded.{reported_before, reported_before_stop}
use Rattle.study_report.proofs.PartsWritten.{HasParts, parts_none, parts_more, parts_end, parts_long, parts_read, parts_many, parts_stop}
use Rattle.study_report.proofs.script_report.report_session.Goals as goal

pub returns-in-Err-TooLong-clause-outcome : goal.returns-in-Err-TooLong-clause-outcome
returns-in-Err-TooLong-clause-outcome g c = λ first h.
    let on = c.loop-n.invariant.0 first h in
    reported_long g.T.Report.tells g.T.Report.refusal g.T.Report.remark (g.R.Read.remaining c.read.new.script) (g.R.Read.remaining c.args.script.now)
    (g.R.Read.remaining c.loop-n.script) (g.W.Write.contents c.args.out.now) (g.W.Write.contents c.loop-n.out)
    first on.point c.loop-n.n c.loop-n.refused on.reported (c.in-Err-TooLong.ensures.long cc) c.loop-n-test.true

pub returns-in-Ok-false-clause-outcome : goal.returns-in-Ok-false-clause-outcome
returns-in-Ok-false-clause-outcome g c = λ first h.
    let on = c.loop-n.invariant.0 first h in
    let none = rw c.in-Ok-false.field-0-test at c.in-Ok-false.ensures.line in
    reported_ends g.T.Report.tells g.T.Report.refusal g.T.Report.remark (g.R.Read.remaining c.read.new.script) (g.R.Read.remaining c.args.script.now)
    (g.R.Read.remaining c.loop-n.script) (g.R.Read.remaining c.read.new.script)
    (g.W.Write.contents c.args.out.now) (g.W.Write.contents c.loop-n.out) first on.point c.read.new.self
    c.loop-n.n c.loop-n.refused on.reported none (omega arith)

pub returns-in-Ok-false-clause-after : goal.returns-in-Ok-false-clause-after
returns-in-Ok-false-clause-after g c = λ first h.
    let on = c.loop-n.invariant.0 first h in
    let none = rw c.in-Ok-false.field-0-test at c.in-Ok-false.ensures.line in
    reported_after g.T.Report.tells g.T.Report.refusal g.T.Report.remark
    (SessionHolds g.S.Pages.PageSource.honest g.S.Pages.PageSource.gives (HonestOn none_trusted g.S.TableStore.honest) g.S.TableStore.files
    g.S.TableStore.headers g.S.TableStore.faults c.loop-n.session.document c.loop-n.session.tables c.loop-n.session.store.now)
    (g.R.Read.remaining c.args.script.now) (g.R.Read.remaining c.loop-n.script) (g.R.Read.remaining c.read.new.script)
    (g.W.Write.contents c.args.out.now) (g.W.Write.contents c.loop-n.out) first on.point c.read.new.self
    c.loop-n.n c.loop-n.refused on.reported none on.held

pub returns-in-Ok-None-clause-after : goal.returns-in-Ok-None-clause-after
returns-in-Ok-None-clause-after g c = λ first h.
    let on = c.loop-n.invariant.0 first h in
    let end = rw c.in-Ok-None.field-0-is at c.in-Ok-None.ensures.end in
    let now = g.R.Read.remaining c.loop-n.script in
    reported_after g.T.Report.tells g.T.Report.refusal g.T.Report.remark
    (SessionHolds g.S.Pages.PageSource.honest g.S.Pages.PageSource.gives (HonestOn none_trusted g.S.TableStore.honest) g.S.TableStore.files
    g.S.TableStore.headers g.S.TableStore.faults c.loop-n.session.document c.loop-n.session.tables c.loop-n.session.store.now)
    (g.R.Read.remaining c.args.script.now) now (g.R.Read.remaining c.read_byte.new.script)
    (g.W.Write.contents c.args.out.now) (g.W.Write.contents c.loop-n.out) first on.point [] c.loop-n.n c.loop-n.refused on.reported
    (has_none now (g.R.Read.remaining c.read_byte.new.script) end.0 end.1) on.held

pub returns-in-Ok-false-clause-listed : goal.returns-in-Ok-false-clause-listed
returns-in-Ok-false-clause-listed g c = λ first before h kept.
    let on = c.loop-n.invariant.0 first h in
    let none = rw c.in-Ok-false.field-0-test at c.in-Ok-false.ensures.line in
    listed-before g.T.Report.tells g.T.Report.refusal g.T.Report.remark (g.T.Report.lists c.args.report.now) (g.T.Report.lists c.loop-n.report) before kept
    (g.R.Read.remaining c.args.script.now) first (g.W.Write.contents c.args.out.now) (g.W.Write.contents c.loop-n.out)
    (reported_listed g.T.Report.tells g.T.Report.refusal g.T.Report.remark (λ more. (reported : List Entry)
    → g.T.Report.lists c.args.report.now reported → g.T.Report.lists c.loop-n.report (reported ++ more))
    (g.R.Read.remaining c.args.script.now) (g.R.Read.remaining c.loop-n.script) (g.R.Read.remaining c.read.new.script)
    (g.W.Write.contents c.args.out.now) (g.W.Write.contents c.loop-n.out) first on.point c.read.new.self
    c.loop-n.n c.loop-n.refused on.reported none)

pub returns-in-Ok-None-clause-listed : goal.returns-in-Ok-None-clause-listed
returns-in-Ok-None-clause-listed g c = λ first before h kept.
    let on = c.loop-n.invariant.0 first h in
    let end = rw c.in-Ok-None.field-0-is at c.in-Ok-None.ensures.end in
    let now = g.R.Read.remaining c.loop-n.script in
    listed-before g.T.Report.tells g.T.Report.refusal g.T.Report.remark (g.T.Report.lists c.args.report.now) (g.T.Report.lists c.loop-n.report) before kept
    (g.R.Read.remaining c.args.script.now) first (g.W.Write.contents c.args.out.now) (g.W.Write.contents c.loop-n.out)
    (reported_listed g.T.Report.tells g.T.Report.refusal g.T.Report.remark (λ more. (reported : List Entry)
    → g.T.Report.lists c.args.report.now reported → g.T.Report.lists c.loop-n.report (reported ++ more))
    (g.R.Read.remaining c.args.script.now) now (g.R.Read.remaining c.read_byte.new.script)
    (g.W.Write.contents c.args.out.now) (g.W.Write.contents c.loop-n.out) first on.point [] c.loop-n.n c.loop-n.refused on.reported
    (has_none now (g.R.Read.remaining c.read_byte.new.script) end.0 end.1))

pub returns-in-Err-Device-clause-outcome : goal.returns-in-Err-Device-clause-outcome
returns-in-Err-Device-clause-outcome g c = λ first h.
    let on = c.loop-n.invariant.0 first h in
    let script = g.R.Read.remaining c.args.script.now in
    let now = g.R.Read.remaining c.loop-n.script in
    let left = g.R.Read.remaining c.read.new.script in
    reported_read g.T.Report.tells g.T.Report.refusal g.T.Report.remark left script now (g.W.Write.contents c.args.out.now) (g.W.Write.contents c.loop-n.out)
    first on.point c.loop-n.n c.loop-n.refused on.reported (omega arith)
    (gave-same script now left c.loop-n.n c.loop-n.invariant.3 (c.in-Err-Device.ensures.no_feed cc)) (c.in-Err-Device.ensures.no_feed cc)

pub returns-in-Ok-None-clause-outcome : goal.returns-in-Ok-None-clause-outcome
returns-in-Ok-None-clause-outcome g c = λ first h.
    let on = c.loop-n.invariant.0 first h in
    let end = rw c.in-Ok-None.field-0-is at c.in-Ok-None.ensures.end in
    let script = g.R.Read.remaining c.args.script.now in
    let now = g.R.Read.remaining c.loop-n.script in
    let old = g.W.Write.contents c.args.out.now in
    let new = g.W.Write.contents c.loop-n.out in
    let at : c.loop-n.n ≡ 100000 = omega arith in
    let reported = subst (λ k. HasReported g.T.Report.tells g.T.Report.refusal g.T.Report.remark (λ more. (before : List Entry)
    → g.T.Report.lists c.args.report.now before → g.T.Report.lists c.loop-n.report (before ++ more))
    script now old new first on.point k c.loop-n.refused) at on.reported in
    reported_ends g.T.Report.tells g.T.Report.refusal g.T.Report.remark (g.R.Read.remaining c.read_byte.new.script) script now
    (g.R.Read.remaining c.read_byte.new.script) old new first on.point [] 100000 c.loop-n.refused reported
    (has_none now (g.R.Read.remaining c.read_byte.new.script) end.0 end.1) (omega arith)

pub returns-in-Ok-Some-clause-outcome : goal.returns-in-Ok-Some-clause-outcome
returns-in-Ok-Some-clause-outcome g c = λ first h.
    let on = c.loop-n.invariant.0 first h in
    let some = rw c.in-Ok-Some.field-0-is at c.in-Ok-Some.ensures.some in
    let script = g.R.Read.remaining c.args.script.now in
    let now = g.R.Read.remaining c.loop-n.script in
    let old = g.W.Write.contents c.args.out.now in
    let new = g.W.Write.contents c.loop-n.out in
    let at : c.loop-n.n ≡ 100000 = omega arith in
    let reported = subst (λ k. HasReported g.T.Report.tells g.T.Report.refusal g.T.Report.remark (λ more. (before : List Entry)
    → g.T.Report.lists c.args.report.now before → g.T.Report.lists c.loop-n.report (before ++ more))
    script now old new first on.point k c.loop-n.refused) at on.reported in
    reported_many g.T.Report.tells g.T.Report.refusal g.T.Report.remark (g.R.Read.remaining c.read_byte.new.script) script now old new first on.point
    c.loop-n.refused reported (has_more now (g.R.Read.remaining c.read_byte.new.script) c.in-Ok-Some.field-0-0 some)

pub returns-in-Err-read_byte-clause-outcome : goal.returns-in-Err-read_byte-clause-outcome
returns-in-Err-read_byte-clause-outcome g c = λ first h.
    let on = c.loop-n.invariant.0 first h in
    let script = g.R.Read.remaining c.args.script.now in
    let now = g.R.Read.remaining c.loop-n.script in
    let left = g.R.Read.remaining c.read_byte.new.script in
    let kept : GaveFeeds now left 0 = ([], Consumes-kept now now left [] (Consumes-nil now) c.in-Err-read_byte.ensures.err, omega arith) in
    reported_read g.T.Report.tells g.T.Report.refusal g.T.Report.remark left script now (g.W.Write.contents c.args.out.now) (g.W.Write.contents c.loop-n.out)
    first on.point c.loop-n.n c.loop-n.refused on.reported (omega arith) (gave-same script now left c.loop-n.n c.loop-n.invariant.3 kept) kept

pub returns-in-Err-clause-outcome : goal.returns-in-Err-clause-outcome
returns-in-Err-clause-outcome g c = λ first h.
    let on = c.loop-n.invariant.0 first h in
    let some = rw c.in-Ok-true.field-0-test at c.in-Ok-true.ensures.line in
    let stop : Stops (IsAdded g.T.Report.tells g.T.Report.refusal g.T.Report.remark on.point c.read.new.self) (g.W.Write.contents c.loop-n.out)
    (g.W.Write.contents c.add_line.new.out) c.in-Err.fault =
    rw c.as_slice.ensures at (c.in-Err.ensures.err on.point on.held (omega (arith, on.lines_are), on.entries_are, on.unread_is)) in
    (reported_stops g.T.Report.tells g.T.Report.refusal g.T.Report.remark (g.R.Read.remaining c.args.script.now) (g.R.Read.remaining c.loop-n.script)
    (g.R.Read.remaining c.read.new.script) (g.W.Write.contents c.args.out.now) (g.W.Write.contents c.loop-n.out) (g.W.Write.contents c.add_line.new.out)
    first on.point c.read.new.self c.loop-n.n c.loop-n.refused c.in-Err.fault on.reported some c.in-Ok-true.ensures.short c.loop-n-test.true
    (gave-more (g.R.Read.remaining c.args.script.now) (g.R.Read.remaining c.loop-n.script)
    (g.R.Read.remaining c.read.new.script) c.loop-n.n 1 c.loop-n.invariant.3 c.in-Ok-true.ensures.one_feed) stop)

pub returns-in-Err-clause-shape : goal.returns-in-Err-clause-shape
returns-in-Err-clause-shape g c =
    let some = rw c.in-Ok-true.field-0-test at c.in-Ok-true.ensures.line in
    (gone_stops (g.R.Read.remaining c.args.script.now) (g.R.Read.remaining c.loop-n.script)
    (g.R.Read.remaining c.read.new.script) c.read.new.self c.loop-n.n c.in-Err.fault c.in-Err.ensures.stops c.loop-n.invariant.4 some
    c.in-Ok-true.ensures.short c.loop-n-test.true)

pub returns-in-Err-Device-clause-shape : goal.returns-in-Err-Device-clause-shape
returns-in-Err-Device-clause-shape g c =
    gone_read (g.R.Read.remaining c.read.new.script) (g.R.Read.remaining c.args.script.now)
    (g.R.Read.remaining c.loop-n.script) c.loop-n.n c.loop-n.invariant.4 (omega arith)
    (gave-same (g.R.Read.remaining c.args.script.now) (g.R.Read.remaining c.loop-n.script) (g.R.Read.remaining c.read.new.script)
    c.loop-n.n c.loop-n.invariant.3 (c.in-Err-Device.ensures.no_feed cc))

pub returns-in-Err-TooLong-clause-shape : goal.returns-in-Err-TooLong-clause-shape
returns-in-Err-TooLong-clause-shape g c =
    gone_long (g.R.Read.remaining c.read.new.script) (g.R.Read.remaining c.args.script.now)
    (g.R.Read.remaining c.loop-n.script) c.loop-n.n c.loop-n.invariant.4 (c.in-Err-TooLong.ensures.long cc) c.loop-n-test.true

pub returns-in-Ok-false-clause-shape : goal.returns-in-Ok-false-clause-shape
returns-in-Ok-false-clause-shape g c =
    let none = rw c.in-Ok-false.field-0-test at c.in-Ok-false.ensures.line in
    gone_ends (g.R.Read.remaining c.read.new.script) (g.R.Read.remaining c.args.script.now)
    (g.R.Read.remaining c.loop-n.script) (g.R.Read.remaining c.read.new.script) c.read.new.self c.loop-n.n
    c.loop-n.refused c.loop-n.invariant.4 none (omega arith) (omega arith)

pub returns-in-Ok-None-clause-shape : goal.returns-in-Ok-None-clause-shape
returns-in-Ok-None-clause-shape g c =
    let end = rw c.in-Ok-None.field-0-is at c.in-Ok-None.ensures.end in
    let script = g.R.Read.remaining c.args.script.now in
    let now = g.R.Read.remaining c.loop-n.script in
    let at : c.loop-n.n ≡ 100000 = omega arith in
    let gone = subst (λ k. Gone script now k) at c.loop-n.invariant.4 in
    gone_ends (g.R.Read.remaining c.read_byte.new.script) script now (g.R.Read.remaining c.read_byte.new.script)
    [] 100000 c.loop-n.refused gone (has_none now (g.R.Read.remaining c.read_byte.new.script) end.0 end.1)
    (omega arith) (omega arith)

pub returns-in-Ok-Some-clause-shape : goal.returns-in-Ok-Some-clause-shape
returns-in-Ok-Some-clause-shape g c =
    let some = rw c.in-Ok-Some.field-0-is at c.in-Ok-Some.ensures.some in
    let script = g.R.Read.remaining c.args.script.now in
    let now = g.R.Read.remaining c.loop-n.script in
    let at : c.loop-n.n ≡ 100000 = omega arith in
    let gone = subst (λ k. Gone script now k) at c.loop-n.invariant.4 in
    gone_many (g.R.Read.remaining c.read_byte.new.script) script now gone
    (has_more now (g.R.Read.remaining c.read_byte.new.script) c.in-Ok-Some.field-0-0 some)

pub loop-n-init : goal.loop-n-init
loop-n-init g c = (
  λ first h. record {
    point = start_point first;
    reported = none_reported g.T.Report.tells g.T.Report.refusal g.T.Report.remark (λ more. (reported : List Entry)
        → g.T.Report.lists c.args.report.now reported → g.T.Report.lists c.args.report.now (reported ++ more))
        (λ reported kept. subst (λ (l : List Entry). g.T.Report.lists c.args.report.now l) (sym (append-nil reported)) kept)
        (g.R.Read.remaining c.args.script.now) (g.W.Write.contents c.args.out.now) first;
    held = h;
    lines_are = refl;
    entries_are = refl;
    unread_is = c.none-unread.ensures;
  },
  omega arith,
  omega arith,
  ([], Consumes-nil (g.R.Read.remaining c.args.script.now), omega arith),
  gone_none (g.R.Read.remaining c.args.script.now),
  subst (λ (u : Unread). HasParts g.T.Report.form g.T.Report.refusal g.T.Report.remark (document_seen c.args.session.now.document)
      (document_seen c.args.session.now.document) (g.R.Read.remaining c.args.script.now) (g.R.Read.remaining c.args.script.now)
      (g.W.Write.contents c.args.out.now) (g.W.Write.contents c.args.out.now) 0 0 0 u) (sym c.none-unread.ensures)
      (parts_none g.T.Report.form g.T.Report.refusal g.T.Report.remark (document_seen c.args.session.now.document) (g.R.Read.remaining c.args.script.now)
      (g.W.Write.contents c.args.out.now)),
)

pub loop-n-preserved : goal.loop-n-preserved
loop-n-preserved g c =
    let line = c.read.new.self in
    let mid = g.W.Write.contents c.loop-n.out in
    let new = g.W.Write.contents c.add_line.new.out in
    let some = rw c.in-Ok-true.field-0-test at c.in-Ok-true.ensures.line in
    let reported = c.in-Ok.reported in
    let few = few-reported reported in
    let some-more = few.0 in
    let one-more = few.1 in
    let counted = c.refusals-refused.ensures in
    let numbered = c.entries-entries.ensures in (
      λ first h.
          let on = c.loop-n.invariant.0 first h in
          let said : Adds (IsAdded g.T.Report.tells g.T.Report.refusal g.T.Report.remark on.point line)
          (SessionHolds g.S.Pages.PageSource.honest g.S.Pages.PageSource.gives (HonestOn none_trusted g.S.TableStore.honest) g.S.TableStore.files
          g.S.TableStore.headers g.S.TableStore.faults c.add_line.new.session.document c.add_line.new.session.tables c.add_line.new.session.store.now)
          mid new reported =
          rw c.as_slice.ensures at (c.in-Ok.ensures.ok on.point on.held (omega (arith, on.lines_are), on.entries_are, on.unread_is)) in
          ReportedOn-more g.T.Report.tells g.T.Report.refusal g.T.Report.remark
          (SessionHolds g.S.Pages.PageSource.honest g.S.Pages.PageSource.gives (HonestOn none_trusted g.S.TableStore.honest) g.S.TableStore.files
          g.S.TableStore.headers g.S.TableStore.faults c.loop-n.session.document c.loop-n.session.tables c.loop-n.session.store.now)
          (SessionHolds g.S.Pages.PageSource.honest g.S.Pages.PageSource.gives (HonestOn none_trusted g.S.TableStore.honest) g.S.TableStore.files
          g.S.TableStore.headers g.S.TableStore.faults c.add_line.new.session.document c.add_line.new.session.tables c.add_line.new.session.store.now)
          (λ more. (reported : List Entry) → g.T.Report.lists c.args.report.now reported → g.T.Report.lists c.loop-n.report (reported ++ more))
          (λ more. (reported : List Entry) → g.T.Report.lists c.args.report.now reported → g.T.Report.lists c.add_line.new.report (reported ++ more))
          (document_seen c.add_line.new.session.document)
          (g.R.Read.remaining c.args.script.now) (g.R.Read.remaining c.loop-n.script) (g.R.Read.remaining c.read.new.script)
          (g.W.Write.contents c.args.out.now) mid new first line c.loop-n.n c.loop-n.refused _ c.loop-n.entries _ c.loop-n.unread _ reported on some
          c.in-Ok-true.ensures.short said (ap (λ i. c.loop-n.refused + i) counted) (ap (λ i. c.loop-n.entries + i) numbered)
          (rw c.as_slice-in-Ok.ensures at c.unread_after-next.ensures)
          (λ s after. after.held.document)
          (λ more kept before have.
          subst (λ (l : List Entry). g.T.Report.lists c.add_line.new.report l)
          (append_assoc before more (listed_in line reported (document_seen c.add_line.new.session.document)
          (record { number = c.loop-n.entries + 1; origin = c.loop-n.unread.own })))
          (rw c.as_slice.ensures at (c.in-Ok.ensures.listed on.point (before ++ more) on.held (kept before have)))),
      omega (arith, counted, some-more),
      omega (arith, numbered, one-more),
      gave-more (g.R.Read.remaining c.args.script.now) (g.R.Read.remaining c.loop-n.script)
          (g.R.Read.remaining c.read.new.script) c.loop-n.n 1 c.loop-n.invariant.3 c.in-Ok-true.ensures.one_feed,
      gone_more (g.R.Read.remaining c.args.script.now) (g.R.Read.remaining c.loop-n.script)
          (g.R.Read.remaining c.read.new.script) line c.loop-n.n c.loop-n.invariant.4 some c.in-Ok-true.ensures.short,
      parts_more g.T.Report.form g.T.Report.refusal g.T.Report.remark (document_seen c.args.session.now.document)
          (document_seen c.loop-n.session.document) (document_seen c.add_line.new.session.document) (g.R.Read.remaining c.args.script.now)
          (g.R.Read.remaining c.loop-n.script)
          (g.R.Read.remaining c.read.new.script) (g.W.Write.contents c.args.out.now) mid new line c.loop-n.n (c.loop-n.n + 1)
          c.loop-n.refused _ c.loop-n.entries _ c.loop-n.unread _ reported c.loop-n.invariant.5 some refl
          (rw c.as_slice.ensures at c.in-Ok.ensures.written) (rw c.as_slice.ensures at c.in-Ok.ensures.document)
          (ap (λ i. c.loop-n.refused + i) counted) (ap (λ i. c.loop-n.entries + i) numbered)
          (rw c.as_slice-in-Ok.ensures at c.unread_after-next.ensures),
    )

-- ---- what is written, whatever the tables say

pub returns-in-Err-TooLong-clause-fits : goal.returns-in-Err-TooLong-clause-fits
returns-in-Err-TooLong-clause-fits g c =
    parts_long g.T.Report.form g.T.Report.refusal g.T.Report.remark (document_seen c.args.session.now.document)
    (document_seen c.loop-n.session.document) (g.R.Read.remaining c.read.new.script) (g.R.Read.remaining c.args.script.now)
    (g.R.Read.remaining c.loop-n.script) (g.W.Write.contents c.args.out.now) (g.W.Write.contents c.loop-n.out) c.loop-n.n c.loop-n.refused
    c.loop-n.entries c.loop-n.unread c.loop-n.invariant.5

pub returns-in-Ok-false-clause-fits : goal.returns-in-Ok-false-clause-fits
returns-in-Ok-false-clause-fits g c =
    let none = rw c.in-Ok-false.field-0-test at c.in-Ok-false.ensures.line in
    parts_end g.T.Report.form g.T.Report.refusal g.T.Report.remark (document_seen c.args.session.now.document)
    (document_seen c.loop-n.session.document) (g.R.Read.remaining c.read.new.script) (g.R.Read.remaining c.args.script.now)
    (g.R.Read.remaining c.loop-n.script) (g.R.Read.remaining c.read.new.script) (g.W.Write.contents c.args.out.now)
    (g.W.Write.contents c.loop-n.out) c.read.new.self c.loop-n.n c.loop-n.refused c.loop-n.entries c.loop-n.unread c.loop-n.invariant.5 none

pub returns-in-Err-clause-fits : goal.returns-in-Err-clause-fits
returns-in-Err-clause-fits g c =
    parts_stop g.T.Report.form g.T.Report.refusal g.T.Report.remark (document_seen c.args.session.now.document) (g.R.Read.remaining c.read.new.script)
    (g.W.Write.contents c.args.out.now)
    (g.W.Write.contents c.add_line.new.out) (g.R.Read.remaining c.args.script.now) c.in-Err.fault c.in-Err.ensures.stops

pub returns-in-Ok-None-clause-fits : goal.returns-in-Ok-None-clause-fits
returns-in-Ok-None-clause-fits g c =
    let end = rw c.in-Ok-None.field-0-is at c.in-Ok-None.ensures.end in
    let script = g.R.Read.remaining c.args.script.now in
    let now = g.R.Read.remaining c.loop-n.script in
    let old = g.W.Write.contents c.args.out.now in
    let new = g.W.Write.contents c.loop-n.out in
    let at : c.loop-n.n ≡ 100000 = omega arith in
    let parts = subst (λ k. HasParts g.T.Report.form g.T.Report.refusal g.T.Report.remark (document_seen c.args.session.now.document)
    (document_seen c.loop-n.session.document) script now old new k c.loop-n.refused c.loop-n.entries c.loop-n.unread) at
    c.loop-n.invariant.5 in
    parts_end g.T.Report.form g.T.Report.refusal g.T.Report.remark (document_seen c.args.session.now.document)
    (document_seen c.loop-n.session.document) (g.R.Read.remaining c.read_byte.new.script) script now (g.R.Read.remaining
    c.read_byte.new.script)
    old new [] 100000 c.loop-n.refused c.loop-n.entries c.loop-n.unread parts (has_none now (g.R.Read.remaining c.read_byte.new.script) end.0 end.1)

pub returns-in-Ok-Some-clause-fits : goal.returns-in-Ok-Some-clause-fits
returns-in-Ok-Some-clause-fits g c =
    let script = g.R.Read.remaining c.args.script.now in
    let now = g.R.Read.remaining c.loop-n.script in
    let old = g.W.Write.contents c.args.out.now in
    let new = g.W.Write.contents c.loop-n.out in
    let at : c.loop-n.n ≡ 100000 = omega arith in
    let parts = subst (λ k. HasParts g.T.Report.form g.T.Report.refusal g.T.Report.remark (document_seen c.args.session.now.document)
    (document_seen c.loop-n.session.document) script now old new k c.loop-n.refused c.loop-n.entries c.loop-n.unread) at
    c.loop-n.invariant.5 in
    parts_many g.T.Report.form g.T.Report.refusal g.T.Report.remark (document_seen c.args.session.now.document)
    (document_seen c.loop-n.session.document) (g.R.Read.remaining c.read_byte.new.script) script now old new c.loop-n.refused
    c.loop-n.entries c.loop-n.unread parts

pub returns-in-Err-Device-clause-fits : goal.returns-in-Err-Device-clause-fits
returns-in-Err-Device-clause-fits g c =
    let script = g.R.Read.remaining c.args.script.now in
    let now = g.R.Read.remaining c.loop-n.script in
    let left = g.R.Read.remaining c.read.new.script in
    parts_read g.T.Report.form g.T.Report.refusal g.T.Report.remark (document_seen c.args.session.now.document)
    (document_seen c.loop-n.session.document) left script now (g.W.Write.contents c.args.out.now) (g.W.Write.contents c.loop-n.out)
    c.loop-n.n c.loop-n.refused c.loop-n.entries c.loop-n.unread c.loop-n.invariant.5
    (gave-same script now left c.loop-n.n c.loop-n.invariant.3 (c.in-Err-Device.ensures.no_feed cc))

pub returns-in-Err-read_byte-clause-fits : goal.returns-in-Err-read_byte-clause-fits
returns-in-Err-read_byte-clause-fits g c =
    let script = g.R.Read.remaining c.args.script.now in
    let now = g.R.Read.remaining c.loop-n.script in
    let left = g.R.Read.remaining c.read_byte.new.script in
    let kept : GaveFeeds now left 0 = ([], Consumes-kept now now left [] (Consumes-nil now) c.in-Err-read_byte.ensures.err, omega arith) in
    parts_read g.T.Report.form g.T.Report.refusal g.T.Report.remark (document_seen c.args.session.now.document)
    (document_seen c.loop-n.session.document) left script now (g.W.Write.contents c.args.out.now) (g.W.Write.contents c.loop-n.out)
    c.loop-n.n c.loop-n.refused c.loop-n.entries c.loop-n.unread c.loop-n.invariant.5 (gave-same script now left c.loop-n.n c.loop-n.invariant.3 kept)

-- ---- the list of a run that stopped

pub returns-in-Err-TooLong-clause-listed_before : goal.returns-in-Err-TooLong-clause-listed_before
returns-in-Err-TooLong-clause-listed_before g c = λ first before h kept.
    let on = c.loop-n.invariant.0 first h in
    reported_before g.T.Report.tells g.T.Report.refusal g.T.Report.remark (λ more. g.T.Report.lists c.loop-n.report (before ++ more)) (g.R.Read.remaining
    c.args.script.now)
    (g.R.Read.remaining c.loop-n.script) (g.W.Write.contents c.args.out.now) (g.W.Write.contents c.loop-n.out) first on.point
    c.loop-n.n c.loop-n.refused (LineTooLong (c.loop-n.n + 1)) on.reported (λ more l. l before kept) (λ p all added w. (refl, w))

pub returns-in-Ok-Some-clause-listed_before : goal.returns-in-Ok-Some-clause-listed_before
returns-in-Ok-Some-clause-listed_before g c = λ first before h kept.
    let on = c.loop-n.invariant.0 first h in
    let at : c.loop-n.n ≡ 100000 = omega arith in
    reported_before g.T.Report.tells g.T.Report.refusal g.T.Report.remark (λ more. g.T.Report.lists c.loop-n.report (before ++ more)) (g.R.Read.remaining
    c.args.script.now)
    (g.R.Read.remaining c.loop-n.script) (g.W.Write.contents c.args.out.now) (g.W.Write.contents c.loop-n.out) first on.point
    c.loop-n.n c.loop-n.refused TooManyLines on.reported (λ more l. l before kept) (λ p all added w. (at, w))

pub returns-in-Err-Device-clause-listed_before : goal.returns-in-Err-Device-clause-listed_before
returns-in-Err-Device-clause-listed_before g c = λ first before h kept.
    let on = c.loop-n.invariant.0 first h in
    reported_before g.T.Report.tells g.T.Report.refusal g.T.Report.remark (λ more. g.T.Report.lists c.loop-n.report (before ++ more)) (g.R.Read.remaining
    c.args.script.now)
    (g.R.Read.remaining c.loop-n.script) (g.W.Write.contents c.args.out.now) (g.W.Write.contents c.loop-n.out) first on.point
    c.loop-n.n c.loop-n.refused ReadDevice on.reported (λ more l. l before kept) (λ p all added w. w)

pub returns-in-Err-read_byte-clause-listed_before : goal.returns-in-Err-read_byte-clause-listed_before
returns-in-Err-read_byte-clause-listed_before g c = λ first before h kept.
    let on = c.loop-n.invariant.0 first h in
    reported_before g.T.Report.tells g.T.Report.refusal g.T.Report.remark (λ more. g.T.Report.lists c.loop-n.report (before ++ more)) (g.R.Read.remaining
    c.args.script.now)
    (g.R.Read.remaining c.loop-n.script) (g.W.Write.contents c.args.out.now) (g.W.Write.contents c.loop-n.out) first on.point
    c.loop-n.n c.loop-n.refused ReadDevice on.reported (λ more l. l before kept) (λ p all added w. w)

pub returns-in-Err-clause-listed_before : goal.returns-in-Err-clause-listed_before
returns-in-Err-clause-listed_before g c = λ first before h kept.
    let on = c.loop-n.invariant.0 first h in
    let some = rw c.in-Ok-true.field-0-test at c.in-Ok-true.ensures.line in
    let stop : Stops (IsAdded g.T.Report.tells g.T.Report.refusal g.T.Report.remark on.point c.read.new.self) (g.W.Write.contents c.loop-n.out)
    (g.W.Write.contents c.add_line.new.out) c.in-Err.fault =
    rw c.as_slice.ensures at (c.in-Err.ensures.err on.point on.held (omega (arith, on.lines_are), on.entries_are, on.unread_is)) in
    reported_before_stop g.T.Report.tells g.T.Report.refusal g.T.Report.remark (λ more. g.T.Report.lists c.add_line.new.report (before ++ more))
    (g.R.Read.remaining c.args.script.now) (g.R.Read.remaining c.loop-n.script) (g.R.Read.remaining c.read.new.script)
    (g.W.Write.contents c.args.out.now) (g.W.Write.contents c.loop-n.out) (g.W.Write.contents c.add_line.new.out) first on.point c.read.new.self
    c.loop-n.n c.loop-n.refused c.in-Err.fault on.reported some (λ more l. c.in-Err.ensures.unlisted (before ++ more) (l before kept)) stop
