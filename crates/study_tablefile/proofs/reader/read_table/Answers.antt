use Rattle.std.proofs.Common.{rules, arith, [], take, refl, sym, ap, subst, inl, inr, ◌∙◌, Result}
use Rattle.std.proofs.lemmas.Result.{IfOk-weaker, IfErr-weaker}
use Rattle.study_material.specs.declared.class.Class.{Class}
use Rattle.study_values.specs.declared.fault.FileFault.{FileFault}
use Rattle.study_tablefile.specs.Reading.{version_of, class_read, pages_read, table_behind, pages_after, IsReportedAt}
use Rattle.study_values.proofs.ClassBounds.{pages_hold, pages_full}
use Rattle.study_values.specs.Size.{pages_of}
use Rattle.study_tablefile.proofs.TablesRead.{text_of_read}
use Rattle.study_tablefile.proofs.BytesGiven.{header_known, left_after, IfErr-given}
use Rattle.study_tablefile.proofs.reader.read_table.Goals as goal

pub returns-in_err-class-clause-fault : goal.returns-in_err-class-clause-fault
returns-in_err-class-clause-fault g c bytes e =
    let (rest, now, read, front) = header_known _ _ c.read_exactly.new.buf bytes c.read_exactly.ensures.len c.in_ok-read_exactly.ensures.ok e in
    IfErr-given c.from_residual-in_err-class.result c.in_err-class.field-0.0 _ (search rules)
    (inr
    (inr (read ∙ ap (λ r. table_behind (version_of c.read_exactly.new.buf) r rest) (sym c.in_err-class.ensures.read))))

pub returns-in-Err-clause-fault : goal.returns-in-Err-clause-fault
returns-in-Err-clause-fault g c bytes e =
    let (rest, now, read, front) = header_known _ _ c.read_exactly.new.buf bytes c.read_exactly.ensures.len c.in_ok-read_exactly.ensures.ok e in
    inr (inl (refl, (c.in_ok-class.class, ap class_read front ∙ sym c.in_ok-class.ensures.read)))

pub returns-in_err-read_pages-clause-fault : goal.returns-in_err-read_pages-clause-fault
returns-in_err-read_pages-clause-fault g c bytes e =
    let (rest, now, read, front) = header_known _ _ c.read_exactly.new.buf bytes c.read_exactly.ensures.len c.in_ok-read_exactly.ensures.ok e in
    IfErr-given c.from_residual-in_err-read_pages.result c.in_err-read_pages.field-0.0 _ (search rules) (elim (c.in_err-read_pages.ensures.fault rest now) [
      | inl device ↦ inl device
      | inr fault ↦ inr
          (inr (read ∙ ap (λ r. table_behind (version_of c.read_exactly.new.buf) r rest) (sym c.in_ok-class.ensures.read)
          ∙ ap (λ v. pages_read c.in_ok-class.class v 0 (pages_of c.in_ok-class.class) [] rest)
          (sym c.version_of-version.ensures) ∙ fault))
    ])

pub finish-requires-clause-enough : goal.finish-requires-clause-enough
finish-requires-clause-enough g c = omega (arith, c.in_ok-read_pages.ensures.len, pages_hold c.in_ok-class.class)

pub finish-requires-clause-full : goal.finish-requires-clause-full
finish-requires-clause-full g c = omega (arith, c.in_ok-read_pages.ensures.len, pages_full c.in_ok-class.class)

pub returns-clause-text : goal.returns-clause-text
returns-clause-text g c bytes e =
    let (rest, now, read, front) = header_known _ _ c.read_exactly.new.buf bytes c.read_exactly.ensures.len c.in_ok-read_exactly.ensures.ok e in
    let (last, after, all) = c.in_ok-read_pages.ensures.ok rest now in
    IfOk-weaker c.finish.result _ _
    (λ t h. text_of_read bytes t
    (read ∙ ap (λ r. table_behind (version_of c.read_exactly.new.buf) r rest) (sym c.in_ok-class.ensures.read)
    ∙ ap (λ v. pages_read c.in_ok-class.class v 0 (pages_of c.in_ok-class.class) [] rest)
    (sym c.version_of-version.ensures) ∙ all ∙ h)) (c.finish.ensures.ok last after)

pub returns-clause-ok : goal.returns-clause-ok
returns-clause-ok g c bytes e =
    let (rest, now, read, front) = header_known _ _ c.read_exactly.new.buf bytes c.read_exactly.ensures.len c.in_ok-read_exactly.ensures.ok e in
    let (last, after, all) = c.in_ok-read_pages.ensures.ok rest now in
    IfOk-weaker c.finish.result _ _ (λ t h. read ∙ ap (λ r. table_behind (version_of c.read_exactly.new.buf) r rest)
    (sym c.in_ok-class.ensures.read)
    ∙ ap (λ v. pages_read c.in_ok-class.class v 0 (pages_of c.in_ok-class.class) [] rest)
    (sym c.version_of-version.ensures) ∙ all ∙ h) (c.finish.ensures.ok last after)

pub returns-clause-fault : goal.returns-clause-fault
returns-clause-fault g c bytes e =
    let (rest, now, read, front) = header_known _ _ c.read_exactly.new.buf bytes c.read_exactly.ensures.len c.in_ok-read_exactly.ensures.ok e in
    let (last, after, all) = c.in_ok-read_pages.ensures.ok rest now in
    IfErr-weaker c.finish.result _ _ (λ f h. elim h [
      | inl device ↦ inl device
      | inr fault ↦ inr
          (inr (read ∙ ap (λ r. table_behind (version_of c.read_exactly.new.buf) r rest) (sym c.in_ok-class.ensures.read)
          ∙ ap (λ v. pages_read c.in_ok-class.class v 0 (pages_of c.in_ok-class.class) [] rest)
          (sym c.version_of-version.ensures) ∙ all ∙ fault))
    ]) (c.finish.ensures.fault last after)

pub returns-in_err-read_exactly-clause-stops : goal.returns-in_err-read_exactly-clause-stops
returns-in_err-read_exactly-clause-stops g c bytes e =
    IfErr-given c.from_residual.result c.in_err-read_exactly.field-0.0 _ (search rules)
    (c.in_err-read_exactly.ensures.stops bytes 0 (pages_after (class_read (take 64 bytes))) e (omega arith))

pub returns-in_err-class-clause-stops : goal.returns-in_err-class-clause-stops
returns-in_err-class-clause-stops g c bytes e =
    let rest = left_after _ _ c.read_exactly.new.buf bytes 0 64 c.read_exactly.ensures.len c.in_ok-read_exactly.ensures.ok e in
    IfErr-given c.from_residual-in_err-class.result c.in_err-class.field-0.0 _ (search rules)
    (64, c.in_err-class.ensures.whole bytes (pages_after (class_read (take 64 bytes))), rest)

pub returns-in-Err-clause-stops : goal.returns-in-Err-clause-stops
returns-in-Err-clause-stops g c bytes e = (
  64,
  refl,
  left_after _ _ c.read_exactly.new.buf bytes 0 64 c.read_exactly.ensures.len
      c.in_ok-read_exactly.ensures.ok e,
)

pub returns-in_err-read_pages-clause-stops : goal.returns-in_err-read_pages-clause-stops
returns-in_err-read_pages-clause-stops g c bytes e =
    let rest = left_after _ _ c.read_exactly.new.buf bytes 0 64 c.read_exactly.ensures.len c.in_ok-read_exactly.ensures.ok e in
    let (last, now, read, front) = header_known _ _ c.read_exactly.new.buf bytes c.read_exactly.ensures.len c.in_ok-read_exactly.ensures.ok e in
    IfErr-given c.from_residual-in_err-read_pages.result c.in_err-read_pages.field-0.0 _ (search rules)
    (subst (λ (r : Result Class FileFault). IsReportedAt bytes (pages_after r) (g.R.Read.remaining c.read_pages.new.input) c.in_err-read_pages.field-0.0)
    (c.in_ok-class.ensures.read ∙ ap class_read (sym front)) (c.in_err-read_pages.ensures.stops bytes rest))

pub returns-clause-stops : goal.returns-clause-stops
returns-clause-stops g c bytes e =
    let rest = left_after _ _ c.read_exactly.new.buf bytes 0 64 c.read_exactly.ensures.len c.in_ok-read_exactly.ensures.ok e in
    let (last, now, read, front) = header_known _ _ c.read_exactly.new.buf bytes c.read_exactly.ensures.len c.in_ok-read_exactly.ensures.ok e in
    IfErr-weaker c.finish.result _ _
    (λ f h. subst (λ (r : Result Class FileFault). IsReportedAt bytes (pages_after r) (g.R.Read.remaining c.finish.new.input) f)
    (c.in_ok-class.ensures.read ∙ ap class_read (sym front)) h) (c.finish.ensures.stops bytes (c.in_ok-read_pages.ensures.ends bytes rest))
