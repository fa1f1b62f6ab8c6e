use Rattle.std.proofs.Common.{rules, inr}
use Rattle.study_tablefile.proofs.BytesGiven.{page_bad, page_good}
use Rattle.study_tablefile.proofs.StoppedAt.{damaged_at}
use Rattle.study_tablefile.proofs.reader.read_page.Goals as goal

pub returns-then-not-has_page_digest-clause-fault : goal.returns-then-not-has_page_digest-clause-fault
returns-then-not-has_page_digest-clause-fault g c bytes e =
    inr (page_bad _ _ c.args.fields.now c.read_exactly.new.buf bytes c.args.number c.has_page_digest.result c.read_exactly.ensures.len
    c.in_ok-read_exactly.ensures.ok e c.has_page_digest.ensures (search rules))

pub returns-clause-ok : goal.returns-clause-ok
returns-clause-ok g c bytes e =
    page_good _ _ c.args.fields.now c.read_exactly.new.buf bytes c.cells_of_page.result.now c.args.cells.now.items
    c.extend_from_slice.new.self.items c.args.number c.has_page_digest.result c.read_exactly.ensures.len c.in_ok-read_exactly.ensures.ok e
    c.has_page_digest.ensures (search rules) c.cells_of_page.ensures.value (search rules)

pub returns-then-not-has_page_digest-clause-stops : goal.returns-then-not-has_page_digest-clause-stops
returns-then-not-has_page_digest-clause-stops g c bytes pages e more =
    damaged_at _ _ c.read_exactly.new.buf bytes c.args.number pages c.read_exactly.ensures.len c.in_ok-read_exactly.ensures.ok e
