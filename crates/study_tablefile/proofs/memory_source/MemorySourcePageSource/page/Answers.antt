use Rattle.std.proofs.Common.{rules}
use Rattle.study_tablefile.proofs.ReadAgain.{page_given, page_answered}
use Rattle.study_tablefile.proofs.memory_source.MemorySourcePageSource.page.Goals as goal

pub returns-clause-ok : goal.returns-clause-ok
returns-clause-ok c t v e h = page_given t v _ _ c.args.n _ _ c.bytes.result e h c.bytes.ensures.ok (search rules) c.page_start.ensures

pub returns-clause-given : goal.returns-clause-given
returns-clause-given c = page_answered c.args.self.now.text.now c.page_start.result c.args.n c.bytes.new.into
    c.args.into.now c.args.self.now.fails_at c.bytes.result c.page_start.ensures (search rules) c.bytes.ensures.ok
    c.bytes.ensures.within
